-- That by places the table and the sheet say the same as by names.
-- Assumes nothing.
use Rattle.std.specs.Prelude.{Option, Some, None}
use Prim.Native.Nat.{ℕ, zero, suc, ◌+◌, ◌<◌, ◌≤◌}
use native.Mathlib.Omega.{arith}
use mathlib.Core.Path.{◌≡◌, refl, ap, sym, ◌∙◌}
use mathlib.Core.Bool.{Bool, true, false, cond, ◌||◌}
use mathlib.Core.List.{List, [], ◌∷◌, map, flat_map}
use lib.ListN.{length, drop, get_or, length-map}
use lib.Seq.{drop-drop, drop-cons}
use borrow.Author.Tests.{ne_eqb, lt-ltb}
use Rattle.layout.specs.Recording.{Tag, same, among, tag_names}
use Rattle.layout.specs.Reading.{Parsed, Reader, bad, good, onward}
use Rattle.rows.specs.Rows.{row_name}
use Rattle.names.specs.Names.{found_at, found, names}
use Rattle.rows.specs.declared.Row.{Row}
use Rattle.rows.specs.declared.Row.TheVariants as row
use Rattle.names.specs.declared.NameFound.{NameFound}
use Rattle.sheet.specs.Rows.{rows, row_with, tag_with_name, made, tag_holds, change_with_name, changes_at, pair, beside, tags_at, change_makes, tag_entry}
use Rattle.layout.specs.Saving.{Change, conflicts, absent, holds, look_up, new_entry, tag_with, kept_tags, new_tags, applied}
use Rattle.look.specs.Look.{differs, compared_by}
use Rattle.sheet.proofs.Values.{row-makes-none, row_read}
use Rattle.sheet.proofs.Rows.{rows_more, rows_none, no_rows, beside_none}
use lib.Dec.{eqb, ltb}
use Rattle.names.proofs.Finding.{same-sym}
use Rattle.pieces.specs.Added.{changed_entry, kept_by, new_by, added_by}
use Rattle.apply.specs.Applied.{kept_from, tags_by}
use Rattle.places.specs.Places.{place_found, tag_names_at, change_place, tag_place, named_in, Lists, Placed}
use Rattle.apply.specs.declared.Walk.{Walk}
use Rattle.places.proofs.Finding.{found-more, found_none, no_found, names_more, names-none, no_names, found-parts}

-- ── Rows found by their name ──

-- what is made of the row that was found
unfoldable pub found_in : {A B : Type 0} → (Parsed A → B) → Reader A → B → List ℕ → Option NameFound → B
found_in make p none s (Some f) = make (p (drop f.place s))
found_in make p none s None = none

-- a function of rows that goes by the first of a name goes by the row that is found
module _ {A B : Type 0} (k : Row) (make : List ℕ → List ℕ → A) (name : List ℕ) (G : List A → B) (hit : A → B) (none other : B) (nil : G [] ≡ none)
    (cons : (v t : List ℕ) (xs : List A) → G (make v t ∷ xs) ≡ cond (same name v) (hit (make v t)) (G xs)) where
  abbrev goes-by-found : ℕ → List ℕ → ℕ → ℕ → Type 0
  goes-by-found n s i at = G (rows n (row_with k make) (drop at s)) ≡ found_in (made hit other) (row_with k make) none s
      (found name n (row_name k) s i at)

  found-step : (n : ℕ) (s : List ℕ) (i at : ℕ) (p : Parsed (List ℕ)) → row_name k (drop at s) ≡ p → ((j q : ℕ) → goes-by-found n s j q)
      → goes-by-found (suc n) s i at
  unfolding found_in made row_with onward
  found-step n s i at (bad j) e ih = rw (rows_none n (row_with k make) (drop at s) (row-makes-none k make (drop at s) e), found_none name n (row_name k) s i at e) nil
  found-step n s i at (good v m) e ih =
      rw (
        rows_more n (row_with k make) (drop at s) (make v (drop (1 + length v) (drop at s))) m (rw e),
        found-more name n (row_name k) s i at v m e,
      ) (cons v _ _ ∙ pick (same name v))
    where
      pick : (b : Bool) → cond b (hit (make v (drop (1 + length v) (drop at s)))) (G (rows n (row_with k make) (drop m (drop at s)))) ≡ found_in
          (made hit other) (row_with k make) none s (cond b (found_at i at) (found name n (row_name k) s (i + 1) (at + m)))
      pick true = rw e
      pick false = rw (drop-drop m at s) (ih (i + 1) (at + m))

  pub by-found : (n : ℕ) (s : List ℕ) (i at : ℕ) → goes-by-found n s i at
  unfolding found_in
  by-found zero s i at = rw (no_rows (row_with k make) (drop at s), no_found name (row_name k) s i at) nil
  by-found (suc n) s i at = found-step n s i at (row_name k (drop at s)) refl (by-found n s)

-- ── By places as by names ──

-- the row that is found stands at its place, which is not 0
by_place : {A B : Type 0} (make : Parsed A → B) (r : Reader A) (none : B) (v : List ℕ) (n : ℕ) (p : Reader (List ℕ)) (s : List ℕ) (at : ℕ)
    → 0 < at → cond (eqb (place_found (found v n p s 0 at)) 0) none (make (r (drop (place_found (found v n p s 0 at)) s))) ≡ found_in make r none s
    (found v n p s 0 at)
unfolding found_in place_found
by_place {A} {B} make r none v n p s at z = go (found v n p s 0 at) refl
  where
    go : (f : Option NameFound) → found v n p s 0 at ≡ f → cond (eqb (place_found f) 0) none (make (r (drop (place_found f) s))) ≡ found_in make r none s f
    go (Some f) e = found-parts v n p s 0 at f.number f.place e (λ c a l t o. rw (ne_eqb f.place 0 (λ h. omega arith)))
    go None e = refl

-- what a table has under a name
look_up-found : (name s : List ℕ) (n i at : ℕ) → look_up name (tags_at s at n) ≡ found_in tag_holds (row_with row.Tag tag_with_name) absent s
    (found name n (row_name row.Tag) s i at)
unfolding look_up tag_with_name
look_up-found name s n i at = by-found row.Tag tag_with_name name (look_up name) (λ t. holds t.value) absent absent refl (λ v t xs. refl) n s i at

pub entry-by-place : (name table : List ℕ) (at n : ℕ) → 0 < at → tag_entry table (tag_place table at n name) ≡ look_up name (tags_at table at n)
unfolding tag_entry tag_place
entry-by-place name table at n z = by_place tag_holds (row_with row.Tag tag_with_name) absent name n (row_name row.Tag) table at z
    ∙ sym (look_up-found name table n 0 at)

-- what a sheet says of the name of a tag
new_entry-found : (s : List ℕ) (t : Tag) (k i at : ℕ) → new_entry (changes_at s at k) t ≡ found_in change_makes (row_with row.Change change_with_name)
    (holds t.value) s (found t.name k (row_name row.Change) s i at)
unfolding new_entry change_with_name
new_entry-found s t k i at =
    by-found row.Change change_with_name t.name (λ cs. new_entry cs t) (λ c. c.new) (holds t.value) absent refl
    (λ v u xs. rw (same-sym v t.name)) k s i at

-- whether a table has a name
among-found : (name s : List ℕ) (n i at : ℕ) → among name (tag_names (tags_at s at n)) ≡ found_in (made (λ t. true) true)
    (row_with row.Tag tag_with_name) false s (found name n (row_name row.Tag) s i at)
unfolding among tag_names tag_with_name
among-found name s n i at =
    by-found row.Tag tag_with_name name (λ ts. among name (tag_names ts)) (λ t. true) false true refl
    (λ v t xs. or-cond (same name v) (among name (tag_names xs))) n s i at
  where
    or-cond : (a b : Bool) → (a || b) ≡ cond a true b
    or-cond true b = refl
    or-cond false b = refl

made-true : (p : Parsed Tag) → made (λ t. true) true p ≡ true
unfolding made
made-true (bad j) = refl
made-true (good t n) = refl

kept-by-place : (sheet : List ℕ) (k : ℕ) (t : Tag) → kept_by sheet (pair (change_place sheet k t.name) t) ≡ tag_with t.name
    (new_entry (changes_at sheet 1 k) t)
unfolding kept_by changed_entry change_place
kept-by-place sheet k t =
    ap (λ e. tag_with t.name e) (by_place change_makes (row_with row.Change change_with_name) (holds t.value) t.name k
    (row_name row.Change) sheet 1 (omega arith) ∙ sym (new_entry-found sheet t k 0 1))

new-by-place : (table : List ℕ) (at n : ℕ) → 0 < at → (c : Change)
    → new_by (pair (tag_place table at n c.name) c) ≡ cond (among c.name (tag_names (tags_at table at n))) [] (tag_with c.name c.new)
unfolding new_by tag_place place_found found_in
new-by-place table at n z c = ap (λ b. cond b [] (tag_with c.name c.new))
    (go (found c.name n (row_name row.Tag) table 0 at) refl ∙ sym (among-found c.name table n 0 at))
  where
    go : (f : Option NameFound) → found c.name n (row_name row.Tag) table 0 at ≡ f
        → ltb 0 (place_found f) ≡ found_in (made (λ t. true) true) (row_with row.Tag tag_with_name) false table f
    go (Some f) e = found-parts c.name n (row_name row.Tag) table 0 at f.number f.place e
        (λ b a l t o. rw (lt-ltb 0 f.place (omega arith)) (sym (made-true (row_with row.Tag tag_with_name (drop f.place table)))))
    go None e = refl

-- the places behind the first are those of the names behind it
pub lists-next : (place : List ℕ → ℕ) (ps : List ℕ) (i : ℕ) (v : List ℕ) (ns : List (List ℕ)) → Lists place ps i (v ∷ ns) → Lists place ps (i + 1) ns
lists-next place ps i v ns l =
    let h = l.room in
    record { room = omega arith; known = λ c b. let a : i + 1 + c ≡ i + suc c = omega arith in rw a (l.known (suc c) (omega arith)) }

-- rows with the places of their names beside each
module _ {A : Type 0} (k : Row) (make : List ℕ → List ℕ → A) (name : A → List ℕ) (named : (v t : List ℕ) → name (make v t) ≡ v) (place : List ℕ
    → ℕ) (ps : List ℕ) where
  beside-known : (n : ℕ) (t : List ℕ) (i : ℕ) → Lists place ps i (names n (row_name k) t)
      → beside (drop i ps) (rows n (row_with k make) t) ≡ map (λ x. pair (place (name x)) x) (rows n (row_with k make) t)
  unfolding beside
  beside-known zero t i l = rw (no_rows (row_with k make) t) (beside_none (drop i ps))
  beside-known (suc n) t i l = go (row_name k t) refl (beside-known n)
    where
      go : (r : Parsed (List ℕ)) → row_name k t ≡ r → ((t : List ℕ) (i : ℕ) → Lists place ps i (names n (row_name k) t)
          → beside (drop i ps) (rows n (row_with k make) t) ≡ map (λ x. pair (place (name x)) x) (rows n (row_with k make) t))
          → beside (drop i ps) (rows (suc n) (row_with k make) t) ≡ map (λ x. pair (place (name x)) x) (rows (suc n) (row_with k make) t)
      go (bad j) e ih = rw (rows_none n (row_with k make) t (row-makes-none k make t e)) (beside_none (drop i ps))
      go (good v m) e ih =
          let g : Lists place ps i (v ∷ names n (row_name k) (drop m t)) = rw (names_more n (row_name k) t v m e) at l in
          let h = g.room in
          let o : i + 0 ≡ i = omega arith in
          let q : i + 1 ≡ suc i = omega arith in
          let x : get_or ps i 0 ≡ place v = rw o at (g.known 0 (omega arith)) in
          let y : beside (drop (suc i) ps) (rows n (row_with k make) (drop m t)) ≡ map (λ x. pair (place (name x)) x)
          (rows n (row_with k make) (drop m t)) = rw q at (ih (drop m t) (i + 1) (lists-next place ps i v _ g)) in
          rw (
            rows_more n (row_with k make) t (make v (drop (1 + length v) t)) m (row_read k make t v m e),
            drop-cons ps i 0 (omega arith),
            x,
            y,
            named v (drop (1 + length v) t),
          )

-- the places that were made of names are theirs
mapped_at : (place : List ℕ → ℕ) (ns : List (List ℕ)) (c : ℕ) → c < length ns → get_or (map place ns) c 0 ≡ place (get_or ns c [])
mapped_at place [] c h = absurd (omega arith)
mapped_at place (n ∷ ns) zero h = refl
mapped_at place (n ∷ ns) (suc c) h = mapped_at place ns c (omega arith)

mapped-lists : (place : List ℕ → ℕ) (ns : List (List ℕ)) → Lists place (map place ns) 0 ns
mapped-lists place ns =
    let l = length-map ns place in
    record { room = omega arith; known = λ c h. let a : 0 + c ≡ c = omega arith in rw a (mapped_at place ns c h) }

-- the whole rows are all
rows_whole : {A : Type 0} (k : Row) (make : List ℕ → List ℕ → A) (n : ℕ) (t : List ℕ)
    → rows (length (names n (row_name k) t)) (row_with k make) t ≡ rows n (row_with k make) t
rows_whole k make zero t = rw (no_names (row_name k) t)
rows_whole {A} k make (suc n) t = go (row_name k t) refl (rows_whole k make n)
  where
    go : (r : Parsed (List ℕ)) → row_name k t ≡ r
        → ((t : List ℕ) → rows (length (names n (row_name k) t)) (row_with k make) t ≡ rows n (row_with k make) t)
        → rows (length (names (suc n) (row_name k) t)) (row_with k make) t ≡ rows (suc n) (row_with k make) t
    go (bad j) e ih = rw (names-none n (row_name k) t e) (no_rows (row_with k make) t ∙ sym (rows_none n (row_with k make) t (row-makes-none k make t e)))
    go (good v m) e ih =
        let x = row_read k make t v m e in
        rw (names_more n (row_name k) t v m e) (rows_more (length (names n (row_name k) (drop m t))) (row_with k make) t _ m x
        ∙ ap (λ (l : List A). make v (drop (1 + length v) t) ∷ l) (ih (drop m t)) ∙ sym (rows_more n (row_with k make) t _ m x))

kept_same : (sheet : List ℕ) (k : ℕ) (ts : List Tag) → flat_map (kept_by sheet) (map (λ t. pair (change_place sheet k t.name) t) ts) ≡ kept_tags
    (changes_at sheet 1 k) ts
unfolding flat_map kept_tags
kept_same sheet k [] = refl
kept_same sheet k (t ∷ ts) = rw (kept-by-place sheet k t, kept_same sheet k ts)

kept-all : (table : List ℕ) (at n : ℕ) (sheet : List ℕ) (k : ℕ) → kept_from table at n sheet k ≡ kept_tags (changes_at sheet 1 k) (tags_at table at n)
unfolding kept_from added_by named_in tag_with_name
kept-all table at n sheet k =
    rw (length-map (tag_names_at table at n) (change_place sheet k), rows_whole row.Tag tag_with_name n (drop at table))
    (ap (flat_map (kept_by sheet)) (beside-known row.Tag tag_with_name (λ t. t.name) (λ v t. refl) (change_place sheet k) (named_in table at n sheet k) n
    (drop at table) 0 (mapped-lists (change_place sheet k) (tag_names_at table at n))) ∙ kept_same sheet k (tags_at table at n))

module _ (table : List ℕ) (at n : ℕ) (z : 0 < at) where
  new-same : (cs : List Change) → flat_map new_by (map (λ c. pair (tag_place table at n c.name) c) cs) ≡ new_tags (tags_at table at n) cs
  unfolding flat_map new_tags
  new-same [] = refl
  new-same (c ∷ cs) = rw (new-by-place table at n z c, new-same cs)

  conflicts-same : (cs : List Change) → compared_by table (map (λ c. pair (tag_place table at n c.name) c) cs) ≡ map (conflicts (tags_at table at n)) cs
  unfolding compared_by differs conflicts
  conflicts-same [] = refl
  conflicts-same (c ∷ cs) = rw (entry-by-place c.name table at n z, conflicts-same cs)

-- no more changes than are asked for
rows_few : {A : Type 0} (k : Row) (make : List ℕ → List ℕ → A) (n : ℕ) (t : List ℕ) → length (rows n (row_with k make) t) ≤ n
rows_few k make zero t = rw (no_rows (row_with k make) t) (omega arith)
rows_few k make (suc n) t = go (row_name k t) refl (rows_few k make n)
  where
    go : (r : Parsed (List ℕ)) → row_name k t ≡ r → ((t : List ℕ) → length (rows n (row_with k make) t) ≤ n)
        → length (rows (suc n) (row_with k make) t) ≤ suc n
    go (bad j) e ih = rw (rows_none n (row_with k make) t (row-makes-none k make t e)) (omega arith)
    go (good v m) e ih = rw (rows_more n (row_with k make) t _ m (row_read k make t v m e)) (omega (arith, ih (drop m t)))

pub changes-few : (sheet : List ℕ) (k : ℕ) → length (changes_at sheet 1 k) ≤ k
changes-few sheet k = rows_few row.Change change_with_name k (drop 1 sheet)

module _ (table : List ℕ) (at n : ℕ) (sheet : List ℕ) (k : ℕ) (ps : List ℕ) (w : Placed table at n sheet k ps) (m : length ps ≡ k) where
  placed-changes : beside ps (changes_at sheet 1 k) ≡ map (λ c. pair (tag_place table at n c.name) c) (changes_at sheet 1 k)
  unfolding change_with_name
  placed-changes = beside-known row.Change change_with_name (λ c. c.name) (λ v t. refl) (tag_place table at n) ps k (drop 1 sheet) 0 w.lists

  -- the new table by places is the new table
  pub tags-by : (walk : Walk) → walk.tags ≡ n → walk.changes ≡ k → tags_by table at walk sheet ps ≡ applied (changes_at sheet 1 k) (tags_at table at n)
  unfolding tags_by added_by applied
  tags-by walk a b = rw (a, b, kept-all table at n sheet k, m, placed-changes, new-same table at n w.behind (changes_at sheet 1 k))

  -- the changes that conflict by places are those that conflict
  pub conflicts-by : compared_by table (beside ps (changes_at sheet 1 (length ps))) ≡ map (conflicts (tags_at table at n)) (changes_at sheet 1 k)
  conflicts-by = rw (m, placed-changes) (conflicts-same table at n w.behind (changes_at sheet 1 k))
