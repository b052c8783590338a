-- Rows taken apart, and the values that stand in them.
-- Assumes nothing.
use Rattle.std.specs.Prelude.{Option, Some, None}
use Prim.Native.Nat.{ℕ, zero, suc, ◌+◌, ◌-◌, ◌^◌, ◌<◌, ◌≤◌}
use native.Mathlib.Omega.{arith}
use mathlib.Core.Path.{◌≡◌, refl, ap, sym, ◌∙◌}
use mathlib.Core.Bool.{Bool, true, false, cond}
use mathlib.Core.List.{List, [], ◌∷◌}
use lib.ListN.{length, take, drop, get_or}
use lib.Seq.{drop-drop}
use lib.Dec.{eqb}
use borrow.Author.Rules.{rules}
use borrow.Author.Tests.{ne_eqb}
use mir.Syntax.{w64}
use mir.Val.{Fits}
use Rattle.layout.specs.Recording.{short_string}
use Rattle.layout.specs.Reading.{Parsed, bad, good, onward, ◌then◌, give, number, string, value_or}
use Rattle.layout.specs.Saving.{absent}
use Rattle.strings.specs.Strings.{text_of}
use Rattle.parts.specs.Parts.{end_of}
use Rattle.rows.specs.Rows.{entry, rest, row_name, row_of}
use Rattle.rows.specs.declared.Row.{Row}
use Rattle.rows.specs.declared.Row.TheVariants as row
use Rattle.rows.specs.declared.RowPlace.{RowPlace}
use Rattle.strings.proofs.Laws.{string-parts, text_of-broken, part_length}
use Rattle.rows.proofs.Laws.{row-parts, row-broken}
use Rattle.parts.proofs.Taken.{then-parts, give-parts}
use Rattle.names.proofs.Laws.{row-name-place}
use Rattle.tables.proofs.Places.{number-parts, string-taken}
use Rattle.sheet.specs.Rows.{row_with, text_entry, text_in, entry_in, entry_behind, new_in, tag_with_name, made, tag_holds, tag_entry}
use Rattle.sheet.specs.Values.{value_at, text_value, entry_value, value_behind, new_value, value_of_row, row_value, held_value, value_in, Stands, Finds}
use Rattle.sheet.specs.declared.Value.{Value}

-- ── Short strings ──

-- a short string that was read stands where it was read
pub string-stands : {G : Type 0} (s : List ℕ) (at m : ℕ) (v : List ℕ) → string (drop at s) ≡ good v m
    → (m ≡ 1 + length v → at + m ≤ length s → v ≡ take (length v) (drop (at + 1) s) → G) → G
unfolding text_of
string-stands s at m v e w =
    let (l, o, p) = string-parts s at (length v) (ap text_of e) in
    w (cc) (let q : m ≡ 1 + length v = cc in omega arith) (cc)

text-there : (s : List ℕ) (at n : ℕ) (r : Option ℕ) → r ≡ text_of (string (drop at s)) → r ≡ Some n → Finds s (value_at at n) (text_in (drop at s))
unfolding value_in Stands text_in text_entry
text-there s at n r e f = let p = (string-parts s at n (sym e ∙ f)).2 in record { found = rw p; there = p }

text-not-there : (s : List ℕ) (at : ℕ) (r : Option ℕ) → r ≡ text_of (string (drop at s)) → r ≡ None → Finds s None (text_in (drop at s))
unfolding value_in Stands text_in text_entry
text-not-there s at r e f = record { found = rw (text_of-broken (string (drop at s)) (sym e ∙ f)).1; there = refl }

-- ── Entries ──

pub first_of : (s : List ℕ) (at : ℕ) → get_or (drop at s) 0 0 ≡ get_or s at 0
first_of [] zero = refl
first_of [] (suc at) = refl
first_of (x ∷ s) zero = refl
first_of (x ∷ s) (suc at) = first_of s at

pub none-past : (s : List ℕ) (at : ℕ) → length s ≤ at → get_or s at 0 ≡ 0
none-past [] at h = refl
none-past (x ∷ s) zero h = absurd (omega arith)
none-past (x ∷ s) (suc at) h = none-past s at (omega arith)

-- the answers of the functions
pub entry_past : (s : List ℕ) (at : ℕ) → length s ≤ at → None ≡ entry_value s at
unfolding entry_value
entry_past s at h = rw (none-past s at h)

pub entry-text-broken : (s : List ℕ) (at : ℕ) (r : Option ℕ) → get_or s at 0 ≡ 1 → r ≡ text_of (string (drop (at + 1) s)) → r ≡ None
    → None ≡ entry_value s at
unfolding entry_value text_value
entry-text-broken s at r k e f = rw (k, ← e, f)

pub entry-text : (s : List ℕ) (at n : ℕ) (r : Option ℕ) → get_or s at 0 ≡ 1 → r ≡ text_of (string (drop (at + 1) s)) → r ≡ Some n
    → value_at (at + 1) n ≡ entry_value s at
unfolding entry_value text_value
entry-text s at n r k e f = rw (k, ← e, f)

pub entry-none : (s : List ℕ) (at : ℕ) → (get_or s at 0 ≡ 1 → ⊥) → None ≡ entry_value s at
unfolding entry_value
entry-none s at k = rw (ne_eqb (get_or s at 0) 1 k)

pub new-broken : (s : List ℕ) (seen : ℕ) (r : Option ℕ) → r ≡ end_of seen (entry (drop seen s)) → r ≡ None → None ≡ new_value s seen
unfolding new_value value_behind
new-broken s seen r e f = rw (← e, f)

pub new-there : (s : List ℕ) (seen at : ℕ) (r : Option ℕ) (v : Option Value) → r ≡ end_of seen (entry (drop seen s)) → r ≡ Some at → v ≡ entry_value s at
    → v ≡ new_value s seen
unfolding new_value value_behind
new-there s seen at r v e f h = rw (← e, f) h

-- they name the string that the entry holds
text-finds : (s : List ℕ) (at : ℕ) (r : Option ℕ) → text_of (string (drop at s)) ≡ r → Finds s (text_value at r) (text_in (drop at s))
unfolding text_value
text-finds s at (Some n) e = text-there s at n (Some n) (sym e) refl
text-finds s at None e = text-not-there s at None (sym e) refl

pub entry-finds : (s : List ℕ) (at : ℕ) (v : Option Value) → v ≡ entry_value s at → Finds s v (entry_in (drop at s))
unfolding entry_value entry_in value_in Stands
entry-finds s at v e = rw (e, first_of s at, drop-drop 1 at s) (go (eqb (get_or s at 0) 1))
  where
    go : (b : Bool) → Finds s (cond b (text_value (at + 1) (text_of (string (drop (at + 1) s)))) None)
        (cond b (text_in (drop (at + 1) s)) absent)
    go true = text-finds s (at + 1) (text_of (string (drop (at + 1) s))) refl
    go false = record { found = refl; there = refl }

pub new-finds : (s : List ℕ) (seen : ℕ) (v : Option Value) → v ≡ new_value s seen → Finds s v (new_in (drop seen s))
unfolding new_value value_behind new_in entry_behind end_of value_in Stands
new-finds s seen v e = rw e (go (entry (drop seen s)))
  where
    go : (p : Parsed (List ℕ)) → Finds s (value_behind s (end_of seen p)) (entry_behind (drop seen s) p)
    go (bad m) = record { found = refl; there = refl }
    go (good x n) = rw (drop-drop n seen s) (entry-finds s (seen + n) (entry_value s (seen + n)) refl)

-- ── Rows taken apart ──

-- what follows the name of a row that is there
pub row-rest : {G : Type 0} (k : Row) (s : List ℕ) (at : ℕ) (p : RowPlace) → row_of at (row_name k (drop at s)) ≡ Some p
    → ((r : List ℕ) (m : ℕ) → at + 1 + p.name ≤ length s → row_name k (drop at s) ≡ good (take p.name (drop (at + 1) s)) (1 + p.name + m)
    → rest k (drop (at + 1 + p.name) s) ≡ good r m → p.end ≡ at + 1 + p.name + m → G) → G
unfolding row_name short_string
row-rest k s at p e w =
    let (l, j, x, q) = row-parts k s at p.name p.end e in
    let o : length (take p.name (drop (at + 1) s)) ≡ p.name = part_length s at p.name l in
    then-parts string (λ name. rest k then λ r. give name) (drop at s) (take p.name (drop (at + 1) s)) j x (λ v n m f g h.
    give-parts (rest k) (λ r. v) (drop n (drop at s)) (take p.name (drop (at + 1) s)) m g (λ r i b.
    let a : n ≡ suc (length v) = string-taken (drop at s) v n f in
    let c : length v ≡ p.name = ap length (sym b) ∙ o in
    let d : at + n ≡ at + 1 + p.name = omega arith in
    let t : j ≡ 1 + p.name + m = omega arith in
    w r m l (x ∙ ap (good (take p.name (drop (at + 1) s))) t) (rw (← d, ← drop-drop n at s) i) (omega arith)))

-- the value that a row makes
pub row_makes : {A G : Type 0} (k : Row) (make : List ℕ → List ℕ → A) (s : List ℕ) (at : ℕ) (p : RowPlace)
    → row_of at (row_name k (drop at s)) ≡ Some p
    → ((m : ℕ) → row_with k make (drop at s) ≡ good (make (take p.name (drop (at + 1) s)) (drop (at + 1 + p.name) s)) m → p.end ≡ at + m → G) → G
unfolding row_with onward
row_makes k make s at p e w =
    row-rest k s at p e (λ r m l x q o.
    let a : at + (1 + p.name) ≡ at + 1 + p.name = omega arith in
    w (1 + p.name + m) (rw (x, part_length s at p.name l, drop-drop (1 + p.name) at s, a)) (omega arith))

pub row-makes-none : {A : Type 0} (k : Row) (make : List ℕ → List ℕ → A) (t : List ℕ) {m : ℕ} → row_name k t ≡ bad m → row_with k make t ≡ bad m
unfolding row_with onward
row-makes-none k make t e = rw e

pub row_read : {A : Type 0} (k : Row) (make : List ℕ → List ℕ → A) (t v : List ℕ) (m : ℕ) → row_name k t ≡ good v m
    → row_with k make t ≡ good (make v (drop (1 + length v) t)) m
unfolding row_with onward
row_read k make t v m e = rw e

-- ── A change that is there ──

-- an entry is all there
entry-there : (s : List ℕ) (at : ℕ) (x : List ℕ) (n : ℕ) → entry (drop at s) ≡ good x n → (1 ≤ n) × (at + n ≤ length s)
unfolding entry give
entry-there s at x n e =
    then-parts (number 1) (λ kind. cond (eqb kind 1) string (give [])) (drop at s) x n e (λ kind a b f g h.
    let (l, c, o) = number-parts 1 s at kind a (omega arith) (omega arith) f in
    let d : drop a (drop at s) ≡ drop (at + 1) s = drop-drop a at s ∙ ap (λ (i : ℕ). drop (at + i) s) o in
    let m : at + 1 + b ≤ length s = go (eqb kind 1) b x (at + 1) l (rw d at g) in
    (omega arith, omega arith))
  where
    go : (k : Bool) (b : ℕ) (x : List ℕ) (p : ℕ) → p ≤ length s → cond k string (give []) (drop p s) ≡ good x b → p + b ≤ length s
    go true b x p l e = string-stands s p b x e (λ i j k. j)
    go false b x p l e = let z : 0 ≡ b = cc in omega arith

-- the kind byte of what was seen stands behind the name, and that of what is new behind it
pub change-there : (s : List ℕ) (at : ℕ) (p : RowPlace) (r : Option RowPlace) → r ≡ row_of at (row_name row.Change (drop at s)) → r ≡ Some p
    → (at + 1 + p.name + 1 ≤ p.end) × (p.end ≤ length s)
unfolding rest
change-there s at p r e f =
    row-rest row.Change s at p (sym e ∙ f) (λ x m l i q o.
    then-parts entry (λ seen. entry) (drop (at + 1 + p.name) s) x m q (λ y a b g h n.
    let (c, d) = entry-there s (at + 1 + p.name) y a g in
    let (j, k) = entry-there s (at + 1 + p.name + a) x b (rw (drop-drop a (at + 1 + p.name) s) at h) in
    (omega arith, omega arith)))

-- ── The value of a tag ──

pub tag-row-broken : (s : List ℕ) (at : ℕ) (r : Option RowPlace) → r ≡ row_of at (row_name row.Tag (drop at s)) → r ≡ None
    → Finds s None (tag_holds (row_with row.Tag tag_with_name (drop at s)))
unfolding made value_in Stands
tag-row-broken s at r e f =
    record { found = rw (row-makes-none row.Tag tag_with_name (drop at s) (row-broken (row_name row.Tag (drop at s)) at (sym e ∙ f)).1); there = refl }

-- where the value of a tag stands
pub tag-row-parts : (s : List ℕ) (at : ℕ) (p : RowPlace) → row_of at (row_name row.Tag (drop at s)) ≡ Some p
    → (at + 1 + p.name + 1 ≤ p.end) × (p.end ≤ length s)
    × (string (drop (at + 1 + p.name) s) ≡ good (take (p.end - (at + 1 + p.name + 1)) (drop (at + 1 + p.name + 1) s)) (1 + (p.end - (at + 1 + p.name + 1))))
unfolding rest
tag-row-parts s at p e =
    row-rest row.Tag s at p e (λ v m l x q o.
    string-stands s (at + 1 + p.name) m v q (λ a b c.
    let d : p.end - (at + 1 + p.name + 1) ≡ length v = omega arith in
    (omega arith, omega arith, rw d (q ∙ ap (λ (z : ℕ). good v z) a ∙ ap (λ (z : List ℕ). good z (1 + length v)) c))))

module _ (s : List ℕ) (at : ℕ) (p : RowPlace) (r : Option RowPlace) (e : r ≡ row_of at (row_name row.Tag (drop at s))) (f : r ≡ Some p) where
  pub tag-row-value : Finds s (value_at (at + 1 + p.name) (p.end - (at + 1 + p.name + 1))) (tag_holds (row_with row.Tag tag_with_name (drop at s)))
  unfolding made tag_with_name value_in Stands value_or
  tag-row-value =
      let (a, b, c) = tag-row-parts s at p (sym e ∙ f) in
      row_makes row.Tag tag_with_name s at p (sym e ∙ f) (λ m x q. record { found = rw (x, c); there = c })

  pub tag-row-end : at + 1 + p.name + 1 ≤ p.end
  tag-row-end = (tag-row-parts s at p (sym e ∙ f)).0

-- what a tag holds is the value of its row
pub held-finds : (s : List ℕ) (tag : ℕ) (v : Option Value) → v ≡ held_value s tag → Finds s v (tag_entry s tag)
unfolding held_value row_value value_of_row tag_entry value_in Stands
held-finds s tag v e = rw e (go (eqb tag 0))
  where
    found : (r : Option RowPlace) → row_of tag (row_name row.Tag (drop tag s)) ≡ r → Finds s (value_of_row tag r) (tag_holds (row_with row.Tag tag_with_name (drop tag s)))
    found (Some p) h = tag-row-value s tag p (Some p) (sym h) refl
    found None h = tag-row-broken s tag None (sym h) refl

    go : (b : Bool) → Finds s (cond b None (value_of_row tag (row_of tag (row_name row.Tag (drop tag s)))))
        (cond b absent (tag_holds (row_with row.Tag tag_with_name (drop tag s))))
    go true = record { found = refl; there = refl }
    go false = found (row_of tag (row_name row.Tag (drop tag s))) refl

pub row-value-broken : (s : List ℕ) (at : ℕ) (r : Option RowPlace) → r ≡ row_of at (row_name row.Tag (drop at s)) → r ≡ None → None ≡ row_value s at
unfolding row_value value_of_row
row-value-broken s at r e f = rw (← e, f)

pub row-value-there : (s : List ℕ) (at : ℕ) (p : RowPlace) (r : Option RowPlace) → r ≡ row_of at (row_name row.Tag (drop at s)) → r ≡ Some p
    → value_at (at + 1 + p.name) (p.end - (at + 1 + p.name + 1)) ≡ row_value s at
unfolding row_value value_of_row
row-value-there s at p r e f = rw (← e, f)

pub held_none : (s : List ℕ) (tag : ℕ) → tag ≡ 0 → None ≡ held_value s tag
unfolding held_value
held_none s tag e = rw e

pub held-there : (s : List ℕ) (tag : ℕ) (v : Option Value) → (tag ≡ 0 → ⊥) → v ≡ row_value s tag → v ≡ held_value s tag
unfolding held_value
held-there s tag v h e = rw (ne_eqb tag 0 h) e

pub row-fits-2 : (k : Row) (s : List ℕ) (at : ℕ) (p : RowPlace) (r : Option RowPlace) → r ≡ row_of at (row_name k (drop at s)) → r ≡ Some p
    → length s < 2 ^ 64 → Fits w64 (at + 1 + p.name)
row-fits-2 k s at p r e f h = let l = (row-parts k s at p.name p.end (sym e ∙ f)).0 in record { fits = omega arith }

pub tag-fits-3 : (s : List ℕ) (at : ℕ) (p : RowPlace) (r : Option RowPlace) → r ≡ row_of at (row_name row.Tag (drop at s)) → r ≡ Some p
    → length s < 2 ^ 64 → Fits w64 (at + 1 + p.name + 1)
tag-fits-3 s at p r e f h = let (a, b, c) = tag-row-parts s at p (sym e ∙ f) in record { fits = omega arith }

pub ruleset laws = (
  rules,
  entry_past,
  entry-text-broken,
  entry-text,
  entry-none,
  new-broken,
  new-there,
  row-fits-2,
  tag-row-end,
  tag-fits-3,
  row-name-place,
  row-value-broken,
  row-value-there,
  held_none,
  held-there,
)
