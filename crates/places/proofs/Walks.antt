-- The walk of the table: the marks of the sheet's names, and what the walk lists.
-- Assumes nothing.
use Rattle.std.specs.Prelude.{Option, Some, None, is_some}
use Prim.Native.Nat.{ℕ, zero, suc, ◌+◌, ◌*◌, ◌-◌, ◌<◌, ◌≤◌}
use native.Mathlib.Omega.{arith}
use mathlib.Core.Path.{◌≡◌, refl, ap, sym, ◌∙◌}
use mathlib.Core.Bool.{Bool, true, false, cond}
use mathlib.Core.List.{List, [], ◌∷◌, ◌++◌}
use lib.ListN.{length, take, drop, get_or, set, replicate, length-set, length-append}
use lib.Seq.{set_out, get_or-set_same, get_or-set_other, sets, length-sets, sets-eq, take-append_seam}
use lib.Dec.{eqb}
use borrow.Author.Rules.{rules}
use borrow.Author.Tests.{ne_eqb, lt-ltb, le-ltb}
use Rattle.number.proofs.Bytes.{and-true}
use Rattle.marks.specs.Marks.{mark_for, with_mark, is_marked}
use Rattle.marks.proofs.Laws.{mark-told, mark-stays}
use Rattle.layout.specs.Recording.{same}
use Rattle.layout.specs.Reading.{Parsed, bad, good}
use Rattle.layout.specs.Saving.{most_changes}
use Rattle.layout.proofs.Outputs.{sets-append}
use Rattle.rows.specs.Rows.{row_name, row_of}
use Rattle.names.specs.Names.{found_at, found, distinct_names, covers}
use Rattle.rows.specs.declared.Row.TheVariants as row
use Rattle.rows.specs.declared.RowPlace.{RowPlace}
use Rattle.names.specs.declared.NameFound.{NameFound}
use Rattle.rows.proofs.Laws.{row-parts, row-broken}
use Rattle.names.proofs.Laws.{find-there, row-name-there, row-name-place}
use Rattle.names.proofs.Laws as Names
use Rattle.names.proofs.Marked.{unmarked}
use Rattle.names.proofs.Finding.{same-sym}
use Rattle.places.specs.Places.{place_found, change_names_at, change_found, tag_place, Placed, all_marked, words_for, ahead, listed_by, listed_in, left_after, listed_to, noted, walked_to, Placing, placing, placed_for, placed_by}
use Rattle.places.proofs.Finding.{found-more, found_none, no_found, names-few, false-true, found-parts, found-only, names-whole, found-whole}
use Rattle.places.proofs.Listed.{list-more, list-few, after-words}
use Rattle.places.proofs.Listed as Listed

-- ── The walk of the table ──

-- a number, or another where it is 0
abbrev or_else : ℕ → ℕ → ℕ
or_else x y = cond (eqb x 0) y x

or-none : (x : ℕ) → or_else x 0 ≡ x
or-none zero = refl
or-none (suc x) = rw (ne_eqb (suc x) 0 (λ e. omega arith))

or_some : (x y : ℕ) → or_else (suc x) y ≡ suc x
or_some x y = rw (ne_eqb (suc x) 0 (λ e. omega arith))

noted-length : (ps : List ℕ) (f : Option NameFound) (tag : ℕ) → length (noted ps f tag) ≡ length ps
unfolding noted
noted-length ps None tag = refl
noted-length ps (Some f) tag = go (eqb (get_or ps f.number 0) 0)
  where
    go : (b : Bool) → length (cond b (set ps f.number tag) ps) ≡ length ps
    go true = length-set ps f.number tag
    go false = refl

-- the places of all tags, each stored for its change
unfoldable walked : (change : List ℕ → Option NameFound) → ℕ → (table : List ℕ) → (at : ℕ) → (ps : List ℕ) → List ℕ
walked change zero t at ps = ps
walked change (suc n) t at ps =
    elim (row_name row.Tag (drop at t)) [ bad j ↦ ps | good name m ↦ walked change n t (at + m) (noted ps (change name) at) ]

walked_more : (change : List ℕ → Option NameFound) (n : ℕ) (t : List ℕ) (at : ℕ) (ps v : List ℕ) (m : ℕ) → row_name row.Tag (drop at t) ≡ good v m
    → walked change (suc n) t at ps ≡ walked change n t (at + m) (noted ps (change v) at)
unfolding walked
walked_more change n t at ps v m e = rw (e, walked)

walked_none : (change : List ℕ → Option NameFound) (n : ℕ) (t : List ℕ) (at : ℕ) (ps : List ℕ) {j : ℕ} → row_name row.Tag (drop at t) ≡ bad j
    → walked change (suc n) t at ps ≡ ps
unfolding walked
walked_none change n t at ps e = rw (e, walked)

not-walked : (change : List ℕ → Option NameFound) (t : List ℕ) (at : ℕ) (ps : List ℕ) → walked change 0 t at ps ≡ ps
unfolding walked
not-walked change t at ps = refl

walked-length : (change : List ℕ → Option NameFound) (n : ℕ) (t : List ℕ) (at : ℕ) (ps : List ℕ) → length (walked change n t at ps) ≡ length ps
walked-length change zero t at ps = ap length (not-walked change t at ps)
walked-length change (suc n) t at ps = go (row_name row.Tag (drop at t)) refl (walked-length change n t)
  where
    go : (r : Parsed (List ℕ)) → row_name row.Tag (drop at t) ≡ r → ((at : ℕ) (ps : List ℕ) → length (walked change n t at ps) ≡ length ps)
        → length (walked change (suc n) t at ps) ≡ length ps
    go (bad j) e ih = ap length (walked_none change n t at ps e)
    go (good v m) e ih = ap length (walked_more change n t at ps v m e) ∙ ih (at + m) (noted ps (change v) at) ∙ noted-length ps (change v) at

-- change number c is found for the tags of its name, and for no other
module _ (change : List ℕ → Option NameFound) (name : List ℕ) (c : ℕ) (hit : (v : List ℕ) → same name v ≡ true → (q : ℕ) × (change v ≡ found_at c q))
    (miss : (v : List ℕ) (q : ℕ) → same name v ≡ false → change v ≡ found_at c q → ⊥) where
  noted-at : (ps v : List ℕ) (tag : ℕ) → c < length ps → get_or (noted ps (change v) tag) c 0 ≡ or_else (get_or ps c 0) (cond (same name v) tag 0)
  unfolding noted
  noted-at ps v tag l = go (same name v) refl
    where
      own : (b : Bool) → get_or (cond b (set ps c tag) ps) c 0 ≡ cond b tag (get_or ps c 0)
      own true = get_or-set_same ps c tag 0 l
      own false = refl

      others : (i : ℕ) (b : Bool) → (c ≡ i → ⊥) → get_or (cond b (set ps i tag) ps) c 0 ≡ get_or ps c 0
      others i true h = get_or-set_other ps i c tag 0 h
      others i false h = refl

      other : (f : Option NameFound) → change v ≡ f → same name v ≡ false → get_or (noted ps f tag) c 0 ≡ get_or ps c 0
      other None e h = refl
      other (Some g) e h = others g.number (eqb (get_or ps g.number 0) 0) (λ z. miss v g.place h (e ∙ ap (λ (k : ℕ). found_at k g.place) (sym z)))

      go : (b : Bool) → same name v ≡ b → get_or (noted ps (change v) tag) c 0 ≡ or_else (get_or ps c 0) (cond b tag 0)
      go true h = let (q, e) = hit v h in rw e (own (eqb (get_or ps c 0) 0))
      go false h = other (change v) refl h ∙ sym (or-none (get_or ps c 0))

  -- the first tag of the name, unless one is there already
  walked_at : (n : ℕ) (t : List ℕ) (i at : ℕ) (ps : List ℕ) → 0 < at → c < length ps
      → get_or (walked change n t at ps) c 0 ≡ or_else (get_or ps c 0) (place_found (found name n (row_name row.Tag) t i at))
  unfolding place_found
  walked_at zero t i at ps z l = rw (not-walked change t at ps, no_found name (row_name row.Tag) t i at) (sym (or-none (get_or ps c 0)))
  walked_at (suc n) t i at ps z l = go (row_name row.Tag (drop at t)) refl (walked_at n t (i + 1))
    where
      join : (x : ℕ) (b : Bool) (f : Option NameFound) → or_else (or_else x (cond b at 0)) (place_found f) ≡ or_else x (place_found (cond b (found_at i at) f))
      join zero true f = rw (ne_eqb at 0 (λ e. omega arith))
      join zero false f = refl
      join (suc x) b f = ap (λ (w : ℕ). or_else w (place_found f)) (or_some x (cond b at 0)) ∙ or_some x (place_found f)
          ∙ sym (or_some x (place_found (cond b (found_at i at) f)))

      go : (r : Parsed (List ℕ)) → row_name row.Tag (drop at t) ≡ r
          → ((at : ℕ) (ps : List ℕ) → 0 < at → c < length ps
          → get_or (walked change n t at ps) c 0 ≡ or_else (get_or ps c 0) (place_found (found name n (row_name row.Tag) t (i + 1) at)))
          → get_or (walked change (suc n) t at ps) c 0 ≡ or_else (get_or ps c 0) (place_found (found name (suc n) (row_name row.Tag) t i at))
      go (bad j) e ih = rw (walked_none change n t at ps e, found_none name n (row_name row.Tag) t i at e) (sym (or-none (get_or ps c 0)))
      go (good v m) e ih =
          let k : length (noted ps (change v) at) ≡ length ps = noted-length ps (change v) at in
          rw (walked_more change n t at ps v m e, found-more name n (row_name row.Tag) t i at v m e)
          (ih (at + m) (noted ps (change v) at) (omega arith) (omega arith)
          ∙ ap (λ (x : ℕ). or_else x (place_found (found name n (row_name row.Tag) t (i + 1) (at + m)))) (noted-at ps v at l)
          ∙ join (get_or ps c 0) (same name v) (found name n (row_name row.Tag) t (i + 1) (at + m)))

-- the places of the tags, each stored for its change
tags-walked : (table sheet ps : List ℕ) (at n k : ℕ) → 0 < at → k ≤ length ps → ((c : ℕ) → c < k → get_or ps c 0 ≡ 0)
    → distinct_names sheet 1 k row.Change ≡ true → Placed table at n sheet k (walked (change_found sheet k) n table at ps)
unfolding distinct_names tag_place
tags-walked table sheet ps at n k z l blank d =
    let few : length (change_names_at sheet k) ≤ k = names-few k (row_name row.Change) (drop 1 sheet) in
    let long : length (walked (change_found sheet k) n table at ps) ≡ length ps = walked-length (change_found sheet k) n table at ps in
    record {
      behind = z;
      lists = record {
        room = omega arith;
        known = λ c h.
            let a : 0 + c ≡ c = omega arith in
            rw a (walked_at (change_found sheet k) (get_or (change_names_at sheet k) c []) c (hit c h) (miss c) n table 0 at ps z (omega arith)
            ∙ rw (blank c (omega arith)));
      };
    }
  where
    hit : (c : ℕ) → c < length (change_names_at sheet k) → (v : List ℕ) → same (get_or (change_names_at sheet k) c []) v ≡ true
        → (q : ℕ) × (change_found sheet k v ≡ found_at c q)
    hit c h v f =
        let (q, g) = found-only v k (row_name row.Change) sheet 0 1 c d h (same-sym v (get_or (change_names_at sheet k) c []) ∙ f) in
        (q, g ∙ ap (λ (x : ℕ). found_at x q) (omega arith))

    miss : (c : ℕ) (v : List ℕ) (q : ℕ) → same (get_or (change_names_at sheet k) c []) v ≡ false → change_found sheet k v ≡ found_at c q → ⊥
    miss c v q f g =
        found-parts v k (row_name row.Change) sheet 0 1 c q g (λ b a h t o.
        let x : b ≡ c = omega arith in
        false-true (sym f ∙ same-sym (get_or (change_names_at sheet k) c []) v ∙ rw x at t))

-- ── As many tags as there are changes ──

to_end : (change : List ℕ → Option NameFound) (k : ℕ) (t : List ℕ) (at : ℕ) (ps : List ℕ) → walked_to change k 0 t at ps ≡ ps
unfolding walked_to
to_end change k t at ps = refl

to-all : (change : List ℕ → Option NameFound) (n : ℕ) (t : List ℕ) (at : ℕ) (ps : List ℕ) → walked_to change 0 n t at ps ≡ ps
unfolding walked_to
to-all change zero t at ps = refl
to-all change (suc n) t at ps = refl

to-broken : (change : List ℕ → Option NameFound) (k n : ℕ) (t : List ℕ) (at : ℕ) (ps : List ℕ) {j : ℕ} → row_name row.Tag (drop at t) ≡ bad j
    → walked_to change k n t at ps ≡ ps
unfolding walked_to
to-broken change k zero t at ps e = refl
to-broken change zero (suc n) t at ps e = refl
to-broken change (suc k) (suc n) t at ps e = rw (e, walked_to)

to-more : (change : List ℕ → Option NameFound) (k n : ℕ) (t : List ℕ) (at : ℕ) (ps v : List ℕ) (m : ℕ) → row_name row.Tag (drop at t) ≡ good v m
    → walked_to change (suc k) (suc n) t at ps ≡ walked_to change (left_after (change v) (suc k)) n t (at + m) (noted ps (change v) at)
unfolding walked_to
to-more change k n t at ps v m e = rw (e, walked_to)

-- where none is named, nothing is noted
none-noted : (change : List ℕ → Option NameFound) (n : ℕ) (t : List ℕ) (at i : ℕ) (ps : List ℕ) → length (listed_by change n t at i).words ≤ 0
    → ps ≡ walked change n t at ps
unfolding ahead words_for noted
none-noted change zero t at i ps h = sym (not-walked change t at ps)
none-noted change (suc n) t at i ps h = go (row_name row.Tag (drop at t)) refl (none-noted change n t)
  where
    go : (r : Parsed (List ℕ)) → row_name row.Tag (drop at t) ≡ r
        → ((at i : ℕ) (ps : List ℕ) → length (listed_by change n t at i).words ≤ 0 → ps ≡ walked change n t at ps)
        → ps ≡ walked change (suc n) t at ps
    go (bad j) e ih = sym (walked_none change n t at ps e)
    go (good v m) e ih = pick (change v) (rw (list-more change n t at i v m e) at h) ∙ sym (walked_more change n t at ps v m e)
      where
        pick : (f : Option NameFound) → length (ahead (words_for f i at) (listed_by change n t (at + m) (i + 1))).words ≤ 0
            → ps ≡ walked change n t (at + m) (noted ps f at)
        pick None l = ih (at + m) (i + 1) ps l
        pick (Some f) l = absurd (omega arith)

-- where there are no more of them, these are all
walk-whole : (change : List ℕ → Option NameFound) (n k : ℕ) (t : List ℕ) (at i : ℕ) (ps : List ℕ) → length (listed_by change n t at i).words ≤ 3 * k
    → walked_to change k n t at ps ≡ walked change n t at ps
unfolding ahead words_for left_after
walk-whole change zero k t at i ps h = to_end change k t at ps ∙ sym (not-walked change t at ps)
walk-whole change (suc n) zero t at i ps h = to-all change (suc n) t at ps ∙ none-noted change (suc n) t at i ps (omega arith)
walk-whole change (suc n) (suc k) t at i ps h = go (row_name row.Tag (drop at t)) refl (walk-whole change n)
  where
    go : (r : Parsed (List ℕ)) → row_name row.Tag (drop at t) ≡ r
        → ((k : ℕ) (t : List ℕ) (at i : ℕ) (ps : List ℕ) → length (listed_by change n t at i).words ≤ 3 * k
        → walked_to change k n t at ps ≡ walked change n t at ps) → walked_to change (suc k) (suc n) t at ps ≡ walked change (suc n) t at ps
    go (bad j) e ih = to-broken change (suc k) (suc n) t at ps e ∙ sym (walked_none change n t at ps e)
    go (good v m) e ih =
        to-more change k n t at ps v m e ∙ pick (change v) (rw (list-more change n t at i v m e) at h) ∙ sym (walked_more change n t at ps v m e)
      where
        pick : (f : Option NameFound) → length (ahead (words_for f i at) (listed_by change n t (at + m) (i + 1))).words ≤ 3 * suc k
            → walked_to change (left_after f (suc k)) n t (at + m) (noted ps f at) ≡ walked change n t (at + m) (noted ps f at)
        pick None l = ih (suc k) t (at + m) (i + 1) _ l
        pick (Some f) l = let j : suc k - 1 ≡ k = omega arith in rw j (ih k t (at + m) (i + 1) _ (omega arith))

-- ── What the call gives ──

-- the whole changes are all that are found
changes-whole : (sheet : List ℕ) (k : ℕ) → change_found sheet (length (change_names_at sheet k)) ≡ change_found sheet k
changes-whole sheet k i name = found-whole name k (row_name row.Change) sheet 0 1 i

-- where no two tags have one name, the walk finds all that changes name
module _ (table : List ℕ) (at n : ℕ) (sheet ls₀ ps₀ ls ps : List ℕ) (words : ℕ) (few : length ps₀ ≤ 64)
    (d : distinct_names table at n row.Tag ≡ true) (e : placing words ls ps ≡ placed_by table at n sheet ls₀ ps₀) where
  abbrev all_words : List ℕ
  all_words = (listed_in table at n sheet (length ps₀)).words

  all-few : length all_words ≤ 3 * length (change_names_at sheet (length ps₀))
  unfolding distinct_names
  all-few = list-few sheet (length ps₀) n table at d

  placed : placing words ls ps ≡ placing (length all_words) (sets ls₀ 0 all_words) (walked (change_found sheet (length ps₀)) n table at ps₀)
  unfolding placed_by placed_for
  placed =
      e ∙ rw (le-ltb most_changes (length ps₀) few) (rw (
        changes-whole sheet (length ps₀),
        Listed.to_whole (change_found sheet (length ps₀)) n (length (change_names_at sheet (length ps₀))) table at 0 all-few,
        walk-whole (change_found sheet (length ps₀)) n (length (change_names_at sheet (length ps₀))) table at 0 ps₀ all-few,
      ))

  pub places-long : length ps ≡ length ps₀
  places-long = ap (λ (z : Placing). length z.places) placed ∙ walked-length (change_found sheet (length ps₀)) n table at ps₀

  pub tags-placed : 0 < at → ((c : ℕ) → c < length ps₀ → get_or ps₀ c 0 ≡ 0) → distinct_names sheet 1 (length ps₀) row.Change ≡ true
      → Placed table at n sheet (length ps₀) ps
  tags-placed z blank f = rw (ap (λ (z : Placing). z.places) placed) (tags-walked table sheet ps₀ at n (length ps₀) z (omega arith) blank f)

  -- where the list has room for the tags of all changes, it is there
  module _ (room : 3 * length ps₀ ≤ length ls₀) where
    list-room : length all_words ≤ length ls₀
    list-room =
        let a = all-few in
        let b : length (change_names_at sheet (length ps₀)) ≤ length ps₀ = names-few (length ps₀) (row_name row.Change) (drop 1 sheet) in
        omega arith

    pub list-there : words ≤ length ls
    list-there =
        let a = list-room in
        let b : words ≡ length all_words = ap (λ (z : Placing). z.words) placed in
        let c : length ls ≡ length ls₀ = ap (λ (z : Placing). length z.list) placed ∙ length-sets ls₀ 0 all_words in
        omega arith

    pub tags-listed : take words ls ≡ all_words
    tags-listed =
        let a = list-room in
        rw (ap (λ (z : Placing). z.words) placed, ap (λ (z : Placing). z.list) placed, sets-eq all_words ls₀ 0 (omega arith))
        (take-append_seam all_words (drop (0 + length all_words) ls₀))

-- ── The functions of the walk ──

pub store-there : (ls : List ℕ) (at w : ℕ) → length ls ≤ at → ls ≡ set ls at w
store-there ls at w h = sym (set_out ls at w h)

pub none_end : (at i tag : ℕ) (f : Option NameFound) → f ≡ None → at ≡ at + length (words_for f i tag)
unfolding words_for
none_end at i tag f e = rw e (omega arith)

pub none-listed : (ls : List ℕ) (at i tag : ℕ) (f : Option NameFound) → f ≡ None → ls ≡ sets ls at (words_for f i tag)
unfolding words_for
none-listed ls at i tag f e = rw e

pub tag-end : (at i tag : ℕ) (f : Option NameFound) (x : NameFound) → f ≡ Some x → at + 3 ≡ at + length (words_for f i tag)
unfolding words_for
tag-end at i tag f x e = rw e

pub tag-listed : (ls l₁ l₂ l₃ : List ℕ) (at i tag : ℕ) (f : Option NameFound) (x : NameFound) → f ≡ Some x → l₁ ≡ set ls at i
    → l₂ ≡ set l₁ (at + 1) tag → l₃ ≡ set l₂ (at + 2) x.place → l₃ ≡ sets ls at (words_for f i tag)
unfolding words_for
tag-listed ls l₁ l₂ l₃ at i tag f x e a b d =
    let y : at + 1 ≡ suc at = omega arith in
    let z : at + 2 ≡ suc (suc at) = omega arith in
    rw e (d ∙ rw (b, a, y, z))

pub note-nothing : (ps : List ℕ) (f : Option NameFound) (tag : ℕ) → f ≡ None → ps ≡ noted ps f tag
unfolding noted
note-nothing ps f tag e = rw e

module _ (ps : List ℕ) (f : Option NameFound) (tag : ℕ) (x : NameFound) (e : f ≡ Some x) where
  pub note-past : length ps ≤ x.number → ps ≡ noted ps f tag
  unfolding noted
  note-past h = rw (e, set_out ps x.number tag h) (pick (eqb (get_or ps x.number 0) 0))
    where
      pick : (b : Bool) → ps ≡ cond b ps ps
      pick true = refl
      pick false = refl

  pub note-set : get_or ps x.number 0 ≡ 0 → set ps x.number tag ≡ noted ps f tag
  unfolding noted
  note-set h = rw (e, h)

  pub note-kept : (get_or ps x.number 0 ≡ 0 → ⊥) → ps ≡ noted ps f tag
  unfolding noted
  note-kept h = rw (e, ne_eqb (get_or ps x.number 0) 0 h)

-- ── Marks of the sheet's names ──

all_stay : (ns : List (List ℕ)) (ms : List ℕ) (m : ℕ) → is_marked ms m ≡ true → is_marked (all_marked ns ms) m ≡ true
unfolding all_marked
all_stay [] ms m h = h
all_stay (n ∷ ns) ms m h = all_stay ns (with_mark ms (mark_for n)) m (mark-stays ms (mark_for n) m h)

covers-all : (ns : List (List ℕ)) (ms : List ℕ) → covers (all_marked ns ms) ns ≡ true
unfolding all_marked covers
covers-all [] ms = refl
covers-all (n ∷ ns) ms =
    and-true (is_marked (all_marked ns (with_mark ms (mark_for n))) (mark_for n)) (covers (all_marked ns (with_mark ms (mark_for n))) ns)
    (all_stay ns (with_mark ms (mark_for n)) (mark_for n) (mark-told ms (mark_for n))) (covers-all ns (with_mark ms (mark_for n)))

pub marks-cover : (sheet ms : List ℕ) (k w : ℕ) → w ≡ length (change_names_at sheet k) → ms ≡ all_marked (change_names_at sheet k) (replicate 512 0)
    → covers ms (change_names_at sheet w) ≡ true
marks-cover sheet ms k w f e = rw (f, names-whole k (row_name row.Change) (drop 1 sheet), e) (covers-all (change_names_at sheet k) (replicate 512 0))

-- many changes, or as many as the marks were made for
pub place-many : (table sheet ls ps : List ℕ) (at n : ℕ) → 64 < length ps → placing 0 ls ps ≡ placed_by table at n sheet ls ps
unfolding placed_by
place-many table sheet ls ps at n h = rw (lt-ltb most_changes (length ps) h)

pub place-few : (table sheet ls₀ ps₀ ls ps : List ℕ) (r at n w : ℕ) → length ps₀ ≤ 64 → w ≡ length (change_names_at sheet (length ps₀))
    → r ≡ length (listed_to (change_found sheet w) w n table at 0) → ls ≡ sets ls₀ 0 (listed_to (change_found sheet w) w n table at 0)
    → ps ≡ walked_to (change_found sheet w) w n table at ps₀ → placing r ls ps ≡ placed_by table at n sheet ls₀ ps₀
unfolding placed_by placed_for
place-few table sheet ls₀ ps₀ ls ps r at n w h f a b c = rw (le-ltb most_changes (length ps₀) h, a, b, c, f)

-- a name whose mark is not set is none of the sheet's
pub change-unmarked : (name sheet ms : List ℕ) (k : ℕ) (b : Bool) → covers ms (change_names_at sheet k) ≡ true → b ≡ is_marked ms (mark_for name)
    → b ≡ false → None ≡ change_found sheet k name
change-unmarked name sheet ms k b c f z =
    none (change_found sheet k name) (sym (Names.among-found name k (row_name row.Change) sheet 0 1)
    ∙ unmarked ms name (change_names_at sheet k) c (sym f ∙ z))
  where
    none : (r : Option NameFound) → is_some r ≡ false → None ≡ r
    none (Some f) q = absurd (false-true (sym q))
    none None q = refl

-- what the walk has listed, and what is left to do: some changes have no tag yet
pub record Walking (table : List ℕ) (at n : ℕ) (sheet : List ℕ) (k : ℕ) (list₀ places₀ list places : List ℕ) (place passed words : ℕ) : Type 0 where
  pub more : ℕ
  pub room : words + 3 * more ≡ 3 * k
  pub few : k ≤ 64
  pub long : length list ≡ length list₀
  pub wide : length places ≡ length places₀
  pub stored : sets list words (listed_to (change_found sheet k) more (n - passed) table place passed) ≡ sets list₀ 0
      (listed_to (change_found sheet k) k n table at 0)
  pub count : words + length (listed_to (change_found sheet k) more (n - passed) table place passed) ≡ length
      (listed_to (change_found sheet k) k n table at 0)
  pub walk : walked_to (change_found sheet k) more (n - passed) table place places ≡ walked_to (change_found sheet k) k n table at places₀

module _ (table : List ℕ) (at n : ℕ) (sheet : List ℕ) (k : ℕ) (list₀ places₀ : List ℕ) where
  -- what the call gives
  abbrev pub Walked : (words : ℕ) → (list places : List ℕ) → Type 0
  Walked words list places = (words ≡ length (listed_to (change_found sheet k) k n table at 0))
      × (list ≡ sets list₀ 0 (listed_to (change_found sheet k) k n table at 0))
      × (places ≡ walked_to (change_found sheet k) k n table at places₀)

  pub walking_start : k ≤ 64 → Walking table at n sheet k list₀ places₀ list₀ places₀ at 0 0
  walking_start h =
      let q : n - 0 ≡ n = omega arith in
      record { more = k; room = omega arith; few = h; long = refl; wide = refl; stored = rw q; count = rw q (omega arith); walk = rw q }

  module _ (list places : List ℕ) (place passed words : ℕ) (w : Walking table at n sheet k list₀ places₀ list places place passed words) where
    pub walking-short : words ≤ 192
    walking-short = let a = w.room in let b = w.few in omega arith

    -- nothing is left
    ended : listed_to (change_found sheet k) w.more (n - passed) table place passed ≡ []
        → walked_to (change_found sheet k) w.more (n - passed) table place places ≡ places → Walked words list places
    ended e f =
        let a = w.count in
        let b = ap length e in
        (omega arith, sym (ap (λ (l : List ℕ). sets list words l) e) ∙ w.stored, sym f ∙ w.walk)

    pub walked-all : n ≤ passed → Walked words list places
    walked-all h =
        let q : n - passed ≡ 0 = omega arith in
        ended (rw q (Listed.to_end (change_found sheet k) w.more table place passed)) (rw q (to_end (change_found sheet k) w.more table place places))

    pub walked-full : words ≡ 3 * k → Walked words list places
    walked-full h =
        let a = w.room in
        let q : w.more ≡ 0 = omega arith in
        ended (rw q (Listed.to-all (change_found sheet k) (n - passed) table place passed))
        (rw q (to-all (change_found sheet k) (n - passed) table place places))

    pub walked-stop : (r : Option RowPlace) → r ≡ row_of place (row_name row.Tag (drop place table)) → r ≡ None → Walked words list places
    walked-stop r e f =
        let (j, o) = row-broken (row_name row.Tag (drop place table)) place (sym e ∙ f) in
        ended (Listed.to-broken (change_found sheet k) w.more (n - passed) table place passed o)
        (to-broken (change_found sheet k) w.more (n - passed) table place places o)

    pub walking-step : (ls qs : List ℕ) (z : ℕ) (p : RowPlace) (r : Option RowPlace) (f : Option NameFound) → passed < n → (words ≡ 3 * k → ⊥)
        → r ≡ row_of place (row_name row.Tag (drop place table)) → r ≡ Some p → f ≡ change_found sheet k (take p.name (drop (place + 1) table))
        → z ≡ words + length (words_for f passed place) → ls ≡ sets list words (words_for f passed place) → qs ≡ noted places f place
        → Walking table at n sheet k list₀ places₀ ls qs p.end (passed + 1) z
    walking-step ls qs z p r f h u a b v d e g =
        let (x, m, q, o) = row-parts row.Tag table place p.name p.end (sym a ∙ b) in
        let some : 0 < w.more = more_left w.more w.room in
        let left : n - (passed + 1) ≡ n - passed - 1 = omega arith in
        let rest : listed_to (change_found sheet k) w.more (n - passed) table place passed ≡ words_for f passed place
        ++ listed_to (change_found sheet k) (left_after f w.more) (n - passed - 1) table p.end (passed + 1) =
        rw (v, o) (more-listed w.more (n - passed) some (omega arith) m (take p.name (drop (place + 1) table)) q) in
        let walks : walked_to (change_found sheet k) w.more (n - passed) table place places ≡ walked_to (change_found sheet k) (left_after f w.more)
        (n - passed - 1) table p.end (noted places f place) =
        rw (v, o) (more-walked w.more (n - passed) some (omega arith) m (take p.name (drop (place + 1) table)) q) in
        let i : length qs ≡ length places = ap length g ∙ noted-length places f place in
        let j : length ls ≡ length list = ap length e ∙ length-sets list words (words_for f passed place) in
        let s = after-words f passed place w.more some in
        let t = w.room in
        let y = w.count in
        let l = ap length rest ∙ length-append (words_for f passed place) (listed_to (change_found sheet k) (left_after f w.more) (n - passed - 1) table
        p.end (passed + 1)) in
        record {
          more = left_after f w.more;
          room = omega arith;
          few = w.few;
          long = j ∙ w.long;
          wide = i ∙ w.wide;
          stored = rw (left, e, d)
              (sym (sets-append list words (words_for f passed place) _) ∙ sym (ap (λ (l : List ℕ). sets list words l) rest) ∙ w.stored);
          count = rw left (omega arith);
          walk = rw (left, g) (sym walks ∙ w.walk);
        }
      where
        more_left : (j : ℕ) → words + 3 * j ≡ 3 * k → 0 < j
        more_left zero o = absurd (u (omega arith))
        more_left (suc j) o = omega arith

        more-listed : (j l : ℕ) → 0 < j → 0 < l → (m : ℕ) (v : List ℕ) → row_name row.Tag (drop place table) ≡ good v m
            → listed_to (change_found sheet k) j l table place passed ≡ words_for (change_found sheet k v) passed place
            ++ listed_to (change_found sheet k) (left_after (change_found sheet k v) j) (l - 1) table (place + m) (passed + 1)
        more-listed zero l h i m v e = absurd (omega arith)
        more-listed (suc j) zero h i m v e = absurd (omega arith)
        more-listed (suc j) (suc l) h i m v e =
            let o : suc l - 1 ≡ l = omega arith in
            rw o (Listed.to-more (change_found sheet k) j l table place passed v m e)

        more-walked : (j l : ℕ) → 0 < j → 0 < l → (m : ℕ) (v : List ℕ) → row_name row.Tag (drop place table) ≡ good v m
            → walked_to (change_found sheet k) j l table place places ≡ walked_to (change_found sheet k) (left_after (change_found sheet k v) j) (l - 1)
            table (place + m) (noted places (change_found sheet k v) place)
        more-walked zero l h i m v e = absurd (omega arith)
        more-walked (suc j) zero h i m v e = absurd (omega arith)
        more-walked (suc j) (suc l) h i m v e =
            let o : suc l - 1 ≡ l = omega arith in
            rw o (to-more (change_found sheet k) j l table place places v m e)

pub ruleset laws = (
  rules,
  row-name-there,
  row-name-place,
  store-there,
  note-nothing,
  note-past,
  note-set,
  note-kept,
  walking_start,
  walking-short,
  place-many,
)
