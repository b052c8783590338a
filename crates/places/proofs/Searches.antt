-- The search of a sheet by the marks and the places of its changes.
-- Assumes nothing.
use Rattle.std.specs.Prelude.{Option, Some, None, is_some}
use Prim.Native.Nat.{ℕ, zero, suc, ◌+◌, ◌-◌, ◌<◌, ◌≤◌}
use native.Mathlib.Omega.{arith}
use mathlib.Core.Path.{◌≡◌, refl, ap, sym, ◌∙◌}
use mathlib.Core.Bool.{Bool, true, false, ◌||◌, cond}
use mathlib.Core.List.{List, [], ◌∷◌, map}
use lib.ListN.{length, take, drop, get_or, set, replicate, length-set, length-replicate}
use lib.Seq.{drop-cons, sets, sets-eq, length-sets, take-append_seam}
use borrow.Author.Rules.{rules}
use Rattle.marks.specs.Marks.{mark_for, mark_of, with_mark}
use Rattle.marks.proofs.Laws.{of-there}
use Rattle.layout.specs.Recording.{same, among}
use Rattle.layout.specs.Reading.{Parsed, bad, good}
use Rattle.layout.proofs.Lists.{same_true}
use Rattle.rows.specs.Rows.{row_name, row_of}
use Rattle.names.specs.Names.{names, found_at, found, find_name}
use Rattle.rows.specs.declared.Row.TheVariants as row
use Rattle.rows.specs.declared.RowPlace.{RowPlace}
use Rattle.names.specs.declared.NameFound.{NameFound}
use Rattle.places.specs.declared.Change.{Change}
use Rattle.rows.proofs.Laws.{row-parts, row-broken}
use Rattle.names.proofs.Laws.{among-found, find-there, row-name-there, row-name-place}
use Rattle.places.specs.Places.{change_names_at, change_found, all_marked, changes_from, Marked}
use Rattle.places.proofs.Finding.{found-more, no_found, names-none, no_names, names-next, names-few, names-done, names-stop, names-step}
use Rattle.places.proofs.Walks.{change-unmarked, marks-cover}

-- ── The whole changes, one by one ──

abbrev change : (mark place : ℕ) → Change
change m p = record { mark = m; place = p }

from-none : (s : List ℕ) (at : ℕ) → changes_from 0 s at ≡ []
unfolding changes_from
from-none s at = refl

from-bad : (n : ℕ) (s : List ℕ) (at : ℕ) {j : ℕ} → row_name row.Change (drop at s) ≡ bad j → changes_from n s at ≡ []
unfolding changes_from
from-bad zero s at e = refl
from-bad (suc n) s at e = rw (e, changes_from)

from-good : (n : ℕ) (s : List ℕ) (at : ℕ) (v : List ℕ) (m : ℕ) → row_name row.Change (drop at s) ≡ good v m
    → changes_from (suc n) s at ≡ change (mark_for v) at ∷ changes_from n s (at + m)
unfolding changes_from
from-good n s at v m e = rw (e, changes_from)

-- as many as there are names
from-names : (n : ℕ) (s : List ℕ) (at : ℕ) → length (changes_from n s at) ≡ length (names n (row_name row.Change) (drop at s))
from-names zero s at = rw (from-none s at, no_names (row_name row.Change) (drop at s))
from-names (suc n) s at = go (row_name row.Change (drop at s)) refl (from-names n s)
  where
    go : (r : Parsed (List ℕ)) → row_name row.Change (drop at s) ≡ r
        → ((at : ℕ) → length (changes_from n s at) ≡ length (names n (row_name row.Change) (drop at s)))
        → length (changes_from (suc n) s at) ≡ length (names (suc n) (row_name row.Change) (drop at s))
    go (bad j) e ih = rw (from-bad (suc n) s at e, names-none n (row_name row.Change) (drop at s) e)
    go (good v m) e ih = rw (from-good n s at v m e, names-next n (row_name row.Change) s at v m e) (ap suc (ih (at + m)))

-- the whole ones say all
from-whole : (n : ℕ) (s : List ℕ) (at : ℕ) → changes_from (length (changes_from n s at)) s at ≡ changes_from n s at
from-whole zero s at = rw (from-none s at) (from-none s at)
from-whole (suc n) s at = go (row_name row.Change (drop at s)) refl (from-whole n s)
  where
    go : (r : Parsed (List ℕ)) → row_name row.Change (drop at s) ≡ r
        → ((at : ℕ) → changes_from (length (changes_from n s at)) s at ≡ changes_from n s at)
        → changes_from (length (changes_from (suc n) s at)) s at ≡ changes_from (suc n) s at
    go (bad j) e ih = rw (from-bad (suc n) s at e) (from-none s at)
    go (good v m) e ih =
        rw (from-good n s at v m e) (from-good (length (changes_from n s (at + m))) s at v m e
        ∙ ap (λ (l : List Change). change (mark_for v) at ∷ l) (ih (at + m)))

-- ── Marking them ──

-- what is marked and stored so far, and what is left to do
pub record Marking (sheet : List ℕ) (count : ℕ) (filter₀ filter : List ℕ) (changes₀ changes : List Change) (place passed : ℕ) : Type 0 where
  pub room : count ≤ length changes
  pub told : passed + length (changes_from (count - passed) sheet place) ≡ length (changes_from count sheet 1)
  pub marks : all_marked (names (count - passed) (row_name row.Change) (drop place sheet)) filter ≡ all_marked (change_names_at sheet count) filter₀
  pub stores : sets changes passed (changes_from (count - passed) sheet place) ≡ sets changes₀ 0 (changes_from count sheet 1)

module _ (sheet : List ℕ) (count : ℕ) (filter₀ : List ℕ) (changes₀ : List Change) where
  -- what the call gives
  abbrev pub AllMarked : (whole : ℕ) → (filter : List ℕ) → (changes : List Change) → Type 0
  AllMarked whole filter changes = (whole ≡ length (changes_from count sheet 1)) × (filter ≡ all_marked (change_names_at sheet count) filter₀)
      × (changes ≡ sets changes₀ 0 (changes_from count sheet 1))

  pub marking_start : count ≤ length changes₀ → Marking sheet count filter₀ filter₀ changes₀ changes₀ 1 0
  marking_start h =
      let q : count - 0 ≡ count = omega arith in
      record { room = h; told = rw q (omega arith); marks = rw q; stores = rw q }

  module _ (filter : List ℕ) (changes : List Change) (place passed : ℕ) (w : Marking sheet count filter₀ filter changes₀ changes place passed) where
    ended : changes_from (count - passed) sheet place ≡ [] → names (count - passed) (row_name row.Change) (drop place sheet) ≡ []
        → AllMarked passed filter changes
    unfolding all_marked
    ended e f =
        let a = w.told in
        let b = ap length e in (
          omega arith,
          sym (ap (λ (ns : List (List ℕ)). all_marked ns filter) f) ∙ w.marks,
          sym (ap (λ (l : List Change). sets changes passed l) e) ∙ w.stores,
        )

    pub marked-all : count ≤ passed → passed ≤ count → AllMarked count filter changes
    marked-all h l =
        let q : count - passed ≡ 0 = omega arith in
        let p : passed ≡ count = omega arith in
        let e = ended (rw q (from-none sheet place)) (names-done row.Change sheet place (count - passed) (omega arith)) in
        (sym p ∙ e.0, e.1, e.2)

    pub marked-stop : (r : Option RowPlace) → r ≡ row_of place (row_name row.Change (drop place sheet)) → r ≡ None → AllMarked passed filter changes
    marked-stop r e f =
        ended (from-bad (count - passed) sheet place (row-broken (row_name row.Change (drop place sheet)) place (sym e ∙ f)).1)
        (names-stop row.Change sheet place (count - passed) r e f)

    pub marking-step : (after : List ℕ) (m : ℕ) (p : RowPlace) (r : Option RowPlace) → passed < count
        → r ≡ row_of place (row_name row.Change (drop place sheet)) → r ≡ Some p → m ≡ mark_of sheet (place + 1) p.name → after ≡ with_mark filter m
        → Marking sheet count filter₀ after changes₀ (set changes passed (change m place)) p.end (passed + 1)
    unfolding all_marked
    marking-step after m p r h a b c d =
        let (x, j, q, o) = row-parts row.Change sheet place p.name p.end (sym a ∙ b) in
        let name : List ℕ = take p.name (drop (place + 1) sheet) in
        let n : m ≡ mark_for name = c ∙ of-there sheet (place + 1) p.name x in
        let left : count - (passed + 1) ≡ count - passed - 1 = omega arith in
        let some : count - passed ≡ suc (count - passed - 1) = omega arith in
        let e : changes_from (count - passed) sheet place ≡ change (mark_for name) place ∷ changes_from (count - passed - 1) sheet p.end =
        ap (λ (l : ℕ). changes_from l sheet place) some ∙ rw o (from-good (count - passed - 1) sheet place name j q) in
        let s = w.told in
        let t = ap length e in
        let y : passed + 1 ≡ suc passed = omega arith in
        record {
          room = rw length-set w.room;
          told = rw left (omega arith);
          marks = rw (left, d, n) (sym (ap (λ (ns : List (List ℕ)). all_marked ns filter) (names-step row.Change sheet place (count - passed) p r a b
              (omega arith))) ∙ w.marks);
          stores = rw (left, y, n) (sym (ap (λ (l : List Change). sets changes passed l) e) ∙ w.stores);
        }

-- where all is marked, the changes that are whole are there
pub record Told (sheet : List ℕ) (k w : ℕ) (fs : List ℕ) (cs : List Change) : Type 0 where
  pub room : w ≤ length cs
  pub long : w ≡ length (take w cs)
  pub few : length (take w cs) ≤ 64
  pub whole : length (take w cs) ≡ length (change_names_at sheet k)
  pub marked : Marked sheet fs (take w cs)

pub marks-told : (sheet : List ℕ) (k w : ℕ) (fs : List ℕ) (cs : List Change) → k ≤ 64
    → AllMarked sheet k (replicate 512 0) (replicate 64 (change 0 0)) w fs cs → Told sheet k w fs cs
marks-told sheet k w fs cs h (a, b, c) =
    let few : length (change_names_at sheet k) ≤ k = names-few k (row_name row.Change) (drop 1 sheet) in
    let o = from-names k sheet 1 in
    let l = length-replicate {A = Change} 64 (change 0 0) in
    let m = ap length c ∙ length-sets (replicate 64 (change 0 0)) 0 (changes_from k sheet 1) in
    let e : take w cs ≡ changes_from k sheet 1 = rw (a, c, sets-eq (changes_from k sheet 1) (replicate 64 (change 0 0)) 0 (omega arith))
    (take-append_seam (changes_from k sheet 1) (drop (0 + length (changes_from k sheet 1)) (replicate 64 (change 0 0)))) in
    let n = ap length e in
    record {
      room = omega arith;
      long = omega arith;
      few = omega arith;
      whole = omega arith;
      marked = record {
        covered = rw e (marks-cover sheet fs k (length (changes_from k sheet 1)) o b);
        known = rw e (sym (from-whole k sheet 1));
      };
    }

-- ── One change ──

whole : (name : List ℕ) → take (length name) (drop 0 name) ≡ name
whole [] = refl
whole (b ∷ bs) = ap (λ (l : List ℕ). b ∷ l) (whole bs)

pub mark-whole : (name : List ℕ) (m n : ℕ) → m ≡ mark_of name 0 n → n ≡ length name → m ≡ mark_for name
mark-whole name m n e f = rw f at e ∙ of-there name 0 (length name) (omega arith) ∙ ap mark_for (whole name)

one_name : (s : List ℕ) (at : ℕ) (v : List ℕ) (m : ℕ) → row_name row.Change (drop at s) ≡ good v m → names 1 (row_name row.Change) (drop at s) ≡ v ∷ []
one_name s at v m e = names-next 0 (row_name row.Change) s at v m e
    ∙ ap (λ (l : List (List ℕ)). v ∷ l) (no_names (row_name row.Change) (drop (at + m) s))

one-among : (name s : List ℕ) (at : ℕ) (v : List ℕ) (m : ℕ) → row_name row.Change (drop at s) ≡ good v m
    → among name (names 1 (row_name row.Change) (drop at s)) ≡ same name v
unfolding among
one-among name s at v m e = ap (among name) (one_name s at v m e) ∙ go (same name v)
  where
    go : (b : Bool) → (b || false) ≡ b
    go true = refl
    go false = refl

-- a name with another mark is not the one
pub other-mark : (name : List ℕ) (ns : List (List ℕ)) (known mark : ℕ) → map mark_for ns ≡ known ∷ [] → mark ≡ mark_for name → (known ≡ mark → ⊥)
    → false ≡ among name ns
unfolding among
other-mark name [] known mark e f d = refl
other-mark name (v ∷ w ∷ ns) known mark e f d = let o = ap length e in absurd (omega arith)
other-mark name (v ∷ []) known mark e f d = go (same name v) refl
  where
    go : (b : Bool) → same name v ≡ b → false ≡ (b || false)
    go true h = let o : mark_for v ≡ known = cc in absurd (d (sym o ∙ ap mark_for (sym (same_true name v h)) ∙ sym f))
    go false h = refl

pub named_by : (name sheet : List ℕ) (place n : ℕ) (f : Option NameFound) (b : Bool) → f ≡ find_name name 0 n sheet place 1 row.Change → n ≡ length name
    → b ≡ is_some f → b ≡ among name (names 1 (row_name row.Change) (drop place sheet))
named_by name sheet place n f b e l g =
    g ∙ ap is_some (rw l at e ∙ find-there name sheet 0 (length name) place 1 row.Change (omega arith))
    ∙ sym (among-found (take (length name) (drop 0 name)) 1 (row_name row.Change) sheet 0 place)
    ∙ ap (λ (v : List ℕ). among v (names 1 (row_name row.Change) (drop place sheet))) (whole name)

-- ── The search ──

-- the changes that are left to search, from a place on
pub record Searching (name sheet : List ℕ) (changes : List Change) (passed : ℕ) : Type 0 where
  pub at : ℕ
  pub known : drop passed changes ≡ changes_from (length changes - passed) sheet at
  pub rest : found name (length changes - passed) (row_name row.Change) sheet passed at ≡ change_found sheet (length changes) name

module _ (name sheet : List ℕ) (changes : List Change) where
  pub search-start : (filter : List ℕ) → Marked sheet filter changes → Searching name sheet changes 0
  search-start filter w =
      let q : length changes - 0 ≡ length changes = omega arith in
      record { at = 1; known = rw q w.known; rest = rw q }

  module _ (passed : ℕ) (w : Searching name sheet changes passed) where
    pub search-done : length changes ≤ passed → None ≡ change_found sheet (length changes) name
    search-done h =
        let q : length changes - passed ≡ 0 = omega arith in
        sym (no_found name (row_name row.Change) sheet passed w.at) ∙ rw q at w.rest

    module _ (x d : Change) (h : passed < length changes) (e : x ≡ get_or changes passed d) where
      -- the change that is next, and what is left behind it
      told : {G : Type 0} → ((v : List ℕ) (m : ℕ) → row_name row.Change (drop x.place sheet) ≡ good v m → x.mark ≡ mark_for v
          → drop (passed + 1) changes ≡ changes_from (length changes - (passed + 1)) sheet (x.place + m)
          → cond (same name v) (found_at passed x.place) (found name (length changes - (passed + 1)) (row_name row.Change) sheet (passed + 1) (x.place + m))
          ≡ change_found sheet (length changes) name → G) → G
      told {G} g = go (row_name row.Change (drop w.at sheet)) refl
        where
          some : length changes - passed ≡ suc (length changes - (passed + 1))
          some = omega arith

          here : x ∷ drop (passed + 1) changes ≡ changes_from (suc (length changes - (passed + 1))) sheet w.at
          here =
              let q : passed + 1 ≡ suc passed = omega arith in
              ap (λ (k : ℕ). x ∷ drop k changes) q ∙ ap (λ (y : Change). y ∷ drop (suc passed) changes) e ∙ sym (drop-cons changes passed d h)
              ∙ w.known ∙ ap (λ (k : ℕ). changes_from k sheet w.at) some

          go : (r : Parsed (List ℕ)) → row_name row.Change (drop w.at sheet) ≡ r → G
          go (bad j) f = let o = ap length (here ∙ from-bad (suc (length changes - (passed + 1))) sheet w.at f) in absurd (omega arith)
          go (good v m) f =
              let o : x ∷ drop (passed + 1) changes ≡ change (mark_for v) w.at ∷ changes_from (length changes - (passed + 1)) sheet (w.at + m) =
              here ∙ from-good (length changes - (passed + 1)) sheet w.at v m f in
              let y : x ≡ change (mark_for v) w.at = cc in
              let z : drop (passed + 1) changes ≡ changes_from (length changes - (passed + 1)) sheet (w.at + m) = cc in
              let p : x.place ≡ w.at = ap (λ (c : Change). c.place) y in
              g v m (rw p f) (ap (λ (c : Change). c.mark) y) (rw p z)
              (rw p (sym (found-more name (length changes - (passed + 1)) (row_name row.Change) sheet passed w.at v m f) ∙ rw some at w.rest))

      pub search-row : map mark_for (names 1 (row_name row.Change) (drop x.place sheet)) ≡ x.mark ∷ []
      search-row = told (λ v m f a b c. rw (one_name sheet x.place v m f, a))

      module _ (r : Bool) (t : r ≡ among name (names 1 (row_name row.Change) (drop x.place sheet))) where
        pub search-hit : r ≡ true → found_at passed x.place ≡ change_found sheet (length changes) name
        search-hit y = told (λ v m f a b c. rw (sym (one-among name sheet x.place v m f) ∙ sym t ∙ y) at c)

        pub search-step : r ≡ false → Searching name sheet changes (passed + 1)
        search-step y = told (λ v m f a b c. record { at = x.place + m; known = b; rest = rw (sym (one-among name sheet x.place v m f) ∙ sym t ∙ y) at c })

pub ruleset laws = (rules, row-name-there, row-name-place, marking_start, mark-whole, other-mark, named_by, search-start, search-done, change-unmarked)
