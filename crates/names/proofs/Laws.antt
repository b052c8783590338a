-- The first row with a name, and names that differ: what the functions over them leave to be shown.
-- Assumes nothing.
use Rattle.std.specs.Prelude.{Option, Some, None, is_some}
use Prim.Native.Nat.{ℕ, zero, suc, ◌+◌, ◌-◌, ◌^◌, ◌<◌, ◌≤◌}
use native.Mathlib.Omega.{arith}
use mathlib.Core.Path.{◌≡◌, refl, ap, sym, ◌∙◌}
use mathlib.Core.Bool.{Bool, true, false, not, ◌&&◌, ◌||◌, cond}
use mathlib.Core.List.{List, [], ◌∷◌}
use lib.ListN.{length, take, drop}
use lib.Seq.{drop-drop}
use mir.Syntax.{w64}
use mir.Val.{Fits}
use borrow.Author.Rules.{rules}
use Rattle.layout.specs.Recording.{same, among, distinct}
use Rattle.layout.specs.Reading.{Parsed, Reader, bad, good}
use Rattle.layout.proofs.Lists.{same_true}
use Rattle.parts.specs.Parts.{same_part}
use Rattle.rows.specs.Rows.{row_name, row_of}
use Rattle.names.specs.Names.{names, found_at, found, find_name, distinct_names}
use Rattle.rows.specs.declared.Row.{Row}
use Rattle.rows.specs.declared.RowPlace.{RowPlace}
use Rattle.names.specs.declared.NameFound.{NameFound}
use Rattle.parts.proofs.Laws.{not_there, there, equal-there}
use Rattle.rows.proofs.Laws.{row-parts, row-broken}
use Rattle.number.proofs.Bytes.{part-long}

-- ── Equal names ──

pub name-other : (a b : List ℕ) (here len there other : ℕ) → here + len ≤ length a → there + other ≤ length b → (len ≡ other → ⊥)
    → false ≡ same (take len (drop here a)) (take other (drop there b))
name-other a b here len there other h k d = go (same (take len (drop here a)) (take other (drop there b))) refl
  where
    go : (r : Bool) → same (take len (drop here a)) (take other (drop there b)) ≡ r → false ≡ r
    go true e = absurd (d (sym (part-long a here len h) ∙ ap length (same_true (take len (drop here a)) (take other (drop there b)) e)
        ∙ part-long b there other k))
    go false e = refl

pub name-same : (a b : List ℕ) (here len there other : ℕ) (r : Bool) → here + len ≤ length a → there + other ≤ length b → len ≡ other
    → r ≡ same_part a here b there len → r ≡ same (take len (drop here a)) (take other (drop there b))
name-same a b here len there other r h k e f =
    rw (← e) (f ∙ sym (equal-there a b here there len (omega arith) (omega arith) (omega arith) (omega arith)))

-- ── The first row with a name ──

pub found-same : (i at j q : ℕ) → found_at i at ≡ found_at j q → (i ≡ j) × (at ≡ q)
found-same i at j q e =
    let r : ◌≡◌ {A = NameFound} (record { number = i; place = at }) (record { number = j; place = q }) = cc in
    (ap (λ (f : NameFound). f.number) r, ap (λ (f : NameFound). f.place) r)

module _ (name : List ℕ) (k : Row) (s : List ℕ) (i at : ℕ) where
  found-bad : (left : ℕ) {m : ℕ} → 0 < left → row_name k (drop at s) ≡ bad m → found name left (row_name k) s i at ≡ None
  unfolding found
  found-bad zero h e = absurd (omega arith)
  found-bad (suc left) h e = rw (e, found)

  found-good : (left m : ℕ) (other : List ℕ) → 0 < left → row_name k (drop at s) ≡ good other m
      → found name left (row_name k) s i at ≡ cond (same name other) (found_at i at) (found name (left - 1) (row_name k) s (i + 1) (at + m))
  unfolding found
  found-good zero m other h e = absurd (omega arith)
  found-good (suc left) m other h e =
      let q : suc left - 1 ≡ left = omega arith in
      rw (q, e, found)

  pub found-done : (left : ℕ) (all : Option NameFound) → found name left (row_name k) s i at ≡ all → left ≤ 0 → None ≡ all
  unfolding found
  found-done zero all e h = e
  found-done (suc left) all e h = absurd (omega arith)

  pub found-broken : (left : ℕ) (all : Option NameFound) (r : Option RowPlace) → found name left (row_name k) s i at ≡ all
      → r ≡ row_of at (row_name k (drop at s)) → r ≡ None → 0 < left → None ≡ all
  found-broken left all r g e f h = sym (found-bad left h (row-broken (row_name k (drop at s)) at (sym e ∙ f)).1) ∙ g

  pub found-hit : (left : ℕ) (all : Option NameFound) (p : RowPlace) (r : Option RowPlace) (q : Bool) → found name left (row_name k) s i at ≡ all
      → r ≡ row_of at (row_name k (drop at s)) → r ≡ Some p → q ≡ same name (take p.name (drop (at + 1) s)) → q ≡ true → 0 < left
      → found_at i at ≡ all
  found-hit left all p r q g e f o t h =
      let (l, m, x, w) = row-parts k s at p.name p.end (sym e ∙ f) in
      sym (found-good left m (take p.name (drop (at + 1) s)) h x ∙ rw (sym o ∙ t)) ∙ g

  pub found-step : (left next : ℕ) (all : Option NameFound) (p : RowPlace) (r : Option RowPlace) (q : Bool)
      → found name left (row_name k) s i at ≡ all → r ≡ row_of at (row_name k (drop at s)) → r ≡ Some p
      → q ≡ same name (take p.name (drop (at + 1) s)) → q ≡ false → left ≡ next + 1 → found name next (row_name k) s (i + 1) p.end ≡ all
  found-step left next all p r q g e f o t h =
      let (l, m, x, w) = row-parts k s at p.name p.end (sym e ∙ f) in
      let z : next ≡ left - 1 = omega arith in
      rw (w, z) (sym (found-good left m (take p.name (drop (at + 1) s)) (omega arith) x ∙ rw (sym o ∙ t)) ∙ g)

pub row-name-place : (k : Row) (s : List ℕ) (at : ℕ) (p : RowPlace) (r : Option RowPlace) → r ≡ row_of at (row_name k (drop at s)) → r ≡ Some p
    → length s < 2 ^ 64 → Fits w64 (at + 1)
row-name-place k s at p r e f h = let l = (row-parts k s at p.name p.end (sym e ∙ f)).0 in record { fits = omega arith }

pub row-name-there : (k : Row) (s : List ℕ) (at : ℕ) (p : RowPlace) (r : Option RowPlace) → r ≡ row_of at (row_name k (drop at s)) → r ≡ Some p
    → at + 1 + p.name ≤ length s
row-name-there k s at p r e f = (row-parts k s at p.name p.end (sym e ∙ f)).0

pub find-short : (a s : List ℕ) (here len at n : ℕ) (k : Row) → length a < len → None ≡ find_name a here len s at n k
unfolding find_name
find-short a s here len at n k h = rw (not_there a here len (omega arith))

pub find-far : (a s : List ℕ) (here len at n : ℕ) (k : Row) → len ≤ length a → length a - len < here → None ≡ find_name a here len s at n k
unfolding find_name
find-far a s here len at n k l h = rw (not_there a here len (omega arith))

pub find-there : (a s : List ℕ) (here len at n : ℕ) (k : Row) → here + len ≤ length a
    → find_name a here len s at n k ≡ found (take len (drop here a)) n (row_name k) s 0 at
unfolding find_name
find-there a s here len at n k h = rw (there a here len h)

pub find-start : (a s : List ℕ) (here len at n : ℕ) (k : Row) → len ≤ length a → here ≤ length a - len
    → found (take len (drop here a)) n (row_name k) s 0 at ≡ find_name a here len s at n k
find-start a s here len at n k l h = sym (find-there a s here len at n k (omega arith))

-- ── No two names are equal ──

-- a name is among those of the rows exactly if it is found
pub among-found : (name : List ℕ) (n : ℕ) (p : Reader (List ℕ)) (s : List ℕ) (i at : ℕ)
    → among name (names n p (drop at s)) ≡ is_some (found name n p s i at)
unfolding among names found
among-found name zero p s i at = refl
among-found name (suc n) p s i at = go (p (drop at s)) (among-found name n p s (i + 1))
  where
    pick : (b : Bool) (rest : Bool) (f : Option NameFound) → rest ≡ is_some f → (b || rest) ≡ is_some (cond b (found_at i at) f)
    pick true rest f e = refl
    pick false rest f e = e

    go : (r : Parsed (List ℕ)) → ((next : ℕ) → among name (names n p (drop next s)) ≡ is_some (found name n p s (i + 1) next))
        → among name (elim r [ bad j ↦ [] | good v m ↦ v ∷ names n p (drop m (drop at s)) ]) ≡ is_some
        (elim r [ bad j ↦ None | good v m ↦ cond (same name v) (found_at i at) (found name n p s (i + 1) (at + m)) ])
    go (bad j) ih = refl
    go (good v m) ih =
        pick (same name v) (among name (names n p (drop m (drop at s)))) (found name n p s (i + 1) (at + m)) (rw (drop-drop m at s) (ih (at + m)))

module _ (k : Row) (s : List ℕ) (at : ℕ) where
  pub names-bad : (left : ℕ) {m : ℕ} → 0 < left → row_name k (drop at s) ≡ bad m → names left (row_name k) (drop at s) ≡ []
  unfolding names
  names-bad zero h e = absurd (omega arith)
  names-bad (suc left) h e = rw (e, names)

  pub names-good : (left m : ℕ) (name : List ℕ) → 0 < left → row_name k (drop at s) ≡ good name m
      → names left (row_name k) (drop at s) ≡ name ∷ names (left - 1) (row_name k) (drop (at + m) s)
  unfolding names
  names-good zero m name h e = absurd (omega arith)
  names-good (suc left) m name h e =
      let q : suc left - 1 ≡ left = omega arith in
      rw (q, ← drop-drop m at s, e, names)

  pub distinct-done : (left : ℕ) (all : Bool) → distinct (names left (row_name k) (drop at s)) ≡ all → left ≤ 0 → true ≡ all
  unfolding names distinct
  distinct-done zero all e h = e
  distinct-done (suc left) all e h = absurd (omega arith)

  pub distinct-broken : (left : ℕ) (all : Bool) (r : Option RowPlace) → distinct (names left (row_name k) (drop at s)) ≡ all
      → r ≡ row_of at (row_name k (drop at s)) → r ≡ None → 0 < left → true ≡ all
  unfolding distinct
  distinct-broken left all r g e f h = rw (names-bad left h (row-broken (row_name k (drop at s)) at (sym e ∙ f)).1) at g

  -- what finding a row's name among the later ones says
  module _ (left : ℕ) (all : Bool) (p : RowPlace) (r : Option RowPlace) (f : Option NameFound) (b : Bool)
      (g : distinct (names left (row_name k) (drop at s)) ≡ all) (h : 0 < left) (e : r ≡ row_of at (row_name k (drop at s))) (w : r ≡ Some p)
      (q : f ≡ find_name s (at + 1) p.name s p.end (left - 1) k) (o : b ≡ is_some f) where
    distinct-good : (not b && distinct (names (left - 1) (row_name k) (drop p.end s))) ≡ all
    unfolding distinct
    distinct-good =
        let (l, m, x, i) = row-parts k s at p.name p.end (sym e ∙ w) in
        let told : b ≡ among (take p.name (drop (at + 1) s)) (names (left - 1) (row_name k) (drop p.end s)) =
        o ∙ ap is_some (q ∙ find-there s s (at + 1) p.name p.end (left - 1) k l)
        ∙ sym (among-found (take p.name (drop (at + 1) s)) (left - 1) (row_name k) s 0 p.end) in
        rw (told, i) (rw (names-good left m (take p.name (drop (at + 1) s)) h x) at g)

    pub distinct-hit : b ≡ true → false ≡ all
    distinct-hit t = rw t at distinct-good

    pub distinct-step : b ≡ false → distinct (names (left - 1) (row_name k) (drop p.end s)) ≡ all
    distinct-step t = rw t at distinct-good

pub distinct-start : (k : Row) (s : List ℕ) (at n : ℕ) → distinct (names n (row_name k) (drop at s)) ≡ distinct_names s at n k
unfolding distinct_names
distinct-start k s at n = refl

pub ruleset laws = (
  rules,
  name-other,
  name-same,
  found-done,
  found-broken,
  found-hit,
  found-step,
  row-name-place,
  row-name-there,
  find-short,
  find-far,
  find-start,
  distinct-done,
  distinct-broken,
  distinct-hit,
  distinct-start,
)
