-- Rows that were passed one after the other: what is known of their names, however these are held against each other.
-- Assumes nothing.
use Rattle.std.specs.Prelude.{Option, Some, None}
use Prim.Native.Nat.{ℕ, ◌+◌, ◌-◌, ◌<◌, ◌≤◌}
use native.Mathlib.Nat.{zero-add, add_assoc}
use native.Mathlib.Omega.{arith}
use mathlib.Core.Path.{◌≡◌, refl, ap, sym, ◌∙◌}
use mathlib.Core.Bool.{Bool, true, false, not, ◌&&◌, ◌||◌}
use mathlib.Core.List.{List, [], ◌∷◌, ◌++◌, append_assoc, append-nil}
use lib.ListN.{take, drop}
use borrow.Author.Rules.{rules}
use Rattle.number.proofs.Bytes.{both_true, and-true}
use Rattle.layout.specs.Recording.{same, among, distinct}
use Rattle.layout.specs.Reading.{good}
use Rattle.layout.proofs.Lists.{or-false}
use Rattle.rows.specs.Rows.{row_name, row_of}
use Rattle.names.specs.Names.{names, distinct_names}
use Rattle.rows.specs.declared.Row.{Row}
use Rattle.rows.specs.declared.RowPlace.{RowPlace}
use Rattle.rows.proofs.Laws.{row-parts, row-broken}
use Rattle.names.proofs.Finding.{same-sym}
use Rattle.names.proofs.Laws.{names-bad, names-good}

-- ── Names that differ, taken from the front ──

among-behind : (n : List ℕ) (ns ms : List (List ℕ)) → among n ms ≡ true → among n (ns ++ ms) ≡ true
unfolding among
among-behind n [] ms h = h
among-behind n (x ∷ ns) ms h = go (same n x) (among-behind n ns ms h)
  where
    go : (b : Bool) {c : Bool} → c ≡ true → (b || c) ≡ true
    go true e = refl
    go false e = e

among-here : (n : List ℕ) (ms : List (List ℕ)) → (b : Bool) → b ≡ true → (b || among n ms) ≡ true
among-here n ms true e = refl
among-here n ms false e = let z : ◌≡◌ {A = ℕ} 0 1 = cc in absurd (omega arith)

-- a name that was there before
differ-hit : (n : List ℕ) (ns ms : List (List ℕ)) → among n ns ≡ true → distinct (ns ++ n ∷ ms) ≡ false
unfolding among distinct
differ-hit n [] ms h = let z : ◌≡◌ {A = ℕ} 0 1 = cc in absurd (omega arith)
differ-hit n (x ∷ ns) ms h = go (same n x) refl (λ f. differ-hit n ns ms f) h
  where
    none : (b c : Bool) → b ≡ true → (not b && c) ≡ false
    none true c e = refl
    none false c e = let z : ◌≡◌ {A = ℕ} 0 1 = cc in absurd (omega arith)

    rest : (b c : Bool) → c ≡ false → (b && c) ≡ false
    rest true c e = e
    rest false c e = refl

    go : (b : Bool) → same n x ≡ b → (among n ns ≡ true → distinct (ns ++ n ∷ ms) ≡ false) → (b || among n ns) ≡ true
        → (not (among x (ns ++ n ∷ ms)) && distinct (ns ++ n ∷ ms)) ≡ false
    go true e ih f = none (among x (ns ++ n ∷ ms)) (distinct (ns ++ n ∷ ms))
        (among-behind x ns (n ∷ ms) (among-here x ms (same x n) (same-sym x n ∙ e)))
    go false e ih f = rest (not (among x (ns ++ n ∷ ms))) (distinct (ns ++ n ∷ ms)) (ih f)

among-ends : (x n : List ℕ) (ns : List (List ℕ)) → among x ns ≡ false → same x n ≡ false → among x (ns ++ n ∷ []) ≡ false
unfolding among
among-ends x n [] h e = rw e
among-ends x n (y ∷ ns) h e =
    let (p, q) = or-false (same x y) (among x ns) h in
    rw p (among-ends x n ns q e)

-- a new name behind names that differ
differ-more : (n : List ℕ) (ns : List (List ℕ)) → distinct ns ≡ true → among n ns ≡ false → distinct (ns ++ n ∷ []) ≡ true
unfolding distinct among
differ-more n [] h e = refl
differ-more n (x ∷ ns) h e =
    let (p, q) = both_true (not (among x ns)) (distinct ns) h in
    let (r, t) = or-false (same n x) (among n ns) e in
    and-true (not (among x (ns ++ n ∷ []))) (distinct (ns ++ n ∷ [])) (rw (among-ends x n ns (off (among x ns) p) (same-sym x n ∙ r)))
    (differ-more n ns q t)
  where
    off : (b : Bool) → not b ≡ true → b ≡ false
    off true e = let z : ◌≡◌ {A = ℕ} 0 1 = cc in absurd (omega arith)
    off false e = refl

-- ── The rows that were passed ──

-- the rows from `at` to `place`: all whole, and no two of their names equal
pub record Passed (s : List ℕ) (k : Row) (at passed place : ℕ) : Type 0 where
  pub rows : (more : ℕ) → names (passed + more) (row_name k) (drop at s) ≡ names passed (row_name k) (drop at s)
      ++ names more (row_name k) (drop place s)
  pub differ : distinct (names passed (row_name k) (drop at s)) ≡ true

pub passed_none : (s : List ℕ) (k : Row) (at : ℕ) → Passed s k at 0 at
unfolding names distinct
passed_none s k at = record { rows = λ more. rw (zero-add more); differ = refl }

module _ (s : List ℕ) (k : Row) (at passed place n : ℕ) (h : Passed s k at passed place) where
  pub passed-all : passed ≤ n → n ≤ passed → true ≡ distinct_names s at n k
  unfolding distinct_names
  passed-all l e = let q : n ≡ passed = omega arith in rw q (sym h.differ)

  pub passed-broken : (r : Option RowPlace) → r ≡ row_of place (row_name k (drop place s)) → r ≡ None → passed < n → true ≡ distinct_names s at n k
  unfolding distinct_names
  passed-broken r f g l =
      let e : passed + (n - passed) ≡ n = omega arith in
      rw (
        ← e,
        h.rows (n - passed),
        names-bad k s place (n - passed) (omega arith) (row-broken (row_name k (drop place s)) place (sym f ∙ g)).1,
        append-nil (names passed (row_name k) (drop at s)),
      ) (sym h.differ)

  pub passed-hit : (p : RowPlace) (r : Option RowPlace) → r ≡ row_of place (row_name k (drop place s)) → r ≡ Some p
      → true ≡ among (take p.name (drop (place + 1) s)) (names passed (row_name k) (drop at s)) → passed < n → false ≡ distinct_names s at n k
  unfolding distinct_names
  passed-hit p r f g o l =
      let (w, m, x, q) = row-parts k s place p.name p.end (sym f ∙ g) in
      let e : passed + (n - passed) ≡ n = omega arith in
      rw (← e, h.rows (n - passed), names-good k s place (n - passed) m (take p.name (drop (place + 1) s)) (omega arith) x)
      (sym (differ-hit (take p.name (drop (place + 1) s)) (names passed (row_name k) (drop at s))
      (names (n - passed - 1) (row_name k) (drop (place + m) s)) (sym o)))

module _ (s : List ℕ) (k : Row) (at passed place : ℕ) (p : RowPlace) (r : Option RowPlace) (h : Passed s k at passed place)
    (f : r ≡ row_of place (row_name k (drop place s))) (g : r ≡ Some p) where
  -- the names with that of the row that is next
  pub names-next : names (passed + 1) (row_name k) (drop at s) ≡ names passed (row_name k) (drop at s) ++ take p.name (drop (place + 1) s) ∷ []
  unfolding names
  names-next =
      let (w, c, x, q) = row-parts k s place p.name p.end (sym f ∙ g) in
      h.rows 1 ∙ ap (λ (x : List (List ℕ)). names passed (row_name k) (drop at s) ++ x)
      (names-good k s place 1 c (take p.name (drop (place + 1) s)) (omega arith) x)

  pub passed-more : false ≡ among (take p.name (drop (place + 1) s)) (names passed (row_name k) (drop at s)) → Passed s k at (passed + 1) p.end
  passed-more o =
      let (w, c, x, q) = row-parts k s place p.name p.end (sym f ∙ g) in
      let name : List ℕ = take p.name (drop (place + 1) s) in
      let front : List (List ℕ) = names passed (row_name k) (drop at s) in
      record {
        rows = λ more. ap (λ (x : ℕ). names x (row_name k) (drop at s)) (add_assoc passed 1 more) ∙ h.rows (1 + more) ∙ behind c name more x q
            ∙ sym (append_assoc front (name ∷ []) (names more (row_name k) (drop p.end s)))
            ∙ ap (λ (x : List (List ℕ)). x ++ names more (row_name k) (drop p.end s)) (sym names-next);
        differ = rw names-next (differ-more name front h.differ (sym o));
      }
    where
      behind : (c : ℕ) (name : List ℕ) (more : ℕ) → row_name k (drop place s) ≡ good name c → p.end ≡ place + c
          → names passed (row_name k) (drop at s) ++ names (1 + more) (row_name k) (drop place s) ≡ names passed (row_name k) (drop at s)
          ++ (name ∷ names more (row_name k) (drop p.end s))
      behind c name more y q =
          let z : 1 + more - 1 ≡ more = omega arith in
          ap (λ (x : List (List ℕ)). names passed (row_name k) (drop at s) ++ x) (names-good k s place (1 + more) c name (omega arith) y ∙ rw (z, q))

pub ruleset passing = (rules, passed_none, passed-all, passed-broken)
