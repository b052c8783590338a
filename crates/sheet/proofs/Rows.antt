-- The rows of a table or a sheet one by one, also with a place beside each.
-- Assumes nothing.
use Rattle.std.specs.Prelude.{Option, Some, None}
use Prim.Native.Nat.{ℕ, zero, suc, ◌+◌, ◌-◌, ◌<◌, ◌≤◌}
use native.Mathlib.Omega.{arith}
use mathlib.Core.Path.{◌≡◌, refl, sym, ◌∙◌}
use mathlib.Core.List.{List, [], ◌∷◌}
use lib.ListN.{length, take, drop, get_or}
use lib.Seq.{drop-drop, drop-cons}
use Rattle.layout.specs.Reading.{Reader, bad, good}
use Rattle.rows.specs.Rows.{row_name, row_of}
use Rattle.rows.specs.declared.Row.{Row}
use Rattle.rows.specs.declared.RowPlace.{RowPlace}
use Rattle.rows.proofs.Laws.{row-broken}
use Rattle.sheet.specs.Rows.{rows, row_with, pair, beside}
use Rattle.sheet.proofs.Values.{row_makes, row-makes-none}

-- rows of which the first was read, or not
pub rows_more : {A : Type 0} (n : ℕ) (p : Reader A) (t : List ℕ) (x : A) (m : ℕ) → p t ≡ good x m → rows (suc n) p t ≡ x ∷ rows n p (drop m t)
unfolding rows
rows_more n p t x m e = rw (e, rows)

pub rows_none : {A : Type 0} (n : ℕ) (p : Reader A) (t : List ℕ) {m : ℕ} → p t ≡ bad m → rows (suc n) p t ≡ []
unfolding rows
rows_none n p t e = rw (e, rows)

pub no_rows : {A : Type 0} (p : Reader A) (t : List ℕ) → rows 0 p t ≡ []
unfolding rows
no_rows p t = refl

-- the rows of a table or a sheet, one by one
pub rows-done : {A : Type 0} (p : Reader A) (s : List ℕ) (at left : ℕ) → left ≤ 0 → rows left p (drop at s) ≡ []
rows-done p s at zero h = no_rows p (drop at s)
rows-done p s at (suc left) h = absurd (omega arith)

pub rows-stop : {A : Type 0} (k : Row) (make : List ℕ → List ℕ → A) (s : List ℕ) (at left : ℕ) (r : Option RowPlace)
    → r ≡ row_of at (row_name k (drop at s)) → r ≡ None → rows left (row_with k make) (drop at s) ≡ []
rows-stop k make s at zero r e f = no_rows (row_with k make) (drop at s)
rows-stop k make s at (suc left) r e f = rows_none left (row_with k make) (drop at s)
    (row-makes-none k make (drop at s) (row-broken (row_name k (drop at s)) at (sym e ∙ f)).1)

pub rows_step : {A : Type 0} (k : Row) (make : List ℕ → List ℕ → A) (s : List ℕ) (at left : ℕ) (p : RowPlace) (r : Option RowPlace)
    → r ≡ row_of at (row_name k (drop at s)) → r ≡ Some p → 0 < left
    → rows left (row_with k make) (drop at s) ≡ make (take p.name (drop (at + 1) s)) (drop (at + 1 + p.name) s) ∷ rows (left - 1) (row_with k make)
    (drop p.end s)
rows_step k make s at zero p r e f h = absurd (omega arith)
rows_step k make s at (suc left) p r e f h =
    row_makes k make s at p (sym e ∙ f) (λ m x q.
    let j : suc left - 1 ≡ left = omega arith in
    rows_more left (row_with k make) (drop at s) _ m x ∙ rw (j, q, drop-drop m at s))

-- the same with a place beside each
pub beside_none : {A : Type 0} (ps : List ℕ) → beside {A = A} ps [] ≡ []
unfolding beside
beside_none [] = refl
beside_none (p ∷ ps) = refl

pub beside-done : {A : Type 0} (p : Reader A) (ps s : List ℕ) (i at left : ℕ) → left ≤ 0 → beside (drop i ps) (rows left p (drop at s)) ≡ []
beside-done p ps s i at left h = rw (rows-done p s at left h) (beside_none (drop i ps))

pub beside-stop : {A : Type 0} (k : Row) (make : List ℕ → List ℕ → A) (ps s : List ℕ) (i at left : ℕ) (r : Option RowPlace)
    → r ≡ row_of at (row_name k (drop at s)) → r ≡ None → beside (drop i ps) (rows left (row_with k make) (drop at s)) ≡ []
beside-stop k make ps s i at left r e f = rw (rows-stop k make s at left r e f) (beside_none (drop i ps))

pub beside-step : {A : Type 0} (k : Row) (make : List ℕ → List ℕ → A) (ps s : List ℕ) (i at left : ℕ) (p : RowPlace) (r : Option RowPlace)
    → r ≡ row_of at (row_name k (drop at s)) → r ≡ Some p → 0 < left → i + left ≤ length ps
    → beside (drop i ps) (rows left (row_with k make) (drop at s)) ≡ pair (get_or ps i 0)
    (make (take p.name (drop (at + 1) s)) (drop (at + 1 + p.name) s)) ∷ beside (drop (i + 1) ps) (rows (left - 1) (row_with k make) (drop p.end s))
unfolding beside
beside-step k make ps s i at left p r e f h l =
    let j : i + 1 ≡ suc i = omega arith in
    rw (rows_step k make s at left p r e f h, drop-cons ps i 0 (omega arith), j)
