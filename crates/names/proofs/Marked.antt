-- Names that are marked as rows are passed: a name whose mark is not set stands in none of these rows.
-- Assumes nothing.
use Rattle.std.specs.Prelude.{Option, Some, is_some}
use Prim.Native.Nat.{ℕ, ◌+◌, ◌≤◌}
use native.Mathlib.Omega.{arith}
use mathlib.Core.Path.{◌≡◌, refl, ap, sym, ◌∙◌}
use mathlib.Core.Bool.{Bool, true, false, ◌||◌}
use mathlib.Core.List.{List, [], ◌∷◌, ◌++◌}
use lib.ListN.{length, take, drop}
use Rattle.number.proofs.Bytes.{both_true, and-true}
use Rattle.marks.specs.Marks.{mark_for, mark_of, with_mark, is_marked}
use Rattle.marks.proofs.Laws.{of-there, mark-told, mark-stays}
use Rattle.layout.specs.Recording.{same, among}
use Rattle.layout.proofs.Lists.{same_true}
use Rattle.rows.specs.Rows.{row_name, row_of}
use Rattle.names.specs.Names.{names, find_name, covers}
use Rattle.rows.specs.declared.Row.{Row}
use Rattle.rows.specs.declared.RowPlace.{RowPlace}
use Rattle.names.specs.declared.NameFound.{NameFound}
use Rattle.rows.proofs.Laws.{row-parts}
use Rattle.names.proofs.Laws.{among-found, find-there}
use Rattle.names.proofs.Passed.{Passed, names-next}

-- ── Covered names ──

-- one more name, marked behind the others
pub covers_more : (ms : List ℕ) (n : List ℕ) (ns : List (List ℕ)) → covers ms ns ≡ true → covers (with_mark ms (mark_for n)) (ns ++ n ∷ []) ≡ true
unfolding covers
covers_more ms n [] h = and-true (is_marked (with_mark ms (mark_for n)) (mark_for n)) true (mark-told ms (mark_for n)) refl
covers_more ms n (x ∷ ns) h =
    let (p, q) = both_true (is_marked ms (mark_for x)) (covers ms ns) h in
    and-true (is_marked (with_mark ms (mark_for n)) (mark_for x)) (covers (with_mark ms (mark_for n)) (ns ++ n ∷ []))
    (mark-stays ms (mark_for n) (mark_for x) p) (covers_more ms n ns q)

-- a name whose mark is not set is none of them
pub unmarked : (ms : List ℕ) (n : List ℕ) (ns : List (List ℕ)) → covers ms ns ≡ true → is_marked ms (mark_for n) ≡ false → among n ns ≡ false
unfolding covers among
unmarked ms n [] h e = refl
unmarked ms n (x ∷ ns) h e =
    let (p, q) = both_true (is_marked ms (mark_for x)) (covers ms ns) h in
    go (same n x) refl p (unmarked ms n ns q e)
  where
    go : (b : Bool) → same n x ≡ b → is_marked ms (mark_for x) ≡ true → among n ns ≡ false → (b || among n ns) ≡ false
    go true f p g = let r : n ≡ x = same_true n x f in let z : ◌≡◌ {A = ℕ} 0 1 = cc in absurd (omega arith)
    go false f p g = g

-- ── The rows that were passed ──

pub marked-none : (ms s : List ℕ) (k : Row) (at : ℕ) → covers ms (names 0 (row_name k) (drop at s)) ≡ true
unfolding covers names
marked-none ms s k at = refl

pub marked_more : (ms s : List ℕ) (k : Row) (at passed place m : ℕ) (after : List ℕ) (p : RowPlace) (r : Option RowPlace) → Passed s k at passed place
    → covers ms (names passed (row_name k) (drop at s)) ≡ true → r ≡ row_of place (row_name k (drop place s)) → r ≡ Some p
    → m ≡ mark_of s (place + 1) p.name → after ≡ with_mark ms m → covers after (names (passed + 1) (row_name k) (drop at s)) ≡ true
marked_more ms s k at passed place m after p r h c f g e a =
    rw (a, names-next s k at passed place p r h f g, e ∙ of-there s (place + 1) p.name (row-parts k s place p.name p.end (sym f ∙ g)).0)
    (covers_more ms (take p.name (drop (place + 1) s)) (names passed (row_name k) (drop at s)) c)

-- ── A name among rows that are marked ──

module _ (ms s : List ℕ) (k : Row) (here len at n mark : ℕ) where
  pub stands-unmarked : (b : Bool) → here + len ≤ length s → covers ms (names n (row_name k) (drop at s)) ≡ true → mark ≡ mark_of s here len
      → b ≡ is_marked ms mark → b ≡ false → false ≡ among (take len (drop here s)) (names n (row_name k) (drop at s))
  stands-unmarked b h c e f g =
      sym (unmarked ms (take len (drop here s)) (names n (row_name k) (drop at s)) c
      (ap (λ (m : ℕ). is_marked ms m) (sym (of-there s here len h) ∙ sym e) ∙ sym f ∙ g))

-- a name that was looked for among rows
module _ (s : List ℕ) (k : Row) (here len at n : ℕ) (r : Option NameFound) (b : Bool) (h : here + len ≤ length s) (e : r ≡ find_name s here len s at n k)
    (f : b ≡ is_some r) where
  stands : b ≡ among (take len (drop here s)) (names n (row_name k) (drop at s))
  stands = f ∙ ap is_some (e ∙ find-there s s here len at n k h) ∙ sym (among-found (take len (drop here s)) n (row_name k) s 0 at)

  pub stands-found : b ≡ true → true ≡ among (take len (drop here s)) (names n (row_name k) (drop at s))
  stands-found g = sym g ∙ stands

  pub stands-nowhere : b ≡ false → false ≡ among (take len (drop here s)) (names n (row_name k) (drop at s))
  stands-nowhere g = sym g ∙ stands
