use Prim.Native.Nat.{◌≤◌}
use mathlib.Core.Path.{◌≡◌}
use mathlib.Core.Bool.{true}
use lib.ListN.{length, drop}
use Rattle.rows.specs.Rows.{row_name}
use Rattle.names.specs.Names.{names, covers}
use Rattle.names.proofs.Passed.{Passed}
use Rattle.names.proofs.differ_by_marks.Given as goal

abbrev pub invariant-loop-passed : goal.invariant-loop-passed
invariant-loop-passed l = (l.searches ≤ 2) × (length l.marked ≡ 512) × Passed l.s l.row l.at l.passed l.place
    × (covers l.marked (names l.passed (row_name l.row) (drop l.at l.s)) ≡ true)
