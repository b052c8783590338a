use Prim.Native.Nat.{◌≤◌}
use mathlib.Core.Path.{◌≡◌}
use lib.ListN.{length}
use Rattle.names.proofs.Passed.{Passed}
use Rattle.names.proofs.Ordered.{Ordered}
use Rattle.names.proofs.differ_by_order.Given as goal

abbrev pub invariant-loop-passed : goal.invariant-loop-passed
invariant-loop-passed l = (l.n ≤ length l.places) × (length l.places ≡ 1000) × Passed l.s l.row l.at l.passed l.place × Ordered l.places l.s l.row l.at l.passed
