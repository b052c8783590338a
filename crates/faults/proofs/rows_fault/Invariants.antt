use Prim.Native.Nat.{◌+◌, ◌-◌, ◌≤◌}
use mathlib.Core.Path.{◌≡◌}
use mathlib.Core.List.{[]}
use lib.ListN.{length, drop}
use Rattle.layout.specs.Reading.{rows_fault}
use Rattle.faults.specs.Faults.{name_by, rest_by}
use Rattle.faults.proofs.Kept.{Kept}
use Rattle.faults.proofs.rows_fault.Given as goal

abbrev pub invariant-loop-passed : goal.invariant-loop-passed
invariant-loop-passed l = (l.n ≤ 1000) × (length l.places ≡ 1000)
    × Kept l.places l.s l.row l.passed l.place (l.n - l.passed) l.ahead (l.at + rows_fault l.n (name_by l.row) (rest_by l.row) l.before [] (drop l.at l.s))
