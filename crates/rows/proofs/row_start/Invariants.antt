use Prim.Native.Nat.{◌-◌}
use mathlib.Core.Path.{◌≡◌}
use lib.ListN.{drop}
use Rattle.layout.specs.Reading.{times}
use Rattle.parts.specs.Parts.{end_of}
use Rattle.rows.specs.Rows.{row_name}
use Rattle.rows.proofs.row_start.Given as goal

abbrev pub invariant-loop : goal.invariant-loop
invariant-loop l = end_of l.place (times (l.i - l.counter) (row_name l.row) (drop l.place l.s)) ≡ end_of l.at (times l.i (row_name l.row) (drop l.at l.s))
