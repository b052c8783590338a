use Prim.Native.Nat.{◌-◌}
use mathlib.Core.Path.{◌≡◌}
use lib.ListN.{drop}
use Rattle.layout.specs.Reading.{times}
use Rattle.parts.specs.Parts.{end_of}
use Rattle.sheet.specs.Sheet.{change_up_to}
use Rattle.sheet.proofs.changes_end.Given as goal

abbrev pub invariant-loop : goal.invariant-loop
invariant-loop l = end_of l.place (times (l.n - l.counter) (change_up_to l.most) (drop l.place l.s)) ≡ end_of l.at
    (times l.n (change_up_to l.most) (drop l.at l.s))
