use Prim.Native.Nat.{◌-◌}
use mathlib.Core.Path.{◌≡◌}
use lib.ListN.{drop}
use Rattle.layout.specs.Reading.{times, definition}
use Rattle.parts.specs.Parts.{end_of}
use Rattle.front.proofs.definitions_end.Given as goal

abbrev pub invariant-loop : goal.invariant-loop
invariant-loop l = end_of l.place (times (l.n - l.counter) definition (drop l.place l.file)) ≡ end_of l.at (times l.n definition (drop l.at l.file))
