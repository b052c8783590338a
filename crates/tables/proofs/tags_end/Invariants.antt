use Prim.Native.Nat.{◌-◌}
use mathlib.Core.Path.{◌≡◌}
use lib.ListN.{drop}
use Rattle.layout.specs.Reading.{times, tag}
use Rattle.parts.specs.Parts.{end_of}
use Rattle.tables.proofs.tags_end.Given as goal

abbrev pub invariant-loop : goal.invariant-loop
invariant-loop l = end_of l.place (times (l.n - l.counter) tag (drop l.place l.s)) ≡ end_of l.at (times l.n tag (drop l.at l.s))
