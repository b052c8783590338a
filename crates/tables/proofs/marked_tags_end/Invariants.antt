use Prim.Native.Nat.{◌-◌}
use mathlib.Core.Path.{◌≡◌}
use lib.ListN.{length, drop}
use Rattle.layout.specs.Reading.{times, tag}
use Rattle.parts.specs.Parts.{end_of}
use Rattle.tables.proofs.Apart.{Apart}
use Rattle.tables.proofs.marked_tags_end.Given as goal

abbrev pub invariant-loop-passed : goal.invariant-loop-passed
invariant-loop-passed l = (length l.marked ≡ 512)
    × (end_of l.place (times (l.n - l.passed) tag (drop l.place l.s)) ≡ end_of l.at (times l.n tag (drop l.at l.s)))
    × Apart l.apart l.marked l.s l.at l.passed l.place
