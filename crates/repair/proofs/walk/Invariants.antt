use Prim.Native.Nat.{◌-◌, ◌≤◌}
use mathlib.Core.Path.{◌≡◌}
use lib.ListN.{length}
use Rattle.repair.specs.Repaired.{walked_from, walked_in}
use Rattle.repair.proofs.Lengths.{kept}
use Rattle.repair.proofs.walk.Given as goal

abbrev pub invariant-loop-count : goal.invariant-loop-count
invariant-loop-count l = (l.sections ≤ 8) × (length l.lengths ≡ length l.initial.lengths)
    × (walked_from l.file l.sections l.first (1000000 - l.count) l.last l.count l.common l.end ≡ walked_in l.file l.sections l.start)
    × (kept l.file l.sections (1000000 - l.count) l.end l.count l.lengths ≡ kept l.file l.sections 1000000 l.start 0 l.initial.lengths)
