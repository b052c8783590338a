use Prim.Native.Nat.{◌+◌, ◌-◌, ◌*◌, ◌≤◌}
use mathlib.Core.Path.{◌≡◌}
use mathlib.Core.Bool.{true}
use lib.ListN.{length}
use lib.Seq.{sets}
use Rattle.repair.specs.Repaired.{frames_in, alike_in, listed_in, entries_in}
use Rattle.repair.proofs.write_entries.Given as goal

abbrev pub invariant-loop-passed : goal.invariant-loop-passed
invariant-loop-passed l =
    (l.passed ≤ l.count) × (length l.out ≡ length l.initial.out) × (l.entry + 16 * (l.count - l.passed) ≤ length l.out)
    × (frames_in l.file l.sections (l.count - l.passed) l.place ≡ l.count - l.passed)
    × (alike_in l.file l.sections l.common (l.count - l.passed) l.place ≡ true)
    × (listed_in l.file l.sections l.lengths l.passed (l.count - l.passed) l.place ≡ true)
    × (sets l.out l.entry (entries_in l.file l.sections l.first (l.count - l.passed) l.place) ≡ sets l.initial.out 4 (entries_in l.file l.sections l.first l.count l.start))
