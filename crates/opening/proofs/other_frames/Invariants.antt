use Prim.Native.Nat.{◌+◌, ◌*◌, ◌-◌, ◌≤◌}
use mathlib.Core.Path.{◌≡◌}
use lib.ListN.{length}
use Rattle.opening.specs.Opened.{other_frames}
use Rattle.opening.proofs.other_frames.Given as goal

abbrev pub invariant-loop : goal.invariant-loop
invariant-loop l = (l.sections ≤ 8) × (l.entry + 16 * (l.count - l.counter) ≤ length l.file)
    × (other_frames l.file l.sections l.index l.first (l.count - l.counter) l.place l.entry l.last ≡ other_frames l.file l.sections l.index l.first l.count l.start (l.index + 4) l.first)
