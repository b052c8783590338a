use Prim.Native.Nat.{◌≤◌, ◌+◌, ◌-◌}
use mathlib.Core.Path.{◌≡◌}
use lib.ListN.{length}
use lib.Seq.{sets}
use Rattle.number.specs.Number.{bytes_of}
use Rattle.number.proofs.write.Given as goal

abbrev pub invariant-loop-i : goal.invariant-loop-i
invariant-loop-i l = (l.i ≤ l.w) × (l.at + l.w ≤ length l.out) × (length l.out ≡ length l.initial.out)
    × (sets l.out (l.at + l.i) (bytes_of (l.w - l.i) l.rest) ≡ sets l.initial.out l.at (bytes_of l.w l.n))
