use Prim.Native.Nat.{◌+◌, ◌-◌}
use mathlib.Core.Path.{◌≡◌}
use lib.ListN.{length, take, drop}
use lib.Seq.{sets}
use Rattle.parts.proofs.copy.Given as goal

abbrev pub invariant-loop-i : goal.invariant-loop-i
invariant-loop-i l = (length l.to ≡ length l.initial.to)
    × (sets l.to (l.at + l.i) (take (l.n - l.i) (drop (l.start + l.i) l.from)) ≡ sets l.initial.to l.at (take l.n (drop l.start l.from)))
