use Prim.Native.Nat.{◌<◌}
use mathlib.Core.Path.{◌≡◌}
use lib.ListN.{take, drop}
use Rattle.marks.specs.Marks.{mix_bytes}
use Rattle.marks.proofs.mix_bytes.Given as goal

abbrev pub invariant-loop-b : goal.invariant-loop-b
invariant-loop-b l = (l.mark < 1099511627776) × (mix_bytes l.mark (drop l.b-index l.b-items) ≡ mix_bytes 0 (take l.n (drop l.at l.s)))
