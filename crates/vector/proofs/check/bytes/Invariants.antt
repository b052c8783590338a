use Rattle.std.proofs.Common.{◌≡◌, drop}
use Rattle.vector.specs.Check.{with_bytes}
use Rattle.vector.proofs.check.bytes.Given as goal

abbrev pub invariant-loop-b : goal.invariant-loop-b
invariant-loop-b l = with_bytes l.sum (drop l.b-index l.s) ≡ with_bytes l.h l.s
