use Prim.Native.Nat.{◌*◌}
use Rattle.apply.proofs.Sizes.{Sizing}
use Rattle.apply.proofs.kept_size.Given as goal

abbrev pub invariant-loop-k : goal.invariant-loop-k
invariant-loop-k l = Sizing l.table l.at l.place l.passed l.walk l.sheet l.list (3 * l.k) l.tags l.bytes
