use Prim.Native.Nat.{◌+◌, ◌-◌}
use native.Mathlib.Omega.{arith}
use lib.ListN.{take, drop}
use Rattle.marks.proofs.Laws.{bytes-more}
use Rattle.marks.proofs.mix_bytes.Goals as goal

pub loop-b-preserved : goal.loop-b-preserved
loop-b-preserved c =
    let items = take (c.args.at + c.args.n - c.args.at) (drop c.args.at c.args.s.now) in
    (omega arith, bytes-more items c.loop-b.mark c.loop-b.b-index c.mix-mark.result _ c.loop-b.invariant.1 (omega arith) c.mix-mark.ensures.0)
