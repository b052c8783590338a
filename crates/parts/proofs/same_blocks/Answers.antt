use Prim.Native.Nat.{◌+◌, ◌-◌, ◌*◌}
use native.Mathlib.Omega.{arith}
use Rattle.parts.proofs.Same.{blocks_next}
use Rattle.parts.proofs.same_blocks.Goals as goal

pub loop-block-preserved : goal.loop-block-preserved
loop-block-preserved c =
    let left = 16 * (c.args.blocks - c.loop-block.block) in
    let next = 16 * (c.args.blocks - (c.loop-block.block + 1)) in
    let here = c.loop-block.invariant in
    let same = c.same_sixteen.ensures in
    (omega arith, omega arith, blocks_next c.args.a.now c.args.b.now c.loop-block.i c.loop-block.j left _ _ next here.2 same c.if-not-same_sixteen.false (omega arith) here.0 here.1)
