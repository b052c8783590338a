use native.Mathlib.Omega.{arith}
use Rattle.apply.proofs.Runs.{kept-onward, last-forward}
use Rattle.apply.proofs.Stores.{keep-room, keep-step, last-room, last_written}
use Rattle.apply.proofs.write_kept.Goals as goal

pub put_piece-to-requires : goal.put_piece-to-requires
put_piece-to-requires c = keep-room _ _ _ _ _ _ _ _ _ _ _ _ c.loop-k.invariant.1 _ c.part_at-part.ensures

pub loop-k-preserved : goal.loop-k-preserved
loop-k-preserved c = (
  kept-onward _ _ _ _ _ _ _ _ c.part_at-part.ensures _ (omega arith),
  keep-step _ _ _ _ _ _ _ _ _ _ _ _ c.loop-k.invariant.1 _ c.part_at-part.ensures _ _ c.put_piece-to.ensures.0 c.put_piece-to.ensures.1,
)

pub overflow_sub-last : goal.overflow_sub-last
overflow_sub-last c = last-forward _ _ _ _ _ _ _ c.loop-k.invariant.0 c.type_inv.table c.type_inv.sheet (omega arith)

pub put_piece-requires : goal.put_piece-requires
put_piece-requires c = last-room _ _ _ _ _ _ _ _ _ _ _ _ c.loop-k.invariant.1 c.loop-k.invariant.0 c.type_inv.table c.type_inv.sheet (omega arith)

pub returns : goal.returns
returns c =
    last_written _ _ _ _ _ _ _ _ _ _ _ _ c.loop-k.invariant.1 c.loop-k.invariant.0 c.type_inv.table c.type_inv.sheet (omega arith) _ _
    c.put_piece.ensures.0 c.put_piece.ensures.1
