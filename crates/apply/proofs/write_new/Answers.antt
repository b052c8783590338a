use mathlib.Core.Path.{refl}
use Rattle.apply.proofs.Stores.{write-room, write_step}
use Rattle.apply.proofs.write_new.Goals as goal

pub put_piece-to-requires : goal.put_piece-to-requires
put_piece-to-requires c =
    write-room _ _ _ _ _ _ _ _ _ c.loop-tag.invariant _ c.in-Some.ensures _ refl c.type_inv.sheet c.loop-tag-test.true

pub loop-tag-preserved : goal.loop-tag-preserved
loop-tag-preserved c =
    write_step _ _ _ _ _ _ _ _ _ c.loop-tag.invariant _ c.in-Some.ensures _ refl c.type_inv.sheet c.loop-tag-test.true _ _ c.put_piece-to.ensures.0
    c.put_piece-to.ensures.1
