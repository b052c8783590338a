use mathlib.Core.Path.{refl}
use Rattle.converting.proofs.Stores.{rows-room, rows_step}
use Rattle.converting.proofs.write_changes.Goals as goal

pub put_row-to-requires : goal.put_row-to-requires
put_row-to-requires c =
    rows-room _ _ _ _ _ _ _ _ _ _ c.loop-tag.invariant _ c.in-Some.ensures _ refl c.loop-tag-test.true

pub loop-tag-preserved : goal.loop-tag-preserved
loop-tag-preserved c =
    rows_step _ _ _ _ _ _ _ _ _ _ c.loop-tag.invariant _ c.in-Some.ensures _ refl c.loop-tag-test.true _ _ c.put_row-to.ensures
