use mathlib.Core.Path.{refl}
use Rattle.converting.proofs.Sizes.{row-kinds, row_ends, sized-all, sized-stop, sizing_step, sizing_fits}
use Rattle.converting.proofs.filled_size.Goals as goal

pub returns-in_default : goal.returns-in_default
returns-in_default c = sized-stop _ _ _ _ _ _ c.loop-tag.invariant _ c.in_default.ensures refl

pub row_size-bytes-requires : goal.row_size-bytes-requires
row_size-bytes-requires c = (row-kinds _ _ _ _ c.in-Some.ensures refl, row_ends _ _ _ _ c.in-Some.ensures refl, c.requires.1)

pub overflow_add-bytes : goal.overflow_add-bytes
overflow_add-bytes c =
    sizing_fits _ _ _ _ _ _ c.loop-tag.invariant _ c.in-Some.ensures _ refl c.loop-tag-test.true _ c.row_size-bytes.ensures.1 c.requires.2
    c.requires.1

pub loop-tag-preserved : goal.loop-tag-preserved
loop-tag-preserved c =
    sizing_step _ _ _ _ _ _ c.loop-tag.invariant _ c.in-Some.ensures _ refl c.loop-tag-test.true _ c.row_size-bytes.ensures.1
    c.row_size-bytes.ensures.0

pub returns : goal.returns
returns c = sized-all _ _ _ _ _ _ c.loop-tag.invariant c.loop-tag-test.false
