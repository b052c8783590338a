use mathlib.Core.Path.{refl}
use Rattle.apply.proofs.Sizes.{bytes_fit, counting_step, counted-all, counted-stop}
use Rattle.apply.proofs.new_size.Goals as goal

pub returns-in_default : goal.returns-in_default
returns-in_default c = counted-stop _ _ _ _ _ _ c.loop-tag.invariant _ c.in_default.ensures refl c.loop-tag-test.true

pub overflow_add-bytes : goal.overflow_add-bytes
overflow_add-bytes c =
    bytes_fit _ _ _ _ _ _ c.in-Some.piece _ c.in-Some.ensures refl c.type_inv.sheet c.type_inv.sheet c.loop-tag.bytes c.loop-tag.invariant.short
    c.requires c.loop-tag-test.true

pub loop-tag-preserved : goal.loop-tag-preserved
loop-tag-preserved c =
    counting_step _ _ _ _ _ _ c.loop-tag.invariant _ _ _ c.in-Some.ensures refl c.type_inv.sheet c.loop-tag-test.true c.tags_in-tags.ensures.0
    c.tags_in-tags.ensures.1

pub returns : goal.returns
returns c = counted-all _ _ _ _ _ _ c.loop-tag.invariant c.loop-tag-test.false c.loop-tag.auto.tag-index-end
