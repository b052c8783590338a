use mathlib.Core.Path.{refl}
use Rattle.look.proofs.Looks.{looking-step}
use Rattle.look.proofs.compare.Goals as goal

pub loop-tag-preserved : goal.loop-tag-preserved
loop-tag-preserved c =
    looking-step _ _ _ _ _ _ _ c.loop-tag.invariant _ _ _ _ _ c.in-Some.ensures refl c.loop-tag-test.true c.disagrees-conflicts.ensures
    c.with_bit-set.ensures refl
