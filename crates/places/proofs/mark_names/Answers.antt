use mathlib.Core.Path.{refl}
use Rattle.places.proofs.Searches.{marked-all, marked-stop, marking-step}
use Rattle.places.proofs.mark_names.Goals as goal

pub returns-in_default : goal.returns-in_default
returns-in_default c = marked-stop _ _ _ _ _ _ _ _ c.loop-passed.invariant _ c.in_default.ensures refl

pub loop-passed-preserved : goal.loop-passed-preserved
loop-passed-preserved c =
    marking-step _ _ _ _ _ _ _ _ c.loop-passed.invariant _ _ _ _ c.loop-passed-test.true c.in-Some.ensures refl c.mark_of-mark.ensures
    c.mark.ensures

pub returns : goal.returns
returns c = marked-all _ _ _ _ _ _ _ _ c.loop-passed.invariant c.loop-passed-test.false c.loop-passed.auto.passed-end
