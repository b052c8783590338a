use native.Mathlib.Omega.{arith}
use mathlib.Core.Path.{refl, ◌∙◌}
use Rattle.std.specs.Prelude.{Some}
use Rattle.names.proofs.Ordered.{ordered-none, ordered-passed, ordered-more}
use Rattle.names.proofs.Passed.{passed_none}
use Rattle.names.proofs.differ_by_order.Goals as goal

pub loop-passed-init : goal.loop-passed-init
loop-passed-init c = (omega arith, refl, passed_none _ _ _, ordered-none _ c.args.s.now _ c.args.at)

pub loop-passed-preserved : goal.loop-passed-preserved
loop-passed-preserved c =
    let (h, l, p, o) = c.loop-passed.invariant in (
      omega (arith, c.insert.auto.places),
      c.insert.auto.places ∙ l,
      ordered-passed _ _ _ _ _ _ _ _ (Some c.in-Some-seek.seat) p o c.type_inv.s c.in-Some.ensures refl c.in-Some-seek.ensures c.in-Some-seek.seat refl
          (omega arith),
      ordered-more _ _ _ _ _ _ _ _ (Some c.in-Some-seek.seat) p o c.type_inv.s c.in-Some.ensures refl c.in-Some-seek.ensures c.in-Some-seek.seat refl
          (omega arith) _ c.insert.ensures,
    )
