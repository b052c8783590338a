use native.Mathlib.Omega.{arith}
use Rattle.apply.proofs.Runs.{last-forward}
use Rattle.apply.proofs.Sizes.{sizing_start, sizing_step, sizing_end, last-bytes-fit}
use Rattle.apply.proofs.kept_size.Goals as goal

pub loop-k-init : goal.loop-k-init
loop-k-init c = sizing_start _ _ _ _ _ c.requires

pub loop-k-preserved : goal.loop-k-preserved
loop-k-preserved c = sizing_step _ _ _ _ _ _ _ _ _ _ _ _ c.loop-k.invariant c.part_at-part.ensures (omega arith)

pub overflow_sub-result-2 : goal.overflow_sub-result-2
overflow_sub-result-2 c = last-forward _ _ _ _ _ _ _ c.loop-k.invariant.leads c.type_inv.table c.type_inv.sheet (omega arith)

pub overflow_add-result-2 : goal.overflow_add-result-2
overflow_add-result-2 c =
    last-bytes-fit _ _ _ _ _ _ _ _ _ c.loop-k.invariant.few c.loop-k.invariant.short c.loop-k.invariant.leads c.type_inv.table c.type_inv.sheet
    (omega arith)

pub returns : goal.returns
returns c = sizing_end _ _ _ _ _ _ _ _ _ _ c.loop-k.invariant c.type_inv.table c.type_inv.sheet (omega arith)
