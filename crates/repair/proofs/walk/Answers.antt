use Prim.Native.Nat.{◌+◌, ◌-◌}
use native.Mathlib.Omega.{arith}
use mathlib.Core.Path.{◌≡◌, ap, sym, ◌∙◌}
use Rattle.std.specs.Prelude.{Some, Ok}
use Rattle.repair.specs.Repaired.{step_of}
use Rattle.repair.proofs.Laws.{laws}
use Rattle.repair.proofs.Walks.{walk-goes}
use Rattle.repair.proofs.Lengths.{kept_goes}
use Rattle.repair.proofs.walk.Goals as goal

pub loop-count-preserved : goal.loop-count-preserved
loop-count-preserved c =
    let here = c.loop-count.invariant in
    let k = c.loop-count.count in
    let step = c.in-Some.step in
    let goes : Ok (Some step) ≡ step_of c.args.file.now c.args.sections c.read-first.result c.loop-count.last c.loop-count.end = sym (c.in_ok-step.was ∙ ap Ok c.in-Some.is) ∙ c.frame_step.ensures in
    let e : 1000000 - k ≡ 1000000 - (k + 1) + 1 = omega arith in (
      here.0,
      search laws,
      walk-goes c.args.file.now c.args.sections c.read-first.result (1000000 - k) c.loop-count.last k c.loop-count.common c.loop-count.end _ (1000000 - (k + 1)) step _ c.type_inv.file here.2 goes c.common_length-common.ensures e,
      kept_goes c.args.file.now c.loop-count.lengths _ c.args.sections c.read-first.result c.loop-count.last (1000000 - k) c.loop-count.end k (1000000 - (k + 1)) c.note_length.new.lengths step c.type_inv.file here.3 goes c.note_length.ensures e,
    )

pub returns-in_err-step : goal.returns-in_err-step
returns-in_err-step c = search (laws, c.in_err-step.was)
