use Rattle.repair.proofs.Order.{repair-behind}
use Rattle.repair.proofs.repair.Goals as goal

pub returns : goal.returns
returns c = repair-behind c.args.file.now c.args.out.now c.in_ok-held.held c.in_ok-held.ensures _ _ _ _ c.open.ensures c.is_ok.ensures.value c.if-is_ok.false c.repair_walked.ensures
