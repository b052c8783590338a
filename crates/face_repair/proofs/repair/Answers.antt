use Rattle.face_repair.proofs.Laws.{repair-face}
use Rattle.face_repair.proofs.repair.Goals as goal

pub returns : goal.returns
returns c = repair-face _ _ _ _ _ c.repair.ensures c.into.ensures
