use Rattle.face_tags.proofs.Laws.{convert-face}
use Rattle.face_tags.proofs.convert.Goals as goal

pub returns : goal.returns
returns c = convert-face _ _ _ _ _ _ c.convert.ensures c.into.ensures
