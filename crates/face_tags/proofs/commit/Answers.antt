use Rattle.face_tags.proofs.Laws.{commit-face}
use Rattle.face_tags.proofs.commit.Goals as goal

pub returns : goal.returns
returns c = commit-face _ _ _ _ _ _ c.commit.ensures c.into.ensures
