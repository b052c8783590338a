use Rattle.face_recording.proofs.Laws.{laws}
use Rattle.face_recording.proofs.begin.Goals as goal

pub returns : goal.returns
returns c = search (laws, c.from.ensures)
