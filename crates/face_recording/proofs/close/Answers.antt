use Rattle.face_recording.proofs.Laws.{laws}
use Rattle.face_recording.proofs.close.Goals as goal

pub returns : goal.returns
returns c = search (laws, c.from.ensures)
