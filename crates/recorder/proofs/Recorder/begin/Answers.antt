use Rattle.recorder.proofs.Laws.{laws}
use Rattle.recorder.proofs.Recorder.begin.Goals as goal

pub returns-in-Ok : goal.returns-in-Ok
returns-in-Ok c = search (laws, c.in-Ok.is)

pub returns-in-Err : goal.returns-in-Err
returns-in-Err c = search (laws, c.in-Err.is)
