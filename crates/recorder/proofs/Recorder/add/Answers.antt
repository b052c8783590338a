use Rattle.recorder.proofs.Laws.{laws}
use Rattle.recorder.proofs.Recorder.add.Goals as goal

pub returns : goal.returns
returns c = search (laws, c.in_default.is)

pub returns-in-Err : goal.returns-in-Err
returns-in-Err c = search (laws, c.in-Err.is)
