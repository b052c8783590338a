use Rattle.recorder.proofs.Laws.{laws}
use Rattle.recorder.proofs.Recorder.close.Goals as goal

pub returns-then-piece-eq0 : goal.returns-then-piece-eq0
returns-then-piece-eq0 c = search (laws, c.in_default.is)

pub returns : goal.returns
returns c = search (laws, c.in_default.is)

pub returns-in-Err : goal.returns-in-Err
returns-in-Err c = search (laws, c.in-Err.is)
