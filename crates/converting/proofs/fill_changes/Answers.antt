use Rattle.converting.proofs.Answered.{laws}
use Rattle.converting.proofs.fill_changes.Goals as goal

pub returns-then-out-filled_size : goal.returns-then-out-filled_size
returns-then-out-filled_size c = search laws

pub returns : goal.returns
returns c = search laws
