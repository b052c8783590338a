use Rattle.saving.proofs.Answered.{laws}
use Rattle.saving.proofs.compare_changes.Goals as goal

pub returns : goal.returns
returns c = search laws
