use Rattle.saving.proofs.Answered.{laws}
use Rattle.saving.proofs.apply_changes.Goals as goal

pub returns-then-set-gt0 : goal.returns-then-set-gt0
returns-then-set-gt0 c = search laws

pub apply-requires : goal.apply-requires
apply-requires c = search laws

pub returns : goal.returns
returns c = search laws
