use Rattle.saving.proofs.Answered.{laws}
use Rattle.saving.proofs.commit_changes.Goals as goal

pub apply_changes-requires : goal.apply_changes-requires
apply_changes-requires c = search laws
