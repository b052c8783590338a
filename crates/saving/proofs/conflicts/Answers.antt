use Rattle.saving.proofs.Answered.{laws}
use Rattle.saving.proofs.conflicts.Goals as goal

pub compare_changes-requires : goal.compare_changes-requires
compare_changes-requires c = search laws
