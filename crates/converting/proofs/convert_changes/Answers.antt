use Rattle.converting.proofs.Answered.{laws}
use Rattle.converting.proofs.convert_changes.Goals as goal

pub fill_changes-requires : goal.fill_changes-requires
fill_changes-requires c = search laws
