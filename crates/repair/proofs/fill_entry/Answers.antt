use Rattle.repair.proofs.Laws.{laws}
use Rattle.repair.proofs.fill_entry.Goals as goal

pub returns : goal.returns
returns c = search laws
