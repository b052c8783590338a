use Rattle.front.proofs.Faults.{laws}
use Rattle.front.proofs.sections_fault.Goals as goal

pub returns : goal.returns
returns c = search (laws, c.in-Some.ensures)
