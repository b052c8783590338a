use Rattle.front.proofs.Faults.{laws}
use Rattle.front.proofs.first_elsewhere.Goals as goal

pub returns : goal.returns
returns c = search (laws, c.in-Some.ensures, c.in-Some-definitions_end.ensures)
