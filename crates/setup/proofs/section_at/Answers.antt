use Rattle.setup.proofs.Stops.{laws}
use Rattle.setup.proofs.section_at.Goals as goal

pub returns : goal.returns
returns c = search (laws, c.in-Some.is)
