use Rattle.faults.proofs.Laws.{laws}
use Rattle.faults.proofs.entries_at.Goals as goal

pub returns : goal.returns
returns c = search (laws, c.in_ok-seen.was)
