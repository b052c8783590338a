use Rattle.rows.proofs.Laws.{laws}
use Rattle.rows.proofs.entries_end.Goals as goal

pub returns : goal.returns
returns c = search (laws, c.in_ok-next.was)
