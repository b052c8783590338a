use Rattle.rows.proofs.Laws.{laws}
use Rattle.rows.proofs.row_at.Goals as goal

pub returns : goal.returns
returns c = search (laws, c.in_ok-name.was, c.in_ok-end.was)
