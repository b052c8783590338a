use Rattle.rows.proofs.Laws.{laws}
use Rattle.rows.proofs.row_start.Goals as goal

pub loop-preserved : goal.loop-preserved
loop-preserved c = search (laws, c.in_ok-place.was)
