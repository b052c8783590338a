use Rattle.tables.proofs.Laws.{laws}
use Rattle.tables.proofs.tag.Goals as goal

pub returns : goal.returns
returns c = search (laws, c.in_ok-name.was, c.in_ok-value.was)
