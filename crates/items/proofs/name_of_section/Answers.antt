use Rattle.items.proofs.Laws.{laws}
use Rattle.items.proofs.name_of_section.Goals as goal

pub returns : goal.returns
returns c = search (laws, c.in_ok-place.was, c.in_ok-len.was)
