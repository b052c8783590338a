use Rattle.items.proofs.Laws.{laws}
use Rattle.items.proofs.configuration.Goals as goal

pub returns-then-end-found : goal.returns-then-end-found
returns-then-end-found c = search (laws, c.in_ok-place.was, c.in_ok-found.was)

pub returns-then-file-end : goal.returns-then-file-end
returns-then-file-end c = search (laws, c.in_ok-place.was, c.in_ok-found.was)
