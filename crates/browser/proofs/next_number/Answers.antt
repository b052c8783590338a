use Rattle.browser.proofs.Laws.{laws}
use Rattle.browser.proofs.next_number.Goals as goal

pub returns-then-number-tags : goal.returns-then-number-tags
returns-then-number-tags c = search (laws, c.in-Ok.ensures)

pub returns-else-number-tags : goal.returns-else-number-tags
returns-else-number-tags c = search (laws, c.in-Ok.ensures)
