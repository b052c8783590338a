use mathlib.Core.Path.{◌∙◌}
use Rattle.items.proofs.Laws.{laws}
use Rattle.items.proofs.section.Goals as goal

pub returns-then-file-place : goal.returns-then-file-place
returns-then-file-place c = search (laws, c.in_ok-place.was)

pub returns-in_err-end : goal.returns-in_err-end
returns-in_err-end c = c.from_residual-in_err-end.ensures ∙ search (laws, c.in_ok-place.was, c.in_ok-start.was, c.in_err-end.was)

pub returns : goal.returns
returns c = search (laws, c.in_ok-place.was, c.in_ok-start.was, c.in_ok-end.was)
