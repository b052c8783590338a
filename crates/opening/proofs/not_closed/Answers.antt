use Rattle.std.proofs.Common.{arith}
use Rattle.std.proofs.lemmas.Grind.{common_steps}
use Rattle.opening.specs.Opened.{not_closed_by}
use Rattle.opening.proofs.not_closed.Goals as goal

pub returns-then-file-header-2 : goal.returns-then-file-header-2
unfolding not_closed_by
returns-then-file-header-2 c = grind (arith, common_steps)

pub returns-else-file-header-2 : goal.returns-else-file-header-2
unfolding not_closed_by
returns-else-file-header-2 c = grind (arith, common_steps)
