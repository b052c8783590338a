use Rattle.converting.proofs.Stores.{laws}
use Rattle.converting.proofs.put_row.Goals as goal

pub returns-then-sheet-seen-eq2 : goal.returns-then-sheet-seen-eq2
returns-then-sheet-seen-eq2 c = search laws

pub returns : goal.returns
returns c = search laws
