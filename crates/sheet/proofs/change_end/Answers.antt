use Rattle.sheet.proofs.Sheets.{laws}
use Rattle.sheet.proofs.change_end.Goals as goal

pub returns : goal.returns
returns c = search (laws, c.in_ok-n.was, c.in_ok-next.was)
