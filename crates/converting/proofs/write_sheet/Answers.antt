use Rattle.converting.proofs.Stores.{laws}
use Rattle.converting.proofs.write_sheet.Goals as goal

pub returns : goal.returns
returns c = search laws
