use Rattle.converting.proofs.Stores.{laws}
use Rattle.converting.proofs.put_seen.Goals as goal

pub returns-in_default : goal.returns-in_default
returns-in_default c = search laws

pub returns : goal.returns
returns c = search laws
