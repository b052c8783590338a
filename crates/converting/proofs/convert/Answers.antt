use Rattle.converting.proofs.Answered.{laws}
use Rattle.converting.proofs.convert.Goals as goal

pub convert_changes-requires : goal.convert_changes-requires
convert_changes-requires c = search (laws, c.in_ok-asked.was)

pub returns : goal.returns
returns c = search (laws, c.in_ok-asked.was)
