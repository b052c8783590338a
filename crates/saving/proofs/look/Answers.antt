use Rattle.saving.proofs.Answered.{laws}
use Rattle.saving.proofs.look.Goals as goal

pub conflicts-requires : goal.conflicts-requires
conflicts-requires c = search (laws, c.in_ok-asked.was)
