use Rattle.saving.proofs.Answered.{laws}
use Rattle.saving.proofs.commit.Goals as goal

pub commit_changes-requires : goal.commit_changes-requires
commit_changes-requires c = search (laws, c.in_ok-asked.was)

pub returns : goal.returns
returns c = search (laws, c.in_ok-asked.was)
