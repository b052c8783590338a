use Rattle.pieces.proofs.Pieces.{short-fits}
use Rattle.pieces.proofs.with_value.Goals as goal

pub overflow_add-result-2 : goal.overflow_add-result-2
overflow_add-result-2 c = short-fits _ _ _ c.requires c.in-Some.is
