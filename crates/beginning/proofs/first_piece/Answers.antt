use Rattle.beginning.proofs.Pieces.{laws}
use Rattle.beginning.proofs.first_piece.Goals as goal

pub returns : goal.returns
returns c = search (laws, c.in_ok-refusal_of.was)

pub returns-in_err-refusal_of : goal.returns-in_err-refusal_of
returns-in_err-refusal_of c = search (laws, c.in_err-refusal_of.was)
