use Rattle.pieces.proofs.Pieces.{short-new}
use Rattle.pieces.proofs.new_piece.Goals as goal

pub with_value-requires : goal.with_value-requires
with_value-requires c = short-new _ _ _ _ _ c.row_at.ensures c.in_ok-row.was c.new_value-value.ensures c.type_inv.sheet
