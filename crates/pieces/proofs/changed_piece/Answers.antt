use Rattle.pieces.proofs.Pieces.{short-kept}
use Rattle.pieces.proofs.changed_piece.Goals as goal

pub with_value-requires : goal.with_value-requires
with_value-requires c = short-kept _ _ _ _ _ _ _ c.row_at.ensures c.in_ok-row.was c.changed_value-value.ensures c.type_inv.table c.type_inv.sheet
