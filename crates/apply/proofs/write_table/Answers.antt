use Rattle.apply.proofs.Applies.{table-stored}
use Rattle.apply.proofs.write_table.Goals as goal

pub returns : goal.returns
returns c = table-stored _ _ _ _ _ _ _ _ _ c.requires.1 c.write.ensures c.write_kept-end.ensures c.write_new.ensures
