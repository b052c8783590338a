use Rattle.apply.proofs.Applies.{apply-room}
use Rattle.apply.proofs.apply_list.Goals as goal

pub write_table-requires : goal.write_table-requires
write_table-requires c = (c.requires.1, apply-room _ _ c.args.walk _ _ _ _ _ c.kept_size-kept.ensures.0 c.new_size-new.ensures.0 c.if-out-bytes.false)
