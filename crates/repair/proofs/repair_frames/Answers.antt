use Rattle.repair.proofs.Frames.{frames-kept}
use Rattle.repair.proofs.repair_frames.Goals as goal
use native.Mathlib.Omega.{arith}

pub returns : goal.returns
returns c = frames-kept c.args.file.now c.args.out.now _ c.args.sections c.args.start c.in_ok-walked.walked c.type_inv.file c.in_ok-walked.ensures.0 (omega arith) (omega arith) c.write_tail.ensures
