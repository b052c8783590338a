use native.Mathlib.Omega.{arith}
use Rattle.sheet.proofs.Sheets.{changes-step}
use Rattle.sheet.proofs.changes_end.Goals as goal

pub loop-preserved : goal.loop-preserved
loop-preserved c = changes-step _ _ _ _ _ c.loop.invariant _ _ _ c.change_end.ensures c.in_ok-place.was (omega arith)
