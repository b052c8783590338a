use Prim.Native.Nat.{◌+◌, ◌-◌}
use native.Mathlib.Omega.{arith}
use Rattle.frames.proofs.Laws.{sections-step}
use Rattle.frames.proofs.sized_sections.Goals as goal

pub loop-preserved : goal.loop-preserved
loop-preserved c =
    sections-step c.args.file.now c.loop.place c.in_ok-place.place (c.args.sections - c.loop.counter) (c.args.sections - (c.loop.counter + 1)) _ _
    c.loop.invariant c.sized.ensures c.in_ok-place.was (omega arith)
