use Prim.Native.Nat.{◌+◌, ◌-◌}
use native.Mathlib.Omega.{arith}
use Rattle.beginning.proofs.Front.{ends-step, ends_more, ends-within, ends-done, ends-stop}
use Rattle.beginning.proofs.definitions_end.Goals as goal

pub returns-in_default : goal.returns-in_default
returns-in_default c =
    ends-stop c.args.setup.now c.loop.place (c.args.n - c.loop.counter) c.loop.end _ _ (omega arith) c.row_at.ensures c.in_default.is c.loop.invariant.0

pub loop-preserved : goal.loop-preserved
loop-preserved c =
    let left = c.args.n - c.loop.counter in
    let later = c.args.n - (c.loop.counter + 1) in (
      ends-step c.args.setup.now c.loop.place c.in-Some.row _ c.row_at.ensures c.in-Some.is left (omega arith) c.loop.end _ later c.loop.invariant.0 (omega arith),
      ends_more c.args.setup.now c.loop.place c.in-Some.row _ c.row_at.ensures c.in-Some.is left (omega arith) c.loop.end c.args.n later c.loop.invariant.1 (omega arith),
      ends-within c.args.setup.now c.loop.place c.in-Some.row _ c.row_at.ensures c.in-Some.is,
    )

pub returns : goal.returns
returns c = ends-done c.args.setup.now c.loop.place (c.args.n - c.loop.counter) c.loop.end _ (omega arith) c.loop.invariant.0
