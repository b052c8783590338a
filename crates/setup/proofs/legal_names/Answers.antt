use Prim.Native.Nat.{◌+◌, ◌-◌}
use native.Mathlib.Omega.{arith}
use Rattle.setup.proofs.SetUp.{names-wrong, names-step}
use Rattle.setup.proofs.legal_names.Goals as goal

pub returns-then-is_none : goal.returns-then-is_none
returns-then-is_none c =
    names-wrong c.args.setup.now c.loop.place (c.args.n - c.loop.counter) _ c.loop.invariant (c.args.n - (c.loop.counter + 1)) c.in-Some.row _
    c.row_at.ensures c.in-Some.is (omega arith) _ _ c.section_name.ensures c.is_none.ensures c.if-is_none.true

pub loop-preserved : goal.loop-preserved
loop-preserved c =
    names-step c.args.setup.now c.loop.place (c.args.n - c.loop.counter) _ c.loop.invariant (c.args.n - (c.loop.counter + 1)) c.in-Some.row _
    c.row_at.ensures c.in-Some.is (omega arith) _ _ c.section_name.ensures c.is_none.ensures c.if-is_none.false
