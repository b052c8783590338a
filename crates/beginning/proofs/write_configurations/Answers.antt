use Prim.Native.Nat.{◌+◌, ◌-◌}
use native.Mathlib.Omega.{arith}
use mathlib.Core.Path.{◌≡◌, ◌∙◌}
use lib.ListN.{length}
use borrow.Author.Rules.{rules}
use Rattle.beginning.proofs.Front.{laws, size_fits, configured-room, configured-step, configured-done, configured-stop}
use Rattle.beginning.proofs.write_configurations.Goals as goal

pub returns-in_default : goal.returns-in_default
returns-in_default c =
    configured-stop c.args.setup.now c.loop.place (c.args.n - c.loop.counter) c.loop.out _ c.loop.to _ (omega arith) c.row_at.ensures c.in_default.is c.loop.invariant.2

pub overflow_add-to : goal.overflow_add-to
overflow_add-to c = size_fits c.args.setup.now c.loop.place c.in-Some.row _ c.row_at.ensures c.in-Some.is (c.args.n - c.loop.counter) (omega arith) c.loop.out c.args.out.now c.loop.to c.loop.invariant.0 c.loop.invariant.1 (omega arith)

pub loop-preserved : goal.loop-preserved
loop-preserved c =
    let later = c.args.n - (c.loop.counter + 1) in
    let same : length c.copy.new.to ≡ length c.loop.out = search rules in (
      configured-room c.args.setup.now c.loop.place c.in-Some.row _ c.row_at.ensures c.in-Some.is (c.args.n - c.loop.counter) (omega arith) c.loop.out c.copy.new.to c.loop.to later same (omega arith) c.loop.invariant.0,
      same ∙ c.loop.invariant.1,
      configured-step c.args.setup.now c.loop.place c.in-Some.row _ c.row_at.ensures c.in-Some.is (c.args.n - c.loop.counter) (omega arith) c.loop.out c.copy.new.to _ c.loop.to later c.loop.invariant.0 c.copy.ensures c.loop.invariant.2 (omega arith),
    )

pub returns : goal.returns
returns c = configured-done c.args.setup.now c.loop.place (c.args.n - c.loop.counter) c.loop.out _ c.loop.to (omega arith) c.loop.invariant.2

pub overflow_add-start : goal.overflow_add-start
overflow_add-start c = search (laws, c.in-Some.is)

pub overflow_add-start-in-loop : goal.overflow_add-start-in-loop
overflow_add-start-in-loop c = search (laws, c.in-Some.is)

pub overflow_sub-size : goal.overflow_sub-size
overflow_sub-size c = search (laws, c.in-Some.is)
