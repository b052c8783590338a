use Prim.Native.Nat.{◌+◌, ◌-◌}
use native.Mathlib.Omega.{arith}
use mathlib.Core.Path.{◌≡◌, ◌∙◌}
use lib.ListN.{length}
use borrow.Author.Rules.{rules}
use Rattle.beginning.proofs.Front.{laws, name-there, definition-room, to-name-fits, to-offset-fits, size_fits, defined-room, configured-room, defined-step, defined-done, defined-stop}
use Rattle.beginning.proofs.write_definitions.Goals as goal

pub returns-in_default : goal.returns-in_default
returns-in_default c =
    defined-stop c.args.setup.now c.loop.place (c.args.n - c.loop.counter) c.loop.out _ c.loop.to c.loop.offset _ (omega arith) c.row_at.ensures c.in_default.is
    c.loop.invariant.3

pub write_definition-requires : goal.write_definition-requires
write_definition-requires c = (
  name-there c.args.setup.now c.loop.place c.in-Some.row _ c.row_at.ensures c.in-Some.is,
  definition-room c.args.setup.now c.loop.place c.in-Some.row _ c.row_at.ensures c.in-Some.is (c.args.n - c.loop.counter) (omega arith) c.loop.out c.loop.to c.loop.offset c.loop.invariant.0,
)

pub overflow_add-to-in-loop-2 : goal.overflow_add-to-in-loop-2
overflow_add-to-in-loop-2 c = to-name-fits c.args.setup.now c.loop.place c.in-Some.row _ c.row_at.ensures c.in-Some.is (c.args.n - c.loop.counter) (omega arith) c.loop.out c.args.out.now c.loop.to c.loop.offset c.loop.invariant.0 c.loop.invariant.2 (omega arith)

pub overflow_add-to-in-loop-3 : goal.overflow_add-to-in-loop-3
overflow_add-to-in-loop-3 c = to-offset-fits c.args.setup.now c.loop.place c.in-Some.row _ c.row_at.ensures c.in-Some.is (c.args.n - c.loop.counter) (omega arith) c.loop.out c.args.out.now c.loop.to c.loop.offset c.loop.invariant.0 c.loop.invariant.2 (omega arith)

pub overflow_add-offset-in-loop-2 : goal.overflow_add-offset-in-loop-2
overflow_add-offset-in-loop-2 c = size_fits c.args.setup.now c.loop.place c.in-Some.row _ c.row_at.ensures c.in-Some.is (c.args.n - c.loop.counter) (omega arith) c.loop.out c.args.out.now c.loop.offset c.loop.invariant.1 c.loop.invariant.2 (omega arith)

pub loop-preserved : goal.loop-preserved
loop-preserved c =
    let later = c.args.n - (c.loop.counter + 1) in
    let same : length c.write_definition.new.out ≡ length c.loop.out = search rules in (
      defined-room c.args.setup.now c.loop.place c.in-Some.row _ c.row_at.ensures c.in-Some.is (c.args.n - c.loop.counter) (omega arith) c.loop.out c.write_definition.new.out c.loop.to c.loop.offset later same (omega arith) c.loop.invariant.0,
      configured-room c.args.setup.now c.loop.place c.in-Some.row _ c.row_at.ensures c.in-Some.is (c.args.n - c.loop.counter) (omega arith) c.loop.out c.write_definition.new.out c.loop.offset later same (omega arith) c.loop.invariant.1,
      same ∙ c.loop.invariant.2,
      defined-step c.args.setup.now c.loop.place c.in-Some.row _ c.row_at.ensures c.in-Some.is (c.args.n - c.loop.counter) (omega arith) c.loop.out c.write_definition.new.out _ c.loop.to c.loop.offset later c.loop.invariant.3 c.write_definition.ensures (omega arith),
    )

pub returns : goal.returns
returns c = defined-done c.args.setup.now c.loop.place (c.args.n - c.loop.counter) c.loop.out _ c.loop.to c.loop.offset (omega arith) c.loop.invariant.3

pub overflow_add-offset : goal.overflow_add-offset
overflow_add-offset c = search (laws, c.in-Some.is)

pub overflow_add-offset-in-loop : goal.overflow_add-offset-in-loop
overflow_add-offset-in-loop c = search (laws, c.in-Some.is)

pub overflow_sub-offset : goal.overflow_sub-offset
overflow_sub-offset c = search (laws, c.in-Some.is)
