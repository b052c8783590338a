use Rattle.order.proofs.Laws.{bytes-stop}
use Rattle.order.proofs.by_bytes.Goals as goal

pub returns-then-x-y : goal.returns-then-x-y
returns-then-x-y c =
    bytes-stop _ _ _ c.args.n c.loop-left.left _ c.cmp.result c.loop-left.invariant c.type_inv.s c.loop-left-test.true c.loop-left.auto.left
    c.requires.0 c.requires.1 c.if-x-y.true c.cmp.ensures
