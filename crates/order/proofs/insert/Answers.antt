use Prim.Native.Nat.{◌+◌, ◌-◌}
use native.Mathlib.Omega.{arith}
use mathlib.Core.Path.{◌≡◌}
use borrow.Author.Rules.{rules}
use Rattle.order.proofs.Seats.{insert-step, insert-done}
use Rattle.order.proofs.insert.Goals as goal

pub loop-i-preserved : goal.loop-i-preserved
loop-i-preserved c =
    let here = c.loop-i.invariant in
    let e : c.loop-i.i - 1 + 1 ≡ c.loop-i.i = omega arith in
    rw e (search rules, search rules, search rules, search rules, insert-step c.loop-i.places c.args.seat c.args.place c.loop-i.i _ (omega arith) here.4)

pub returns : goal.returns
returns c = insert-done c.loop-i.places c.args.seat c.args.place c.loop-i.i _ (omega arith) (omega arith) c.loop-i.invariant.4
