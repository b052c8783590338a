use native.Mathlib.Omega.{arith}
use mathlib.Core.Path.{refl}
use Rattle.std.specs.Prelude.{Some}
use Rattle.names.proofs.Laws.{distinct-step}
use Rattle.names.proofs.differ_by_search.Goals as goal

pub loop-left-preserved : goal.loop-left-preserved
loop-left-preserved c =
    distinct-step c.args.row c.args.s.now c.loop-left.place c.loop-left.left _ c.in-Some.found (Some c.in-Some.found) c.find_name-later.result
    c.is_some.result c.loop-left.invariant (omega arith) c.in-Some.ensures refl c.find_name-later.ensures c.is_some.ensures c.if-is_some.false
