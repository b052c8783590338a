use mathlib.Core.Path.{◌≡◌}
use lib.ListN.{take, drop}
use Rattle.order.specs.Order.{key, turn_of}
use Rattle.order.proofs.by_bytes.Given as goal

abbrev pub invariant-loop-left : goal.invariant-loop-left
invariant-loop-left l = turn_of (key (take l.left (drop l.here l.s))) (key (take l.left (drop l.there l.s)))
    ≡ turn_of (key (take l.n (drop l.here l.s))) (key (take l.n (drop l.there l.s)))
