use Prim.Native.Nat.{◌*◌, ◌-◌}
use mathlib.Core.Path.{◌≡◌}
use lib.ListN.{take, drop}
use Rattle.order.specs.Order.{key, turn_of}
use Rattle.order.proofs.by_words.Given as goal

abbrev pub invariant-loop-passed : goal.invariant-loop-passed
invariant-loop-passed l = turn_of (key (take (l.n - 8 * l.passed) (drop l.here l.s))) (key (take (l.n - 8 * l.passed) (drop l.there l.s)))
    ≡ turn_of (key (take l.n (drop l.here l.s))) (key (take l.n (drop l.there l.s)))
