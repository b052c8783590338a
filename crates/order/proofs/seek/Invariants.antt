use Prim.Native.Nat.{◌-◌, ◌≤◌}
use mathlib.Core.Path.{◌≡◌}
use lib.ListN.{length, take}
use Rattle.order.specs.Order.{key, name_at, keys, halves, seek}
use Rattle.order.proofs.seek.Given as goal

abbrev pub invariant-loop-low : goal.invariant-loop-low
invariant-loop-low l = (l.low ≤ l.high) × (l.high ≤ l.count) × (l.count ≤ length l.places)
    × (halves (l.high - l.low) (keys l.s (take l.count l.places)) (key (name_at l.s l.place)) l.low l.high ≡ seek l.s l.places l.count l.place)

abbrev pub decreases-loop-low : goal.decreases-loop-low
decreases-loop-low l = l.high - l.low
