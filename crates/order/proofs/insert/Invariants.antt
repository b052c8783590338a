use Prim.Native.Nat.{◌-◌, ◌<◌, ◌≤◌}
use mathlib.Core.Path.{◌≡◌}
use lib.ListN.{length, set}
use Rattle.order.specs.Order.{inserted}
use Rattle.order.proofs.Seats.{raised}
use Rattle.order.proofs.insert.Given as goal

abbrev pub invariant-loop-i : goal.invariant-loop-i
invariant-loop-i l = (l.seat ≤ l.i) × (l.i ≤ l.count) × (l.count < length l.places) × (length l.places ≡ length l.initial.places)
    × (set (raised (l.i - l.seat) l.seat l.places) l.seat l.place ≡ inserted l.initial.places l.count l.seat l.place)
