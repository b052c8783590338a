use Prim.Native.Nat.{◌-◌}
use mathlib.Core.Path.{◌≡◌}
use Rattle.front.specs.Front.{offsets_at}
use Rattle.front.proofs.later_offsets.Given as goal

abbrev pub invariant-loop : goal.invariant-loop
invariant-loop l = offsets_at l.file l.place (l.definitions - l.counter) l.last ≡ offsets_at l.file l.at l.definitions l.offset
