use Prim.Native.Nat.{◌-◌}
use mathlib.Core.Path.{◌≡◌}
use Rattle.frames.specs.Frames.{sections_at}
use Rattle.frames.proofs.sized_sections.Given as goal

abbrev pub invariant-loop : goal.invariant-loop
invariant-loop l = sections_at l.file l.place (l.sections - l.counter) ≡ sections_at l.file l.at l.sections
