use Prim.Native.Nat.{◌<◌}
use mathlib.Core.Path.{◌≡◌}
use lib.ListN.{drop}
use Rattle.marks.specs.Marks.{mix_words}
use Rattle.marks.proofs.mix_words.Given as goal

abbrev pub invariant-loop-k : goal.invariant-loop-k
invariant-loop-k l = (l.mark < 1099511627776) × (l.mark ≡ mix_words l.k 0 (drop l.at l.s))
