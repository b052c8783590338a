use Rattle.look.proofs.Looks.{Looking}
use Rattle.look.proofs.compare.Given as goal

abbrev pub invariant-loop-tag : goal.invariant-loop-tag
invariant-loop-tag l = Looking l.table l.sheet l.places l.set l.bit l.place l.tag-index
