use Rattle.places.proofs.Searches.{Marking}
use Rattle.places.proofs.mark_names.Given as goal

abbrev pub invariant-loop-passed : goal.invariant-loop-passed
invariant-loop-passed l = Marking l.sheet l.count l.initial.filter l.filter l.initial.changes l.changes l.place l.passed
