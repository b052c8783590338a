use lib.ListN.{length}
use Rattle.places.proofs.Walks.{Walking}
use Rattle.places.proofs.find_tags.Given as goal

abbrev pub invariant-loop-passed : goal.invariant-loop-passed
invariant-loop-passed l = Walking l.table l.at l.n l.sheet.bytes.now (length l.sheet.changes.now) l.initial.list l.initial.places l.list l.places l.place l.passed l.words
