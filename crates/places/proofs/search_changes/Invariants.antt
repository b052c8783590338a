use Rattle.places.proofs.Searches.{Searching}
use Rattle.places.proofs.search_changes.Given as goal

abbrev pub invariant-loop-number : goal.invariant-loop-number
invariant-loop-number l = Searching l.name l.sheet.bytes.now l.sheet.changes.now l.number
