use lib.ListN.{drop}
use Rattle.apply.proofs.Stores.{Storing}
use Rattle.converting.specs.Filling.{filled_from}
use Rattle.converting.proofs.write_changes.Given as goal

abbrev pub invariant-loop-tag : goal.invariant-loop-tag
invariant-loop-tag l = Storing l.to (filled_from l.table l.sheet l.place (drop l.tag-index l.places)) l.out l.initial.out l.start (filled_from l.table l.sheet 1 l.places)
