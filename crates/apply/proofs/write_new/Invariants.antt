use mathlib.Core.List.{flat_map}
use lib.ListN.{drop}
use Rattle.layout.specs.Recording.{tag_bytes}
use Rattle.pieces.specs.Added.{added_by}
use Rattle.pieces.specs.declared.Side.TheVariants as side
use Rattle.apply.proofs.Stores.{Storing}
use Rattle.apply.proofs.write_new.Given as goal

abbrev pub invariant-loop-tag : goal.invariant-loop-tag
invariant-loop-tag l = Storing l.to (flat_map tag_bytes (added_by side.New l.sheet l.sheet l.place (drop l.tag-index l.places))) l.out l.initial.out l.start
    (flat_map tag_bytes (added_by side.New l.sheet l.sheet 1 l.places))
