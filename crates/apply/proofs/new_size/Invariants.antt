use Rattle.apply.proofs.Sizes.{Counting}
use Rattle.apply.proofs.new_size.Given as goal

abbrev pub invariant-loop-tag : goal.invariant-loop-tag
invariant-loop-tag l = Counting l.sheet l.places l.place l.tag-index l.tags l.bytes
