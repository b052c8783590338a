use Rattle.converting.proofs.Sizes.{Sizing}
use Rattle.converting.proofs.filled_size.Given as goal

abbrev pub invariant-loop-tag : goal.invariant-loop-tag
invariant-loop-tag l = Sizing l.table l.sheet l.places l.place l.tag-index l.bytes
