use mathlib.Core.Path.{refl}
use Rattle.places.proofs.Searches.{search-row, search-hit, search-step}
use Rattle.places.proofs.search_changes.Goals as goal

pub is_named-requires : goal.is_named-requires
is_named-requires c = (c.requires.0, search-row _ _ _ _ c.loop-number.invariant _ _ c.loop-number-test.true refl)

pub returns-then-is_named : goal.returns-then-is_named
returns-then-is_named c = search-hit _ _ _ _ c.loop-number.invariant _ _ c.loop-number-test.true refl _ c.is_named.ensures c.if-is_named.true

pub loop-number-preserved : goal.loop-number-preserved
loop-number-preserved c = search-step _ _ _ _ c.loop-number.invariant _ _ c.loop-number-test.true refl _ c.is_named.ensures c.if-is_named.false
