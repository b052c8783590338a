use mathlib.Core.Path.{refl}
use Rattle.places.proofs.Searches.{named_by}
use Rattle.places.proofs.is_named.Goals as goal

pub returns : goal.returns
returns c = named_by _ _ _ _ c.find_name-found.result _ c.find_name-found.ensures refl c.is_some.ensures
