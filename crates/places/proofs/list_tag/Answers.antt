use Rattle.places.proofs.Walks.{none_end, none-listed, tag-end, tag-listed}
use Rattle.places.proofs.list_tag.Goals as goal

pub returns-in_default : goal.returns-in_default
returns-in_default c = (none_end _ _ _ _ c.in_default.is, none-listed _ _ _ _ _ c.in_default.is)

pub returns : goal.returns
returns c = (
  tag-end _ _ _ _ _ c.in-Some.is,
  tag-listed _ _ _ _ _ _ _ _ _ c.in-Some.is c.store.ensures c.store-2.ensures c.store-3.ensures,
)
