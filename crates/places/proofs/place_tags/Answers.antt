use Rattle.places.proofs.Walks.{place-few}
use Rattle.places.proofs.Searches.{marks-told}
use Rattle.places.proofs.place_tags.Goals as goal

pub slice_bounds-changes-end : goal.slice_bounds-changes-end
slice_bounds-changes-end c = (marks-told _ _ _ _ _ c.if-places-gt-MOST_CHANGES.false c.mark_names-whole.ensures).room

pub slice_bounds-marked-end-2 : goal.slice_bounds-marked-end-2
slice_bounds-marked-end-2 c = (marks-told _ _ _ _ _ c.if-places-gt-MOST_CHANGES.false c.mark_names-whole.ensures).long

pub find_tags-requires : goal.find_tags-requires
find_tags-requires c =
    let t = marks-told _ _ _ _ _ c.if-places-gt-MOST_CHANGES.false c.mark_names-whole.ensures in
    (t.few, t.marked)

pub returns : goal.returns
returns c =
    let t = marks-told _ _ _ _ _ c.if-places-gt-MOST_CHANGES.false c.mark_names-whole.ensures in
    place-few _ _ _ _ _ _ _ _ _ _ c.if-places-gt-MOST_CHANGES.false t.whole c.find_tags.ensures.0 c.find_tags.ensures.1 c.find_tags.ensures.2
