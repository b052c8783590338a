use mathlib.Core.Path.{refl, ap, ◌∙◌}
use Prim.Native.Nat.{ℕ}
use borrow.Author.Tests.{not-true}
use Rattle.marks.specs.Marks.{is_marked}
use Rattle.places.proofs.Walks.{change-unmarked}
use Rattle.places.proofs.Searches.{mark-whole}
use Rattle.places.proofs.find_change.Goals as goal

pub returns-then-not-marked : goal.returns-then-not-marked
returns-then-not-marked c =
    change-unmarked _ _ _ _ c.marked.result c.requires.covered
    (c.marked.ensures ∙ ap (λ (m : ℕ). is_marked c.args.sheet.filter.now m) (mark-whole _ _ _ c.mark_of-mark.ensures refl)) (search not-true)
