use Prim.Native.Nat.{◌+◌, ◌-◌}
use native.Mathlib.Omega.{arith}
use mathlib.Core.Path.{◌≡◌, refl}
use Rattle.places.proofs.Walks.{walked-all, walked-full, walked-stop, walking-step}
use Rattle.places.proofs.find_tags.Goals as goal

pub returns-then-words-sheet : goal.returns-then-words-sheet
returns-then-words-sheet c = walked-full _ _ _ _ _ _ _ _ _ _ _ _ c.loop-passed.invariant c.if-words-sheet.true

pub returns-in_default : goal.returns-in_default
returns-in_default c = walked-stop _ _ _ _ _ _ _ _ _ _ _ _ c.loop-passed.invariant _ c.in_default.ensures refl

pub loop-passed-preserved : goal.loop-passed-preserved
loop-passed-preserved c =
    let q : c.loop-passed.place + 1 + c.in-Some.row.name - (c.loop-passed.place + 1) ≡ c.in-Some.row.name = omega arith in
    walking-step _ _ _ _ _ _ _ _ _ _ _ _ c.loop-passed.invariant _ _ _ _ _ c.find_change-found.result c.loop-passed-test.true c.if-words-sheet.false
    c.in-Some.ensures refl (rw q at c.find_change-found.ensures) c.list_tag-words.ensures.0 c.list_tag-words.ensures.1 c.note.ensures

pub returns : goal.returns
returns c = walked-all _ _ _ _ _ _ _ _ _ _ _ _ c.loop-passed.invariant c.loop-passed-test.false
