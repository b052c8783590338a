use Prim.Native.Nat.{◌+◌, ◌≤◌}
use native.Mathlib.Omega.{arith}
use mathlib.Core.Path.{◌≡◌, refl, ◌∙◌}
use mathlib.Core.Bool.{false}
use lib.ListN.{take, drop}
use Rattle.std.specs.Prelude.{Some}
use Rattle.layout.specs.Recording.{among}
use Rattle.rows.specs.Rows.{row_name}
use Rattle.names.specs.Names.{names}
use Rattle.names.proofs.Passed.{passed_none, passed-hit, passed-more}
use Rattle.names.proofs.Laws.{row-name-there}
use Rattle.names.proofs.Marked.{marked-none, marked_more, stands-unmarked, stands-found, stands-nowhere}
use Rattle.names.proofs.differ_by_marks.Goals as goal
use Rattle.names.proofs.differ_by_marks.Goals.{then-marked+else-searches-eq-MOST_SEARCHES+else-is_some, else-marked}

pub loop-passed-init : goal.loop-passed-init
loop-passed-init c = (omega arith, refl, passed_none _ _ _, marked-none _ c.args.s.now _ c.args.at)

pub returns-then-is_some : goal.returns-then-is_some
returns-then-is_some c =
    passed-hit _ _ _ _ _ _ c.loop-passed.invariant.2 _ _ c.in-Some.ensures refl
    (stands-found _ _ _ _ _ _ _ _ (row-name-there _ _ _ _ _ c.in-Some.ensures refl) c.find_name-earlier.ensures c.is_some.ensures c.if-is_some.true)
    c.loop-passed-test.true

pub loop-passed-preserved : goal.loop-passed-preserved
loop-passed-preserved c =
    let (h, l, p, m) = c.loop-passed.invariant in
    let there = row-name-there _ _ _ _ (Some c.in-Some.found) c.in-Some.ensures refl in
    let few : c.if-marked.searches ≤ 2 = elim c.if-marked.branch [
      | then-marked+else-searches-eq-MOST_SEARCHES+else-is_some w ↦ omega arith
      | else-marked w ↦ omega arith
    ] in
    let new : false ≡ among (take c.in-Some.found.name (drop (c.loop-passed.place + 1) c.args.s.now))
    (names c.loop-passed.passed (row_name c.args.row) (drop c.args.at c.args.s.now)) = elim c.if-marked.branch [
      | then-marked+else-searches-eq-MOST_SEARCHES+else-is_some w ↦
          stands-nowhere _ _ _ _ _ _ _ _ there w.find_name-earlier.ensures w.is_some.ensures w.if-is_some.false
      | else-marked w ↦ stands-unmarked _ _ _ _ _ _ _ _ _ there m c.mark_of-mark.ensures c.marked.ensures w.if-marked.false
    ] in (
      few,
      c.mark.auto.marks ∙ l,
      passed-more _ _ _ _ _ _ _ p c.in-Some.ensures refl new,
      marked_more _ _ _ _ _ _ _ _ _ _ p m c.in-Some.ensures refl c.mark_of-mark.ensures c.mark.ensures,
    )
