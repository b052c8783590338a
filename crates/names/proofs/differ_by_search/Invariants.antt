use mathlib.Core.Path.{◌≡◌}
use lib.ListN.{drop}
use Rattle.layout.specs.Recording.{distinct}
use Rattle.rows.specs.Rows.{row_name}
use Rattle.names.specs.Names.{names, distinct_names}
use Rattle.names.proofs.differ_by_search.Given as goal

abbrev pub invariant-loop-left : goal.invariant-loop-left
invariant-loop-left l = distinct (names l.left (row_name l.row) (drop l.place l.s)) ≡ distinct_names l.s l.at l.n l.row
