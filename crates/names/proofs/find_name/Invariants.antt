use Prim.Native.Nat.{◌≤◌, ◌+◌, ◌-◌}
use mathlib.Core.Path.{◌≡◌}
use lib.ListN.{length, take, drop}
use Rattle.rows.specs.Rows.{row_name}
use Rattle.names.specs.Names.{found, find_name}
use Rattle.names.proofs.find_name.Given as goal

abbrev pub invariant-loop-number : goal.invariant-loop-number
invariant-loop-number l = (l.here + l.len ≤ length l.a)
    × (found (take l.len (drop l.here l.a)) (l.n - l.number) (row_name l.row) l.s l.number l.place ≡ find_name l.a l.here l.len l.s l.at l.n l.row)
