use Prim.Native.Nat.{◌+◌, ◌-◌, ◌*◌, ◌≤◌}
use mathlib.Core.Path.{◌≡◌}
use lib.ListN.{length, drop}
use Rattle.layout.specs.Recording.{definition_list_bytes, definitions_end}
use Rattle.setup.specs.SetUp.{rows}
use Rattle.beginning.proofs.definitions_end.Given as goal

abbrev pub invariant-loop : goal.invariant-loop
invariant-loop l = (l.end + length (definition_list_bytes 0 (rows (l.n - l.counter) (drop l.place l.setup))) ≡ definitions_end (rows l.n (drop 1 l.setup)))
    × (l.end + 6 * (l.n - l.counter) ≤ 33 + 6 * l.n + l.place) × (l.place ≤ length l.setup + 1)
