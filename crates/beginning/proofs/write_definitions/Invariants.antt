use Prim.Native.Nat.{◌+◌, ◌-◌, ◌≤◌}
use mathlib.Core.Path.{◌≡◌}
use lib.ListN.{length, drop}
use lib.Seq.{sets}
use Rattle.layout.specs.Recording.{definition_list_bytes, configurations_bytes}
use Rattle.setup.specs.SetUp.{rows}
use Rattle.beginning.proofs.write_definitions.Given as goal

abbrev pub invariant-loop : goal.invariant-loop
invariant-loop l = (l.to + length (definition_list_bytes l.offset (rows (l.n - l.counter) (drop l.place l.setup))) ≤ length l.out)
    × (l.offset + length (configurations_bytes (rows (l.n - l.counter) (drop l.place l.setup))) ≤ length l.out) × (length l.out ≡ length l.initial.out)
    × (sets l.out l.to (definition_list_bytes l.offset (rows (l.n - l.counter) (drop l.place l.setup))) ≡ sets l.initial.out 34 (definition_list_bytes l.first (rows l.n (drop 1 l.setup))))
