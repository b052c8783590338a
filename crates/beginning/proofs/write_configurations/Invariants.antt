use Prim.Native.Nat.{◌+◌, ◌-◌, ◌≤◌}
use mathlib.Core.Path.{◌≡◌}
use lib.ListN.{length, drop}
use lib.Seq.{sets}
use Rattle.layout.specs.Recording.{configurations_bytes}
use Rattle.setup.specs.SetUp.{rows}
use Rattle.beginning.proofs.write_configurations.Given as goal

abbrev pub invariant-loop : goal.invariant-loop
invariant-loop l = (l.to + length (configurations_bytes (rows (l.n - l.counter) (drop l.place l.setup))) ≤ length l.out) × (length l.out ≡ length l.initial.out)
    × (sets l.out l.to (configurations_bytes (rows (l.n - l.counter) (drop l.place l.setup))) ≡ sets l.initial.out l.first (configurations_bytes (rows l.n (drop 1 l.setup))))
