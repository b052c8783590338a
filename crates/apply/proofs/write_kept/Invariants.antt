use Prim.Native.Nat.{◌*◌, ◌-◌}
use mathlib.Core.List.{flat_map}
use Rattle.layout.specs.Recording.{tag_bytes}
use Rattle.apply.specs.Applied.{kept_from}
use Rattle.apply.specs.Runs.{Leads}
use Rattle.apply.proofs.Stores.{Storing}
use Rattle.apply.proofs.write_kept.Given as goal

abbrev pub invariant-loop-k : goal.invariant-loop-k
invariant-loop-k l = Leads l.table l.place l.passed l.walk l.sheet l.list (3 * l.k)
    × Storing l.to (flat_map tag_bytes (kept_from l.table l.place (l.walk.tags - l.passed) l.sheet l.walk.changes)) l.out
    l.initial.out l.start (flat_map tag_bytes (kept_from l.table l.at l.walk.tags l.sheet l.walk.changes))
