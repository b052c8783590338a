use Prim.Native.Nat.{◌+◌, ◌-◌, ◌*◌, ◌≤◌}
use mathlib.Core.Path.{◌≡◌}
use lib.ListN.{length, take, drop}
use Rattle.layout.specs.Recording.{same}
use Rattle.parts.proofs.same_blocks.Given as goal

abbrev pub invariant-loop-block : goal.invariant-loop-block
invariant-loop-block l =
    (l.i + 16 * (l.blocks - l.block) ≤ length l.a) × (l.j + 16 * (l.blocks - l.block) ≤ length l.b)
    × (same (take (16 * (l.blocks - l.block)) (drop l.i l.a)) (take (16 * (l.blocks - l.block)) (drop l.j l.b))
    ≡ same (take (16 * l.blocks) (drop l.here l.a)) (take (16 * l.blocks) (drop l.there l.b)))
