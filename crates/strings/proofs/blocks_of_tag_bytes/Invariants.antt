use Prim.Native.Nat.{◌*◌}
use mathlib.Core.Path.{◌≡◌}
use mathlib.Core.Bool.{true}
use lib.ListN.{take, drop}
use Rattle.layout.specs.Recording.{every, is_tag_byte}
use Rattle.strings.proofs.blocks_of_tag_bytes.Given as goal

abbrev pub invariant-loop-block : goal.invariant-loop-block
invariant-loop-block l = true ≡ every is_tag_byte (take (16 * l.block) (drop l.at l.s))
