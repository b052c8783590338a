use mathlib.Core.Path.{◌≡◌}
use lib.ListN.{take, drop}
use Rattle.layout.specs.Recording.{every, is_tag_byte}
use Rattle.strings.proofs.tag_block.Given as goal

abbrev pub invariant-loop-b : goal.invariant-loop-b
invariant-loop-b g l = l.all ≡ every is_tag_byte (take l.b-index (drop l.at l.s))
