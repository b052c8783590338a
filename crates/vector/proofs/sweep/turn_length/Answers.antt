use Rattle.std.proofs.Common.{arith}
use Rattle.vector.proofs.Laws.{turn-none, turn-whole, turn-past, turn-cut}
use Rattle.vector.proofs.sweep.turn_length.Goals as goal

pub returns-then-bytes-gt-SPACE : goal.returns-then-bytes-gt-SPACE
returns-then-bytes-gt-SPACE c = turn-none _ _ (omega arith)

pub returns-then-turn-gt0 : goal.returns-then-turn-gt0
returns-then-turn-gt0 c = turn-whole _ _ (omega arith) (omega arith)

pub returns-then-bytes-turn : goal.returns-then-bytes-turn
returns-then-bytes-turn c = turn-past _ _ (omega arith) (omega arith) (omega arith)

pub returns : goal.returns
returns c = turn-cut _ _ (omega arith) (omega arith) (omega arith)
