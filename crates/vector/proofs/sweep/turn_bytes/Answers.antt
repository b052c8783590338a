use Rattle.std.proofs.Common.{arith, rules}
use Rattle.vector.proofs.Laws.{turn-first, turn-without, turn-behind, turn-with}
use Rattle.vector.proofs.sweep.turn_bytes.Goals as goal

pub returns-then-value-lt1 : goal.returns-then-value-lt1
returns-then-value-lt1 c = turn-first _ _ _ _ (search rules) (omega arith)

pub returns-then-values-value : goal.returns-then-values-value
returns-then-values-value c = turn-without _ _ _ _ (search rules) (omega arith) (omega arith)

pub returns-then-place-ge-SPACE : goal.returns-then-place-ge-SPACE
returns-then-place-ge-SPACE c = turn-behind _ _ _ _ (search rules) (omega arith) (omega arith) (omega arith)

pub returns : goal.returns
returns c = turn-with _ _ c.copy.new.to _ (search rules) (omega arith) (omega arith) (omega arith)
