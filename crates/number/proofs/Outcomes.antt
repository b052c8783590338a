-- Each public call of this crate has one outcome.
-- Assumes nothing.
use mathlib.Core.Path.{refl, sym, ◌∙◌}
use base.Logic.{SProp}
use contract.Monad.{Fun}
use types.Logic.{Logic}
use seplogic.Ra.Ura.{Ura}
use prog.Memory.{Memory}
use prog.Routine.{Routine}
use Rattle.outcome.specs.Outcome.{Determines, agree}
use Rattle.number.specs.contracts.read
use Rattle.number.specs.contracts.write
use Rattle.number.specs.contracts.pattern_of
use Rattle.number.specs.contracts.time_of
use Rattle.number.specs.contracts.rank_of

module _ {M : Type 1} {𝓤 : Ura M} (𝓛 : Logic 𝓤) (mem : Memory → SProp 𝓤) (run : Routine → Fun 𝓤) where
  pub read_one : Determines 𝓤 read.ended (read.clauses 𝓛 mem run)
  read_one κs a g x y v w = agree 𝓤 (λ p q. (p ∙ sym q, refl))

  pub write-one : Determines 𝓤 write.ended (write.clauses 𝓛 mem run)
  write-one κs a g x y v w = agree 𝓤 (λ p q. (refl, λ i. ((p ∙ sym q) i, v.1)))

  pub pattern-of-one : Determines 𝓤 pattern_of.ended (pattern_of.clauses 𝓛 mem run)
  pattern-of-one κs a g x y v w = agree 𝓤 (λ p q. (p ∙ sym q, refl))

  pub time-of-one : Determines 𝓤 time_of.ended (time_of.clauses 𝓛 mem run)
  time-of-one κs a g x y v w = agree 𝓤 (λ p q. (p ∙ sym q, refl))

  pub rank-of-one : Determines 𝓤 rank_of.ended (rank_of.clauses 𝓛 mem run)
  rank-of-one κs a g x y v w = agree 𝓤 (λ p q. (p ∙ sym q, refl))
