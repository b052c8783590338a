-- Each public call of this crate has one outcome.
-- Assumes nothing.
use mathlib.Core.Path.{refl, sym, ◌∙◌}
use base.Logic.{SProp}
use contract.Monad.{Fun}
use types.Logic.{Logic}
use seplogic.Ra.Ura.{Ura}
use prog.Memory.{Memory}
use prog.Routine.{Routine}
use Rattle.outcome.specs.Outcome.{Determines, agree}
use Rattle.stages.specs.contracts.piece_of
use Rattle.stages.specs.contracts.takes_close
use Rattle.stages.specs.contracts.is_running
use Rattle.stages.specs.contracts.is_fresh
use Rattle.stages.specs.contracts.stage_after
use Rattle.stages.specs.contracts.broken
use Rattle.stages.specs.contracts.full
use Rattle.stages.specs.contracts.closing_number
use Rattle.stages.specs.contracts.closing_length

module _ {M : Type 1} {𝓤 : Ura M} (𝓛 : Logic 𝓤) (mem : Memory → SProp 𝓤) (run : Routine → Fun 𝓤) where
  pub piece-of-one : Determines 𝓤 piece_of.ended (piece_of.clauses 𝓛 mem run)
  piece-of-one κs a g x y v w = agree 𝓤 (λ p q. (p ∙ sym q, refl))

  pub takes-close-one : Determines 𝓤 takes_close.ended (takes_close.clauses 𝓛 mem run)
  takes-close-one κs a g x y v w = agree 𝓤 (λ p q. (p ∙ sym q, refl))

  pub is-running-one : Determines 𝓤 is_running.ended (is_running.clauses 𝓛 mem run)
  is-running-one κs a g x y v w = agree 𝓤 (λ p q. (p ∙ sym q, refl))

  pub is-fresh-one : Determines 𝓤 is_fresh.ended (is_fresh.clauses 𝓛 mem run)
  is-fresh-one κs a g x y v w = agree 𝓤 (λ p q. (p ∙ sym q, refl))

  pub stage-after-one : Determines 𝓤 stage_after.ended (stage_after.clauses 𝓛 mem run)
  stage-after-one κs a g x y v w = agree 𝓤 (λ p q. (p ∙ sym q, refl))

  pub closing-number-one : Determines 𝓤 closing_number.ended (closing_number.clauses 𝓛 mem run)
  closing-number-one κs a g x y v w = agree 𝓤 (λ p q. (p ∙ sym q, refl))

  pub closing-length-one : Determines 𝓤 closing_length.ended (closing_length.clauses 𝓛 mem run)
  closing-length-one κs a g x y v w = agree 𝓤 (λ p q. (p ∙ sym q, refl))

  pub broken-one : Determines 𝓤 broken.ended (broken.clauses 𝓛 mem run)
  broken-one κs a g x y v w = agree 𝓤 (λ p q. (p ∙ sym q, refl))

  pub full-one : Determines 𝓤 full.ended (full.clauses 𝓛 mem run)
  full-one κs a g x y v w = agree 𝓤 (λ p q. (p ∙ sym q, refl))
