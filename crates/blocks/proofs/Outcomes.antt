-- Each public call of this crate has one outcome.
-- Assumes nothing.
use mathlib.Core.Path.{refl, sym, ◌∙◌}
use base.Logic.{SProp}
use contract.Monad.{Fun}
use types.Logic.{Logic}
use seplogic.Ra.Ura.{Ura}
use prog.Memory.{Memory}
use prog.Routine.{Routine}
use Rattle.outcome.specs.Outcome.{Determines, agree}
use Rattle.blocks.specs.contracts.is_legal
use Rattle.blocks.specs.contracts.gap
use Rattle.blocks.specs.contracts.are_zeros
use Rattle.blocks.specs.contracts.start
use Rattle.blocks.specs.contracts.is_name
use Rattle.blocks.specs.contracts.block

module _ {M : Type 1} {𝓤 : Ura M} (𝓛 : Logic 𝓤) (mem : Memory → SProp 𝓤) (run : Routine → Fun 𝓤) where
  pub is-legal-one : Determines 𝓤 is_legal.ended (is_legal.clauses 𝓛 mem run)
  is-legal-one κs a g x y v w = agree 𝓤 (λ p q. (p ∙ sym q, refl))

  pub gap-one : Determines 𝓤 gap.ended (gap.clauses 𝓛 mem run)
  gap-one κs a g x y v w = agree 𝓤 (λ p q. (p ∙ sym q, refl))

  pub are-zeros-one : Determines 𝓤 are_zeros.ended (are_zeros.clauses 𝓛 mem run)
  are-zeros-one κs a g x y v w = agree 𝓤 (λ p q. (p ∙ sym q, refl))

  pub start-one : Determines 𝓤 start.ended (start.clauses 𝓛 mem run)
  start-one κs a g x y v w = agree 𝓤 (λ p q. (p ∙ sym q, refl))

  pub is-name-one : Determines 𝓤 is_name.ended (is_name.clauses 𝓛 mem run)
  is-name-one κs a g x y v w = agree 𝓤 (λ p q. (p ∙ sym q, refl))

  pub block_one : Determines 𝓤 block.ended (block.clauses 𝓛 mem run)
  block_one κs a g x y v w = agree 𝓤 (λ p q. (p ∙ sym q, refl))
