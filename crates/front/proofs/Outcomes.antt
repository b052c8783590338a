-- Each public call of this crate has one outcome.
-- Assumes nothing.
use mathlib.Core.Path.{refl, sym, ◌∙◌}
use base.Logic.{SProp}
use contract.Monad.{Fun}
use types.Logic.{Logic}
use seplogic.Ra.Ura.{Ura}
use prog.Memory.{Memory}
use prog.Routine.{Routine}
use Rattle.outcome.specs.Outcome.{Determines, agree}
use Rattle.front.specs.contracts.definition_at
use Rattle.front.specs.contracts.open_front
use Rattle.front.specs.contracts.front_refusal

module _ {M : Type 1} {𝓤 : Ura M} (𝓛 : Logic 𝓤) (mem : Memory → SProp 𝓤) (run : Routine → Fun 𝓤) where
  pub definition-at-one : Determines 𝓤 definition_at.ended (definition_at.clauses 𝓛 mem run)
  definition-at-one κs a g x y v w = agree 𝓤 (λ p q. (p ∙ sym q, refl))

  pub open-front-one : Determines 𝓤 open_front.ended (open_front.clauses 𝓛 mem run)
  open-front-one κs a g x y v w = agree 𝓤 (λ p q. (p ∙ sym q, refl))

  pub front-refusal-one : Determines 𝓤 front_refusal.ended (front_refusal.clauses 𝓛 mem run)
  front-refusal-one κs a g x y v w = agree 𝓤 (λ p q. (p ∙ sym q, refl))
