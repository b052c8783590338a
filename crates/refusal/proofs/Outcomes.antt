-- Each public call of this crate has one outcome.
-- Assumes nothing.
use mathlib.Core.Path.{refl, sym, ◌∙◌}
use base.Logic.{SProp}
use contract.Monad.{Fun}
use types.Logic.{Logic}
use seplogic.Ra.Ura.{Ura}
use prog.Memory.{Memory}
use prog.Routine.{Routine}
use Rattle.outcome.specs.Outcome.{Determines, agree}
use Rattle.refusal.specs.contracts.Refusal.at
use Rattle.refusal.specs.contracts.Refusal.of
use Rattle.refusal.specs.contracts.Refusal.number
use Rattle.refusal.specs.contracts.Refusal.place

module _ {M : Type 1} {𝓤 : Ura M} (𝓛 : Logic 𝓤) (mem : Memory → SProp 𝓤) (run : Routine → Fun 𝓤) where
  pub at_one : Determines 𝓤 at.ended (at.clauses 𝓛 mem run)
  at_one κs a g x y v w = agree 𝓤 (λ p q. (p ∙ sym q, refl))

  pub number-one : Determines 𝓤 number.ended (number.clauses 𝓛 mem run)
  number-one κs a g x y v w = agree 𝓤 (λ p q. (p ∙ sym q, refl))

  pub place-one : Determines 𝓤 place.ended (place.clauses 𝓛 mem run)
  place-one κs a g x y v w = agree 𝓤 (λ p q. (p ∙ sym q, refl))

  pub of-one : Determines 𝓤 of.ended (of.clauses 𝓛 mem run)
  of-one κs a g x y v w = agree 𝓤 (λ p q. (p ∙ sym q, refl))
