-- Each public call of this crate has one outcome.
-- Assumes nothing.
use mathlib.Core.Path.{refl, sym, ◌∙◌}
use base.Logic.{SProp}
use contract.Monad.{Fun}
use types.Logic.{Logic}
use seplogic.Ra.Ura.{Ura}
use prog.Memory.{Memory}
use prog.Routine.{Routine}
use Rattle.outcome.specs.Outcome.{Determines, agree}
use Rattle.setup.specs.contracts.count_of
use Rattle.setup.specs.contracts.system_refusal
use Rattle.setup.specs.contracts.list_refusal

module _ {M : Type 1} {𝓤 : Ura M} (𝓛 : Logic 𝓤) (mem : Memory → SProp 𝓤) (run : Routine → Fun 𝓤) where
  pub count-of-one : Determines 𝓤 count_of.ended (count_of.clauses 𝓛 mem run)
  count-of-one κs a g x y v w = agree 𝓤 (λ p q. (p ∙ sym q, refl))

  pub system-refusal-one : Determines 𝓤 system_refusal.ended (system_refusal.clauses 𝓛 mem run)
  system-refusal-one κs a g x y v w = agree 𝓤 (λ p q. (p ∙ sym q, refl))

  pub list-refusal-one : Determines 𝓤 list_refusal.ended (list_refusal.clauses 𝓛 mem run)
  list-refusal-one κs a g x y v w = agree 𝓤 (λ p q. (p ∙ sym q, refl))
