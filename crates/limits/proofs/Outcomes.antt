-- Each public call of this crate has one outcome.
-- Assumes nothing.
use mathlib.Core.Path.{refl, sym, ◌∙◌}
use base.Logic.{SProp}
use contract.Monad.{Fun}
use types.Logic.{Logic}
use seplogic.Ra.Ura.{Ura}
use prog.Memory.{Memory}
use prog.Routine.{Routine}
use Rattle.outcome.specs.Outcome.{Determines, agree}
use Rattle.limits.specs.contracts.index_length
use Rattle.limits.specs.contracts.Numbers.add_refusal
use Rattle.limits.specs.contracts.Numbers.close_refusal

module _ {M : Type 1} {𝓤 : Ura M} (𝓛 : Logic 𝓤) (mem : Memory → SProp 𝓤) (run : Routine → Fun 𝓤) where
  pub index-length-one : Determines 𝓤 index_length.ended (index_length.clauses 𝓛 mem run)
  index-length-one κs a g x y v w = agree 𝓤 (λ p q. (p ∙ sym q, refl))

  pub add-refusal-one : Determines 𝓤 add_refusal.ended (add_refusal.clauses 𝓛 mem run)
  add-refusal-one κs a g x y v w = agree 𝓤 (λ p q. (p ∙ sym q, refl))

  pub close-refusal-one : Determines 𝓤 close_refusal.ended (close_refusal.clauses 𝓛 mem run)
  close-refusal-one κs a g x y v w = agree 𝓤 (λ p q. (p ∙ sym q, refl))
