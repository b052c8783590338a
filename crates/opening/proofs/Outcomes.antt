-- Each public call of this crate has one outcome.
-- Assumes nothing.
use mathlib.Core.Path.{refl, sym, ◌∙◌}
use base.Logic.{SProp}
use contract.Monad.{Fun}
use types.Logic.{Logic}
use seplogic.Ra.Ura.{Ura}
use prog.Memory.{Memory}
use prog.Routine.{Routine}
use Rattle.outcome.specs.Outcome.{Determines, agree}
use Rattle.opening.specs.contracts.open
use Rattle.opening.specs.contracts.open_refusal

module _ {M : Type 1} {𝓤 : Ura M} (𝓛 : Logic 𝓤) (mem : Memory → SProp 𝓤) (run : Routine → Fun 𝓤) where
  pub open-one : Determines 𝓤 open.ended (open.clauses 𝓛 mem run)
  open-one κs a g x y v w = agree 𝓤 (λ p q. (p ∙ sym q, refl))

  pub open-refusal-one : Determines 𝓤 open_refusal.ended (open_refusal.clauses 𝓛 mem run)
  open-refusal-one κs a g x y v w = agree 𝓤 (λ p q. (p ∙ sym q, refl))
