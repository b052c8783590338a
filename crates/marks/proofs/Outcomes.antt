-- Each public call of this crate has one outcome.
-- Assumes nothing.
use mathlib.Core.Path.{refl, sym, ◌∙◌}
use base.Logic.{SProp}
use contract.Monad.{Fun}
use types.Logic.{Logic}
use seplogic.Ra.Ura.{Ura}
use prog.Memory.{Memory}
use prog.Routine.{Routine}
use Rattle.outcome.specs.Outcome.{Determines, agree}
use Rattle.marks.specs.contracts.mark_of
use Rattle.marks.specs.contracts.mark
use Rattle.marks.specs.contracts.marked

module _ {M : Type 1} {𝓤 : Ura M} (𝓛 : Logic 𝓤) (mem : Memory → SProp 𝓤) (run : Routine → Fun 𝓤) where
  pub mark-of-one : Determines 𝓤 mark_of.ended (mark_of.clauses 𝓛 mem run)
  mark-of-one κs a g x y v w = agree 𝓤 (λ p q. (p ∙ sym q, refl))

  pub mark-one : Determines 𝓤 mark.ended (mark.clauses 𝓛 mem run)
  mark-one κs a g x y v w = agree 𝓤 (λ p q. (refl, λ i. ((p ∙ sym q) i, v.1)))

  pub marked-one : Determines 𝓤 marked.ended (marked.clauses 𝓛 mem run)
  marked-one κs a g x y v w = agree 𝓤 (λ p q. (p ∙ sym q, refl))
