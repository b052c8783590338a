-- Each public call of this crate has one outcome.
-- Assumes nothing.
use mathlib.Core.Path.{refl, sym, ◌∙◌}
use base.Logic.{SProp}
use contract.Monad.{Fun}
use types.Logic.{Logic}
use seplogic.Ra.Ura.{Ura}
use prog.Memory.{Memory}
use prog.Routine.{Routine}
use Rattle.outcome.specs.Outcome.{Determines, agree}
use Rattle.cursor.specs.contracts.first_tag
use Rattle.cursor.specs.contracts.next_tag

module _ {M : Type 1} {𝓤 : Ura M} (𝓛 : Logic 𝓤) (mem : Memory → SProp 𝓤) (run : Routine → Fun 𝓤) where
  pub first-tag-one : Determines 𝓤 first_tag.ended (first_tag.clauses 𝓛 mem run)
  first-tag-one κs a g x y v w = agree 𝓤 (λ p q. (p ∙ sym q, refl))

  pub next-tag-one : Determines 𝓤 next_tag.ended (next_tag.clauses 𝓛 mem run)
  next-tag-one κs a g x y v w = agree 𝓤 (λ p q. (p ∙ sym q, refl))
