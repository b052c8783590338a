-- Each public call of this crate has one outcome.
-- Assumes nothing.
use mathlib.Core.Path.{refl, sym, ◌∙◌}
use base.Logic.{SProp}
use contract.Monad.{Fun}
use types.Logic.{Logic}
use seplogic.Ra.Ura.{Ura}
use prog.Memory.{Memory}
use prog.Routine.{Routine}
use Rattle.outcome.specs.Outcome.{Determines, agree}
use Rattle.sheet.specs.contracts.changes_of
use Rattle.sheet.specs.contracts.entry_value
use Rattle.sheet.specs.contracts.new_value
use Rattle.sheet.specs.contracts.held_value

module _ {M : Type 1} {𝓤 : Ura M} (𝓛 : Logic 𝓤) (mem : Memory → SProp 𝓤) (run : Routine → Fun 𝓤) where
  pub changes-of-one : Determines 𝓤 changes_of.ended (changes_of.clauses 𝓛 mem run)
  changes-of-one κs a g x y v w = agree 𝓤 (λ p q. (p ∙ sym q, refl))

  pub entry-value-one : Determines 𝓤 entry_value.ended (entry_value.clauses 𝓛 mem run)
  entry-value-one κs a g x y v w = agree 𝓤 (λ p q. (p ∙ sym q, refl))

  pub new-value-one : Determines 𝓤 new_value.ended (new_value.clauses 𝓛 mem run)
  new-value-one κs a g x y v w = agree 𝓤 (λ p q. (p ∙ sym q, refl))

  pub held-value-one : Determines 𝓤 held_value.ended (held_value.clauses 𝓛 mem run)
  held-value-one κs a g x y v w = agree 𝓤 (λ p q. (p ∙ sym q, refl))
