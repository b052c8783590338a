-- Each public call of this crate has one outcome.
-- Assumes nothing.
use mathlib.Core.Path.{refl, sym, ◌∙◌}
use base.Logic.{SProp}
use contract.Monad.{Fun}
use types.Logic.{Logic}
use seplogic.Ra.Ura.{Ura}
use prog.Memory.{Memory}
use prog.Routine.{Routine}
use Rattle.outcome.specs.Outcome.{Determines, agree}
use Rattle.saving.specs.contracts.asked_of
use Rattle.saving.specs.contracts.look
use Rattle.saving.specs.contracts.commit

module _ {M : Type 1} {𝓤 : Ura M} (𝓛 : Logic 𝓤) (mem : Memory → SProp 𝓤) (run : Routine → Fun 𝓤) where
  pub asked-of-one : Determines 𝓤 asked_of.ended (asked_of.clauses 𝓛 mem run)
  asked-of-one κs a g x y v w = agree 𝓤 (λ p q. (p ∙ sym q, refl))

  pub look_one : Determines 𝓤 look.ended (look.clauses 𝓛 mem run)
  look_one κs a g x y v w = agree 𝓤 (λ p q. (p ∙ sym q, refl))

  pub commit-one : Determines 𝓤 commit.ended (commit.clauses 𝓛 mem run)
  commit-one κs a g x y v w = agree 𝓤 (λ p q. let e = p ∙ sym q in (λ i. (e i).answer, λ i. (v.0, (v.1.0, ((e i).out, v.1.1.1)))))
