-- Each public call of this crate has one outcome.
-- Assumes nothing.
use mathlib.Core.Path.{refl, sym, ◌∙◌}
use base.Logic.{SProp}
use contract.Monad.{Fun}
use types.Logic.{Logic}
use seplogic.Ra.Ura.{Ura}
use prog.Memory.{Memory}
use prog.Routine.{Routine}
use Rattle.outcome.specs.Outcome.{Determines, agree}
use Rattle.parts.specs.contracts.equal
use Rattle.parts.specs.contracts.copy

module _ {M : Type 1} {𝓤 : Ura M} (𝓛 : Logic 𝓤) (mem : Memory → SProp 𝓤) (run : Routine → Fun 𝓤) where
  pub equal-one : Determines 𝓤 equal.ended (equal.clauses 𝓛 mem run)
  equal-one κs a g x y v w = agree 𝓤 (λ p q. (p ∙ sym q, refl))

  pub copy-one : Determines 𝓤 copy.ended (copy.clauses 𝓛 mem run)
  copy-one κs a g x y v w = agree 𝓤 (λ p q. (refl, λ i. (v.0, (v.1.0, ((p ∙ sym q) i, v.1.1.1)))))
