-- Each public call of this crate has one outcome.
-- Assumes nothing.
use mathlib.Core.Path.{ap, sym, ◌∙◌}
use base.Logic.{SProp}
use contract.Monad.{Fun}
use types.Logic.{Logic}
use seplogic.Ra.Ura.{Ura}
use prog.Memory.{Memory}
use prog.Routine.{Routine}
use Rattle.outcome.specs.Outcome.{Determines, agree}
use Rattle.repair.specs.Repaired.{Made}
use Rattle.repair.specs.contracts.repair

module _ {M : Type 1} {𝓤 : Ura M} (𝓛 : Logic 𝓤) (mem : Memory → SProp 𝓤) (run : Routine → Fun 𝓤) where
  pub repair-one : Determines 𝓤 repair.ended (repair.clauses 𝓛 mem run)
  repair-one κs a g x y v w =
      agree 𝓤 (λ p q. (ap (λ (m : Made). m.answer) (p ∙ sym q), λ i. (v.0, (ap (λ (m : Made). m.out) (p ∙ sym q) i, v.1.1))))
