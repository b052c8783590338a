-- Each public call of this crate has one outcome.
-- Assumes nothing.
use mathlib.Core.Path.{sym, ◌∙◌}
use base.Logic.{SProp}
use contract.Monad.{Fun}
use types.Logic.{Logic}
use seplogic.Ra.Ura.{Ura}
use prog.Memory.{Memory}
use prog.Routine.{Routine}
use Rattle.outcome.specs.Outcome.{Determines, agree}
use Rattle.face_repair.specs.contracts.repair

module _ {M : Type 1} {𝓤 : Ura M} (𝓛 : Logic 𝓤) (mem : Memory → SProp 𝓤) (run : Routine → Fun 𝓤) where
  pub repair-one : Determines 𝓤 repair.ended (repair.clauses 𝓛 mem run)
  repair-one κs a g x y v w = agree 𝓤 (λ p q. let e = p ∙ sym q in (λ i. (e i).answer, λ i. (v.0, ((e i).out, v.1.1))))
