-- Each public call of this crate has one outcome.
-- Assumes nothing.
use Rattle.std.proofs.Common.{sym, refl, ◌∙◌}
use base.Logic.{SProp}
use contract.Monad.{Fun}
use types.Logic.{Logic}
use seplogic.Ra.Ura.{Ura}
use prog.Memory.{Memory}
use prog.Routine.{Routine}
use Rattle.outcome.specs.Outcome.{Determines, agree}
use Rattle.look.specs.contracts.compare

module _ {M : Type 1} {𝓤 : Ura M} (𝓛 : Logic 𝓤) (mem : Memory → SProp 𝓤) (run : Routine → Fun 𝓤) where
  pub compare-one : Determines 𝓤 compare.ended (compare.clauses 𝓛 mem run)
  compare-one κs a g x y v w = agree 𝓤 (λ p q. (p ∙ sym q, refl))
