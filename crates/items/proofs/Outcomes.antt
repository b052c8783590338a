-- Each public call of this crate has one outcome; of a part that is handed back, its place and its bytes.
-- Assumes nothing.
use mathlib.Core.Path.{refl, sym, ◌∙◌}
use base.Logic.{SProp}
use contract.Monad.{Fun}
use types.Logic.{Logic}
use seplogic.Ra.Ura.{Ura}
use prog.Memory.{Memory}
use prog.Routine.{Routine}
use Rattle.outcome.specs.Outcome.{Determines, agree}
use Rattle.items.specs.contracts.find_of
use Rattle.items.specs.contracts.frame_of

module _ {M : Type 1} {𝓤 : Ura M} (𝓛 : Logic 𝓤) (mem : Memory → SProp 𝓤) (run : Routine → Fun 𝓤) where
  pub find-of-one : Determines 𝓤 find_of.ended (find_of.clauses 𝓛 mem run)
  find-of-one κs a g x y v w = agree 𝓤 (λ p q. (p ∙ sym q, refl))

  pub frame-of-one : Determines 𝓤 frame_of.ended (frame_of.clauses 𝓛 mem run)
  frame-of-one κs a g x y v w = agree 𝓤 (λ p q. (p ∙ sym q, refl))
