-- Each public call of this crate has one outcome.
-- Assumes nothing.
use mathlib.Core.Path.{refl, sym, ◌∙◌}
use base.Logic.{SProp}
use contract.Monad.{Fun}
use types.Logic.{Logic}
use seplogic.Ra.Ura.{Ura}
use prog.Memory.{Memory}
use prog.Routine.{Routine}
use Rattle.outcome.specs.Outcome.{Determines, agree}
use Rattle.face_reading.specs.contracts.frame
use Rattle.face_reading.specs.contracts.frame_of
use Rattle.face_reading.specs.contracts.part
use Rattle.face_reading.specs.contracts.part_of

module _ {M : Type 1} {𝓤 : Ura M} (𝓛 : Logic 𝓤) (mem : Memory → SProp 𝓤) (run : Routine → Fun 𝓤) where
  pub frame-one : Determines 𝓤 frame.ended (frame.clauses 𝓛 mem run)
  frame-one κs a g x y v w = agree 𝓤 (λ p q. (p ∙ sym q, refl))

  pub frame-of-one : Determines 𝓤 frame_of.ended (frame_of.clauses 𝓛 mem run)
  frame-of-one κs a g x y v w = agree 𝓤 (λ p q. (p ∙ sym q, refl))

  pub part-one : Determines 𝓤 part.ended (part.clauses 𝓛 mem run)
  part-one κs a g x y v w = agree 𝓤 (λ p q. (p ∙ sym q, refl))

  pub part-of-one : Determines 𝓤 part_of.ended (part_of.clauses 𝓛 mem run)
  part-of-one κs a g x y v w = agree 𝓤 (λ p q. (p ∙ sym q, refl))
