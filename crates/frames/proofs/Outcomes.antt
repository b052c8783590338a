-- Each public call of this crate has one outcome.
-- Assumes nothing.
use mathlib.Core.Path.{refl, sym, ◌∙◌}
use base.Logic.{SProp}
use contract.Monad.{Fun}
use types.Logic.{Logic}
use seplogic.Ra.Ura.{Ura}
use prog.Memory.{Memory}
use prog.Routine.{Routine}
use Rattle.outcome.specs.Outcome.{Determines, agree}
use Rattle.frames.specs.contracts.sized
use Rattle.frames.specs.contracts.sized_sections
use Rattle.frames.specs.contracts.frame_at
use Rattle.frames.specs.contracts.frame_end

module _ {M : Type 1} {𝓤 : Ura M} (𝓛 : Logic 𝓤) (mem : Memory → SProp 𝓤) (run : Routine → Fun 𝓤) where
  pub sized-one : Determines 𝓤 sized.ended (sized.clauses 𝓛 mem run)
  sized-one κs a g x y v w = agree 𝓤 (λ p q. (p ∙ sym q, refl))

  pub sized-sections-one : Determines 𝓤 sized_sections.ended (sized_sections.clauses 𝓛 mem run)
  sized-sections-one κs a g x y v w = agree 𝓤 (λ p q. (p ∙ sym q, refl))

  pub frame-end-one : Determines 𝓤 frame_end.ended (frame_end.clauses 𝓛 mem run)
  frame-end-one κs a g x y v w = agree 𝓤 (λ p q. (p ∙ sym q, refl))

  pub frame-at-one : Determines 𝓤 frame_at.ended (frame_at.clauses 𝓛 mem run)
  frame-at-one κs a g x y v w = agree 𝓤 (λ p q. (p ∙ sym q, refl))
