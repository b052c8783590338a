-- Each public call of this crate has one outcome; of a part that is handed back, its place and its bytes.
-- Assumes nothing.
use mathlib.Core.Path.{refl, sym, ◌∙◌}
use base.Logic.{SProp}
use contract.Monad.{Fun}
use types.Logic.{Logic}
use seplogic.Ra.Ura.{Ura}
use prog.Memory.{Memory}
use prog.Routine.{Routine}
use Rattle.outcome.specs.Outcome.{Determines, DeterminesBy, agree}
use Rattle.reading.specs.Read.{lies}
use Rattle.reading.specs.contracts.find
use Rattle.reading.specs.contracts.part
use Rattle.reading.specs.contracts.refusal
use Rattle.reading.specs.contracts.frame

module _ {M : Type 1} {𝓤 : Ura M} (𝓛 : Logic 𝓤) (mem : Memory → SProp 𝓤) (run : Routine → Fun 𝓤) where
  pub find-one : Determines 𝓤 find.ended (find.clauses 𝓛 mem run)
  find-one κs a g x y v w = agree 𝓤 (λ p q. (p ∙ sym q, refl))

  pub part-one : DeterminesBy 𝓤 part.ended (part.clauses 𝓛 mem run) (λ κs x. lies x)
  part-one κs a g x y v w = agree 𝓤 (λ p q. (p ∙ sym q, refl))

  pub refusal-one : Determines 𝓤 refusal.ended (refusal.clauses 𝓛 mem run)
  refusal-one κs a g x y v w = agree 𝓤 (λ p q. (p ∙ sym q, refl))

  pub frame-one : Determines 𝓤 frame.ended (frame.clauses 𝓛 mem run)
  frame-one κs a g x y v w = agree 𝓤 (λ p q. (p ∙ sym q, refl))
