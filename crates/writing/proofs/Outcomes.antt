-- Each public call of this crate has one outcome.
-- Assumes nothing.
use mathlib.Core.Path.{refl, sym, ◌∙◌}
use base.Logic.{SProp}
use contract.Monad.{Fun}
use types.Logic.{Logic}
use seplogic.Ra.Ura.{Ura}
use prog.Memory.{Memory}
use prog.Routine.{Routine}
use Rattle.outcome.specs.Outcome.{Determines, agree}
use Rattle.writing.specs.contracts.add_frame

module _ {M : Type 1} {𝓤 : Ura M} (𝓛 : Logic 𝓤) (mem : Memory → SProp 𝓤) (run : Routine → Fun 𝓤) where
  pub add-frame-one : Determines 𝓤 add_frame.ended (add_frame.clauses 𝓛 mem run)
  add-frame-one κs a g x y v w =
      agree 𝓤 (λ p q. let e = p
      ∙ sym q in (
        refl,
        λ i. (
          v.0,
          (v.1.0, (v.1.1.0, (v.1.1.1.0, (v.1.1.1.1.0, (v.1.1.1.1.1.0, ((e i).notes, ((e i).out, v.1.1.1.1.1.1.1.1))))))),
        ),
      ))
