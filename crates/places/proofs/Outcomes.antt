-- Each public call of this crate has one outcome.
-- Assumes nothing.
use mathlib.Core.Path.{sym, ◌∙◌}
use base.Logic.{SProp}
use contract.Monad.{Fun}
use types.Logic.{Logic}
use seplogic.Ra.Ura.{Ura}
use prog.Memory.{Memory}
use prog.Routine.{Routine}
use Rattle.outcome.specs.Outcome.{Determines, agree}
use Rattle.places.specs.contracts.place_tags

module _ {M : Type 1} {𝓤 : Ura M} (𝓛 : Logic 𝓤) (mem : Memory → SProp 𝓤) (run : Routine → Fun 𝓤) where
  pub place-tags-one : Determines 𝓤 place_tags.ended (place_tags.clauses 𝓛 mem run)
  place-tags-one κs a g x y v w =
      agree 𝓤 (λ p q. let e = p ∙ sym q in (
        λ i. (e i).words,
        λ i. (v.0, (v.1.0, (v.1.1.0, (v.1.1.1.0, ((e i).list, ((e i).places, v.1.1.1.1.1.1)))))),
      ))
