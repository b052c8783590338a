-- Each public call of this crate has one outcome.
-- Assumes nothing.
use mathlib.Core.Path.{refl, sym, ◌∙◌}
use base.Logic.{SProp}
use contract.Monad.{Fun}
use types.Logic.{Logic}
use seplogic.Ra.Ura.{Ura}
use prog.Memory.{Memory}
use prog.Routine.{Routine}
use Rattle.outcome.specs.Outcome.{Determines, agree}
use Rattle.strings.specs.contracts.string
use Rattle.strings.specs.contracts.section_name
use Rattle.strings.specs.contracts.tag_name
use Rattle.strings.specs.contracts.tag_value
use Rattle.strings.specs.contracts.read

module _ {M : Type 1} {𝓤 : Ura M} (𝓛 : Logic 𝓤) (mem : Memory → SProp 𝓤) (run : Routine → Fun 𝓤) where
  pub string-one : Determines 𝓤 string.ended (string.clauses 𝓛 mem run)
  string-one κs a g x y v w = agree 𝓤 (λ p q. (p ∙ sym q, refl))

  pub section-name-one : Determines 𝓤 section_name.ended (section_name.clauses 𝓛 mem run)
  section-name-one κs a g x y v w = agree 𝓤 (λ p q. (p ∙ sym q, refl))

  pub tag-name-one : Determines 𝓤 tag_name.ended (tag_name.clauses 𝓛 mem run)
  tag-name-one κs a g x y v w = agree 𝓤 (λ p q. (p ∙ sym q, refl))

  pub tag-value-one : Determines 𝓤 tag_value.ended (tag_value.clauses 𝓛 mem run)
  tag-value-one κs a g x y v w = agree 𝓤 (λ p q. (p ∙ sym q, refl))

  pub read_one : Determines 𝓤 read.ended (read.clauses 𝓛 mem run)
  read_one κs a g x y v w = agree 𝓤 (λ p q. (p ∙ sym q, refl))
