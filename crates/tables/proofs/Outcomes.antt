-- Each public call of this crate has one outcome.
-- Assumes nothing.
use mathlib.Core.Path.{refl, sym, ◌∙◌}
use base.Logic.{SProp}
use contract.Monad.{Fun}
use types.Logic.{Logic}
use seplogic.Ra.Ura.{Ura}
use prog.Memory.{Memory}
use prog.Routine.{Routine}
use Rattle.outcome.specs.Outcome.{Determines, agree}
use Rattle.tables.specs.contracts.tag
use Rattle.tables.specs.contracts.table
use Rattle.tables.specs.contracts.tags_of
use Rattle.tables.specs.contracts.tag_found

module _ {M : Type 1} {𝓤 : Ura M} (𝓛 : Logic 𝓤) (mem : Memory → SProp 𝓤) (run : Routine → Fun 𝓤) where
  pub tag_one : Determines 𝓤 tag.ended (tag.clauses 𝓛 mem run)
  tag_one κs a g x y v w = agree 𝓤 (λ p q. (p ∙ sym q, refl))

  pub table-one : Determines 𝓤 table.ended (table.clauses 𝓛 mem run)
  table-one κs a g x y v w = agree 𝓤 (λ p q. (p ∙ sym q, refl))

  pub tags-of-one : Determines 𝓤 tags_of.ended (tags_of.clauses 𝓛 mem run)
  tags-of-one κs a g x y v w = agree 𝓤 (λ p q. (p ∙ sym q, refl))

  pub tag-found-one : Determines 𝓤 tag_found.ended (tag_found.clauses 𝓛 mem run)
  tag-found-one κs a g x y v w = agree 𝓤 (λ p q. (p ∙ sym q, refl))
