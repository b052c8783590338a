-- Each public call of this crate has one outcome.
-- Assumes nothing.
use mathlib.Core.Path.{refl, sym, ◌∙◌}
use base.Logic.{SProp}
use contract.Monad.{Fun}
use types.Logic.{Logic}
use seplogic.Ra.Ura.{Ura}
use prog.Memory.{Memory}
use prog.Routine.{Routine}
use Rattle.outcome.specs.Outcome.{Determines, agree}
use Rattle.face_tags.specs.contracts.look
use Rattle.face_tags.specs.contracts.commit
use Rattle.face_tags.specs.contracts.convert
use Rattle.face_tags.specs.contracts.tag_at
use Rattle.face_tags.specs.contracts.tag_named
use Rattle.face_tags.specs.contracts.first_tag
use Rattle.face_tags.specs.contracts.next_tag

module _ {M : Type 1} {𝓤 : Ura M} (𝓛 : Logic 𝓤) (mem : Memory → SProp 𝓤) (run : Routine → Fun 𝓤) where
  pub look_one : Determines 𝓤 look.ended (look.clauses 𝓛 mem run)
  look_one κs a g x y v w = agree 𝓤 (λ p q. (p ∙ sym q, refl))

  pub commit-one : Determines 𝓤 commit.ended (commit.clauses 𝓛 mem run)
  commit-one κs a g x y v w = agree 𝓤 (λ p q. let e = p ∙ sym q in (λ i. (e i).answer, λ i. (v.0, (v.1.0, ((e i).out, v.1.1.1)))))

  pub convert-one : Determines 𝓤 convert.ended (convert.clauses 𝓛 mem run)
  convert-one κs a g x y v w = agree 𝓤 (λ p q. let e = p ∙ sym q in (λ i. (e i).answer, λ i. (v.0, (v.1.0, ((e i).out, v.1.1.1)))))

  pub tag-at-one : Determines 𝓤 tag_at.ended (tag_at.clauses 𝓛 mem run)
  tag-at-one κs a g x y v w = agree 𝓤 (λ p q. (p ∙ sym q, refl))

  pub tag-named-one : Determines 𝓤 tag_named.ended (tag_named.clauses 𝓛 mem run)
  tag-named-one κs a g x y v w = agree 𝓤 (λ p q. (p ∙ sym q, refl))

  pub first-tag-one : Determines 𝓤 first_tag.ended (first_tag.clauses 𝓛 mem run)
  first-tag-one κs a g x y v w = agree 𝓤 (λ p q. (p ∙ sym q, refl))

  pub next-tag-one : Determines 𝓤 next_tag.ended (next_tag.clauses 𝓛 mem run)
  next-tag-one κs a g x y v w = agree 𝓤 (λ p q. (p ∙ sym q, refl))
