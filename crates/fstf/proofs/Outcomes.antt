-- Each public call of this crate has one outcome.
-- Assumes nothing.
use mathlib.Core.Path.{refl, sym, ◌∙◌}
use base.Logic.{SProp}
use contract.Monad.{Fun}
use types.Logic.{Logic}
use seplogic.Ra.Ura.{Ura}
use prog.Memory.{Memory}
use prog.Routine.{Routine}
use Rattle.outcome.specs.Outcome.{Determines, agree}
use Rattle.fstf.specs.contracts.fstf_open
use Rattle.fstf.specs.contracts.fstf_frame
use Rattle.fstf.specs.contracts.fstf_frame_of
use Rattle.fstf.specs.contracts.fstf_part
use Rattle.fstf.specs.contracts.fstf_part_of
use Rattle.fstf.specs.contracts.fstf_new
use Rattle.fstf.specs.contracts.fstf_begin
use Rattle.fstf.specs.contracts.fstf_add
use Rattle.fstf.specs.contracts.fstf_close
use Rattle.fstf.specs.contracts.fstf_repair
use Rattle.fstf.specs.contracts.fstf_look
use Rattle.fstf.specs.contracts.fstf_commit
use Rattle.fstf.specs.contracts.fstf_convert
use Rattle.fstf.specs.contracts.fstf_tag_at
use Rattle.fstf.specs.contracts.fstf_tag_named
use Rattle.fstf.specs.contracts.fstf_first_tag
use Rattle.fstf.specs.contracts.fstf_next_tag

module _ {M : Type 1} {𝓤 : Ura M} (𝓛 : Logic 𝓤) (mem : Memory → SProp 𝓤) (run : Routine → Fun 𝓤) where
  pub fstf-open-one : Determines 𝓤 fstf_open.ended (fstf_open.clauses 𝓛 mem run)
  fstf-open-one κs a g x y v w = agree 𝓤 (λ p q. (p ∙ sym q, refl))

  pub fstf-frame-one : Determines 𝓤 fstf_frame.ended (fstf_frame.clauses 𝓛 mem run)
  fstf-frame-one κs a g x y v w = agree 𝓤 (λ p q. (p ∙ sym q, refl))

  pub fstf-frame-of-one : Determines 𝓤 fstf_frame_of.ended (fstf_frame_of.clauses 𝓛 mem run)
  fstf-frame-of-one κs a g x y v w = agree 𝓤 (λ p q. (p ∙ sym q, refl))

  pub fstf-part-one : Determines 𝓤 fstf_part.ended (fstf_part.clauses 𝓛 mem run)
  fstf-part-one κs a g x y v w = agree 𝓤 (λ p q. (p ∙ sym q, refl))

  pub fstf-part-of-one : Determines 𝓤 fstf_part_of.ended (fstf_part_of.clauses 𝓛 mem run)
  fstf-part-of-one κs a g x y v w = agree 𝓤 (λ p q. (p ∙ sym q, refl))

  pub fstf-new-one : Determines 𝓤 fstf_new.ended (fstf_new.clauses 𝓛 mem run)
  fstf-new-one κs a g x y v w = agree 𝓤 (λ p q. (p ∙ sym q, refl))

  pub fstf-begin-one : Determines 𝓤 fstf_begin.ended (fstf_begin.clauses 𝓛 mem run)
  fstf-begin-one κs a g x y v w =
      agree 𝓤 (λ p q. let e = p ∙ sym q in (λ i. (e i).answer, λ i. (v.0, (v.1.0, (v.1.1.0, ((e i).notes, ((e i).out, v.1.1.1.1.1)))))))

  pub fstf-add-one : Determines 𝓤 fstf_add.ended (fstf_add.clauses 𝓛 mem run)
  fstf-add-one κs a g x y v w =
      agree 𝓤 (λ p q. let e = p ∙ sym q in (
        λ i. (e i).answer,
        λ i. (v.0, (v.1.0, (v.1.1.0, (v.1.1.1.0, ((e i).notes, ((e i).out, v.1.1.1.1.1.1)))))),
      ))

  pub fstf-close-one : Determines 𝓤 fstf_close.ended (fstf_close.clauses 𝓛 mem run)
  fstf-close-one κs a g x y v w = agree 𝓤 (λ p q. let e = p ∙ sym q in (λ i. (e i).answer, λ i. (v.0, (v.1.0, ((e i).out, v.1.1.1)))))

  pub fstf-repair-one : Determines 𝓤 fstf_repair.ended (fstf_repair.clauses 𝓛 mem run)
  fstf-repair-one κs a g x y v w = agree 𝓤 (λ p q. let e = p ∙ sym q in (λ i. (e i).answer, λ i. (v.0, ((e i).out, v.1.1))))

  pub fstf-look-one : Determines 𝓤 fstf_look.ended (fstf_look.clauses 𝓛 mem run)
  fstf-look-one κs a g x y v w = agree 𝓤 (λ p q. (p ∙ sym q, refl))

  pub fstf-commit-one : Determines 𝓤 fstf_commit.ended (fstf_commit.clauses 𝓛 mem run)
  fstf-commit-one κs a g x y v w = agree 𝓤 (λ p q. let e = p ∙ sym q in (λ i. (e i).answer, λ i. (v.0, (v.1.0, ((e i).out, v.1.1.1)))))

  pub fstf-convert-one : Determines 𝓤 fstf_convert.ended (fstf_convert.clauses 𝓛 mem run)
  fstf-convert-one κs a g x y v w = agree 𝓤 (λ p q. let e = p ∙ sym q in (λ i. (e i).answer, λ i. (v.0, (v.1.0, ((e i).out, v.1.1.1)))))

  pub fstf-tag-at-one : Determines 𝓤 fstf_tag_at.ended (fstf_tag_at.clauses 𝓛 mem run)
  fstf-tag-at-one κs a g x y v w = agree 𝓤 (λ p q. (p ∙ sym q, refl))

  pub fstf-tag-named-one : Determines 𝓤 fstf_tag_named.ended (fstf_tag_named.clauses 𝓛 mem run)
  fstf-tag-named-one κs a g x y v w = agree 𝓤 (λ p q. (p ∙ sym q, refl))

  pub fstf-first-tag-one : Determines 𝓤 fstf_first_tag.ended (fstf_first_tag.clauses 𝓛 mem run)
  fstf-first-tag-one κs a g x y v w = agree 𝓤 (λ p q. (p ∙ sym q, refl))

  pub fstf-next-tag-one : Determines 𝓤 fstf_next_tag.ended (fstf_next_tag.clauses 𝓛 mem run)
  fstf-next-tag-one κs a g x y v w = agree 𝓤 (λ p q. (p ∙ sym q, refl))
