-- Each public call of this crate has one outcome.
-- Assumes nothing.
use mathlib.Core.Path.{refl, sym, ◌∙◌}
use base.Logic.{SProp}
use contract.Monad.{Fun}
use types.Logic.{Logic}
use seplogic.Ra.Ura.{Ura}
use prog.Memory.{Memory}
use prog.Routine.{Routine}
use Rattle.outcome.specs.Outcome.{Determines, agree}
use Rattle.browser.specs.contracts.tag_at
use Rattle.browser.specs.contracts.tag_named
use Rattle.browser.specs.contracts.next_number
use Rattle.browser.specs.contracts.browse
use Rattle.browser.specs.contracts.tag
use Rattle.browser.specs.contracts.rest

module _ {M : Type 1} {𝓤 : Ura M} (𝓛 : Logic 𝓤) (mem : Memory → SProp 𝓤) (run : Routine → Fun 𝓤) where
  pub tag-at-one : Determines 𝓤 tag_at.ended (tag_at.clauses 𝓛 mem run)
  tag-at-one κs a g x y v w = agree 𝓤 (λ p q. (p ∙ sym q, refl))

  pub tag-named-one : Determines 𝓤 tag_named.ended (tag_named.clauses 𝓛 mem run)
  tag-named-one κs a g x y v w = agree 𝓤 (λ p q. (p ∙ sym q, refl))

  pub next-number-one : Determines 𝓤 next_number.ended (next_number.clauses 𝓛 mem run)
  next-number-one κs a g x y v w = agree 𝓤 (λ p q. (p ∙ sym q, refl))

  pub browse-one : Determines 𝓤 browse.ended (browse.clauses 𝓛 mem run)
  browse-one κs a g x y v w = agree 𝓤 (λ p q. (λ i. record { table = (p.0 ∙ sym q.0) i; next = (p.1 ∙ sym q.1) i }, refl))

  pub tag_one : Determines 𝓤 tag.ended (tag.clauses 𝓛 mem run)
  tag_one κs a g x y v w = agree 𝓤 (λ p q. (p ∙ sym q, refl))

  pub rest-one : Determines 𝓤 rest.ended (rest.clauses 𝓛 mem run)
  rest-one κs a g x y v w = agree 𝓤 (λ p q. (λ i. record { table = (p.0 ∙ sym q.0) i; next = (p.1 ∙ sym q.1) i }, refl))
