-- Each public call of this crate has one outcome.
-- Assumes nothing.
use mathlib.Core.Path.{refl, sym, ◌∙◌}
use base.Logic.{SProp}
use contract.Monad.{Fun}
use types.Logic.{Logic}
use seplogic.Ra.Ura.{Ura}
use prog.Memory.{Memory}
use prog.Routine.{Routine}
use Rattle.outcome.specs.Outcome.{Determines, agree}
use Rattle.rows.specs.contracts.entry_end
use Rattle.rows.specs.contracts.row_at
use Rattle.rows.specs.contracts.row_start

module _ {M : Type 1} {𝓤 : Ura M} (𝓛 : Logic 𝓤) (mem : Memory → SProp 𝓤) (run : Routine → Fun 𝓤) where
  pub entry-end-one : Determines 𝓤 entry_end.ended (entry_end.clauses 𝓛 mem run)
  entry-end-one κs a g x y v w = agree 𝓤 (λ p q. (p ∙ sym q, refl))

  pub row-at-one : Determines 𝓤 row_at.ended (row_at.clauses 𝓛 mem run)
  row-at-one κs a g x y v w = agree 𝓤 (λ p q. (p ∙ sym q, refl))

  pub row-start-one : Determines 𝓤 row_start.ended (row_start.clauses 𝓛 mem run)
  row-start-one κs a g x y v w = agree 𝓤 (λ p q. (p ∙ sym q, refl))
