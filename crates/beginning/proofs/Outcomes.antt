-- Each public call of this crate has one outcome.
-- Assumes nothing.
use mathlib.Core.Path.{refl, sym, ◌∙◌}
use base.Logic.{SProp}
use contract.Monad.{Fun}
use types.Logic.{Logic}
use seplogic.Ra.Ura.{Ura}
use prog.Memory.{Memory}
use prog.Routine.{Routine}
use Rattle.outcome.specs.Outcome.{Determines, agree}
use Rattle.beginning.specs.contracts.first_piece
use Rattle.beginning.specs.contracts.piece_refusal

module _ {M : Type 1} {𝓤 : Ura M} (𝓛 : Logic 𝓤) (mem : Memory → SProp 𝓤) (run : Routine → Fun 𝓤) where
  pub first-piece-one : Determines 𝓤 first_piece.ended (first_piece.clauses 𝓛 mem run)
  first-piece-one κs a g x y v w =
      agree 𝓤 (λ p q. let e = p ∙ sym q in (λ i. (e i).answer, λ i. (v.0, (v.1.0, (v.1.1.0, ((e i).out, v.1.1.1.1))))))

  pub piece-refusal-one : Determines 𝓤 piece_refusal.ended (piece_refusal.clauses 𝓛 mem run)
  piece-refusal-one κs a g x y v w = agree 𝓤 (λ p q. (p ∙ sym q, refl))
