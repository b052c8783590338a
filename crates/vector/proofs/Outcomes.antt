-- Each public call of this crate that answers from its arguments alone has one outcome.
-- Assumes nothing.
use Rattle.std.proofs.Common.{sym, refl, ◌∙◌}
use base.Logic.{SProp}
use contract.Monad.{Fun}
use types.Logic.{Logic}
use seplogic.Ra.Ura.{Ura}
use prog.Memory.{Memory}
use prog.Routine.{Routine}
use Rattle.outcome.specs.Outcome.{Determines, DeterminesBy, agree}
use Rattle.vector.specs.Fields.{shown}
use Rattle.vector.specs.contracts.check.answer
use Rattle.vector.specs.contracts.check.told
use Rattle.vector.specs.contracts.check.byte
use Rattle.vector.specs.contracts.check.bytes
use Rattle.vector.specs.contracts.counted
use Rattle.vector.specs.contracts.lend.lent
use Rattle.vector.specs.contracts.sweep.tried
use Rattle.vector.specs.contracts.sweep.answered
use Rattle.vector.specs.contracts.sweep.turn_bytes
use Rattle.vector.specs.contracts.sweep.turn_length
use Rattle.vector.specs.contracts.sweep.turns

module _ {M : Type 1} {𝓤 : Ura M} (𝓛 : Logic 𝓤) (mem : Memory → SProp 𝓤) (run : Routine → Fun 𝓤) where
  pub byte_one : Determines 𝓤 byte.ended (byte.clauses 𝓛 mem run)
  byte_one κs a g x y v w = agree 𝓤 (λ p q. (p ∙ sym q, refl))

  pub bytes_one : Determines 𝓤 bytes.ended (bytes.clauses 𝓛 mem run)
  bytes_one κs a g x y v w = agree 𝓤 (λ p q. (p ∙ sym q, refl))

  pub answer-one : Determines 𝓤 answer.ended (answer.clauses 𝓛 mem run)
  answer-one κs a g x y v w = agree 𝓤 (λ p q. (p ∙ sym q, refl))

  pub told-one : Determines 𝓤 told.ended (told.clauses 𝓛 mem run)
  told-one κs a g x y v w = agree 𝓤 (λ p q. (p ∙ sym q, refl))

  pub tried-one : Determines 𝓤 tried.ended (tried.clauses 𝓛 mem run)
  tried-one κs a g x y v w = agree 𝓤 (λ p q. (p ∙ sym q, refl))

  pub answered-one : Determines 𝓤 answered.ended (answered.clauses 𝓛 mem run)
  answered-one κs a g x y v w = agree 𝓤 (λ p q. (p ∙ sym q, refl))

  pub lent_one : Determines 𝓤 lent.ended (lent.clauses 𝓛 mem run)
  lent_one κs a g x y v w = agree 𝓤 (λ p q. (p.0 ∙ sym q.0, refl))

  pub turns-one : Determines 𝓤 turns.ended (turns.clauses 𝓛 mem run)
  turns-one κs a g x y v w = agree 𝓤 (λ p q. (p ∙ sym q, refl))

  pub turn-length-one : Determines 𝓤 turn_length.ended (turn_length.clauses 𝓛 mem run)
  turn-length-one κs a g x y v w = agree 𝓤 (λ p q. (p.0 ∙ sym q.0, refl))

  pub turn-bytes-one : Determines 𝓤 turn_bytes.ended (turn_bytes.clauses 𝓛 mem run)
  turn-bytes-one κs a g x y v w = agree 𝓤 (λ p q. (p.0 ∙ sym q.0, refl))

  -- the parts are shown equal by their bytes
  pub counted-one : DeterminesBy 𝓤 counted.ended (counted.clauses 𝓛 mem run) (λ κs x. shown x)
  counted-one κs a g x y v w = agree 𝓤 (λ p q. (p ∙ sym q, refl))
