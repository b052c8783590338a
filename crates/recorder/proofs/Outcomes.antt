-- Each public call of this crate has one outcome.
-- Assumes nothing.
use mathlib.Core.Path.{refl, sym, ◌∙◌}
use base.Logic.{SProp}
use contract.Monad.{Fun}
use types.Logic.{Logic}
use seplogic.Ra.Ura.{Ura}
use prog.Memory.{Memory}
use prog.Routine.{Routine}
use Rattle.outcome.specs.Outcome.{Determines, agree}
use Rattle.recorder.specs.contracts.Recorder.new
use Rattle.recorder.specs.contracts.Recorder.begin
use Rattle.recorder.specs.contracts.Recorder.add
use Rattle.recorder.specs.contracts.Recorder.close

module _ {M : Type 1} {𝓤 : Ura M} (𝓛 : Logic 𝓤) (mem : Memory → SProp 𝓤) (run : Routine → Fun 𝓤) where
  pub new-one : Determines 𝓤 new.ended (new.clauses 𝓛 mem run)
  new-one κs a g x y v w = agree 𝓤 (λ p q. (p ∙ sym q, refl))

  pub begin-one : Determines 𝓤 begin.ended (begin.clauses 𝓛 mem run)
  begin-one κs a g x y v w =
      agree 𝓤 (λ p q. let e = p ∙ sym q in (λ i. (e i).taken, λ i. (v.0, (v.1.0, (v.1.1.0, ((e i).notes, ((e i).out, v.1.1.1.1.1)))))))

  pub add-one : Determines 𝓤 add.ended (add.clauses 𝓛 mem run)
  add-one κs a g x y v w = agree 𝓤 (λ p q. let e = p ∙ sym q in
      (λ i. (e i).taken, λ i. (v.0, (v.1.0, (v.1.1.0, (v.1.1.1.0, ((e i).notes, ((e i).out, v.1.1.1.1.1.1))))))))

  pub close-one : Determines 𝓤 close.ended (close.clauses 𝓛 mem run)
  close-one κs a g x y v w = agree 𝓤 (λ p q. let e = p ∙ sym q in (λ i. (e i).taken, λ i. (v.0, (v.1.0, ((e i).out, v.1.1.1)))))
