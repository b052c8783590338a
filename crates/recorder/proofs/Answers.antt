-- What a call answers: refused, or accepted.
-- Assumes nothing.
use Rattle.std.specs.Prelude.{Result, Err, ⊤}
use Prim.Native.Nat.{ℕ, suc}
use mathlib.Core.Path.{◌≡◌, refl, sym, ◌∙◌, ap}
use mathlib.Core.List.{List}
use lib.ListN.{length}
use Rattle.layout.specs.Recorder.{State, Step, answer, filled, begin_place}
use Rattle.refusal.specs.Refusal.{placed, unless}
use Rattle.refusal.specs.declared.Refusal.{Refusal}
use Rattle.beginning.proofs.Pieces.{unless-err}
use Rattle.limits.specs.Limits.{state_in}
use Rattle.limits.specs.declared.Numbers.{Numbers}
use Rattle.recorder.specs.Recorded.{numbers_of, state_of, recorder_of, made, given, answered, taken_of, made_of, made_begun}
use Rattle.recorder.specs.declared.Recorder.{Recorder}

-- the number with its place, the recorder as it was, and no lent byte changed
pub refused-made : (r : Recorder) (st : State) (notes out : List ℕ) (n : Refusal) (m at : ℕ) (step : Step) (l : Result ⊤ Refusal)
    → l ≡ unless m at tt → l ≡ Err n → made (record { state = r; piece = Err n }) notes out ≡ made_of at r out (answer m st notes step)
unfolding made_of taken_of answered answer filled
refused-made r st notes out n m at step l e h =
    let (k, i, o) = unless-err m at tt n (sym e ∙ h) in
    rw (o, i)

-- the same of a begin call, whose place goes by its number
pub refused-begun : (r : Recorder) (st : State) (s system notes out : List ℕ) (m : ℕ) (step : Step)
    → made (record { state = r; piece = Err (placed (suc m) (begin_place (suc m) s system)) }) notes out
    ≡ made_begun r s system out (answer (suc m) st notes step)
unfolding made_begun answer
refused-begun r st s system notes out m step =
    refused-made r st notes out _ (suc m) (begin_place (suc m) s system) step (unless (suc m) (begin_place (suc m) s system) tt) refl (unfold unless in refl)

-- the step's state and piece, its notes, and the output filled by the piece
pub accepted-made : (r : Recorder) (st : State) (notes out : List ℕ) (m at : ℕ) (step : Step) → m ≡ 0 → step.refused ≡ 0
    → made (record { state = recorder_of step.state; piece = given step.piece.place (length step.piece.bytes) }) step.notes
    (filled out step.piece.bytes) ≡ made_of at r out (answer m st notes step)
unfolding made_of taken_of answered answer
accepted-made r st notes out m at step h z = rw (h, z)

-- the state of the recorder's numbers
pub state-is : (r : Recorder) (m : Numbers) → m ≡ numbers_of r → state_in m ≡ state_of r
unfolding state_of
state-is r m e = ap state_in e
