-- The code's recorder and the layout's state are the same numbers: a chain of the code's calls is the chain of the definitions' calls.
-- Assumes nothing.
use Prim.Native.Nat.{ℕ, zero, suc}
use mathlib.Core.Path.{◌≡◌, refl}
use mathlib.Core.Bool.{Bool, true, false, cond}
use mathlib.Core.List.{List}
use lib.ListN.{length, take, drop}
use lib.Seq.{take-append_seam}
use lib.IntN.{ℤ}
use lib.Dec.{eqb}
use mir.Syntax.{w64}
use mir.Val.{Fits, SFits, of_z}
use mir.Facts.{to_z-of_z, of_z-to_z, Fits-of_z, Fits-lit, sfits_lit, sfits_to_z}
use Rattle.layout.specs.Opening.{first_of}
use Rattle.layout.specs.Recorder as layout
use Rattle.layout.specs.Recorder.{State, Step, answer, filled, first_after, added, closed_by, begun, add_lines, close_lines, begin_lines}
use Rattle.layout.specs.Storage.{fresh_state}
use Rattle.stages.specs.Stages.{stage_of, to_stage}
use Rattle.limits.specs.Limits.{state_in}
use Rattle.recorder.specs.Recorded.{numbers_of, state_of, recorder_of, fresh_recorder, answered, taken_of, made_of, made_begun, begin_of, add_of, close_of}
use Rattle.stages.specs.declared.Stage.{Stage}
use Rattle.stages.specs.declared.Stage.TheVariants.{Fresh, Running, Closing, Closed}
use Rattle.recorder.specs.declared.Recorder.{Recorder}

-- ── There and back ──

pub stage-there : (s : Stage) → to_stage (stage_of s) ≡ s
unfolding to_stage stage_of
stage-there Fresh = refl
stage-there Running = refl
stage-there (Closing p) = refl
stage-there Closed = refl

pub stage-back : (s : layout.Stage) → stage_of (to_stage s) ≡ s
unfolding to_stage stage_of
stage-back layout.fresh = refl
stage-back layout.running = refl
stage-back (layout.closing p) = refl
stage-back layout.closed = refl

-- a recorder that the code can hold: its times are Int64s
pub record Held (r : Recorder) : Type 0 where
  pub first_fits : SFits w64 r.first
  pub last_fits : SFits w64 r.last

pub recorder-there : (r : Recorder) → Held r → recorder_of (state_of r) ≡ r
unfolding recorder_of state_of state_in numbers_of
recorder-there r h = rw (stage-there, to_z-of_z h.first_fits, to_z-of_z h.last_fits)

pub state-back : (st : State) → Fits w64 st.first → Fits w64 st.last → state_of (recorder_of st) ≡ st
unfolding recorder_of state_of state_in numbers_of
state-back st f l = rw (stage-back, of_z-to_z f, of_z-to_z l)

pub fresh-state : state_of fresh_recorder ≡ fresh_state
unfolding state_of state_in numbers_of stage_of fresh_recorder
fresh-state = refl

-- ── One call ──

-- refused, the state comes back equal; accepted, it is the step's
taken-state : (m at : ℕ) (r : Recorder) (notes out : List ℕ) (step : Step) → step.refused ≡ 0 → state_of (recorder_of step.state) ≡ step.state
    → state_of (made_of at r out (answer m (state_of r) notes step)).taken.state ≡ (answer m (state_of r) notes step).state
unfolding made_of taken_of answered answer
taken-state zero at r notes out step z e = rw z e
taken-state (suc m) at r notes out step z e = refl

pub begin-state : (r : Recorder) (set_up system notes out : List ℕ)
    → state_of (begin_of r set_up system notes out).taken.state ≡ (layout.begin (state_of r) set_up system notes (length out)).state
unfolding begin_of made_begun layout.begin begun
begin-state r set_up system notes out = taken-state (first_of (begin_lines (state_of r) set_up system notes (length out))) _ r notes out _ refl
    (state-back (begun set_up system) (Fits-lit tt) (Fits-lit tt))

first_fits_lem : (r : Recorder) (time : ℤ) → Held r → SFits w64 time → Fits w64 (first_after (state_of r) (of_z w64 time))
unfolding first_after state_of state_in numbers_of
first_fits_lem r time h t = go (eqb r.frames 0)
  where
    go : (b : Bool) → Fits w64 (cond b (of_z w64 time) (of_z w64 r.first))
    go true = Fits-of_z t
    go false = Fits-of_z h.first_fits

pub add-state : (r : Recorder) (time : ℤ) (exposure : ℕ) (sections notes out : List ℕ) → Held r → SFits w64 time
    → state_of (add_of r time exposure sections notes out).taken.state ≡ (layout.add (state_of r) (of_z w64 time) exposure sections notes
    (length out)).state
unfolding add_of layout.add added
add-state r time exposure sections notes out h t =
    taken-state (first_of (add_lines (state_of r) (of_z w64 time) exposure sections notes (length out))) _ r notes out _ refl
    (state-back (added (state_of r) (of_z w64 time) exposure sections) (first_fits_lem r time h t) (Fits-of_z t))

pub close-state : (r : Recorder) (notes out : List ℕ) → Held r
    → state_of (close_of r notes out).taken.state ≡ (layout.close (state_of r) notes (length out)).state
unfolding close_of layout.close closed_by state_of state_in numbers_of
close-state r notes out h =
    taken-state (first_of (close_lines (state_of r) notes (length out))) _ r notes out _ refl
    (state-back (closed_by (state_of r)) (Fits-of_z h.first_fits) (Fits-of_z h.last_fits))

-- ── What the code can hold, it hands back ──

pub fresh-held : Held fresh_recorder
unfolding fresh_recorder
fresh-held = record { first_fits = sfits_lit tt; last_fits = sfits_lit tt }

taken-held : (m at : ℕ) (r : Recorder) (notes out : List ℕ) (step : Step) → step.refused ≡ 0 → Held r → Fits w64 step.state.first
    → Fits w64 step.state.last → Held (made_of at r out (answer m (state_of r) notes step)).taken.state
unfolding made_of taken_of answered answer recorder_of
taken-held zero at r notes out step z h f l = rw z (record { first_fits = sfits_to_z f; last_fits = sfits_to_z l })
taken-held (suc m) at r notes out step z h f l = h

pub begin-held : (r : Recorder) (set_up system notes out : List ℕ) → Held r → Held (begin_of r set_up system notes out).taken.state
unfolding begin_of made_begun layout.begin begun
begin-held r set_up system notes out h = taken-held (first_of (begin_lines (state_of r) set_up system notes (length out))) _ r notes out _ refl h
    (Fits-lit tt) (Fits-lit tt)

pub add-held : (r : Recorder) (time : ℤ) (exposure : ℕ) (sections notes out : List ℕ) → Held r → SFits w64 time
    → Held (add_of r time exposure sections notes out).taken.state
unfolding add_of layout.add added
add-held r time exposure sections notes out h t =
    taken-held (first_of (add_lines (state_of r) (of_z w64 time) exposure sections notes (length out))) _ r notes out _ refl h (first_fits_lem r time h t)
    (Fits-of_z t)

pub close-held : (r : Recorder) (notes out : List ℕ) → Held r → Held (close_of r notes out).taken.state
unfolding close_of layout.close closed_by state_of state_in numbers_of
close-held r notes out h = taken-held (first_of (close_lines (state_of r) notes (length out))) _ r notes out _ refl h (Fits-of_z h.first_fits)
    (Fits-of_z h.last_fits)

-- ── The piece, in the output ──

pub piece-there : (out piece : List ℕ) → take (length piece) (filled out piece) ≡ piece
unfolding filled
piece-there out piece = take-append_seam piece (drop (length piece) out)
