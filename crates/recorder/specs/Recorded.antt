-- The recorder's state and its answers as the code holds them, by the layout's definitions of the three calls.
use Rattle.std.specs.Prelude.{ℕ, zero, suc, List, length, ℤ, pos, Result, Ok, Err}
use Rattle.std.specs.Int.{w64}
use Rattle.std.proofs.Common.{of_z, to_z}
use Rattle.layout.specs.Recorder as layout
use Rattle.layout.specs.Recorder.{State, Step, filled, begin_place}
use Rattle.refusal.specs.Refusal.{placed}
use Rattle.refusal.specs.declared.Refusal.{Refusal}
use Rattle.stages.specs.declared.Stage.TheVariants.{Fresh}
use Rattle.recorder.specs.declared.Recorder.{Recorder}
use Rattle.recorder.specs.declared.Piece.{Piece}
use Rattle.recorder.specs.declared.Taken.{Taken}
use Rattle.stages.specs.Stages.{to_stage}
use Rattle.limits.specs.Limits.{state_in}
use Rattle.limits.specs.declared.Numbers.{Numbers}

-- ── The state ──

-- the state of a recorder: its times by their 64-bit patterns
unfoldable pub numbers_of : Recorder → Numbers
numbers_of r =
    record {
      stage = r.stage;
      sections = r.sections;
      frames = r.frames;
      first = of_z w64 r.first;
      last = of_z w64 r.last;
      end = r.end;
    }

unfoldable pub state_of : Recorder → State
state_of r = state_in (numbers_of r)

-- a recording starts from this one
unfoldable pub fresh_recorder : Recorder
fresh_recorder = record { stage = Fresh; sections = 0; frames = 0; first = pos 0; last = pos 0; end = 0 }

-- the recorder of a state: its times by their Int64s
unfoldable pub recorder_of : State → Recorder
recorder_of st =
    record {
      stage = to_stage st.stage;
      sections = st.sections;
      frames = st.frames;
      first = to_z w64 st.first;
      last = to_z w64 st.last;
      end = st.end;
    }

-- ── What a call answers, and what it leaves in the lent notes and output ──

pub record Made : Type 0 where
  pub taken : Taken
  pub notes : List ℕ
  pub out : List ℕ

abbrev pub made : Taken → (notes out : List ℕ) → Made
made t notes out = record { taken = t; notes = notes; out = out }

-- a piece of so many bytes for a place in the file
abbrev pub given : (place len : ℕ) → Result Piece Refusal
given place len = Ok (record { place = place; length = len })

-- refused, the same recorder
abbrev pub refused_with : Recorder → Refusal → Taken
refused_with self n = record { state = self; piece = Err n }

-- refused: the same recorder, the number and its place; accepted: the step's state, and the place and length of its piece
unfoldable pub answered : (refused at : ℕ) → Recorder → Step → Taken
answered zero at self step = record { state = recorder_of step.state; piece = given step.piece.place (length step.piece.bytes) }
answered (suc n) at self step = refused_with self (placed (suc n) at)

unfoldable pub taken_of : (at : ℕ) → Recorder → Step → Taken
taken_of at self step = answered step.refused at self step

-- the output is filled from its start by the piece, which a refusal leaves empty
unfoldable pub made_of : (at : ℕ) → Recorder → (out : List ℕ) → Step → Made
made_of at self out step = made (taken_of at self step) step.notes (filled out step.piece.bytes)

-- to begin: 10 and 3 carry a place in the set-up list, 4 in the table
unfoldable pub made_begun : Recorder → (set_up system out : List ℕ) → Step → Made
made_begun self set_up system out step = made_of (begin_place step.refused set_up system) self out step

unfoldable pub begin_of : Recorder → (set_up system notes out : List ℕ) → Made
begin_of self set_up system notes out = made_begun self set_up system out (layout.begin (state_of self) set_up system notes (length out))

-- no number of the other calls carries a place
unfoldable pub add_of : Recorder → (time : ℤ) → (exposure : ℕ) → (sections notes out : List ℕ) → Made
add_of self time exposure sections notes out =
    made_of 0 self out (layout.add (state_of self) (of_z w64 time) exposure sections notes (length out))

unfoldable pub close_of : Recorder → (notes out : List ℕ) → Made
close_of self notes out = made_of 0 self out (layout.close (state_of self) notes (length out))
