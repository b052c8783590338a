-- The flat answers of recording, by cases on the answers of the calls behind them; and what a flat state asks for.
use Rattle.std.specs.Prelude.{ℕ, cond, List, ltb, eqb, Result, Ok, Err}
use Rattle.stages.specs.declared.Stage.{Stage}
use Rattle.stages.specs.declared.Stage.TheVariants as stage
use Rattle.recorder.specs.declared.Piece.{Piece}
use Rattle.refusal.specs.Refusal.{number_of, place_of}
use Rattle.refusal.specs.declared.Refusal.{Refusal}
use Rattle.recorder.specs.declared.Recorder.{Recorder}
use Rattle.recorder.specs.declared.Taken.{Taken}
use Rattle.recorder.specs.Recorded as recorder
use Rattle.face_recording.specs.declared.FstfRecorder.{FstfRecorder}
use Rattle.face_recording.specs.declared.FstfTaken.{FstfTaken}

-- the pieces are 0 to 4
unfoldable pub closing_at : (piece : ℕ) → Stage
closing_at p = cond (ltb 4 p) stage.Closed (stage.Closing p)

-- the stage of a number; any other number is taken as closed
unfoldable pub stage_asked : (number piece : ℕ) → Stage
stage_asked n p = cond (eqb n 0) stage.Fresh (cond (eqb n 1) stage.Running (cond (eqb n 2) (closing_at p) stage.Closed))

unfoldable pub recorder_asked : FstfRecorder → Recorder
recorder_asked r =
    record {
      stage = stage_asked r.stage r.piece;
      sections = r.sections;
      frames = r.frames;
      first = r.first;
      last = r.last;
      end = r.end;
    }

abbrev pub stage_number : Stage → ℕ
stage_number stage.Fresh = 0
stage_number stage.Running = 1
stage_number (stage.Closing p) = 2
stage_number stage.Closed = 3

abbrev pub piece_number : Stage → ℕ
piece_number stage.Fresh = 0
piece_number stage.Running = 0
piece_number (stage.Closing p) = p
piece_number stage.Closed = 0

unfoldable pub recorder_flat : Recorder → FstfRecorder
recorder_flat r =
    record {
      stage = stage_number r.stage;
      piece = piece_number r.stage;
      sections = r.sections;
      frames = r.frames;
      first = r.first;
      last = r.last;
      end = r.end;
    }

-- a call that was refused: its number, its place, and the state as it was given
abbrev pub taken_not : (given : FstfRecorder) (number place : ℕ) → FstfTaken
taken_not given n place = record { refused = n; place = place; start = 0; length = 0; recorder = given }

-- accepted, the next state goes with the piece
abbrev pub piece_flat : (given next : FstfRecorder) → Result Piece Refusal → FstfTaken
piece_flat given next (Ok p) = record { refused = 0; place = 0; start = p.place; length = p.length; recorder = next }
piece_flat given next (Err n) = taken_not given (number_of n) (place_of n)

unfoldable pub taken_flat : (given : FstfRecorder) → Taken → FstfTaken
taken_flat given t = piece_flat given (recorder_flat t.state) t.piece

-- an answer, and what the call leaves in the lent notes and output
pub record Recorded : Type 0 where
  pub answer : FstfTaken
  pub notes : List ℕ
  pub out : List ℕ

abbrev pub recorded : FstfTaken → (notes out : List ℕ) → Recorded
recorded r notes out = record { answer = r; notes = notes; out = out }

unfoldable pub recorded_flat : (given : FstfRecorder) → recorder.Made → Recorded
recorded_flat given m = recorded (taken_flat given m.taken) m.notes m.out
