-- The code's calls in a row, each passed the recorder and the notes as the call before left them.
use Rattle.std.specs.Prelude.{ℕ, ◌^◌, ◌<◌, ◌≡◌, true, List, [], ◌∷◌, ◌++◌, length, take, ℤ, Result, Ok, Err}
use Rattle.std.proofs.Math.Pow.{are_bytes}
use Rattle.std.specs.Int.{w64}
use Rattle.std.proofs.Common.{SFits, of_z}
use Rattle.layout.specs.Recorder as layout
use Rattle.layout.specs.Storage as storage
use Rattle.layout.specs.Storage.{Call, writes, stored}
use Rattle.recorder.specs.Recorded.{Made, begin_of, add_of, close_of}
use Rattle.recorder.specs.declared.Piece.{Piece}
use Rattle.refusal.specs.declared.Refusal.{Refusal}
use Rattle.recorder.specs.declared.Recorder.{Recorder}

-- ── The code's calls in a row ──

-- the calls a box can make, each with what it lends: the bytes, and the output as it is before the call
pub data LentCall : Type 0 where
  begins : (set_up system out : List ℕ) → LentCall
  adds : (time : ℤ) → (exposure : ℕ) → (sections out : List ℕ) → LentCall
  closes : (out : List ℕ) → LentCall

-- the recorder and the notes as they are passed on, and the pieces handed out so far
pub record Chain : Type 0 where
  pub recorder : Recorder
  pub notes : List ℕ
  pub pieces : List layout.Piece

-- the piece that a call names, its bytes taken from the output's start; a refused call hands out none
unfoldable pub pieces_in : Result Piece Refusal → (out : List ℕ) → List layout.Piece
pieces_in (Ok p) out = layout.piece p.place (take p.length out) ∷ []
pieces_in (Err n) out = []

unfoldable pub after : Chain → Made → Chain
after ch m = record { recorder = m.taken.state; notes = m.notes; pieces = ch.pieces ++ pieces_in m.taken.piece m.out }

-- one call, by the contract of the code's function
unfoldable pub chained : Chain → LentCall → Chain
chained ch (begins set_up system out) = after ch (begin_of ch.recorder set_up system ch.notes out)
chained ch (adds time exposure sections out) = after ch (add_of ch.recorder time exposure sections ch.notes out)
chained ch (closes out) = after ch (close_of ch.recorder ch.notes out)

unfoldable pub chain : Chain → List LentCall → Chain
chain ch [] = ch
chain ch (c ∷ cs) = chain (chained ch c) cs

-- a recording of ours: from this recorder, these notes and an empty file, any calls in a row
unfoldable pub recording : Recorder → (notes : List ℕ) → List LentCall → Chain
recording r notes calls = chain (record { recorder = r; notes = notes; pieces = [] }) calls

-- the file that its pieces make, each stored at its place; and the same when storing stops after m bytes
unfoldable pub file_made : Chain → List ℕ
file_made ch = stored [] (writes ch.pieces)

unfoldable pub file_cut : (m : ℕ) → Chain → List ℕ
file_cut m ch = stored [] (take m (writes ch.pieces))

-- ── The same calls of the definitions ──

unfoldable pub call_of : LentCall → Call
call_of (begins set_up system out) = storage.begins set_up system (length out)
call_of (adds time exposure sections out) = storage.adds (of_z w64 time) exposure sections (length out)
call_of (closes out) = storage.closes (length out)

-- what the types of a call's arguments say
unfoldable pub Typed : LentCall → Type 0
Typed (begins set_up system out) = (are_bytes set_up ≡ true) × (are_bytes system ≡ true)
Typed (adds time exposure sections out) = SFits w64 time × (exposure < 2 ^ 32) × (are_bytes sections ≡ true)
Typed (closes out) = Unit {0}

unfoldable pub AllTyped : List LentCall → Type 0
AllTyped [] = Unit {0}
AllTyped (c ∷ cs) = Typed c × AllTyped cs
