-- A recording on storage that keeps the order of writes: its calls chained, its pieces stored byte by byte, and a cut after any of those bytes.
use Rattle.std.specs.Prelude.{ℕ, zero, suc, ◌^◌, Bool, true, ◌&&◌, cond, List, [], ◌∷◌, ◌++◌, take, ltb, eqb}
use Rattle.std.proofs.Math.Pow.{are_bytes}
use Rattle.layout.specs.Recording.{Recording}
use Rattle.layout.specs.Reading.{exactly, times, sized, table, value_or}
use Rattle.layout.specs.Recorder.{fresh, State, Piece, Step, sections_of, begin, add, close}

-- ── A recording of ours ──

-- the calls a box can make, each with the room of its lent output
pub data Call : Type 0 where
  begins : (set_up system : List ℕ) → (room : ℕ) → Call
  adds : (time exposure : ℕ) → (sections : List ℕ) → (room : ℕ) → Call
  closes : (room : ℕ) → Call

-- what is passed on from call to call, and the pieces handed out so far
pub record Session : Type 0 where
  pub state : State
  pub notes : List ℕ
  pub pieces : List Piece

abbrev pub fresh_state : State
fresh_state = record { stage = fresh; sections = 0; frames = 0; first = 0; last = 0; end = 0 }

-- "A recording of ours starts from a fresh state and a file that is empty"
unfoldable pub started : (notes : List ℕ) → Session
started notes = record { state = fresh_state; notes = notes; pieces = [] }

-- the same from any state whose stage is fresh, whatever its numbers
abbrev pub started_from : State → (notes : List ℕ) → Session
started_from st notes = record { state = st; notes = notes; pieces = [] }

-- "Each accepted call hands out one piece", a refused one none
unfoldable pub piece_of : Step → (refused : ℕ) → List Piece
piece_of step zero = step.piece ∷ []
piece_of step (suc n) = []

-- "every later call is passed the state and notes as the call before left them"
unfoldable pub passed_on : Session → Step → Session
passed_on ss step =
    record { state = step.state; notes = step.notes; pieces = ss.pieces ++ piece_of step step.refused }

unfoldable pub called : Session → Call → Session
called ss (begins set_up system room) = passed_on ss (begin ss.state set_up system ss.notes room)
called ss (adds time exposure sections room) = passed_on ss (add ss.state time exposure sections ss.notes room)
called ss (closes room) = passed_on ss (close ss.state ss.notes room)

-- the calls one after another, in whatever order, refused ones among them
unfoldable pub session : Session → List Call → Session
session ss [] = ss
session ss (c ∷ cs) = session (called ss c) cs

-- ── What it was given ──

unfoldable pub nothing_given : Recording
nothing_given = record { sections = []; system = []; frames = []; user = [] }

unfoldable pub accepted : Step → Bool
accepted step = eqb step.refused 0

unfoldable pub given_by : Session → Call → Recording → Recording
given_by ss (begins set_up system room) r =
    cond (accepted (begin ss.state set_up system ss.notes room))
    (record { sections = sections_of set_up; system = value_or [] (exactly table system); frames = []; user = [] })
    r
given_by ss (adds time exposure sections room) r =
    cond (accepted (add ss.state time exposure sections ss.notes room))
    (record {
      sections = r.sections;
      system = r.system;
      frames =
          r.frames
          ++ (record { time = time; exposure = exposure; sections = value_or [] (exactly (times ss.state.sections sized) sections) } ∷ []);
      user = r.user;
    })
    r
given_by ss (closes room) r = r

-- the sections, system tags and frames of the accepted calls
unfoldable pub given : Session → List Call → Recording → Recording
given ss [] r = r
given ss (c ∷ cs) r = given (called ss c) cs (given_by ss c r)

-- what the types of a call's arguments say: bytes, a 64-bit pattern, a UInt32
unfoldable pub call_fits : Call → Bool
call_fits (begins set_up system room) = are_bytes set_up && are_bytes system
call_fits (adds time exposure sections room) = ltb time (2 ^ 64) && ltb exposure (2 ^ 32) && are_bytes sections
call_fits (closes room) = true

-- ── The card ──

-- one byte is written at a place; past the end there would be zeros between
unfoldable pub write : List ℕ → (place byte : ℕ) → List ℕ
write [] zero b = b ∷ []
write [] (suc p) b = 0 ∷ write [] p b
write (x ∷ xs) zero b = b ∷ xs
write (x ∷ xs) (suc p) b = x ∷ write xs p b

pub record Written : Type 0 where
  pub place : ℕ
  pub byte : ℕ

unfoldable pub writes_at : (place : ℕ) → List ℕ → List Written
writes_at p [] = []
writes_at p (b ∷ bs) = record { place = p; byte = b } ∷ writes_at (suc p) bs

-- the pieces as single bytes, in the order in which they are written
unfoldable pub writes : List Piece → List Written
writes [] = []
writes (p ∷ ps) = writes_at p.place p.bytes ++ writes ps

unfoldable pub stored : List ℕ → List Written → List ℕ
stored f [] = f
stored f (w ∷ ws) = stored (write f w.place w.byte) ws

-- the file on the card when all pieces of a session are stored, and when the power went after m bytes
unfoldable pub file_of : Session → List ℕ
file_of ss = stored [] (writes ss.pieces)

unfoldable pub cut_file : (m : ℕ) → Session → List ℕ
cut_file m ss = stored [] (take m (writes ss.pieces))
