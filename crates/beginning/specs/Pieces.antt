-- The first piece of a recording: what a begin call answers behind its stage.
use Rattle.std.specs.Prelude.{ℕ, zero, suc, ◌||◌, List, [], ◌∷◌, length, Option, Some, None, Result, Ok, Err, ⊤}
use Rattle.layout.specs.Opening.{line, first_of}
use Rattle.layout.specs.Recorder.{bad_set_up_list, bad_set_up, sections_of, bad_system_given, first_piece, no_room, begin_place, filled}
use Rattle.refusal.specs.Refusal.{placed, unless}
use Rattle.refusal.specs.declared.Refusal.{Refusal}
use Rattle.beginning.specs.declared.FirstPiece.{FirstPiece}

-- the order of a begin call behind 12; `notes` and `room` are the lengths of what is lent
unfoldable pub piece_refusal : (set_up system : List ℕ) → (notes room : ℕ) → ℕ
piece_refusal set_up system notes room =
    first_of
    (line 10 (bad_set_up_list set_up)
    ∷ line 3 (bad_set_up (sections_of set_up))
    ∷ line 4 (bad_system_given system)
    ∷ line 9 (no_room room (length (first_piece set_up system)) || no_room notes 4)
    ∷ [])

-- the number with its place
unfoldable pub piece_refused : (set_up system : List ℕ) → (notes room : ℕ) → Result ⊤ Refusal
piece_refused set_up system notes room =
    unless (piece_refusal set_up system notes room) (begin_place (piece_refusal set_up system notes room) set_up system) tt

-- an answer, and what the lent output holds
pub record Made : Type 0 where
  pub answer : Result FirstPiece Refusal
  pub out : List ℕ

abbrev pub made : Result FirstPiece Refusal → List ℕ → Made
made answer out = record { answer = answer; out = out }

-- a piece that defines so many sections, and has so many bytes
abbrev pub written : (sections len : ℕ) → Result FirstPiece Refusal
written sections len = Ok (record { sections = sections; length = len })

unfoldable pub piece_by : (refused : ℕ) → (set_up system out : List ℕ) → Made
piece_by zero set_up system out = made (written (length (sections_of set_up)) (length (first_piece set_up system))) (filled out (first_piece set_up system))
piece_by (suc n) set_up system out = made (Err (placed (suc n) (begin_place (suc n) set_up system))) out

unfoldable pub first_piece_of : (set_up system : List ℕ) → (notes : ℕ) → (out : List ℕ) → Made
first_piece_of set_up system notes out = piece_by (piece_refusal set_up system notes (length out)) set_up system out

-- what a first piece is refused with
unfoldable pub refusal_of : Result FirstPiece Refusal → Option Refusal
refusal_of (Ok p) = None
refusal_of (Err r) = Some r
