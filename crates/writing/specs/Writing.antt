-- A frame and its index entry as they are written into what is lent.
use Rattle.std.specs.Prelude.{ℕ, ◌+◌, ◌*◌, ◌-◌, cond, ◌||◌, List, ◌++◌, length, ltb}
use Rattle.std.proofs.lemmas.List.Edits.{sets}
use Rattle.number.specs.Number.{bytes_of}
use Rattle.layout.specs.Recording.{most_frames, index_length}
use Rattle.layout.specs.Recorder.{frame_piece, no_room}
use Rattle.times.specs.Times.{since_first}

-- the output with a frame at its start, where there is room for it
unfoldable pub framed : (out : List ℕ) → (time exposure : ℕ) → (sections : List ℕ) → List ℕ
framed out time exposure sections =
    cond (no_room (length out) (16 + length sections)) out (sets out 0 (frame_piece time exposure sections))

-- "n into the first four bytes of lent notes and the new entry at 16·n − 12; their other bytes stay"
unfoldable pub noted_at : (notes : List ℕ) → (n since place size : ℕ) → List ℕ
noted_at notes n since place size =
    sets (sets notes 0 (bytes_of 4 n)) (16 * n - 12) (bytes_of 4 since ++ bytes_of 8 place ++ bytes_of 4 size)

-- the same where n is a frame's number, and there is room
unfoldable pub noted_in : (notes : List ℕ) → (n since place size : ℕ) → List ℕ
noted_in notes n since place size =
    cond (ltb n 1 || ltb most_frames n || no_room (length notes) (index_length n)) notes (noted_at notes n since place size)

-- what is lent to a frame call
pub record Lent : Type 0 where
  pub notes : List ℕ
  pub out : List ℕ

abbrev pub lent : (notes out : List ℕ) → Lent
lent notes out = record { notes = notes; out = out }

-- both, n being the count with the frame
unfoldable pub frame_added : (n first time exposure place : ℕ) → (sections notes out : List ℕ) → Lent
frame_added n first time exposure place sections notes out =
    lent (noted_in notes n (since_first first time) place (16 + length sections)) (framed out time exposure sections)
