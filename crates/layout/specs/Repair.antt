-- "Repair": 1 to 4, 16, 13, 15, 9.
use Rattle.std.specs.Prelude.{ℕ, zero, suc, ◌+◌, Bool, not, List, [], ◌∷◌, ◌++◌, length, take, eqb}
use Rattle.std.proofs.lemmas.List.Edits.{sets}
use Rattle.number.specs.Number.{bytes_of}
use Rattle.layout.specs.Recording.{count_place, index_place, user_place, most_frames, in_order, index_bytes, index_length, table_bytes}
use Rattle.layout.specs.Reading.{Walk}
use Rattle.layout.specs.Opening.{Line, line, first_of, front_lines, refusal, walk_start, walk_of}
use Rattle.layout.specs.Recorder.{too_long, no_room}

-- the walk to its own end, "or after 1,000,000"
unfoldable pub walked : List ℕ → Walk
walked f = walk_of most_frames f

-- "the kept length, which is the end of the last whole frame"
unfoldable pub kept_length : List ℕ → ℕ
kept_length f = walk_start f + (walked f).bytes

unfoldable pub kept_count : List ℕ → ℕ
kept_count f = length (walked f).frames

-- "a tail: the index of the walked frames and an empty user table"
unfoldable pub tail : List ℕ → List ℕ
tail f = index_bytes (walk_start f) (walked f).frames ++ table_bytes []

-- 16 "repair of a file that opens"
abbrev pub whole : List ℕ → Bool
whole f = eqb (refusal f) 0

-- 13 "a frame's time breaks its rule"
abbrev pub broken_times : List ℕ → Bool
broken_times f = not (in_order (walked f).frames)

unfoldable pub repair_lines : List ℕ → (room : ℕ) → List Line
repair_lines f room =
    front_lines f
    ++ (line 16 (whole f)
    ∷ line 13 (broken_times f)
    ∷ line 15 (too_long (kept_length f) (kept_count f))
    ∷ line 9 (no_room room (length (tail f)))
    ∷ [])

unfoldable pub repair_refusal : List ℕ → (room : ℕ) → ℕ
repair_refusal f room = first_of (repair_lines f room)

-- the kept length, the three header fields, and the tail
pub record Repair : Type 0 where
  pub refused : ℕ
  pub kept : ℕ
  pub count : ℕ
  pub index : ℕ
  pub user : ℕ
  pub tail : List ℕ

unfoldable pub repair_answer : (refused : ℕ) → Repair → Repair
repair_answer zero r = r
repair_answer (suc n) r = record { refused = suc n; kept = 0; count = 0; index = 0; user = 0; tail = [] }

unfoldable pub repair : List ℕ → (room : ℕ) → Repair
repair f room =
    repair_answer (repair_refusal f room)
    (record {
      refused = 0;
      kept = kept_length f;
      count = kept_count f;
      index = kept_length f;
      user = kept_length f + index_length (kept_count f);
      tail = tail f;
    })

-- "The repaired file is the kept bytes with those fields set, then the tail."
unfoldable pub with_fields : (count index user : ℕ) → List ℕ → List ℕ
with_fields count index user f =
    sets (sets (sets f count_place (bytes_of 4 count)) index_place (bytes_of 8 index)) user_place (bytes_of 8 user)

unfoldable pub repaired : List ℕ → Repair → List ℕ
repaired f r = with_fields r.count r.index r.user (take r.kept f) ++ r.tail
