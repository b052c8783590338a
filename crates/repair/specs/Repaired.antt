-- What this crate's functions answer, by the layout's walk and its repair.
use Rattle.std.specs.Prelude.{ℕ, zero, suc, ◌+◌, ◌≡◌, Bool, true, not, ◌&&◌, ◌||◌, cond, List, [], ◌∷◌, ◌++◌, length, drop, get_or, set, leb, ltb, eqb, Option, Some, None, Result, Ok, Err}
use Rattle.std.proofs.lemmas.List.Edits.{sets}
use Rattle.number.specs.Number.{bytes_of, read_at}
use Rattle.layout.specs.Recording.{Frame, frame_bytes, most_frames, follows, follow, in_order, entries_bytes, index_bytes, index_length, table_bytes}
use Rattle.layout.specs.Reading.{Walk, walk}
use Rattle.layout.specs.Opening.{Line, line, first_of, opening_place}
use Rattle.layout.specs.Recorder.{too_long, no_room, filled}
use Rattle.layout.specs.Repair.{Repair, repair_answer, repair_refusal, repair}
use Rattle.frames.specs.Frames.{frame_end}
use Rattle.refusal.specs.Refusal.{unless}
use Rattle.refusal.specs.declared.Refusal.{Refusal}
use Rattle.refusal.specs.declared.Refusal.TheVariants.{Clock}
use Rattle.repair.specs.declared.Repaired.{Repaired}
use Rattle.repair.specs.declared.Step.{Step}
use Rattle.repair.specs.declared.Walked.{Walked}

-- ── What repair hands back ──

-- its answer, and what the lent output holds
pub record Made : Type 0 where
  pub answer : Result Repaired Refusal
  pub out : List ℕ

abbrev pub made : Result Repaired Refusal → List ℕ → Made
made answer out = record { answer = answer; out = out }

-- the kept length, the three header fields and the tail's length
abbrev pub kept_with : (kept count index user tail : ℕ) → Repaired
kept_with kept count index user tail = record { kept = kept; count = count; index = index; user = user; tail = tail }

-- these; or the refusal with its place
unfoldable pub answer_of : (refused place : ℕ) → Repair → Result Repaired Refusal
answer_of n p r = unless n p (kept_with r.kept r.count r.index r.user (length r.tail))

-- "An accepted call fills a lent output from its start and keeps the bytes after the answer"; a refused one has no tail
unfoldable pub made_of : (place : ℕ) → (out : List ℕ) → Repair → Made
made_of p out r = made (answer_of r.refused p r) (filled out r.tail)

-- 3 and 4 have opening's place, the others none
unfoldable pub repair_of : (f out : List ℕ) → Made
repair_of f out = made_of (opening_place (repair_refusal f (length out)) f) out (repair f (length out))

-- ── The walk ──

-- a step to where a frame ends, by its time
abbrev pub step_to : (next time : ℕ) → Result (Option Step) Refusal
step_to next time = Ok (Some (record { next = next; time = time }))

-- a frame that ends there, by its time
unfoldable pub step_by : Option ℕ → List ℕ → (first last place : ℕ) → Result (Option Step) Refusal
step_by (Some next) f first last place = cond (follows first last (read_at f (place + 4) 8)) (step_to next (read_at f (place + 4) 8)) (Err Clock)
step_by None f first last place = Ok None

unfoldable pub step_of : List ℕ → (sections first last place : ℕ) → Result (Option Step) Refusal
step_of f sections first last place = step_by (frame_end f place sections) f first last place

-- the length that `count` frames and one more have in common; none where they differ
unfoldable pub common_with : (count : ℕ) → (common : Option ℕ) → (size : ℕ) → Option ℕ
common_with zero common size = Some size
common_with (suc n) (Some length) size = cond (eqb length size) (Some length) None
common_with (suc n) None size = None

-- the same of `count` frames and these behind them
unfoldable pub common_behind : (count : ℕ) → (common : Option ℕ) → List Frame → Option ℕ
common_behind count common [] = common
common_behind count common (x ∷ xs) = common_behind (count + 1) (common_with count common (length (frame_bytes x))) xs

-- so many frames, which end there, with the length that they have in common
abbrev pub walked_to : (count end : ℕ) (common : Option ℕ) → Result Walked Refusal
walked_to count end common = Ok (record { count = count; end = end; common = common })

-- the frames of a walk from `place` on, behind `count` others of which the last has the time `last`: their number, their end and the length that all
-- have in common; or that the times break the rule
unfoldable pub walked_behind : Walk → (first last count : ℕ) (common : Option ℕ) (place : ℕ) → Result Walked Refusal
walked_behind w first last count common place =
    cond (follow first last w.frames) (walked_to (count + length w.frames) (place + w.bytes) (common_behind count common w.frames)) (Err Clock)

unfoldable pub walked_from : List ℕ → (sections first left last count : ℕ) (common : Option ℕ) (place : ℕ) → Result Walked Refusal
walked_from f sections first left last count common place = walked_behind (walk left sections (drop place f)) first last count common place

-- all frames from the start of the walk on
unfoldable pub walked_all : Walk → (start : ℕ) → Result Walked Refusal
walked_all w start = cond (in_order w.frames) (walked_to (length w.frames) (start + w.bytes) (common_behind 0 None w.frames)) (Err Clock)

unfoldable pub walked_in : List ℕ → (sections start : ℕ) → Result Walked Refusal
walked_in f sections start = walked_all (walk most_frames sections (drop start f)) start

-- the length of frame i kept, where there is a place for it
unfoldable pub noted : (lengths : List ℕ) → (i size : ℕ) → List ℕ
noted ls i n = cond (ltb i (length ls)) (set ls i n) ls

-- the lengths of these frames kept, the first of them having number i
unfoldable pub noted_from : (lengths : List ℕ) → (i : ℕ) → List Frame → List ℕ
noted_from ls i [] = ls
noted_from ls i (x ∷ xs) = noted_from (noted ls i (length (frame_bytes x))) (i + 1) xs

-- a walk that ends in order has kept the lengths of its frames
pub record Lengths (f : List ℕ) (sections start : ℕ) (r : Result Walked Refusal) (before after : List ℕ) : Type 0 where
  pub kept : (w : Walked) → r ≡ Ok w → after ≡ noted_from before 0 (walk most_frames sections (drop start f)).frames

-- how many frames a walk of at most `count` takes from a place on
unfoldable pub frames_in : List ℕ → (sections count place : ℕ) → ℕ
frames_in f sections count place = length (walk count sections (drop place f)).frames

-- each of these frames has that length; where there is none nothing is said
unfoldable pub alike : (common : Option ℕ) → List Frame → Bool
alike None frames = true
alike (Some n) [] = true
alike (Some n) (x ∷ xs) = eqb (length (frame_bytes x)) n && alike (Some n) xs

unfoldable pub alike_in : List ℕ → (sections : ℕ) (common : Option ℕ) (count place : ℕ) → Bool
alike_in f sections common count place = alike common (walk count sections (drop place f)).frames

-- each of these frames has the length that is kept for it, the first of them having number i
unfoldable pub listed : (lengths : List ℕ) → (i : ℕ) → List Frame → Bool
listed ls i [] = true
listed ls i (x ∷ xs) = (leb (length ls) i || eqb (get_or ls i 0) (length (frame_bytes x))) && listed ls (i + 1) xs

unfoldable pub listed_in : List ℕ → (sections : ℕ) → (lengths : List ℕ) → (i count place : ℕ) → Bool
listed_in f sections ls i count place = listed ls i (walk count sections (drop place f)).frames

-- the end that was found; 0 for none
unfoldable pub end_in : Option ℕ → ℕ
end_in (Some n) = n
end_in None = 0

-- where the next frame starts, by the length that was kept of this one, or where it is found to end
unfoldable pub next_kept : List ℕ → (place sections : ℕ) → (lengths : List ℕ) → (i : ℕ) → ℕ
next_kept f place sections ls i = cond (ltb i (length ls)) (place + get_or ls i 0) (end_in (frame_end f place sections))

-- by the length that all have in common, or so
unfoldable pub next_by : List ℕ → (place sections : ℕ) (common : Option ℕ) → (lengths : List ℕ) → (i : ℕ) → ℕ
next_by f place sections None ls i = next_kept f place sections ls i
next_by f place sections (Some n) ls i = place + n

-- ── The tail ──

-- the entries of at most `count` frames from a place on
unfoldable pub entries_in : List ℕ → (sections first count place : ℕ) → List ℕ
entries_in f sections first count place = entries_bytes first place (walk count sections (drop place f)).frames

-- their index, the first frame's time being read behind its mark
unfoldable pub index_in : List ℕ → (sections start count : ℕ) → List ℕ
index_in f sections start count = bytes_of 4 count ++ entries_in f sections (read_at f (start + 4) 8) count start

-- the output with that index at its start and an empty table behind it
unfoldable pub tailed : List ℕ → (sections start count : ℕ) → (out : List ℕ) → List ℕ
tailed f sections start count out = sets (sets out 0 (index_in f sections start count)) (index_length count) (table_bytes [])

-- ── The frames' part of repair: 13, 15, 9 ──

unfoldable pub tail_of : Walk → (start : ℕ) → List ℕ
tail_of w start = index_bytes start w.frames ++ table_bytes []

-- the lines behind 16, of a walk that starts there
unfoldable pub walk_lines : Walk → (start room : ℕ) → List Line
walk_lines w start room =
    line 13 (not (in_order w.frames))
    ∷ line 15 (too_long (start + w.bytes) (length w.frames))
    ∷ line 9 (no_room room (length (tail_of w start)))
    ∷ []

-- what is kept and what follows it, where no line holds
unfoldable pub keeping : Walk → (start : ℕ) → Repair
keeping w start =
    record {
      refused = 0;
      kept = start + w.bytes;
      count = length w.frames;
      index = start + w.bytes;
      user = start + w.bytes + index_length (length w.frames);
      tail = tail_of w start;
    }

unfoldable pub walk_repaired : Walk → (start : ℕ) → (out : List ℕ) → Made
walk_repaired w start out = made_of 0 out (repair_answer (first_of (walk_lines w start (length out))) (keeping w start))

unfoldable pub frames_repaired : List ℕ → (sections start : ℕ) → (out : List ℕ) → Made
frames_repaired f sections start out = walk_repaired (walk most_frames sections (drop start f)) start out
