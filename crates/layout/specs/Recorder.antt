-- "Recording": the state, the three calls, and what each answers on every input.
use Rattle.std.specs.Prelude.{ℕ, zero, suc, ◌+◌, ◌*◌, ◌-◌, ◌^◌, Bool, true, false, not, ◌&&◌, ◌||◌, cond, List, [], ◌∷◌, ◌++◌, length, take, drop, get_or, replicate, leb, ltb, eqb}
use Rattle.std.proofs.lemmas.List.Edits.{sets}
use Rattle.number.specs.Number.{bytes_of}
use Rattle.layout.specs.Recording.{Section, count_place, index_place, user_place, most_sections, most_frames, largest_table, within, every, distinct, legal_section_name, section_names, follows, front_bytes, frame_head_bytes, entry_bytes, index_length, table_bytes}
use Rattle.layout.specs.Reading.{Reader, ◌then◌, give, exactly, times, number, block, string, section_name, number_of_sections, keeping, counted_fault, sized, table, is_bad, value_or, fault_of}
use Rattle.layout.specs.Opening.{Line, line, first_of}

-- ── The state ──

-- "fresh, running, closing at piece 0 to 4, closed"; the piece named is the next one
pub data Stage : Type 0 where
  fresh : Stage
  running : Stage
  closing : ℕ → Stage
  closed : Stage

-- the times are 64-bit patterns; `end` is where the next frame goes
pub record State : Type 0 where
  pub stage : Stage
  pub sections : ℕ
  pub frames : ℕ
  pub first : ℕ
  pub last : ℕ
  pub end : ℕ

unfoldable pub is_fresh : Stage → Bool
is_fresh fresh = true
is_fresh running = false
is_fresh (closing p) = false
is_fresh closed = false

unfoldable pub is_running : Stage → Bool
is_running fresh = false
is_running running = true
is_running (closing p) = false
is_running closed = false

-- "a close call takes running as piece 0"
unfoldable pub takes_close : Stage → Bool
takes_close fresh = false
takes_close running = true
takes_close (closing p) = leb p 4
takes_close closed = false

unfoldable pub piece_number : Stage → ℕ
piece_number fresh = 0
piece_number running = 0
piece_number (closing p) = p
piece_number closed = 0

-- 15, its second half: "end + index + 512,004, with every frame kept or added, would pass 2^40"
unfoldable pub too_long : (end frames : ℕ) → Bool
too_long end frames = ltb (2 ^ 40) (end + index_length frames + largest_table)

-- 12 "past fresh, the state's numbers break a limit (sections 1 to 8, frames at most 1,000,000, piece at most 4, last time by the time rule, end by
-- 15's limit)". The last time is held against the first whatever the frame count: no earlier frame is known.
unfoldable pub broken_state : State → Bool
broken_state st =
    not (within 1 most_sections st.sections)
    || ltb most_frames st.frames
    || ltb 4 (piece_number st.stage)
    || not (follows st.first st.first st.last)
    || too_long st.end st.frames

-- ── What a call answers ──

-- "a piece: a place in the file and bytes"
pub record Piece : Type 0 where
  pub place : ℕ
  pub bytes : List ℕ

abbrev pub piece : ℕ → List ℕ → Piece
piece place bytes = record { place = place; bytes = bytes }

-- the refusal number, 0 for none; the state; the piece; and the notes as they are at the end
pub record Step : Type 0 where
  pub refused : ℕ
  pub state : State
  pub piece : Piece
  pub notes : List ℕ

-- "An accepted call fills a lent output from its start and keeps the bytes after the answer": the output's content after a call that answers `piece`
unfoldable pub filled : (out piece : List ℕ) → List ℕ
filled out piece = piece ++ drop (length piece) out

-- "No lent byte changes and the recorder's state comes back equal"
unfoldable pub answer : (refused : ℕ) → State → List ℕ → Step → Step
answer zero st notes step = step
answer (suc n) st notes step = record { refused = suc n; state = st; piece = piece 0 []; notes = notes }

-- 9 "a lent output is shorter than the answer, and only then"
abbrev pub no_room : (room piece : ℕ) → Bool
no_room room piece = ltb room piece

-- ── To begin: 12, 10, 3, 4, 9 ──

unfoldable pub configured : Reader (List ℕ)
configured = number 2 then block

-- "per section a name, a UInt16 configuration length, the configuration"
unfoldable pub set_up_section : Reader Section
set_up_section = string then λ n. configured then λ c. give (record { name = n; configuration = c })

-- a set-up list, whatever its count and names
unfoldable pub set_up_list : Reader (List Section)
set_up_list = number 1 then λ k. times k set_up_section

unfoldable pub sections_of : List ℕ → List Section
sections_of set_up = value_or [] (exactly set_up_list set_up)

-- 12 "the recorder's stage does not take this call": fresh alone takes it, and its numbers are not looked at
abbrev pub wrong_stage_to_begin : State → Bool
wrong_stage_to_begin st = not (is_fresh st.stage)

-- 10 "a set-up list runs out of bytes or has bytes left over"
abbrev pub bad_set_up_list : (set_up : List ℕ) → Bool
bad_set_up_list set_up = is_bad (exactly set_up_list set_up)

-- 3 "In a complete set-up list, a count or name that breaks the definitions rule"
unfoldable pub bad_set_up : List Section → Bool
bad_set_up ss =
    not (within 1 most_sections (length ss)) || not (every legal_section_name (section_names ss)) || not (distinct (section_names ss))

-- 4 "Nothing may follow either; after the table that is 4."
abbrev pub bad_system_given : (system : List ℕ) → Bool
bad_system_given system = is_bad (exactly table system)

-- "The first piece is everything up to the first frame, with count, index offset and user offset zero"
unfoldable pub first_piece : (set_up system : List ℕ) → List ℕ
first_piece set_up system = front_bytes 0 0 0 (sections_of set_up) system

unfoldable pub begin_lines : State → (set_up system notes : List ℕ) → (room : ℕ) → List Line
begin_lines st set_up system notes room =
    line 12 (wrong_stage_to_begin st)
    ∷ line 10 (bad_set_up_list set_up)
    ∷ line 3 (bad_set_up (sections_of set_up))
    ∷ line 4 (bad_system_given system)
    ∷ line 9 (no_room room (length (first_piece set_up system)) || no_room (length notes) 4)
    ∷ []

-- the place of the refusal: 10 and 3 in the set-up list, 4 in the table; else 0
unfoldable pub begin_place : (refused : ℕ) → (set_up system : List ℕ) → ℕ
begin_place n set_up system =
    cond (eqb n 10) (fault_of (exactly set_up_list set_up))
    (cond (eqb n 3) (counted_fault number_of_sections section_name (keeping configured) 0 set_up)
    (cond (eqb n 4) (fault_of (exactly table system)) 0))

unfoldable pub begun : (set_up system : List ℕ) → State
begun set_up system =
    record {
      stage = running;
      sections = length (sections_of set_up);
      frames = 0;
      first = 0;
      last = 0;
      end = length (first_piece set_up system);
    }

unfoldable pub begin : State → (set_up system notes : List ℕ) → (room : ℕ) → Step
begin st set_up system notes room =
    answer (first_of (begin_lines st set_up system notes room)) st notes
    (record {
      refused = 0;
      state = begun set_up system;
      piece = piece 0 (first_piece set_up system);
      notes = sets notes 0 (replicate 4 0);
    })

-- ── To add a frame: 12, 14, 15, 13, 9 ──

-- the frame's bytes, the sections being in file form
unfoldable pub frame_piece : (time exposure : ℕ) → (sections : List ℕ) → List ℕ
frame_piece time exposure sections = frame_head_bytes time exposure ++ sections

-- 12 for a frame call
abbrev pub wrong_stage_to_add : State → Bool
wrong_stage_to_add st = not (is_running st.stage) || broken_state st

-- 14 "the sections given are not exactly the recorder's number of sizes and bytes, or a size is over its limit"
unfoldable pub bad_shape : State → (sections : List ℕ) → Bool
bad_shape st sections = is_bad (exactly (times st.sections sized) sections)

-- 15 "1,000,000 frames already", or too long with this one
abbrev pub full : State → (time exposure : ℕ) → (sections : List ℕ) → Bool
full st time exposure sections = leb most_frames st.frames || too_long (st.end + length (frame_piece time exposure sections)) (st.frames + 1)

-- 13 "a frame's time breaks its rule"; the first frame takes any
unfoldable pub bad_clock : State → (time : ℕ) → Bool
bad_clock st time = not (eqb st.frames 0) && not (follows st.first st.last time)

unfoldable pub add_lines : State → (time exposure : ℕ) → (sections notes : List ℕ) → (room : ℕ) → List Line
add_lines st time exposure sections notes room =
    line 12 (wrong_stage_to_add st)
    ∷ line 14 (bad_shape st sections)
    ∷ line 15 (full st time exposure sections)
    ∷ line 13 (bad_clock st time)
    ∷ line 9 (no_room room (length (frame_piece time exposure sections)) || no_room (length notes) (index_length (st.frames + 1)))
    ∷ []

unfoldable pub first_after : State → (time : ℕ) → ℕ
first_after st time = cond (eqb st.frames 0) time st.first

unfoldable pub added : State → (time exposure : ℕ) → (sections : List ℕ) → State
added st time exposure sections =
    record {
      stage = running;
      sections = st.sections;
      frames = st.frames + 1;
      first = first_after st time;
      last = time;
      end = st.end + length (frame_piece time exposure sections);
    }

-- "with n the count including it, n into the first four bytes of lent notes and the new entry at 16·n − 12; their other bytes stay"
unfoldable pub noted : State → (time exposure : ℕ) → (sections notes : List ℕ) → List ℕ
noted st time exposure sections notes =
    sets (sets notes 0 (bytes_of 4 (st.frames + 1))) (16 * (st.frames + 1) - 12)
    (entry_bytes (first_after st time) time st.end (length (frame_piece time exposure sections)))

unfoldable pub add : State → (time exposure : ℕ) → (sections notes : List ℕ) → (room : ℕ) → Step
add st time exposure sections notes room =
    answer (first_of (add_lines st time exposure sections notes room)) st notes
    (record {
      refused = 0;
      state = added st time exposure sections;
      piece = piece st.end (frame_piece time exposure sections);
      notes = noted st time exposure sections notes;
    })

-- ── To close: 12, 9 ──

-- "five pieces, one a call: index (the first 4 + 16·n bytes of the notes), an empty user table (four zeros), the count at 5, the user offset at 25,
-- the index offset at 9"
unfoldable pub closing_pieces : State → (notes : List ℕ) → List Piece
closing_pieces st notes =
    piece st.end (take (index_length st.frames) notes)
    ∷ piece (st.end + index_length st.frames) (table_bytes [])
    ∷ piece count_place (bytes_of 4 st.frames)
    ∷ piece user_place (bytes_of 8 (st.end + index_length st.frames))
    ∷ piece index_place (bytes_of 8 st.end)
    ∷ []

unfoldable pub closing_piece : State → (notes : List ℕ) → Piece
closing_piece st notes = get_or (closing_pieces st notes) (piece_number st.stage) (piece 0 [])

-- "9 if they are shorter": the notes matter to the index alone
unfoldable pub notes_short : State → (notes : List ℕ) → Bool
notes_short st notes = eqb (piece_number st.stage) 0 && no_room (length notes) (index_length st.frames)

unfoldable pub stage_after : (piece : ℕ) → Stage
stage_after p = cond (ltb p 4) (closing (p + 1)) closed

-- 12 for a close call
abbrev pub wrong_stage_to_close : State → Bool
wrong_stage_to_close st = not (takes_close st.stage) || broken_state st

unfoldable pub close_lines : State → (notes : List ℕ) → (room : ℕ) → List Line
close_lines st notes room =
    line 12 (wrong_stage_to_close st)
    ∷ line 9 (no_room room (length (closing_piece st notes).bytes) || notes_short st notes)
    ∷ []

unfoldable pub closed_by : State → State
closed_by st =
    record {
      stage = stage_after (piece_number st.stage);
      sections = st.sections;
      frames = st.frames;
      first = st.first;
      last = st.last;
      end = st.end;
    }

unfoldable pub close : State → (notes : List ℕ) → (room : ℕ) → Step
close st notes room =
    answer (first_of (close_lines st notes room)) st notes
    (record {
      refused = 0;
      state = closed_by st;
      piece = closing_piece st notes;
      notes = notes;
    })
