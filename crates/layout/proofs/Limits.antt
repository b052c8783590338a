-- Document 01's places, limits and byte classes as one table under one claim, beside P1 to P12: what stands at each end is accepted and what stands one past
-- it refused, the answers written by hand from the document. Assumes nothing.
use Prim.Native.Nat.{ℕ, zero, suc, ◌+◌, ◌^◌, ◌≤◌}
use mathlib.Core.Path.{◌≡◌}
use mathlib.Core.Bool.{Bool, true, false, not, ◌&&◌}
use mathlib.Core.Logic.{◌↔◌}
use mathlib.Core.List.{List, [], ◌∷◌, ◌++◌, map, flat_map}
use lib.ListN.{length, take, replicate, set}
use lib.Dec.{T, leb, eqb}
use lib.Pow.{are_bytes}
use borrow.Author.Tests.{leb-true, le-leb}
use Rattle.number.specs.Number.{bytes_of, number_of}
use Rattle.layout.specs.Recording.{Frame, Recording, Legal, legal_section, legal_tag, legal_table, legal_frame, user_start, longest_configuration, most_tags, longest_section, most_frames, largest_table, largest_user_offset, file_mark, short_string, header_bytes, definition_list_bytes, definitions_end, definitions_bytes, configurations_bytes, front_bytes, table_bytes, tag_bytes, sized_bytes, frame_head_bytes, frame_bytes, entry_bytes, entries_bytes, first_time, index_bytes, index_length, every, same, among, distinct, is_name_byte, is_tag_byte, legal_section_name, legal_tag_name, legal_tag_value, tag_names, section_names, follows, follow, in_order}
use Rattle.layout.specs.Reading.{Reader, good, is_bad, onward, behind, give, ◌then◌, only, fault_at, placed, times, exactly, value_or, taken, fault_of, number, block, string, outside, string_fault, section_name, tag_name, tag_value, keeping, rows_fault, counted_fault, number_of_sections, number_of_tags, table_fault, definition, defined_names, definitions, tag, table, sized, frame, stopped, longer, walk}
use Rattle.layout.specs.Opening.{first_of, field, header_count, index_offset, system_offset, user_offset, read_definitions, defined_in, read_system, read_user, walk_start, walk_of, counted, not_fstf, other_revision, steps, offsets_legal, last_offset, bad_sections, bad_system, not_closed, bad_index, bad_user, front_lines, opening_lines, refusal, next_offset, sections_from, shown}
use Rattle.layout.specs.Recorder.{Stage, fresh, running, closing, closed, State, Piece, is_fresh, is_running, takes_close, piece_number, too_long, broken_state, answer, configured, set_up_section, set_up_list, sections_of, bad_set_up, first_piece, begin_lines, begun, begin, frame_piece, bad_shape, bad_clock, add_lines, first_after, added, noted, add, closing_pieces, closing_piece, notes_short, stage_after, close_lines, closed_by, close}
use Rattle.layout.specs.Storage.{closes, fresh_state, piece_of, passed_on, called, session}
use Rattle.layout.specs.Saving.{entry_of, kind, entry_part, number_of_changes, sheet_fault, change_with, change_names, sheet_with, sheet}
use Rattle.layout.specs.OldSheets.{old_seen_of, old_seen_part, old_sheet}
use Rattle.layout.proofs.Exact.{sized-exact}
use Rattle.layout.proofs.Examples.{the_file, Row, row, holds_at}

-- ── How the rows ask ──

bit : Bool → ℕ
bit true = 1
bit false = 0

-- 1 where a reader takes exactly these bytes, 0 where they are bad
reads : {A : Type 0} → Reader A → List ℕ → ℕ
reads p s = bit (not (is_bad (exactly p s)))

-- 33 bytes, each its own place
counting : List ℕ
counting =
    0 ∷ 1 ∷ 2 ∷ 3 ∷ 4 ∷ 5 ∷ 6 ∷ 7 ∷ 8 ∷ 9 ∷ 10 ∷ 11 ∷ 12 ∷ 13 ∷ 14 ∷ 15 ∷ 16 ∷ 17 ∷ 18 ∷ 19 ∷ 20 ∷ 21 ∷ 22 ∷ 23 ∷ 24 ∷ 25 ∷ 26 ∷ 27 ∷ 28 ∷ 29 ∷ 30 ∷ 31 ∷ 32 ∷ []

-- the definitions of one section of that name, and the set-up list
defined_as : List ℕ → List ℕ
defined_as name = 1 ∷ length name ∷ name ++ replicate 8 0

set_up_as : List ℕ → List ℕ
set_up_as name = 1 ∷ length name ∷ name ++ (0 ∷ 0 ∷ [])

-- a set-up list of so many sections, their names A, B, ..
letters : ℕ → ℕ → List ℕ
letters zero b = []
letters (suc k) b = 1 ∷ b ∷ 0 ∷ 0 ∷ letters k (b + 1)

sections_of_count : ℕ → List ℕ
sections_of_count k = k ∷ letters k 65

-- the number of a call to begin with that set-up list and an empty system table
begins_by : List ℕ → ℕ
begins_by set_up = (begin fresh_state set_up (replicate 4 0) (replicate 4 7) 1000).refused

-- a table of one tag
tagged_as : (name value : List ℕ) → List ℕ
tagged_as name value = 1 ∷ 0 ∷ 0 ∷ 0 ∷ length name ∷ name ++ length value ∷ value

-- a state of one section with these numbers; and the number of a close call on a state, and of a frame call with one empty section
state_with : Stage → (sections frames first last end : ℕ) → State
state_with stage sections frames first last end =
    record { stage = stage; sections = sections; frames = frames; first = first; last = last; end = end }

closes_by : State → ℕ
closes_by st = (close st (replicate 4 7) 1000).refused

adds_by : State → (time : ℕ) → ℕ
adds_by st time = (add st time 40 (replicate 4 0) (replicate 100 7) 1000).refused

-- a frame at that time
frame_at : ℕ → Frame
frame_at time = record { time = time; exposure = 0; sections = [] }

piece_bytes : Piece → List ℕ
piece_bytes p = p.place ∷ length p.bytes ∷ p.bytes

-- a sheet of so many changes, their names the bytes from 32 on, each seen absent and becoming absent
changes_from : ℕ → ℕ → List ℕ
changes_from zero b = []
changes_from (suc k) b = 1 ∷ b ∷ 0 ∷ 0 ∷ changes_from k (b + 1)

sheet_of_count : ℕ → List ℕ
sheet_of_count k = k ∷ changes_from k 32

-- a sheet of one change, of the tag A
sheet_as : (seen new : List ℕ) → List ℕ
sheet_as seen new = 1 ∷ 1 ∷ 65 ∷ seen ++ new

-- ── The table ──

pub limit_rows : List Row
limit_rows =
    -- "Header, 33 bytes: 46 53 54 46; revision byte 1; frame count UInt32 at 5; index offset UInt64 at 9; system table offset at 17; user table offset at 25"
    row (header_bytes 0x04030201 0x0B 0x0C 0x0D)
    (0x46 ∷ 0x53 ∷ 0x54 ∷ 0x46 ∷ 0x01 ∷ 0x01 ∷ 0x02 ∷ 0x03 ∷ 0x04 ∷ 0x0B ∷ replicate 7 0 ++ 0x0C ∷ replicate 7 0 ++ 0x0D ∷ replicate 7 0)
    -- the same read, of a header in which each byte is its own place
    ∷ row (header_count counting ∷ index_offset counting ∷ system_offset counting ∷ user_offset counting ∷ [])
    (0x08070605 ∷ 0x100F0E0D0C0B0A09 ∷ 0x1817161514131211 ∷ 0x201F1E1D1C1B1A19 ∷ [])
    -- 1 "under 34 bytes, or the first four differ"
    ∷ row (map (λ n. refusal (take n the_file)) (33 ∷ 34 ∷ [])) (1 ∷ 3 ∷ [])
    ∷ row (map (λ i. refusal (set the_file i 0x47)) (0 ∷ 1 ∷ 2 ∷ 3 ∷ [])) (1 ∷ 1 ∷ 1 ∷ 1 ∷ [])
    -- 2 "not 1"
    ∷ row (map (λ b. refusal (set the_file 4 b)) (0 ∷ 1 ∷ 2 ∷ [])) (2 ∷ 0 ∷ 2 ∷ [])
    -- "number of sections, 1 to 8": opening's line 3 on what the recorder would write, and the recorder's own number
    ∷ row (map (λ k. bit (bad_sections (first_piece (sections_of_count k) (replicate 4 0)))) (0 ∷ 1 ∷ 8 ∷ 9 ∷ [])) (1 ∷ 0 ∷ 0 ∷ 1 ∷ [])
    ∷ row (map (λ k. begins_by (sections_of_count k)) (0 ∷ 1 ∷ 8 ∷ 9 ∷ [])) (3 ∷ 0 ∷ 0 ∷ 3 ∷ [])
    -- "each a digit, a capital or a small letter"
    ∷ row (map (λ b. reads definitions (defined_as (b ∷ []))) (47 ∷ 48 ∷ 57 ∷ 58 ∷ 64 ∷ 65 ∷ 90 ∷ 91 ∷ 96 ∷ 97 ∷ 122 ∷ 123 ∷ []))
    (0 ∷ 1 ∷ 1 ∷ 0 ∷ 0 ∷ 1 ∷ 1 ∷ 0 ∷ 0 ∷ 1 ∷ 1 ∷ 0 ∷ [])
    ∷ row (map (λ b. begins_by (set_up_as (b ∷ []))) (47 ∷ 48 ∷ 57 ∷ 58 ∷ 64 ∷ 65 ∷ 90 ∷ 91 ∷ 96 ∷ 97 ∷ 122 ∷ 123 ∷ []))
    (3 ∷ 0 ∷ 0 ∷ 3 ∷ 3 ∷ 0 ∷ 0 ∷ 3 ∷ 3 ∷ 0 ∷ 0 ∷ 3 ∷ [])
    -- "A section name has 1 to 255 bytes"; 256 stand in no length byte
    ∷ row (map (λ n. reads definitions (defined_as (replicate n 65))) (0 ∷ 1 ∷ 255 ∷ [])) (0 ∷ 1 ∷ 1 ∷ [])
    ∷ row (map (λ n. begins_by (set_up_as (replicate n 65))) (0 ∷ 1 ∷ 255 ∷ [])) (3 ∷ 0 ∷ 0 ∷ [])
    ∷ row (map (λ n. bit (legal_section_name (replicate n 65))) (0 ∷ 1 ∷ 255 ∷ 256 ∷ [])) (0 ∷ 1 ∷ 1 ∷ 0 ∷ [])
    -- "no two are equal"
    ∷ row (reads definitions (2 ∷ 1 ∷ 65 ∷ replicate 8 0 ++ 1 ∷ 65 ∷ replicate 8 0) ∷ begins_by (2 ∷ 1 ∷ 65 ∷ 0 ∷ 0 ∷ 1 ∷ 65 ∷ 0 ∷ 0 ∷ []) ∷ []) (0 ∷ 3 ∷ [])
    -- "the first offset is the end of the definitions; offsets never fall; .. 0 to 65,535 bytes each"
    ∷ row (map (λ at. bit (offsets_legal 54 (record { name = 65 ∷ []; offset = at } ∷ []))) (53 ∷ 54 ∷ 55 ∷ [])) (0 ∷ 1 ∷ 0 ∷ [])
    ∷ row (map (λ at. bit (offsets_legal 54 (record { name = 65 ∷ []; offset = 54 } ∷ record { name = 66 ∷ []; offset = at } ∷ []))) (53 ∷ 54 ∷ 65589 ∷ 65590 ∷ []))
    (0 ∷ 1 ∷ 1 ∷ 0 ∷ [])
    -- "number of tags, 0 to 1,000"; the upper end stands below
    ∷ row (reads table (replicate 4 0) ∷ []) (1 ∷ [])
    -- "Bytes 32 to 126 only", in names and in values
    ∷ row (map (λ b. reads table (tagged_as (b ∷ []) [])) (31 ∷ 32 ∷ 126 ∷ 127 ∷ [])) (0 ∷ 1 ∷ 1 ∷ 0 ∷ [])
    ∷ row (map (λ b. reads table (tagged_as (65 ∷ []) (b ∷ []))) (31 ∷ 32 ∷ 126 ∷ 127 ∷ [])) (0 ∷ 1 ∷ 1 ∷ 0 ∷ [])
    -- "a name has at least 1 byte, a value may be empty"; both end at 255
    ∷ row (map (λ n. reads table (tagged_as (replicate n 65) [])) (0 ∷ 1 ∷ 255 ∷ [])) (0 ∷ 1 ∷ 1 ∷ [])
    ∷ row (map (λ n. reads table (tagged_as (65 ∷ []) (replicate n 65))) (0 ∷ 1 ∷ 255 ∷ [])) (1 ∷ 1 ∷ 1 ∷ [])
    ∷ row (bit (legal_tag_name (replicate 256 65)) ∷ bit (legal_tag_value (replicate 256 65)) ∷ []) (0 ∷ 0 ∷ [])
    -- "no two names in a table are equal"
    ∷ row (reads table (2 ∷ 0 ∷ 0 ∷ 0 ∷ 1 ∷ 65 ∷ 0 ∷ 1 ∷ 65 ∷ 0 ∷ []) ∷ []) (0 ∷ [])
    -- "Frames: FF 22 01 EE (the number 0xEE0122FF); Int64 time ..; UInt32 exposure"
    ∷ row (frame_head_bytes 0x0807060504030201 0x0C0B0A09) (0xFF ∷ 0x22 ∷ 0x01 ∷ 0xEE ∷ 1 ∷ 2 ∷ 3 ∷ 4 ∷ 5 ∷ 6 ∷ 7 ∷ 8 ∷ 9 ∷ 10 ∷ 11 ∷ 12 ∷ [])
    ∷ row (map (λ b. reads (frame 0) (b ∷ 0x22 ∷ 0x01 ∷ 0xEE ∷ replicate 12 0)) (0xFE ∷ 0xFF ∷ [])) (0 ∷ 1 ∷ [])
    -- "Index: .. per frame 16 bytes: UInt32 time since the first frame, UInt64 offset, UInt32 length"
    ∷ row (entry_bytes 1000 0x040306E9 0x0807060504030201 0x0C0B0A09) (1 ∷ 3 ∷ 3 ∷ 4 ∷ 1 ∷ 2 ∷ 3 ∷ 4 ∷ 5 ∷ 6 ∷ 7 ∷ 8 ∷ 9 ∷ 10 ∷ 11 ∷ 12 ∷ [])
    ∷ row (map (λ n. index_length n) (0 ∷ 1 ∷ 2 ∷ [])) (4 ∷ 20 ∷ 36 ∷ [])
    -- "A frame's time is never before the frame ahead of it, and at most 4,294,967,295 ms after the first": for opening and repair,
    ∷ row (map (λ t. bit (in_order (frame_at 1000 ∷ frame_at 1001 ∷ frame_at t ∷ []))) (1000 ∷ 1001 ∷ 4294968295 ∷ 4294968296 ∷ [])) (0 ∷ 1 ∷ 1 ∷ 0 ∷ [])
    -- and for the recorder; also where the time before is -1
    ∷ row (map (λ t. adds_by (state_with running 1 2 1000 1001 100) t) (1000 ∷ 1001 ∷ 4294968295 ∷ 4294968296 ∷ [])) (13 ∷ 0 ∷ 0 ∷ 13 ∷ [])
    ∷ row (map (λ t. adds_by (state_with running 1 1 0xFFFFFFFFFFFFFFFF 0xFFFFFFFFFFFFFFFF 100) t) (0xFFFFFFFFFFFFFFFE ∷ 0xFFFFFFFFFFFFFFFF ∷ 0 ∷ 4294967294 ∷ 4294967295 ∷ []))
    (13 ∷ 0 ∷ 0 ∷ 0 ∷ 13 ∷ [])
    -- 15 "1,000,000 frames already": before that, the notes are too short here
    ∷ row (map (λ n. adds_by (state_with running 1 n 0 0 100) 0) (999999 ∷ 1000000 ∷ [])) (9 ∷ 15 ∷ [])
    -- 15 "end + index + 512,004, with every frame .. added, would pass 2^40": a frame of 20 bytes and an index of 20
    ∷ row (map (λ e. adds_by (state_with running 1 0 0 0 e) 0) (1099511115732 ∷ 1099511115733 ∷ [])) (0 ∷ 15 ∷ [])
    -- 12 "sections 1 to 8, frames at most 1,000,000, piece at most 4, last time by the time rule, end by 15's limit"
    ∷ row (map (λ k. closes_by (state_with running k 0 0 0 100)) (0 ∷ 1 ∷ 8 ∷ 9 ∷ [])) (12 ∷ 0 ∷ 0 ∷ 12 ∷ [])
    ∷ row (map (λ n. closes_by (state_with (closing 2) 1 n 0 0 100)) (1000000 ∷ 1000001 ∷ [])) (0 ∷ 12 ∷ [])
    ∷ row (map (λ p. closes_by (state_with (closing p) 1 0 0 0 100)) (0 ∷ 4 ∷ 5 ∷ [])) (0 ∷ 0 ∷ 12 ∷ [])
    ∷ row (map (λ t. closes_by (state_with running 1 0 1000 t 100)) (999 ∷ 1000 ∷ 4294968295 ∷ 4294968296 ∷ [])) (12 ∷ 0 ∷ 0 ∷ 12 ∷ [])
    ∷ row (map (λ e. closes_by (state_with running 1 0 0 0 e)) (1099511115768 ∷ 1099511115769 ∷ [])) (0 ∷ 12 ∷ [])
    -- "Fresh takes the begin call only, running a frame or a close call, closing a close call, closed none"
    ∷ row (map (λ s. (begin (state_with s 1 0 0 0 100) (sections_of_count 1) (replicate 4 0) (replicate 4 7) 1000).refused) (fresh ∷ running ∷ closing 0 ∷ closed ∷ [])) (0 ∷ 12 ∷ 12 ∷ 12 ∷ [])
    ∷ row (map (λ s. adds_by (state_with s 1 0 0 0 100) 0) (fresh ∷ running ∷ closing 0 ∷ closed ∷ [])) (12 ∷ 0 ∷ 12 ∷ 12 ∷ [])
    ∷ row (map (λ s. closes_by (state_with s 1 0 0 0 100)) (fresh ∷ running ∷ closing 0 ∷ closed ∷ [])) (12 ∷ 0 ∷ 0 ∷ 12 ∷ [])
    -- "Beginning writes four zeros at the start of the lent notes"
    ∷ row (begin fresh_state (sections_of_count 1) (replicate 4 0) (replicate 6 7) 1000).notes (0 ∷ 0 ∷ 0 ∷ 0 ∷ 7 ∷ 7 ∷ [])
    -- "n into the first four bytes of lent notes and the new entry at 16·n − 12; their other bytes stay"
    ∷ row (add (state_with running 1 1 1000 1000 0x64) 1005 40 (replicate 4 0) (replicate 38 7) 20).notes
    (2 ∷ 0 ∷ 0 ∷ 0 ∷ replicate 16 7 ++ 5 ∷ 0 ∷ 0 ∷ 0 ∷ 0x64 ∷ replicate 7 0 ++ 20 ∷ 0 ∷ 0 ∷ 0 ∷ 7 ∷ 7 ∷ [])
    -- "index (the first 4 + 16·n bytes of the notes ..), an empty user table (four zeros), the count at 5, the user offset at 25, the index offset at 9"
    ∷ row (flat_map piece_bytes (session (record { state = state_with running 1 1 0 0 0x4A; notes = replicate 25 7; pieces = [] }) (replicate 6 (closes 20))).pieces)
    (0x4A ∷ 20 ∷ replicate 20 7 ++ 0x5E ∷ 4 ∷ replicate 4 0 ++ 5 ∷ 4 ∷ 1 ∷ 0 ∷ 0 ∷ 0 ∷ 25 ∷ 8 ∷ 0x5E ∷ replicate 7 0 ++ 9 ∷ 8 ∷ 0x4A ∷ replicate 7 0)
    -- 9: of the output and of the notes, to begin, to add and to close
    ∷ row (map (λ n. (begin fresh_state (sections_of_count 1) (replicate 4 0) (replicate 4 7) n).refused) (47 ∷ 48 ∷ [])) (9 ∷ 0 ∷ [])
    ∷ row (map (λ n. (begin fresh_state (sections_of_count 1) (replicate 4 0) (replicate n 7) 48).refused) (3 ∷ 4 ∷ [])) (9 ∷ 0 ∷ [])
    ∷ row (map (λ n. (add (state_with running 1 1 0 0 100) 0 40 (replicate 4 0) (replicate 36 7) n).refused) (19 ∷ 20 ∷ [])) (9 ∷ 0 ∷ [])
    ∷ row (map (λ n. (add (state_with running 1 1 0 0 100) 0 40 (replicate 4 0) (replicate n 7) 20).refused) (35 ∷ 36 ∷ [])) (9 ∷ 0 ∷ [])
    ∷ row (map (λ n. (close (state_with running 1 1 0 0 100) (replicate 20 7) n).refused) (19 ∷ 20 ∷ [])) (9 ∷ 0 ∷ [])
    ∷ row (map (λ n. (close (state_with running 1 1 0 0 100) (replicate n 7) 20).refused) (19 ∷ 20 ∷ [])) (9 ∷ 0 ∷ [])
    -- "number of changes, 0 to 64"
    ∷ row (map (λ k. reads sheet (sheet_of_count k)) (0 ∷ 1 ∷ 64 ∷ 65 ∷ [])) (1 ∷ 1 ∷ 1 ∷ 0 ∷ [])
    -- "a seen kind (0 absent, 1 a value, which follows ..); a new kind (0 absent, 1 a value, which follows)"; and "2 nobody looked" in a sheet from before
    ∷ row (map (λ s. reads sheet (sheet_as s (0 ∷ []))) ((0 ∷ []) ∷ (1 ∷ 1 ∷ 66 ∷ []) ∷ (2 ∷ []) ∷ (3 ∷ []) ∷ [])) (1 ∷ 1 ∷ 0 ∷ 0 ∷ [])
    ∷ row (map (λ s. reads old_sheet (sheet_as s (0 ∷ []))) ((0 ∷ []) ∷ (1 ∷ 1 ∷ 66 ∷ []) ∷ (2 ∷ []) ∷ (3 ∷ []) ∷ [])) (1 ∷ 1 ∷ 1 ∷ 0 ∷ [])
    ∷ row (map (λ n. reads sheet (sheet_as (0 ∷ []) n)) ((0 ∷ []) ∷ (1 ∷ 1 ∷ 66 ∷ []) ∷ (2 ∷ []) ∷ [])) (1 ∷ 1 ∷ 0 ∷ [])
    -- Limits of lists that are too long to compute with, as equations on their constants: a last configuration of 65,535 bytes, 1,000 tags, a section of
    -- 16,777,216 bytes, 1,000,000 frames in a file, the largest table of 4 + 1,000 · 512 bytes, a user table at 2^40 − 512,004. What they do to recordings
    -- is said below.
    ∷ row (longest_configuration ∷ most_tags ∷ longest_section ∷ most_frames ∷ largest_table ∷ largest_user_offset ∷ [])
    (65535 ∷ 1000 ∷ 16777216 ∷ 1000000 ∷ 512004 ∷ 1099511115772 ∷ [])
    ∷ []

-- the numbers and classes of document 01 hold of the definitions
pub limits : T (every holds_at limit_rows)
unfolding bit reads counting defined_as set_up_as letters sections_of_count begins_by tagged_as state_with closes_by adds_by frame_at piece_bytes changes_from sheet_of_count sheet_as limit_rows the_file row holds_at map bytes_of number_of flat_map file_mark short_string header_bytes definition_list_bytes definitions_end definitions_bytes configurations_bytes front_bytes table_bytes tag_bytes sized_bytes frame_head_bytes frame_bytes entry_bytes entries_bytes first_time index_bytes every same among distinct is_name_byte is_tag_byte legal_section_name legal_tag_name legal_tag_value tag_names section_names follows follow in_order onward behind give ◌then◌ only fault_at placed times exactly value_or taken fault_of number block string outside string_fault section_name tag_name tag_value keeping rows_fault counted_fault number_of_sections number_of_tags table_fault definition defined_names definitions tag table sized frame stopped longer walk first_of field header_count index_offset system_offset user_offset read_definitions defined_in read_system read_user walk_start walk_of counted not_fstf other_revision steps offsets_legal last_offset bad_sections bad_system not_closed bad_index bad_user front_lines opening_lines refusal next_offset sections_from shown is_fresh is_running takes_close piece_number too_long broken_state answer configured set_up_section set_up_list sections_of bad_set_up first_piece begin_lines begun begin frame_piece bad_shape bad_clock add_lines first_after added noted add closing_pieces closing_piece notes_short stage_after close_lines closed_by close piece_of passed_on called session entry_of kind entry_part number_of_changes sheet_fault change_with change_names sheet_with sheet old_seen_of old_seen_part old_sheet
limits = tt

-- ── The same of long lists ──

-- What is legal, in the document's numbers: with `opens-exactly` this is what opens.
pub legal-numbers : (r : Recording)
    → Legal r
    ↔ ((1 ≤ length r.sections)
    × (length r.sections ≤ 8)
    × (every (λ s. legal_section_name s.name && leb (length s.configuration) 65535) r.sections ≡ true)
    × (distinct (section_names r.sections) ≡ true)
    × (leb (length r.system) 1000 && every legal_tag r.system && distinct (tag_names r.system) ≡ true)
    × (length r.frames ≤ 1000000)
    × (every (λ f. leb (suc f.time) (2 ^ 64) && leb (suc f.exposure) (2 ^ 32) && eqb (length f.sections) (length r.sections) && every (λ b. leb (length b) 16777216) f.sections) r.frames ≡ true)
    × (in_order r.frames ≡ true)
    × (leb (length r.user) 1000 && every legal_tag r.user && distinct (tag_names r.user) ≡ true)
    × (user_start r ≤ 1099511115772))
unfolding legal_section legal_table legal_frame
legal-numbers r = (
  λ l. (l.at_least_one_section, l.at_most_eight_sections, l.sections_legal, l.sections_differ, l.system_legal, l.frames_few, l.frames_legal, l.frames_ordered, l.user_legal, l.user_offset_fits),
  λ h.
      record {
        at_least_one_section = h.0;
        at_most_eight_sections = h.1;
        sections_legal = h.2;
        sections_differ = h.3;
        system_legal = h.4;
        frames_few = h.5;
        frames_legal = h.6;
        frames_ordered = h.7;
        user_legal = h.8;
        user_offset_fits = h.9;
      },
)

-- A section of 16,777,216 bytes is taken in a frame, whatever follows it, and a longer one never is.
pub section-taken : (s rest : List ℕ) → length s ≤ 16777216 → sized (sized_bytes s ++ rest) ≡ good s (length (sized_bytes s))
section-taken s rest h = sized-exact.takes s rest (le-leb (length s) 16777216 h)

pub section-most : (bytes s : List ℕ) (n : ℕ) → are_bytes bytes ≡ true → sized bytes ≡ good s n → length s ≤ 16777216
section-most bytes s n b e = leb-true (length s) 16777216 (sized-exact.gives bytes s n b e).0
