-- The twelve marked examples, P1 to P12, as one table under one claim; and the recorder's calls for the same recording.
-- Assumes nothing.
use Prim.Native.Nat.{ℕ}
use mathlib.Core.Bool.{Bool}
use mathlib.Core.List.{List, [], ◌∷◌, ◌++◌, flat_map}
use lib.ListN.{length, take, replicate, set}
use lib.Seq.{sets}
use lib.Dec.{T}
use Rattle.number.specs.Number.{bytes_of, number_of}
use Rattle.layout.specs.Recording.{file_mark, short_string, header_bytes, definition_list_bytes, definitions_end, definitions_bytes, configurations_bytes, front_bytes, table_bytes, tag_bytes, sized_bytes, frame_head_bytes, frame_bytes, entry_bytes, entries_bytes, first_time, index_bytes, every, same, among, distinct, is_name_byte, is_tag_byte, legal_section_name, legal_tag_name, legal_tag_value, tag_names, section_names, follows, follow, in_order}
use Rattle.layout.specs.Reading.{onward, behind, give, ◌then◌, only, fault_at, placed, times, exactly, value_or, taken, fault_of, number, block, string, outside, string_fault, section_name, tag_name, tag_value, rows_fault, counted_fault, number_of_sections, number_of_tags, table_fault, definition, defined_names, definitions, tag, table, sized, frame, stopped, longer, walk}
use Rattle.layout.specs.Opening.{first_of, field, header_count, index_offset, system_offset, user_offset, read_definitions, defined_in, read_system, read_user, walk_start, walk_of, counted, not_fstf, other_revision, steps, offsets_legal, last_offset, bad_sections, bad_system, opening_place, not_closed, bad_index, bad_user, front_lines, opening_lines, refusal, next_offset, sections_from, shown}
use Rattle.layout.specs.Recorder.{is_fresh, is_running, takes_close, piece_number, too_long, broken_state, answer, configured, set_up_section, set_up_list, sections_of, bad_set_up, first_piece, begin_lines, begun, begin, frame_piece, bad_shape, bad_clock, add_lines, first_after, added, noted, add, closing_pieces, closing_piece, notes_short, stage_after, close_lines, closed_by, close}
use Rattle.layout.specs.Storage.{Call, begins, adds, closes, started, piece_of, passed_on, called, session, write, writes_at, writes, stored, file_of}
use Rattle.layout.specs.Repair.{walked, kept_length, kept_count, tail, repair_lines, repair_refusal, repair_answer, repair, with_fields, repaired}
use Rattle.layout.specs.Saving.{entry_of, kind, entry_part, number_of_changes, sheet_fault, change_with, change_names, sheet_with, sheet, changes_of, look_up, same_entry, conflicts, some, lowest, new_entry, tag_with, kept_tags, new_tags, applied, table_lines, user_tags, look_lines, look_place, new_table, commit_lines, commit_refusal, commit_place, commit_answer, commit}

-- "A whole file, 98 bytes"
unfoldable pub the_file : List ℕ
the_file =
    0x46 ∷ 0x53 ∷ 0x54 ∷ 0x46 ∷ 0x01 ∷ 0x01 ∷ 0x00 ∷ 0x00 ∷ 0x00 ∷ 0x4A ∷ 0x00 ∷ 0x00 ∷ 0x00 ∷ 0x00 ∷ 0x00 ∷ 0x00 ∷ 0x00
    ∷ 0x30 ∷ 0x00 ∷ 0x00 ∷ 0x00 ∷ 0x00 ∷ 0x00 ∷ 0x00 ∷ 0x00 ∷ 0x5E ∷ 0x00 ∷ 0x00 ∷ 0x00 ∷ 0x00 ∷ 0x00 ∷ 0x00 ∷ 0x00
    ∷ 0x01 ∷ 0x05 ∷ 0x49 ∷ 0x4D ∷ 0x41 ∷ 0x47 ∷ 0x45 ∷ 0x30 ∷ 0x00 ∷ 0x00 ∷ 0x00 ∷ 0x00 ∷ 0x00 ∷ 0x00 ∷ 0x00
    ∷ 0x00 ∷ 0x00 ∷ 0x00 ∷ 0x00
    ∷ 0xFF ∷ 0x22 ∷ 0x01 ∷ 0xEE ∷ 0xE8 ∷ 0x03 ∷ 0x00 ∷ 0x00 ∷ 0x00 ∷ 0x00 ∷ 0x00 ∷ 0x00 ∷ 0x28 ∷ 0x00 ∷ 0x00 ∷ 0x00 ∷ 0x02 ∷ 0x00 ∷ 0x00 ∷ 0x00 ∷ 0x34 ∷ 0x12
    ∷ 0x01 ∷ 0x00 ∷ 0x00 ∷ 0x00 ∷ 0x00 ∷ 0x00 ∷ 0x00 ∷ 0x00 ∷ 0x34 ∷ 0x00 ∷ 0x00 ∷ 0x00 ∷ 0x00 ∷ 0x00 ∷ 0x00 ∷ 0x00 ∷ 0x16 ∷ 0x00 ∷ 0x00 ∷ 0x00
    ∷ 0x00 ∷ 0x00 ∷ 0x00 ∷ 0x00
    ∷ []

-- "the same recording before closing": no count, no index offset, no user offset, and nothing behind the frame
unclosed : List ℕ
unclosed = take 74 (sets (sets (sets the_file 5 (replicate 4 0)) 9 (replicate 8 0)) 25 (replicate 8 0))

-- P11's sheet: the tag SITE, seen absent, becomes A
the_sheet : List ℕ
the_sheet = 0x01 ∷ 0x04 ∷ 0x53 ∷ 0x49 ∷ 0x54 ∷ 0x45 ∷ 0x00 ∷ 0x01 ∷ 0x01 ∷ 0x41 ∷ []

table_with_site : List ℕ
table_with_site = 0x01 ∷ 0x00 ∷ 0x00 ∷ 0x00 ∷ 0x04 ∷ 0x53 ∷ 0x49 ∷ 0x54 ∷ 0x45 ∷ 0x01 ∷ 0x41 ∷ []

-- a refusal number alone, a repair and a commit as numbers in a row
opens : List ℕ → List ℕ
opens f = refusal f ∷ []

repairs : List ℕ → List ℕ
repairs f = let r = repair f 98 in r.refused ∷ r.kept ∷ r.count ∷ r.index ∷ r.user ∷ r.tail

commits : List ℕ → List ℕ
commits f = let s = commit f the_sheet 98 in s.refused ∷ s.place ∷ s.table

pub record Row : Type 0 where
  given : List ℕ
  expected : List ℕ

unfoldable pub row : List ℕ → List ℕ → Row
row g e = record { given = g; expected = e }

pub rows : List Row
rows =
    -- P1
    row (refusal the_file ∷ length (shown the_file).frames ∷ []) (0 ∷ 1 ∷ [])
    -- P2
    ∷ row (opens (take 97 the_file)) (7 ∷ [])
    -- P3
    ∷ row (opens (set the_file 4 2)) (2 ∷ [])
    -- P4
    ∷ row (opens (sets the_file 9 (bytes_of 8 0))) (5 ∷ [])
    -- P5
    ∷ row (opens (sets the_file 9 (bytes_of 8 75))) (6 ∷ [])
    -- P6
    ∷ row (opens (sets the_file 5 (bytes_of 4 2))) (6 ∷ [])
    -- P7
    ∷ row (opens (take 33 the_file)) (1 ∷ [])
    -- P8
    ∷ row (repairs (take 73 unclosed)) (0 ∷ 52 ∷ 0 ∷ 52 ∷ 56 ∷ replicate 8 0)
    -- P9
    ∷ row (repaired unclosed (repair unclosed 98)) the_file
    -- P10
    ∷ row ((repair (take 51 unclosed) 98).refused ∷ opens (take 51 unclosed)) (4 ∷ 4 ∷ [])
    -- P11
    ∷ row (commits the_file) (0 ∷ 0 ∷ table_with_site)
    -- P12
    ∷ row (commits (take 94 the_file ++ table_with_site)) (11 ∷ 0 ∷ [])
    ∷ []

unfoldable pub holds_at : Row → Bool
holds_at r = same r.given r.expected

-- P1 to P12 hold of the definitions
pub examples : T (every holds_at rows)
unfolding the_file unclosed the_sheet table_with_site opens repairs commits row rows holds_at bytes_of number_of flat_map file_mark short_string table_bytes tag_bytes sized_bytes frame_head_bytes frame_bytes entry_bytes entries_bytes first_time index_bytes every same among distinct is_name_byte is_tag_byte legal_section_name legal_tag_name legal_tag_value tag_names follows follow in_order onward behind give ◌then◌ only fault_at placed times exactly value_or taken fault_of number block string outside string_fault section_name tag_name tag_value rows_fault counted_fault number_of_sections number_of_tags table_fault definition defined_names definitions tag table sized frame stopped longer walk first_of field header_count index_offset system_offset user_offset read_definitions defined_in read_system read_user walk_start walk_of counted not_fstf other_revision steps offsets_legal last_offset bad_sections bad_system opening_place not_closed bad_index bad_user front_lines opening_lines refusal next_offset sections_from shown too_long walked kept_length kept_count tail repair_lines repair_refusal repair_answer repair with_fields repaired entry_of kind entry_part number_of_changes sheet_fault change_with change_names sheet_with sheet changes_of look_up same_entry conflicts some lowest new_entry tag_with kept_tags new_tags applied table_lines user_tags look_lines look_place new_table commit_lines commit_refusal commit_place commit_answer commit
examples = tt

-- ── The worked recording, by the recorder's own calls ──

-- one section IMAGE with no configuration, no system tags, and one frame at time 1000, exposure 40, pixels 34 12
to_record : List Call
to_record =
    begins (0x01 ∷ 0x05 ∷ 0x49 ∷ 0x4D ∷ 0x41 ∷ 0x47 ∷ 0x45 ∷ 0x00 ∷ 0x00 ∷ []) (replicate 4 0) 98
    ∷ adds 1000 40 (0x02 ∷ 0x00 ∷ 0x00 ∷ 0x00 ∷ 0x34 ∷ 0x12 ∷ []) 98
    ∷ []

-- what lies on the card after these calls; the notes hold 20 bytes of no meaning
on_card : List Call → List ℕ
on_card calls = file_of (session (started (replicate 20 0xAA)) calls)

pub worked_rows : List Row
worked_rows =
    -- begun and one frame added: the recording before closing
    row (on_card to_record) unclosed
    -- and the index, the user table, the count and the user offset handed out, but no index offset
    ∷ row (on_card (to_record ++ replicate 4 (closes 98))) (sets the_file 9 (replicate 8 0))
    -- and closed: the 98 bytes
    ∷ row (on_card (to_record ++ replicate 5 (closes 98))) the_file
    ∷ []

-- begin, one frame and five close calls give the file of the document
pub worked : T (every holds_at worked_rows)
unfolding the_file unclosed row holds_at to_record on_card worked_rows bytes_of number_of flat_map file_mark short_string header_bytes definition_list_bytes definitions_end definitions_bytes configurations_bytes front_bytes table_bytes tag_bytes sized_bytes frame_head_bytes entry_bytes every same among distinct is_name_byte is_tag_byte legal_section_name legal_tag_name legal_tag_value tag_names section_names follows onward behind give ◌then◌ only fault_at placed times exactly value_or number block string tag_name tag_value number_of_tags tag table sized first_of is_fresh is_running takes_close piece_number too_long broken_state answer configured set_up_section set_up_list sections_of bad_set_up first_piece begin_lines begun begin frame_piece bad_shape bad_clock add_lines first_after added noted add closing_pieces closing_piece notes_short stage_after close_lines closed_by close started piece_of passed_on called session write writes_at writes stored file_of
worked = tt
