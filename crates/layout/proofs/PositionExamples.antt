-- Where refusals 3, 4, 7 and 10 say that the first fault is: examples as one table under one claim.
-- Assumes nothing.
use Prim.Native.Nat.{ℕ}
use mathlib.Core.List.{List, [], ◌∷◌, ◌++◌, flat_map}
use lib.ListN.{take, replicate, set}
use lib.Seq.{sets}
use lib.Dec.{T}
use Rattle.number.specs.Number.{bytes_of, number_of}
use Rattle.layout.specs.Recording.{file_mark, short_string, table_bytes, tag_bytes, sized_bytes, frame_head_bytes, frame_bytes, entry_bytes, entries_bytes, first_time, index_bytes, every, same, among, distinct, is_name_byte, is_tag_byte, legal_section_name, legal_tag_name, legal_tag_value, tag_names, follows, follow, in_order, header_bytes, definition_list_bytes, definitions_end, definitions_bytes, configurations_bytes, front_bytes, section_names}
use Rattle.layout.specs.Reading.{onward, behind, give, ◌then◌, only, fault_at, placed, times, exactly, value_or, taken, fault_of, number, block, string, outside, string_fault, section_name, tag_name, tag_value, rows_fault, counted_fault, number_of_sections, number_of_tags, table_fault, definition, defined_names, definitions, tag, table, sized, frame, stopped, longer, walk, keeping}
use Rattle.layout.specs.Opening.{first_of, field, header_count, index_offset, system_offset, user_offset, read_definitions, defined_in, read_system, read_user, walk_start, walk_of, counted, not_fstf, other_revision, steps, offsets_legal, last_offset, bad_sections, bad_system, opening_place, not_closed, bad_index, bad_user, front_lines, opening_lines, refusal, next_offset, sections_from, shown, first_offset_place, first_offset, first_offset_wrong, offset_behind, sections_fault, system_fault, user_fault}
use Rattle.layout.specs.Recorder.{too_long, is_fresh, configured, set_up_section, set_up_list, sections_of, bad_set_up, first_piece, begin_lines, begin_place}
use Rattle.layout.specs.Storage.{fresh_state}
use Rattle.layout.specs.Repair.{walked, kept_length, kept_count, tail, repair_lines, repair_refusal}
use Rattle.layout.specs.Saving.{entry_of, kind, entry_part, number_of_changes, sheet_fault, change_with, change_names, sheet_with, sheet, look_lines, look_refusal, look_place}
use Rattle.layout.proofs.Examples.{Row, row, holds_at, the_file}

-- ── What each call answers: its number, and the place that goes with it ──

opens : List ℕ → List ℕ
opens f = refusal f ∷ opening_place (refusal f) f ∷ []

repairs : List ℕ → List ℕ
repairs f = repair_refusal f 98 ∷ opening_place (repair_refusal f 98) f ∷ []

-- a sheet, over the file of the document
looks : List ℕ → List ℕ
looks bytes = look_refusal the_file bytes ∷ look_place (look_refusal the_file bytes) the_file bytes ∷ []

-- a set-up list and a system table, from a fresh recorder
begins : (set_up system : List ℕ) → List ℕ
begins set_up system =
    let n = first_of (begin_lines fresh_state set_up system (replicate 4 0) 98) in
    n ∷ begin_place n set_up system ∷ []

-- ── What is refused ──

-- two sections, IMAGE and STATUS, whose offsets stand at 40 and 55: both are 63, where the definitions end
two_sections : List ℕ
two_sections =
    take 33 (sets the_file 17 (bytes_of 8 63))
    ++ (0x02 ∷ 0x05 ∷ 0x49 ∷ 0x4D ∷ 0x41 ∷ 0x47 ∷ 0x45 ∷ 0x3F ∷ 0x00 ∷ 0x00 ∷ 0x00 ∷ 0x00 ∷ 0x00 ∷ 0x00 ∷ 0x00 ∷ [])
    ++ (0x06 ∷ 0x53 ∷ 0x54 ∷ 0x41 ∷ 0x54 ∷ 0x55 ∷ 0x53 ∷ 0x3F ∷ 0x00 ∷ 0x00 ∷ 0x00 ∷ 0x00 ∷ 0x00 ∷ 0x00 ∷ 0x00 ∷ [])
    ++ replicate 4 0

-- two sections of one name, at 34 and at 44
same_sections : List ℕ
same_sections =
    take 33 (sets the_file 17 (bytes_of 8 54))
    ++ (0x02 ∷ 0x01 ∷ 0x41 ∷ 0x36 ∷ 0x00 ∷ 0x00 ∷ 0x00 ∷ 0x00 ∷ 0x00 ∷ 0x00 ∷ 0x00 ∷ [])
    ++ (0x01 ∷ 0x41 ∷ 0x36 ∷ 0x00 ∷ 0x00 ∷ 0x00 ∷ 0x00 ∷ 0x00 ∷ 0x00 ∷ 0x00 ∷ [])
    ++ replicate 4 0

-- the tag A, and A again behind which a value is bad
bad_behind_twice : List ℕ
bad_behind_twice = 0x02 ∷ 0x00 ∷ 0x00 ∷ 0x00 ∷ 0x01 ∷ 0x41 ∷ 0x00 ∷ 0x01 ∷ 0x41 ∷ 0x01 ∷ 0x07 ∷ []

-- the tags A, B, B, A
two_twice : List ℕ
two_twice = 0x04 ∷ 0x00 ∷ 0x00 ∷ 0x00 ∷ 0x01 ∷ 0x41 ∷ 0x00 ∷ 0x01 ∷ 0x42 ∷ 0x00 ∷ 0x01 ∷ 0x42 ∷ 0x00 ∷ 0x01 ∷ 0x41 ∷ 0x00 ∷ []

pub rows : List Row
rows =
    -- the definitions: a byte of a name; the number of sections; an offset, and the first offset
    row (opens (set the_file 35 0x2D)) (3 ∷ 35 ∷ [])
    ∷ row (opens (set the_file 33 0)) (3 ∷ 33 ∷ [])
    ∷ row (opens (set the_file 33 9)) (3 ∷ 33 ∷ [])
    ∷ row (opens (set the_file 40 0x31)) (3 ∷ 40 ∷ [])
    ∷ row (opens (take 41 the_file)) (3 ∷ 40 ∷ [])
    ∷ row (opens (take 38 the_file)) (3 ∷ 38 ∷ [])
    -- the first offset is wrong; and a name besides, which ends the reading
    ∷ row (opens (set two_sections 40 64)) (3 ∷ 40 ∷ [])
    ∷ row (opens (set (set two_sections 40 64) 52 0x2D)) (3 ∷ 52 ∷ [])
    -- of two offsets that fall or are too far apart the later
    ∷ row (opens (set two_sections 55 62)) (3 ∷ 55 ∷ [])
    ∷ row (opens (sets two_sections 55 (bytes_of 8 65599))) (3 ∷ 55 ∷ [])
    ∷ row (opens same_sections) (3 ∷ 44 ∷ [])
    -- the system table: cut, behind the end, too low and too far
    ∷ row (opens (take 51 the_file)) (4 ∷ 48 ∷ [])
    ∷ row (repairs (take 51 the_file)) (4 ∷ 48 ∷ [])
    ∷ row (opens (sets the_file 17 (bytes_of 8 1048))) (4 ∷ 1048 ∷ [])
    ∷ row (opens (sets the_file 17 (bytes_of 8 0))) (4 ∷ 17 ∷ [])
    ∷ row (opens (sets the_file 17 (bytes_of 8 65584))) (4 ∷ 17 ∷ [])
    -- the user table: cut, bytes left over, a name used twice ahead of a bad value
    ∷ row (opens (take 97 the_file)) (7 ∷ 94 ∷ [])
    ∷ row (opens (the_file ++ (0x00 ∷ []))) (7 ∷ 98 ∷ [])
    ∷ row (opens (take 94 the_file ++ bad_behind_twice)) (7 ∷ 101 ∷ [])
    -- tables alone, and the second B
    ∷ row (fault_of (exactly table bad_behind_twice) ∷ []) (7 ∷ [])
    ∷ row (fault_of (exactly table two_twice) ∷ []) (10 ∷ [])
    -- sheets: a byte ahead of the end, an empty name, a byte of a value that was seen, a new value cut short, kinds, a kind that is missing, a name used
    -- twice, bytes left over, the number of changes
    ∷ row (looks (0x01 ∷ 0x05 ∷ 0x41 ∷ 0x07 ∷ [])) (10 ∷ 3 ∷ [])
    ∷ row (looks (0x01 ∷ 0x00 ∷ 0x00 ∷ 0x00 ∷ [])) (10 ∷ 1 ∷ [])
    ∷ row (looks (0x01 ∷ 0x01 ∷ 0x41 ∷ 0x01 ∷ 0x01 ∷ 0x07 ∷ 0x00 ∷ [])) (10 ∷ 5 ∷ [])
    ∷ row (looks (0x01 ∷ 0x01 ∷ 0x41 ∷ 0x00 ∷ 0x01 ∷ 0x02 ∷ 0x41 ∷ [])) (10 ∷ 7 ∷ [])
    ∷ row (looks (0x01 ∷ 0x01 ∷ 0x41 ∷ 0x03 ∷ 0x00 ∷ [])) (10 ∷ 3 ∷ [])
    ∷ row (looks (0x01 ∷ 0x01 ∷ 0x41 ∷ 0x02 ∷ 0x00 ∷ [])) (10 ∷ 3 ∷ [])
    ∷ row (looks (0x01 ∷ 0x01 ∷ 0x41 ∷ 0x00 ∷ 0x02 ∷ [])) (10 ∷ 4 ∷ [])
    ∷ row (looks (0x01 ∷ 0x01 ∷ 0x41 ∷ [])) (10 ∷ 3 ∷ [])
    ∷ row (looks (0x02 ∷ 0x01 ∷ 0x41 ∷ 0x00 ∷ 0x00 ∷ 0x01 ∷ 0x41 ∷ 0x00 ∷ 0x00 ∷ [])) (10 ∷ 5 ∷ [])
    ∷ row (looks (0x01 ∷ 0x01 ∷ 0x41 ∷ 0x00 ∷ 0x00 ∷ 0xFF ∷ [])) (10 ∷ 5 ∷ [])
    ∷ row (looks (0x41 ∷ [])) (10 ∷ 0 ∷ [])
    ∷ row (looks []) (10 ∷ 0 ∷ [])
    -- set-up lists: a configuration, a length and a name cut short, whatever the name; bytes left over; none
    ∷ row (begins (0x01 ∷ 0x05 ∷ 0x49 ∷ 0x4D ∷ 0x41 ∷ 0x47 ∷ 0x45 ∷ 0x05 ∷ 0x00 ∷ 0x61 ∷ 0x62 ∷ 0x63 ∷ []) (replicate 4 0)) (10 ∷ 9 ∷ [])
    ∷ row (begins (0x01 ∷ 0x01 ∷ 0x41 ∷ 0x05 ∷ []) (replicate 4 0)) (10 ∷ 3 ∷ [])
    ∷ row (begins (0x01 ∷ 0x05 ∷ 0x2D ∷ 0x41 ∷ []) (replicate 4 0)) (10 ∷ 4 ∷ [])
    ∷ row (begins (0x01 ∷ 0x01 ∷ 0x41 ∷ 0x00 ∷ 0x00 ∷ 0xFF ∷ []) (replicate 4 0)) (10 ∷ 5 ∷ [])
    ∷ row (begins [] (replicate 4 0)) (10 ∷ 0 ∷ [])
    -- complete lists: a byte of a name, the number of sections, a name used twice
    ∷ row (begins (0x01 ∷ 0x05 ∷ 0x2D ∷ 0x41 ∷ 0x41 ∷ 0x41 ∷ 0x41 ∷ 0x00 ∷ 0x00 ∷ []) (replicate 4 0)) (3 ∷ 2 ∷ [])
    ∷ row (begins (0x00 ∷ []) (replicate 4 0)) (3 ∷ 0 ∷ [])
    ∷ row (begins (0x02 ∷ 0x01 ∷ 0x41 ∷ 0x00 ∷ 0x00 ∷ 0x01 ∷ 0x41 ∷ 0x00 ∷ 0x00 ∷ []) (replicate 4 0)) (3 ∷ 5 ∷ [])
    -- a system table that is given
    ∷ row (begins (0x01 ∷ 0x01 ∷ 0x41 ∷ 0x00 ∷ 0x00 ∷ []) bad_behind_twice) (4 ∷ 7 ∷ [])
    ∷ []

pub positions : T (every holds_at rows)
unfolding the_file row holds_at opens repairs looks begins two_sections same_sections bad_behind_twice two_twice rows bytes_of number_of flat_map file_mark short_string table_bytes tag_bytes sized_bytes frame_head_bytes frame_bytes entry_bytes entries_bytes first_time index_bytes every same among distinct is_name_byte is_tag_byte legal_section_name legal_tag_name legal_tag_value tag_names follows follow in_order onward behind give ◌then◌ only fault_at placed times exactly value_or taken fault_of number block string outside string_fault section_name tag_name tag_value rows_fault counted_fault number_of_sections number_of_tags table_fault definition defined_names definitions tag table sized frame stopped longer walk first_of field header_count index_offset system_offset user_offset read_definitions defined_in read_system read_user walk_start walk_of counted not_fstf other_revision steps offsets_legal last_offset bad_sections bad_system opening_place not_closed bad_index bad_user front_lines opening_lines refusal next_offset sections_from shown too_long walked kept_length kept_count tail repair_lines repair_refusal entry_of kind entry_part number_of_changes sheet_fault change_with change_names sheet_with sheet look_lines look_refusal look_place header_bytes definition_list_bytes definitions_end definitions_bytes configurations_bytes front_bytes section_names is_fresh configured set_up_section set_up_list sections_of bad_set_up first_piece begin_lines keeping first_offset_place first_offset first_offset_wrong offset_behind sections_fault system_fault user_fault begin_place
positions = tt
