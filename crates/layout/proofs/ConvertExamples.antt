-- What the converter makes of old sheets, and what committing them answered: examples as one table under one claim, their answers written by hand.
-- Assumes nothing.
use Prim.Native.Nat.{ℕ}
use mathlib.Core.List.{List, [], ◌∷◌, ◌++◌, flat_map}
use lib.ListN.{take}
use lib.Dec.{T}
use Rattle.number.specs.Number.{bytes_of, number_of}
use Rattle.layout.specs.Recording.{file_mark, short_string, table_bytes, tag_bytes, sized_bytes, frame_head_bytes, frame_bytes, entry_bytes, entries_bytes, first_time, index_bytes, every, same, among, distinct, is_name_byte, is_tag_byte, legal_section_name, legal_tag_name, legal_tag_value, tag_names, follows, follow, in_order}
use Rattle.layout.specs.Reading.{onward, behind, give, ◌then◌, only, fault_at, placed, times, exactly, value_or, taken, fault_of, number, block, string, outside, string_fault, section_name, tag_name, tag_value, keeping, rows_fault, counted_fault, number_of_sections, number_of_tags, table_fault, definition, defined_names, definitions, tag, table, sized, frame, stopped, longer, walk}
use Rattle.layout.specs.Opening.{first_of, field, header_count, index_offset, system_offset, user_offset, read_definitions, defined_in, read_system, read_user, walk_start, walk_of, counted, not_fstf, other_revision, steps, offsets_legal, last_offset, bad_sections, bad_system, user_fault, opening_place, not_closed, bad_index, bad_user, front_lines, opening_lines, refusal, next_offset, sections_from, shown}
use Rattle.layout.specs.Saving.{entry_of, kind, entry_part, number_of_changes, sheet_fault, change_with, change_names, sheet_with, sheet, changes_of, look_up, same_entry, conflicts, some, lowest, new_entry, tag_with, kept_tags, new_tags, applied, bits, table_lines, user_tags, look_lines, look_refusal, look_place, look_answer, look, new_table, commit_lines, commit_refusal, commit_place, commit_answer, commit, entry_part_bytes, change_bytes, sheet_bytes_with, sheet_bytes}
use Rattle.layout.specs.OldSheets.{old_seen_of, old_seen_part, old_sheet, old_changes_of, old_agrees, old_conflicts, old_table, old_commit_lines, old_commit_refusal, old_sheet_place, old_commit_place, old_commit, filled_seen, filled_in, converted, convert_lines, convert_refusal, convert_answer, convert}
use Rattle.layout.proofs.Examples.{Row, row, holds_at, the_file}
use Rattle.layout.proofs.LookExamples.{the_tags, tagged, saw_none, saw_empty, nobody, saw}

-- what the converter answers: its number and place, and the sheet
converts : (f sheet : List ℕ) → (room : ℕ) → List ℕ
converts f bytes room = let c = convert f bytes room in c.refused ∷ c.place ∷ c.sheet

-- what committing an old sheet answered: its number and place, and the table
olds : List ℕ → List ℕ
olds bytes = let c = old_commit tagged bytes 100 in c.refused ∷ c.place ∷ c.table

pub rows : List Row
rows =
    -- no change; and what was seen stays as it was, whether or not it conflicts
    row (converts tagged (0x00 ∷ []) 100) (0 ∷ 0 ∷ 0x00 ∷ [])
    ∷ row (converts tagged (0x03 ∷ saw 0x41 0x31 ++ saw_none 0x42 ++ saw_empty 0x44) 100) (0 ∷ 0 ∷ 0x03 ∷ saw 0x41 0x31 ++ saw_none 0x42 ++ saw_empty 0x44)
    -- where nobody looked: a value, an empty one, no such tag
    ∷ row (converts tagged (0x01 ∷ nobody 0x41) 100) (0 ∷ 0 ∷ 0x01 ∷ 0x01 ∷ 0x41 ∷ 0x01 ∷ 0x01 ∷ 0x31 ∷ 0x00 ∷ [])
    ∷ row (converts tagged (0x01 ∷ nobody 0x43) 100) (0 ∷ 0 ∷ 0x01 ∷ 0x01 ∷ 0x43 ∷ 0x01 ∷ 0x00 ∷ 0x00 ∷ [])
    ∷ row (converts tagged (0x01 ∷ nobody 0x44) 100) (0 ∷ 0 ∷ 0x01 ∷ 0x01 ∷ 0x44 ∷ 0x00 ∷ 0x00 ∷ [])
    -- beside others
    ∷ row (converts tagged (0x03 ∷ saw 0x41 0x32 ++ nobody 0x42 ++ nobody 0x44) 100) (0 ∷ 0 ∷ 0x03 ∷ saw 0x41 0x32 ++ saw 0x42 0x32 ++ saw_none 0x44)
    -- room, exactly and one short
    ∷ row (converts tagged (0x01 ∷ nobody 0x41) 7) (0 ∷ 0 ∷ 0x01 ∷ saw 0x41 0x31)
    ∷ row (converts tagged (0x01 ∷ nobody 0x41) 6) (9 ∷ 0 ∷ [])
    -- any other fault: a seen kind 3, a new kind 2, a name used twice, a byte left over, bytes running out; ahead of room
    ∷ row (converts tagged (0x01 ∷ 0x01 ∷ 0x41 ∷ 0x03 ∷ 0x00 ∷ []) 0) (10 ∷ 3 ∷ [])
    ∷ row (converts tagged (0x01 ∷ 0x01 ∷ 0x41 ∷ 0x02 ∷ 0x02 ∷ []) 100) (10 ∷ 4 ∷ [])
    ∷ row (converts tagged (0x02 ∷ nobody 0x41 ++ nobody 0x41) 100) (10 ∷ 5 ∷ [])
    ∷ row (converts tagged (0x01 ∷ nobody 0x41 ++ (0x00 ∷ [])) 100) (10 ∷ 5 ∷ [])
    ∷ row (converts tagged (0x02 ∷ nobody 0x41) 100) (10 ∷ 5 ∷ [])
    -- the file comes first
    ∷ row (converts (take 97 the_file) (0x01 ∷ 0x01 ∷ 0x41 ∷ 0x03 ∷ 0x00 ∷ []) 0) (7 ∷ 94 ∷ [])
    -- committing an old sheet: where nobody looked nothing conflicted, and what was seen beside it was compared
    ∷ row (olds (0x02 ∷ nobody 0x41 ++ nobody 0x44)) (0 ∷ 0 ∷ 0x02 ∷ 0x00 ∷ 0x00 ∷ 0x00 ∷ 0x01 ∷ 0x42 ∷ 0x01 ∷ 0x32 ∷ 0x01 ∷ 0x43 ∷ 0x00 ∷ [])
    ∷ row (olds (0x02 ∷ nobody 0x41 ++ saw_none 0x42)) (11 ∷ 1 ∷ [])
    ∷ row (olds (0x01 ∷ 0x01 ∷ 0x41 ∷ 0x03 ∷ 0x00 ∷ [])) (10 ∷ 3 ∷ [])
    ∷ []

pub converting : T (every holds_at rows)
unfolding the_tags tagged converts olds saw_none saw_empty nobody saw row rows holds_at the_file keeping bytes_of number_of flat_map file_mark short_string table_bytes tag_bytes sized_bytes frame_head_bytes frame_bytes entry_bytes entries_bytes first_time index_bytes every same among distinct is_name_byte is_tag_byte legal_section_name legal_tag_name legal_tag_value tag_names follows follow in_order onward behind give ◌then◌ only fault_at placed times exactly value_or taken fault_of number block string outside string_fault section_name tag_name tag_value rows_fault counted_fault number_of_sections number_of_tags table_fault definition defined_names definitions tag table sized frame stopped longer walk first_of field header_count index_offset system_offset user_offset read_definitions defined_in read_system read_user walk_start walk_of counted not_fstf other_revision steps offsets_legal last_offset bad_sections bad_system opening_place not_closed bad_index bad_user front_lines opening_lines refusal next_offset sections_from shown entry_of kind entry_part number_of_changes sheet_fault change_with change_names sheet_with sheet changes_of look_up same_entry conflicts some lowest new_entry tag_with kept_tags new_tags applied table_lines user_tags look_lines look_refusal look_place look_answer look new_table commit_lines commit_refusal commit_place commit_answer commit bits old_seen_of old_seen_part old_sheet old_changes_of old_agrees old_conflicts old_table old_commit_lines old_commit_refusal old_sheet_place old_commit_place old_commit filled_seen filled_in entry_part_bytes change_bytes sheet_bytes_with sheet_bytes converted convert_lines convert_refusal convert_answer convert user_fault
converting = tt
