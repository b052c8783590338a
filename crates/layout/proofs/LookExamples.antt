-- What look shows of a sheet on a table, and where a commit of it conflicts: examples as one table under one claim, their answers written by hand.
-- Assumes nothing.
use Prim.Native.Nat.{ℕ}
use mathlib.Core.List.{List, [], ◌∷◌, ◌++◌, flat_map}
use lib.ListN.{length, take}
use lib.Dec.{T}
use Rattle.number.specs.Number.{bytes_of, number_of}
use Rattle.layout.specs.Recording.{Tag, file_mark, short_string, table_bytes, tag_bytes, sized_bytes, frame_head_bytes, frame_bytes, entry_bytes, entries_bytes, first_time, index_bytes, every, same, among, distinct, is_name_byte, is_tag_byte, legal_section_name, legal_tag_name, legal_tag_value, tag_names, follows, follow, in_order}
use Rattle.layout.specs.Reading.{onward, behind, give, ◌then◌, only, fault_at, placed, times, exactly, value_or, taken, fault_of, number, block, string, outside, string_fault, section_name, tag_name, tag_value, keeping, rows_fault, counted_fault, number_of_sections, number_of_tags, table_fault, definition, defined_names, definitions, tag, table, sized, frame, stopped, longer, walk}
use Rattle.layout.specs.Opening.{first_of, field, header_count, index_offset, system_offset, user_offset, read_definitions, defined_in, read_system, read_user, walk_start, walk_of, counted, not_fstf, other_revision, steps, offsets_legal, last_offset, bad_sections, bad_system, opening_place, not_closed, bad_index, bad_user, front_lines, opening_lines, refusal, next_offset, sections_from, shown}
use Rattle.layout.specs.Saving.{entry_of, kind, entry_part, number_of_changes, sheet_fault, change_with, change_names, sheet_with, sheet, changes_of, look_up, same_entry, conflicts, some, lowest, new_entry, tag_with, kept_tags, new_tags, applied, bits, table_lines, user_tags, look_lines, look_refusal, look_place, look_answer, look, new_table, commit_lines, commit_refusal, commit_place, commit_answer, commit}
use Rattle.layout.proofs.Examples.{Row, row, holds_at, the_file}

-- A is 1, B is 2, and C is empty
unfoldable pub the_tags : List Tag
the_tags =
    record { name = 0x41 ∷ []; value = 0x31 ∷ [] }
    ∷ record { name = 0x42 ∷ []; value = 0x32 ∷ [] }
    ∷ record { name = 0x43 ∷ []; value = [] }
    ∷ []

-- the document's file with these tags
unfoldable pub tagged : List ℕ
tagged = take 94 the_file ++ table_bytes the_tags

-- what look answers to a sheet: its number and place, how many changes there are, and the set of those that conflict; and commit's number and place
looks : List ℕ → List ℕ
looks bytes =
    let l = look tagged bytes in
    let c = commit tagged bytes 100 in
    l.refused ∷ l.place ∷ length l.conflicting ∷ bits l.conflicting ∷ c.refused ∷ c.place ∷ []

-- changes to absent: of a tag that was seen absent, of one that was seen empty, of one at which nobody looked, as sheets could say, and of one that was
-- seen with a value
unfoldable pub saw_none : (name : ℕ) → List ℕ
saw_none name = 0x01 ∷ name ∷ 0x00 ∷ 0x00 ∷ []

unfoldable pub saw_empty : (name : ℕ) → List ℕ
saw_empty name = 0x01 ∷ name ∷ 0x01 ∷ 0x00 ∷ 0x00 ∷ []

unfoldable pub nobody : (name : ℕ) → List ℕ
nobody name = 0x01 ∷ name ∷ 0x02 ∷ 0x00 ∷ []

unfoldable pub saw : (name value : ℕ) → List ℕ
saw name value = 0x01 ∷ name ∷ 0x01 ∷ 0x01 ∷ value ∷ 0x00 ∷ []

pub rows : List Row
rows =
    -- no change
    row (looks (0x00 ∷ [])) (0 ∷ 0 ∷ 0 ∷ 0 ∷ 0 ∷ 0 ∷ [])
    -- each saw what the table has: a value, an empty one, no such tag
    ∷ row (looks (0x03 ∷ saw 0x41 0x31 ++ saw_empty 0x43 ++ saw_none 0x44)) (0 ∷ 0 ∷ 3 ∷ 0 ∷ 0 ∷ 0 ∷ [])
    -- another value; none where there is one; one where there is none; an empty one for none, and none for an empty one
    ∷ row (looks (0x01 ∷ saw 0x41 0x32)) (0 ∷ 0 ∷ 1 ∷ 1 ∷ 11 ∷ 0 ∷ [])
    ∷ row (looks (0x01 ∷ saw_none 0x41)) (0 ∷ 0 ∷ 1 ∷ 1 ∷ 11 ∷ 0 ∷ [])
    ∷ row (looks (0x01 ∷ saw 0x44 0x31)) (0 ∷ 0 ∷ 1 ∷ 1 ∷ 11 ∷ 0 ∷ [])
    ∷ row (looks (0x01 ∷ saw_empty 0x44)) (0 ∷ 0 ∷ 1 ∷ 1 ∷ 11 ∷ 0 ∷ [])
    ∷ row (looks (0x01 ∷ saw_none 0x43)) (0 ∷ 0 ∷ 1 ∷ 1 ∷ 11 ∷ 0 ∷ [])
    -- that nobody looked cannot be said any more, whether or not another change conflicts
    ∷ row (looks (0x02 ∷ nobody 0x41 ++ saw_none 0x44)) (10 ∷ 3 ∷ 0 ∷ 0 ∷ 10 ∷ 3 ∷ [])
    ∷ row (looks (0x02 ∷ saw_none 0x41 ++ nobody 0x44)) (10 ∷ 7 ∷ 0 ∷ 0 ∷ 10 ∷ 7 ∷ [])
    -- the second and the fourth of five; the last of three
    ∷ row (looks (0x05 ∷ saw 0x41 0x31 ++ saw_none 0x42 ++ saw_empty 0x43 ++ saw 0x44 0x31 ++ saw_none 0x45)) (0 ∷ 0 ∷ 5 ∷ 10 ∷ 11 ∷ 1 ∷ [])
    ∷ row (looks (0x03 ∷ saw 0x41 0x31 ++ saw 0x42 0x32 ++ saw_none 0x43)) (0 ∷ 0 ∷ 3 ∷ 4 ∷ 11 ∷ 2 ∷ [])
    -- a sheet that is malformed, behind a change that would conflict
    ∷ row (looks (0x02 ∷ saw_none 0x41)) (10 ∷ 5 ∷ 0 ∷ 0 ∷ 10 ∷ 5 ∷ [])
    ∷ []

pub looking : T (every holds_at rows)
unfolding the_tags tagged looks saw_none saw_empty nobody saw row rows holds_at the_file keeping bytes_of number_of flat_map file_mark short_string table_bytes tag_bytes sized_bytes frame_head_bytes frame_bytes entry_bytes entries_bytes first_time index_bytes every same among distinct is_name_byte is_tag_byte legal_section_name legal_tag_name legal_tag_value tag_names follows follow in_order onward behind give ◌then◌ only fault_at placed times exactly value_or taken fault_of number block string outside string_fault section_name tag_name tag_value rows_fault counted_fault number_of_sections number_of_tags table_fault definition defined_names definitions tag table sized frame stopped longer walk first_of field header_count index_offset system_offset user_offset read_definitions defined_in read_system read_user walk_start walk_of counted not_fstf other_revision steps offsets_legal last_offset bad_sections bad_system opening_place not_closed bad_index bad_user front_lines opening_lines refusal next_offset sections_from shown entry_of kind entry_part number_of_changes sheet_fault change_with change_names sheet_with sheet changes_of look_up same_entry conflicts some lowest new_entry tag_with kept_tags new_tags applied table_lines user_tags look_lines look_refusal look_place look_answer look new_table commit_lines commit_refusal commit_place commit_answer commit bits
looking = tt
