-- Tags and tag tables at a place, by the layout's readers.
use Rattle.std.specs.Prelude.{ℕ, ◌+◌, ◌≡◌, Bool, true, cond, List, length, drop, ltb, Option, Some, None, Result, Ok, Err}
use Rattle.number.specs.Number.{read_at}
use Rattle.layout.specs.Recording.{Tag}
use Rattle.layout.specs.Reading.{Parsed, bad, good, times, tag}
use Rattle.parts.specs.Parts.{end_of, broken_at}
use Rattle.parts.specs.declared.Fault.{Fault}
use Rattle.rows.specs.Rows.{row_name}
use Rattle.names.specs.Names.{distinct_names}
use Rattle.rows.specs.declared.Row.TheVariants as row
use Rattle.tables.specs.declared.TagPlace.{TagPlace}
use Rattle.tables.specs.declared.TagsEnd.{TagsEnd}
use Rattle.tables.specs.declared.TablePlace.{TablePlace}
use Rattle.tables.specs.declared.TagFound.{TagFound}

-- a tag that was read, by the lengths of its name and value
unfoldable pub tag_place_of : Parsed Tag → Option TagPlace
tag_place_of (bad m) = None
tag_place_of (good t n) = Some (record { name = length t.name; value = length t.value })

-- a table of so many tags that ends at a place
abbrev pub table_whole : (tags end : ℕ) → TablePlace
table_whole n e = record { tags = n; end = e }

-- a table that was read from `at` on, by its number of tags and its end
unfoldable pub table_end_of : (at : ℕ) → Parsed (List Tag) → Option TablePlace
table_end_of at (bad m) = None
table_end_of at (good ts n) = Some (table_whole (length ts) (at + n))

-- the same, or where its first fault is
unfoldable pub table_place_of : (at : ℕ) → Parsed (List Tag) → Result TablePlace Fault
table_place_of at (bad m) = Err (broken_at (at + m))
table_place_of at (good ts n) = Ok (table_whole (length ts) (at + n))

-- where tags end whose names differ
unfoldable pub apart_of : Option ℕ → (apart : Bool) → Option ℕ
apart_of end apart = cond apart end None

-- n tags end there; and where their names were seen to differ, they do
unfoldable pub Ends : List ℕ → (at n : ℕ) → Option TagsEnd → Type 0
Ends s at n (Some e) = (end_of at (times n tag (drop at s)) ≡ Some e.end) × (e.apart ≡ true → distinct_names s at n row.Tag ≡ true)
Ends s at n None = end_of at (times n tag (drop at s)) ≡ None

-- the number of tags of bytes that were read as a table, and nothing behind it; or where the first fault is
unfoldable pub tags_of : Parsed (List Tag) → Result ℕ Fault
tags_of (bad m) = Err (broken_at m)
tags_of (good ts n) = Ok (length ts)

-- where name and value stand in a tag, by their lengths
abbrev pub tag_at : (name name_length value value_length : ℕ) → Option TagFound
tag_at n i v j = Some (record { name = n; name_length = i; value = v; value_length = j })

-- the same in a tag that was read from p on
unfoldable pub parts_of : (p : ℕ) → Parsed Tag → Option TagFound
parts_of p (bad m) = None
parts_of p (good t n) = tag_at (p + 1) (length t.name) (p + 1 + length t.name + 1) (length t.value)

unfoldable pub tag_from : List ℕ → Option ℕ → Option TagFound
tag_from s None = None
tag_from s (Some p) = parts_of p (tag (drop p s))

-- tag number i of the table at a place, to which the length bytes of the tags ahead lead
unfoldable pub tag_found : List ℕ → (at i : ℕ) → Option TagFound
tag_found s at i = cond (ltb i (read_at s at 4)) (tag_from s (end_of (at + 4) (times i (row_name row.Tag) (drop (at + 4) s)))) None
