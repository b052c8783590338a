-- "Refusal numbers": an order of them, lines 1 to 7 each under its name, and what a file that opens shows. The other lines stand with their calls.
use Rattle.std.specs.Prelude.{ℕ, ◌+◌, ◌-◌, Bool, true, false, not, ◌||◌, ◌&&◌, cond, List, [], ◌∷◌, ◌++◌, length, take, drop, get_or, leb, ltb, eqb}
use Rattle.number.specs.Number.{number_of}
use Rattle.layout.specs.Recording.{Section, Tag, Recording, count_place, index_place, system_place, user_place, header_length, longest_configuration, most_frames, largest_user_offset, file_mark, revision, same, in_order, index_bytes}
use Rattle.layout.specs.Reading.{Definition, Reader, Parsed, bad, good, ◌then◌, only, times, number, section_name, number_of_sections, definition, definitions, table, counted_fault, is_bad, value_or, taken, fault_of, exactly, Walk, walk}

-- ── An order of refusals ──

-- a refusal number, and whether its line holds
pub record Line : Type 0 where
  pub number : ℕ
  pub holds : Bool

abbrev pub line : ℕ → Bool → Line
line n b = record { number = n; holds = b }

-- "A call gives a number exactly when that number is in its order, its line holds and none ahead of it does"; 0 where none holds
unfoldable pub first_of : List Line → ℕ
first_of [] = 0
first_of (l ∷ ls) = elim l.holds [ true ↦ l.number | false ↦ first_of ls ]

-- ── What the header and the definitions say ──

unfoldable pub field : (place w : ℕ) → List ℕ → ℕ
field place w f = number_of (take w (drop place f))

unfoldable pub header_count : List ℕ → ℕ
header_count = field count_place 4

unfoldable pub index_offset : List ℕ → ℕ
index_offset = field index_place 8

unfoldable pub system_offset : List ℕ → ℕ
system_offset = field system_place 8

unfoldable pub user_offset : List ℕ → ℕ
user_offset = field user_place 8

unfoldable pub read_definitions : List ℕ → Parsed (List Definition)
read_definitions f = definitions (drop header_length f)

unfoldable pub defined_in : List ℕ → List Definition
defined_in f = value_or [] (read_definitions f)

unfoldable pub read_system : List ℕ → Parsed (List Tag)
read_system f = table (drop (system_offset f) f)

unfoldable pub read_user : List ℕ → Parsed (List Tag)
read_user f = exactly table (drop (user_offset f) f)

-- "The walk starts after the system table."
unfoldable pub walk_start : List ℕ → ℕ
walk_start f = system_offset f + taken (read_system f)

unfoldable pub walk_of : (most : ℕ) → List ℕ → Walk
walk_of most f = walk most (length (defined_in f)) (drop (walk_start f) f)

-- the frames that opening goes by: as many as the header counts
unfoldable pub counted : List ℕ → Walk
counted f = walk_of (header_count f) f

-- ── The lines ──

-- 1 "under 34 bytes, or the first four differ"
unfoldable pub not_fstf : List ℕ → Bool
not_fstf f = ltb (length f) (header_length + 1) || not (same (take 4 f) file_mark)

-- 2 "not 1"
unfoldable pub other_revision : List ℕ → Bool
other_revision f = not (eqb (get_or f 4 0) revision)

-- from an offset to the next: never falling, and at most 65,535 bytes
abbrev pub step : (at next : ℕ) → Bool
step at next = leb at next && leb (next - at) longest_configuration

unfoldable pub steps : ℕ → List Definition → Bool
steps at [] = true
steps at (d ∷ ds) = step at d.offset && steps d.offset ds

-- "the first offset is the end of the definitions; offsets never fall"
unfoldable pub offsets_legal : (end : ℕ) → List Definition → Bool
offsets_legal end [] = true
offsets_legal end (d ∷ ds) = eqb d.offset end && steps d.offset ds

unfoldable pub last_offset : ℕ → List Definition → ℕ
last_offset at [] = at
last_offset at (d ∷ ds) = last_offset d.offset ds

-- 3 "definitions or configuration offsets break the layout"
unfoldable pub bad_sections : List ℕ → Bool
bad_sections f = is_bad (read_definitions f) || not (offsets_legal (header_length + taken (read_definitions f)) (defined_in f))

-- its offset is before the last configuration's or more than 65,535 after it
abbrev pub far_system : List ℕ → Bool
far_system f = ltb (system_offset f) (last_offset 0 (defined_in f)) || ltb (last_offset 0 (defined_in f) + longest_configuration) (system_offset f)

-- 4 "its offset is before the last configuration's or more than 65,535 after it, or the table is malformed or runs past the end"
unfoldable pub bad_system : List ℕ → Bool
bad_system f =
    far_system f || is_bad (read_system f)

-- 5 "index or user offset is zero, past the file's length, or user offset over its limit"
unfoldable pub not_closed : List ℕ → Bool
not_closed f =
    eqb (index_offset f) 0 || eqb (user_offset f) 0 || ltb (length f) (index_offset f) || ltb (length f) (user_offset f)
    || ltb largest_user_offset (user_offset f)

-- 6 "header count over 1,000,000; or fewer whole frames than that from the start of the walk; or their end is not the index offset; or the times
-- break their rule; or the bytes from index offset to user offset are not exactly those frames' index"
unfoldable pub bad_index : List ℕ → Bool
bad_index f =
    ltb most_frames (header_count f)
    || ltb (length (counted f).frames) (header_count f)
    || not (eqb (walk_start f + (counted f).bytes) (index_offset f))
    || not (in_order (counted f).frames)
    || not (same (take (user_offset f - index_offset f) (drop (index_offset f) f)) (index_bytes (walk_start f) (counted f).frames))

-- 7 "malformed, or does not end at the file's end"
unfoldable pub bad_user : List ℕ → Bool
bad_user f = is_bad (read_user f)

-- ── Opening ──

-- what opening and repair both begin with
unfoldable pub front_lines : List ℕ → List Line
front_lines f = line 1 (not_fstf f) ∷ line 2 (other_revision f) ∷ line 3 (bad_sections f) ∷ line 4 (bad_system f) ∷ []

unfoldable pub opening_lines : List ℕ → List Line
opening_lines f = front_lines f ++ (line 5 (not_closed f) ∷ line 6 (bad_index f) ∷ line 7 (bad_user f) ∷ [])

-- "opening tests 1 to 7 in number order": the first number whose line holds, 0 where the file opens
unfoldable pub refusal : List ℕ → ℕ
refusal f = first_of (opening_lines f)

-- ── Where the fault is ──

-- the first offset's field, and the offset
unfoldable pub first_offset_place : List ℕ → ℕ
first_offset_place f = header_length + 1 + taken (section_name (drop (header_length + 1) f))

unfoldable pub first_offset : List ℕ → ℕ
first_offset f = field (first_offset_place f) 8 f

-- the first offset is not the definitions' end, which is known where all can be read: a name used twice and a wrong offset do not end the reading
unfoldable pub first_offset_wrong : List ℕ → Bool
first_offset_wrong f =
    elim ((number_of_sections then λ k. times k definition) (drop header_length f)) [ bad m ↦ false | good ds n ↦ not (eqb (first_offset f) (header_length + n)) ]

-- an offset behind another
unfoldable pub offset_behind : (at : ℕ) → Reader ℕ
offset_behind at = only (step at) (number 8)

-- 3: the first offset's field; else the first of a string that fails, bytes that run out, a name used twice, an offset that breaks its rule
unfoldable pub sections_fault : List ℕ → ℕ
sections_fault f =
    cond (first_offset_wrong f) (first_offset_place f)
    (header_length + counted_fault number_of_sections section_name offset_behind (first_offset f) (drop header_length f))

-- 4: the header's field, or in the table
unfoldable pub system_fault : List ℕ → ℕ
system_fault f = cond (far_system f) system_place (system_offset f + fault_of (read_system f))

-- 7
unfoldable pub user_fault : List ℕ → ℕ
user_fault f = user_offset f + fault_of (read_user f)

-- the place that goes with opening's answer; 0 where its number has none
unfoldable pub opening_place : (refused : ℕ) → List ℕ → ℕ
opening_place n f = cond (eqb n 3) (sections_fault f) (cond (eqb n 4) (system_fault f) (cond (eqb n 7) (user_fault f) 0))

-- ── What a file that opens shows ──

-- "each configuration runs to the next offset, the last one to the system table"
unfoldable pub next_offset : (system : ℕ) → List Definition → ℕ
next_offset system [] = system
next_offset system (d ∷ ds) = d.offset

unfoldable pub sections_from : List ℕ → List Definition → List Section
sections_from f [] = []
sections_from f (d ∷ ds) =
    record { name = d.name; configuration = take (next_offset (system_offset f) ds - d.offset) (drop d.offset f) } ∷ sections_from f ds

unfoldable pub shown : List ℕ → Recording
shown f =
    record { sections = sections_from f (defined_in f); system = value_or [] (read_system f); frames = (counted f).frames; user = value_or [] (read_user f) }
