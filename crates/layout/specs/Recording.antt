-- "Layout, front to back with no gaps": what a recording is, its bytes, and what is legal.
use Rattle.std.specs.Prelude.{ℕ, suc, ◌+◌, ◌*◌, ◌-◌, ◌^◌, ◌≤◌, ◌≡◌, Bool, true, false, not, ◌&&◌, ◌||◌, length, leb, eqb}
use mathlib.Core.List.{List, [], ◌∷◌, ◌++◌, map, flat_map}
use Rattle.number.specs.Number.{bytes_of, rank}

-- ── What a recording is ──

pub record Section : Type 0 where
  pub name : List ℕ
  pub configuration : List ℕ

pub record Tag : Type 0 where
  pub name : List ℕ
  pub value : List ℕ

-- `time` is the 64-bit pattern of the Int64; `sections` has the bytes of each section
pub record Frame : Type 0 where
  pub time : ℕ
  pub exposure : ℕ
  pub sections : List (List ℕ)

pub record Recording : Type 0 where
  pub sections : List Section
  pub system : List Tag
  pub frames : List Frame
  pub user : List Tag

-- ── The fixed places and limits ──

abbrev pub count_place : ℕ
count_place = 5

abbrev pub index_place : ℕ
index_place = 9

abbrev pub system_place : ℕ
system_place = 17

abbrev pub user_place : ℕ
user_place = 25

abbrev pub header_length : ℕ
header_length = 33

abbrev pub most_sections : ℕ
most_sections = 8

abbrev pub longest_configuration : ℕ
longest_configuration = 65535

abbrev pub most_tags : ℕ
most_tags = 1000

abbrev pub longest_section : ℕ
longest_section = 16777216

abbrev pub most_frames : ℕ
most_frames = 1000000

abbrev pub longest_span : ℕ
longest_span = 4294967295

-- the most bytes that a table can take: 4, and for each of 1,000 tags two short strings of 256
abbrev pub largest_table : ℕ
largest_table = 512004

abbrev pub largest_user_offset : ℕ
largest_user_offset = 2 ^ 40 - largest_table

abbrev pub frame_mark : ℕ
frame_mark = 0xEE0122FF

-- `46 53 54 46`
unfoldable pub file_mark : List ℕ
file_mark = 0x46 ∷ 0x53 ∷ 0x54 ∷ 0x46 ∷ []

abbrev pub revision : ℕ
revision = 1

-- ── Its bytes ──

-- "A short string is one length byte and that many bytes."
unfoldable pub short_string : List ℕ → List ℕ
short_string s = length s ∷ s

unfoldable pub header_bytes : (count index system user : ℕ) → List ℕ
header_bytes count index system user =
    file_mark ++ (revision ∷ []) ++ bytes_of 4 count ++ bytes_of 8 index ++ bytes_of 8 system ++ bytes_of 8 user

-- per section a name and the offset of its configuration; `at` is where the first of these configurations starts
unfoldable pub definition_list_bytes : ℕ → List Section → List ℕ
definition_list_bytes at [] = []
definition_list_bytes at (s ∷ ss) =
    short_string s.name ++ bytes_of 8 at ++ definition_list_bytes (at + length s.configuration) ss

-- "the first offset is the end of the definitions"
unfoldable pub definitions_end : List Section → ℕ
definitions_end ss = header_length + 1 + length (definition_list_bytes 0 ss)

unfoldable pub definitions_bytes : List Section → List ℕ
definitions_bytes ss = length ss ∷ definition_list_bytes (definitions_end ss) ss

unfoldable pub configurations_bytes : List Section → List ℕ
configurations_bytes = flat_map (λ s. s.configuration)

unfoldable pub tag_bytes : Tag → List ℕ
tag_bytes t = short_string t.name ++ short_string t.value

unfoldable pub table_bytes : List Tag → List ℕ
table_bytes ts = bytes_of 4 (length ts) ++ flat_map tag_bytes ts

-- everything up to the first frame, `system` being the system table in file form
unfoldable pub front_bytes : (count index user : ℕ) → List Section → (system : List ℕ) → List ℕ
front_bytes count index user ss system =
    header_bytes count index (definitions_end ss + length (configurations_bytes ss)) user ++ definitions_bytes ss ++ configurations_bytes ss ++ system

-- a section in a frame: its size and its bytes
unfoldable pub sized_bytes : List ℕ → List ℕ
sized_bytes bytes = bytes_of 4 (length bytes) ++ bytes

unfoldable pub frame_head_bytes : (time exposure : ℕ) → List ℕ
frame_head_bytes time exposure = bytes_of 4 frame_mark ++ bytes_of 8 time ++ bytes_of 4 exposure

unfoldable pub frame_bytes : Frame → List ℕ
frame_bytes f = frame_head_bytes f.time f.exposure ++ flat_map sized_bytes f.sections

-- an index entry: time since the first frame, offset, length
unfoldable pub entry_bytes : (first time offset length : ℕ) → List ℕ
entry_bytes first time offset len = bytes_of 4 (rank time - rank first) ++ bytes_of 8 offset ++ bytes_of 4 len

-- the entries of frames that stand one behind the other from `at`
unfoldable pub entries_bytes : (first at : ℕ) → List Frame → List ℕ
entries_bytes first at [] = []
entries_bytes first at (f ∷ fs) =
    entry_bytes first f.time at (length (frame_bytes f)) ++ entries_bytes first (at + length (frame_bytes f)) fs

unfoldable pub first_time : List Frame → ℕ
first_time [] = 0
first_time (f ∷ fs) = f.time

unfoldable pub index_bytes : (at : ℕ) → List Frame → List ℕ
index_bytes at fs = bytes_of 4 (length fs) ++ entries_bytes (first_time fs) at fs

-- the bytes of an index of n frames
abbrev pub index_length : ℕ → ℕ
index_length n = 4 + 16 * n

-- where the frames start, where they end, and where the user table starts
unfoldable pub frames_start : Recording → ℕ
frames_start r = length (front_bytes 0 0 0 r.sections (table_bytes r.system))

unfoldable pub frames_end : Recording → ℕ
frames_end r = frames_start r + length (flat_map frame_bytes r.frames)

unfoldable pub user_start : Recording → ℕ
user_start r = frames_end r + index_length (length r.frames)

-- the whole file
unfoldable pub encode : Recording → List ℕ
encode r =
    front_bytes (length r.frames) (frames_end r) (user_start r) r.sections (table_bytes r.system)
    ++ flat_map frame_bytes r.frames
    ++ index_bytes (frames_start r) r.frames
    ++ table_bytes r.user

-- ── What is legal ──

abbrev pub within : ℕ → ℕ → ℕ → Bool
within low high n = leb low n && leb n high

unfoldable pub every : {A : Type 0} → (A → Bool) → List A → Bool
every ok [] = true
every ok (x ∷ xs) = ok x && every ok xs

-- the same bytes
unfoldable pub same : List ℕ → List ℕ → Bool
same [] [] = true
same [] (y ∷ ys) = false
same (x ∷ xs) [] = false
same (x ∷ xs) (y ∷ ys) = eqb x y && same xs ys

unfoldable pub among : List ℕ → List (List ℕ) → Bool
among name [] = false
among name (n ∷ ns) = same name n || among name ns

-- "no two are equal"
unfoldable pub distinct : List (List ℕ) → Bool
distinct [] = true
distinct (n ∷ ns) = not (among n ns) && distinct ns

-- "each a digit, a capital or a small letter"
unfoldable pub is_name_byte : ℕ → Bool
is_name_byte b = within 48 57 b || within 65 90 b || within 97 122 b

-- "Bytes 32 to 126 only"
unfoldable pub is_tag_byte : ℕ → Bool
is_tag_byte b = within 32 126 b

unfoldable pub legal_section_name : List ℕ → Bool
legal_section_name n = within 1 255 (length n) && every is_name_byte n

unfoldable pub legal_tag_name : List ℕ → Bool
legal_tag_name n = within 1 255 (length n) && every is_tag_byte n

unfoldable pub legal_tag_value : List ℕ → Bool
legal_tag_value v = within 0 255 (length v) && every is_tag_byte v

unfoldable pub legal_tag : Tag → Bool
legal_tag t = legal_tag_name t.name && legal_tag_value t.value

unfoldable pub tag_names : List Tag → List (List ℕ)
tag_names = map (λ t. t.name)

unfoldable pub section_names : List Section → List (List ℕ)
section_names = map (λ s. s.name)

-- the rule of either table
unfoldable pub legal_table : List Tag → Bool
legal_table ts = leb (length ts) most_tags && every legal_tag ts && distinct (tag_names ts)

-- "A frame's time is never before the frame ahead of it, and at most 4,294,967,295 ms after the first."
unfoldable pub follows : (first last time : ℕ) → Bool
follows first last time = leb (rank last) (rank time) && leb (rank time - rank first) longest_span

unfoldable pub follow : (first last : ℕ) → List Frame → Bool
follow first last [] = true
follow first last (f ∷ fs) = follows first last f.time && follow first f.time fs

unfoldable pub in_order : List Frame → Bool
in_order [] = true
in_order (f ∷ fs) = follow f.time f.time fs

-- a frame of a recording with k sections, "whatever its time"
unfoldable pub legal_frame : (k : ℕ) → Frame → Bool
legal_frame k f =
    leb (suc f.time) (2 ^ 64) && leb (suc f.exposure) (2 ^ 32) && eqb (length f.sections) k
    && every (λ s. leb (length s) longest_section) f.sections

unfoldable pub legal_section : Section → Bool
legal_section s = legal_section_name s.name && leb (length s.configuration) longest_configuration

-- a recording that the layout describes
pub record Legal (r : Recording) : Type 0 where
  pub at_least_one_section : 1 ≤ length r.sections
  pub at_most_eight_sections : length r.sections ≤ most_sections
  pub sections_legal : every legal_section r.sections ≡ true
  pub sections_differ : distinct (section_names r.sections) ≡ true
  pub system_legal : legal_table r.system ≡ true
  pub frames_few : length r.frames ≤ most_frames
  pub frames_legal : every (legal_frame (length r.sections)) r.frames ≡ true
  pub frames_ordered : in_order r.frames ≡ true
  pub user_legal : legal_table r.user ≡ true
  pub user_offset_fits : user_start r ≤ largest_user_offset
