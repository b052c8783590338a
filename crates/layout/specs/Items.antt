-- "Reading item i runs what opening runs, then 8": frames, and what is handed back as a part of the file.
use Rattle.std.specs.Prelude.{ℕ, zero, ◌+◌, Bool, not, ◌&&◌, length, take, get_or, ltb}
use mathlib.Core.List.{List, [], ◌∷◌, ◌++◌, flat_map}
use Rattle.layout.specs.Recording.{Section, Tag, Frame, Recording, header_length, definition_list_bytes, definitions_end, configurations_bytes, tag_bytes, sized_bytes, frame_bytes, frames_start, user_start}
use Rattle.layout.specs.Opening.{line, first_of, opening_lines, shown}

-- ── Which items there are ──

pub data Item : Type 0 where
  frame_section : (frame section : ℕ) → Item
  section_name : ℕ → Item
  configuration : ℕ → Item
  system_name : ℕ → Item
  system_value : ℕ → Item
  user_name : ℕ → Item
  user_value : ℕ → Item

abbrev pub no_frame : Frame
no_frame = record { time = 0; exposure = 0; sections = [] }

abbrev pub no_section : Section
no_section = record { name = []; configuration = [] }

abbrev pub no_tag : Tag
no_tag = record { name = []; value = [] }

unfoldable pub frame_of : Recording → ℕ → Frame
frame_of r i = get_or r.frames i no_frame

-- 8 "a frame, section or tag number not below its count"
unfoldable pub no_such_frame : Recording → ℕ → Bool
no_such_frame r i = not (ltb i (length r.frames))

unfoldable pub no_such_item : Recording → Item → Bool
no_such_item r (frame_section i j) = not (ltb i (length r.frames) && ltb j (length r.sections))
no_such_item r (section_name i) = not (ltb i (length r.sections))
no_such_item r (configuration i) = not (ltb i (length r.sections))
no_such_item r (system_name i) = not (ltb i (length r.system))
no_such_item r (system_value i) = not (ltb i (length r.system))
no_such_item r (user_name i) = not (ltb i (length r.user))
no_such_item r (user_value i) = not (ltb i (length r.user))

-- ── What they are, and where they stand in the recording's file ──

unfoldable pub item_bytes : Recording → Item → List ℕ
item_bytes r (frame_section i j) = get_or (frame_of r i).sections j []
item_bytes r (section_name i) = (get_or r.sections i no_section).name
item_bytes r (configuration i) = (get_or r.sections i no_section).configuration
item_bytes r (system_name i) = (get_or r.system i no_tag).name
item_bytes r (system_value i) = (get_or r.system i no_tag).value
item_bytes r (user_name i) = (get_or r.user i no_tag).name
item_bytes r (user_value i) = (get_or r.user i no_tag).value

unfoldable pub frame_start : Recording → ℕ → ℕ
frame_start r i = frames_start r + length (flat_map frame_bytes (take i r.frames))

-- the system table's place is the configurations' end
unfoldable pub system_start : Recording → ℕ
system_start r = definitions_end r.sections + length (configurations_bytes r.sections)

-- where the name of tag i starts in a table that starts at `at`: behind the table's number, the tags ahead and the name's length byte
unfoldable pub name_start : (at : ℕ) → List Tag → ℕ → ℕ
name_start at ts i = at + 4 + length (flat_map tag_bytes (take i ts)) + 1

unfoldable pub value_start : (at : ℕ) → List Tag → ℕ → ℕ
value_start at ts i = name_start at ts i + length (get_or ts i no_tag).name + 1

-- a section's bytes start behind the frame's head, the sections ahead and its own size; a name's behind its length byte
unfoldable pub item_start : Recording → Item → ℕ
item_start r (frame_section i j) = frame_start r i + 16 + length (flat_map sized_bytes (take j (frame_of r i).sections)) + 4
item_start r (section_name i) = header_length + 1 + length (definition_list_bytes 0 (take i r.sections)) + 1
item_start r (configuration i) = definitions_end r.sections + length (configurations_bytes (take i r.sections))
item_start r (system_name i) = name_start (system_start r) r.system i
item_start r (system_value i) = value_start (system_start r) r.system i
item_start r (user_name i) = name_start (user_start r) r.user i
item_start r (user_value i) = value_start (user_start r) r.user i

-- ── The calls ──

-- the part of the file that is handed back; "refused, it hands back the empty part at the file's start"
pub record Part : Type 0 where
  pub start : ℕ
  pub len : ℕ

unfoldable pub part_of : ℕ → Part → Part
part_of zero p = p
part_of (ℕ.suc n) p = record { start = 0; len = 0 }

-- the number of the refusal, 0 for none
unfoldable pub item_refusal : List ℕ → Item → ℕ
item_refusal f item = first_of (opening_lines f ++ (line 8 (no_such_item (shown f) item) ∷ []))

unfoldable pub item_part : List ℕ → Item → Part
item_part f item = part_of (item_refusal f item) (record { start = item_start (shown f) item; len = length (item_bytes (shown f) item) })

-- what reading a frame answers; its time is a 64-bit pattern
pub record FrameShown : Type 0 where
  pub place : ℕ
  pub len : ℕ
  pub time : ℕ
  pub exposure : ℕ

unfoldable pub frame_refusal : List ℕ → ℕ → ℕ
frame_refusal f i = first_of (opening_lines f ++ (line 8 (no_such_frame (shown f) i) ∷ []))

unfoldable pub frame_answer : ℕ → FrameShown → FrameShown
frame_answer zero s = s
frame_answer (ℕ.suc n) s = record { place = 0; len = 0; time = 0; exposure = 0 }

unfoldable pub frame_shown : List ℕ → ℕ → FrameShown
frame_shown f i =
    frame_answer (frame_refusal f i)
    (record {
      place = frame_start (shown f) i;
      len = length (frame_bytes (frame_of (shown f) i));
      time = (frame_of (shown f) i).time;
      exposure = (frame_of (shown f) i).exposure;
    })
