-- Where the items and frames of a file stand, by the numbers of its opening.
use Rattle.std.specs.Prelude.{ℕ, ◌+◌, ◌*◌, ◌-◌, cond, ◌&&◌, List, length, drop, eqb, ltb, leb, Option, Some, None, Result, Ok, Err}
use Rattle.std.specs.Int.{w64}
use Rattle.std.proofs.Common.{to_z}
use Rattle.number.specs.Number.{read_at}
use Rattle.layout.specs.Recording.{most_frames}
use Rattle.layout.specs.Reading.{times, string}
use Rattle.strings.specs.Strings.{text_of}
use Rattle.parts.specs.Parts.{end_of}
use Rattle.rows.specs.Rows.{row_name}
use Rattle.tables.specs.Tables.{tag_found}
use Rattle.rows.specs.declared.Row.TheVariants as row
use Rattle.tables.specs.declared.TagFound.{TagFound}
use Rattle.frames.specs.Frames.{sized_at, sections_at, frame_at}
use Rattle.front.specs.Front.{definition_at}
use Rattle.opening.specs.declared.Held.{Held}
use Rattle.frames.specs.declared.FrameAt.{FrameAt}
use Rattle.front.specs.declared.DefinitionAt.{DefinitionAt}
use Rattle.refusal.specs.declared.Refusal.{Refusal}
use Rattle.refusal.specs.declared.Refusal.TheVariants.{NoSuchItem}
use Rattle.items.specs.declared.Item.{Item}
use Rattle.items.specs.declared.Item.TheVariants as item
use Rattle.items.specs.declared.FrameRead.{FrameRead}
use Rattle.items.specs.declared.Found.{Found}

-- ── By the numbers of an opened file ──

-- what stands there, or 8
abbrev pub or_no_such : {A : Type 0} → Option A → Result A Refusal
or_no_such None = Err NoSuchItem
or_no_such (Some x) = Ok x

abbrev pub found_at : (start len : ℕ) → Option Found
found_at s n = Some (record { start = s; len = n })

-- what is found from a place on, if there is the place
unfoldable pub from : Option ℕ → (ℕ → Option Found) → Option Found
from None found = None
from (Some p) found = found p

-- where the index entry of a frame says that it starts
abbrev pub entry_place : List ℕ → (index i : ℕ) → ℕ
entry_place f index i = read_at f (index + 4 + 16 * i + 4) 8

unfoldable pub frame_place : List ℕ → (frames index i : ℕ) → Option ℕ
frame_place f frames index i = cond (ltb i frames && ltb i most_frames && leb index (length f)) (Some (entry_place f index i)) None

-- the whole frame that was found at a place
unfoldable pub frame_from : (at : ℕ) → Option FrameAt → Option FrameRead
frame_from p None = None
frame_from p (Some x) = Some (record { place = p; length = x.next - p; time = to_z w64 x.time; exposure = x.exposure })

abbrev pub frame_behind : List ℕ → (sections : ℕ) → Option ℕ → Option FrameRead
frame_behind f k None = None
frame_behind f k (Some p) = frame_from p (frame_at f p k)

unfoldable pub held_frame : List ℕ → Held → ℕ → Result FrameRead Refusal
held_frame f h i = or_no_such (frame_behind f h.sections (frame_place f h.frames h.index i))

-- the bytes of a section whose size stands at a place; of section j of the frame that starts at a place
unfoldable pub section_at : List ℕ → (at : ℕ) → Option Found
section_at f s = from (sized_at f s) (λ end. found_at (s + 4) (end - s - 4))

unfoldable pub section_from : List ℕ → (j at : ℕ) → Option Found
section_from f j p = cond (leb p (length f)) (from (sections_at f (p + 16) j) (section_at f)) None

unfoldable pub held_section : List ℕ → (frames index sections i j : ℕ) → Option Found
held_section f frames index sections i j = cond (ltb j sections) (from (frame_place f frames index i) (section_from f j)) None

-- where the definition of section i starts, behind those ahead
abbrev pub definition_place : List ℕ → (i : ℕ) → Option ℕ
definition_place f i = end_of 34 (times i (row_name row.Definition) (drop 34 f))

-- the bytes of a short string at a place
unfoldable pub string_from : (at : ℕ) → (len : Option ℕ) → Option Found
string_from p None = None
string_from p (Some len) = found_at (p + 1) len

unfoldable pub name_at : List ℕ → (at : ℕ) → Option Found
name_at f p = string_from p (text_of (string (drop p f)))

unfoldable pub held_name : List ℕ → (sections i : ℕ) → Option Found
held_name f sections i = cond (ltb i sections) (from (definition_place f i) (name_at f)) None

-- the offset of a definition, or `system` where none is left
abbrev pub offset_or : (system : ℕ) → Option DefinitionAt → ℕ
offset_or system None = system
offset_or system (Some d) = d.offset

abbrev pub next_at : List ℕ → (at left system : ℕ) → ℕ
next_at f at left system = cond (eqb left 0) system (offset_or system (definition_at f at))

-- the bytes from one offset to the next, if these are in order and in the file
unfoldable pub between : List ℕ → (start end : ℕ) → Option Found
between f start end = cond (leb start end && leb end (length f)) (found_at start (end - start)) None

-- the configuration of a definition, of which so many follow
unfoldable pub configuration_from : List ℕ → (left system : ℕ) → Option DefinitionAt → Option Found
configuration_from f left system None = None
configuration_from f left system (Some d) = between f d.offset (next_at f d.next left system)

unfoldable pub configuration_at : List ℕ → (left system at : ℕ) → Option Found
configuration_at f left system p = configuration_from f left system (definition_at f p)

unfoldable pub held_configuration : List ℕ → (sections system i : ℕ) → Option Found
held_configuration f sections system i =
    cond (ltb i sections) (from (definition_place f i) (configuration_at f (sections - i - 1) system)) None

-- the name and the value of a tag that was looked for
abbrev pub name_of : Option TagFound → Option Found
name_of None = None
name_of (Some t) = found_at t.name t.name_length

abbrev pub value_of : Option TagFound → Option Found
value_of None = None
value_of (Some t) = found_at t.value t.value_length

abbrev pub held_item : List ℕ → Held → Item → Option Found
held_item f h (item.Section i j) = held_section f h.frames h.index h.sections i j
held_item f h (item.SectionName i) = held_name f h.sections i
held_item f h (item.Configuration i) = held_configuration f h.sections h.system i
held_item f h (item.SystemName i) = name_of (tag_found f h.system i)
held_item f h (item.SystemValue i) = value_of (tag_found f h.system i)
held_item f h (item.UserName i) = name_of (tag_found f h.user i)
held_item f h (item.UserValue i) = value_of (tag_found f h.user i)

unfoldable pub held_found : List ℕ → Held → Item → Result Found Refusal
held_found f h it = or_no_such (held_item f h it)
