-- Definitions, the system table and lines 1 to 4, as this crate's functions answer them.
use Rattle.std.specs.Prelude.{ℕ, ◌+◌, Bool, false, not, cond, ◌||◌, List, [], length, drop, ltb, eqb, Option, Some, None, Result, Ok, Err}
use Rattle.layout.specs.Recording.{header_length, system_place, longest_configuration}
use Rattle.layout.specs.Opening.{system_offset, defined_in, steps, last_offset, bad_sections, read_system, walk_start, first_of, front_lines, opening_place}
use Rattle.layout.specs.Reading.{Parsed, bad, good, value_or, ◌then◌, table, times, number_of_sections, Definition, definition}
use Rattle.parts.specs.Parts.{broken_at}
use Rattle.parts.specs.declared.Fault.{Fault}
use Rattle.tables.specs.Tables.{table_place_of}
use Rattle.tables.specs.declared.TablePlace.{TablePlace}
use Rattle.refusal.specs.Refusal.{unless}
use Rattle.refusal.specs.declared.Refusal.{Refusal}
use Rattle.front.specs.declared.DefinitionAt.{DefinitionAt}
use Rattle.front.specs.declared.Offsets.{Offsets}
use Rattle.front.specs.declared.Sections.{Sections}
use Rattle.front.specs.declared.FrontHeld.{FrontHeld}

-- ── Definitions ──

-- a definition that was read from `at` on: where it ends, and the offset of its configuration
unfoldable pub whole_definition : (at : ℕ) → Parsed Definition → Option DefinitionAt
whole_definition at (bad m) = None
whole_definition at (good d n) = Some (record { next = at + n; offset = d.offset })

unfoldable pub definition_at : List ℕ → (at : ℕ) → Option DefinitionAt
definition_at f at = whole_definition at (definition (drop at f))

-- definitions that were read from `at` on, behind one whose configuration is at `offset`: where they end, and the last offset
unfoldable pub legal_offsets : (at offset : ℕ) → Parsed (List Definition) → Option Offsets
legal_offsets at offset (bad m) = None
legal_offsets at offset (good ds n) = cond (steps offset ds) (Some (record { end = at + n; last = last_offset offset ds })) None

unfoldable pub offsets_at : List ℕ → (at definitions offset : ℕ) → Option Offsets
offsets_at f at definitions offset = legal_offsets at offset (times definitions definition (drop at f))

-- the number of sections that was read
unfoldable pub number_read : Parsed ℕ → Option ℕ
number_read (bad m) = None
number_read (good n m) = Some n

unfoldable pub section_count : List ℕ → Option ℕ
section_count f = number_read (number_of_sections (drop header_length f))

-- 3: nothing, or how many sections there are, and the offset of the last configuration
unfoldable pub sections_of : List ℕ → Option Sections
sections_of f = cond (bad_sections f) None (Some (record { count = length (defined_in f); last = last_offset 0 (defined_in f) }))

-- all definitions can be read, and end elsewhere than at an offset
unfoldable pub first_elsewhere : List ℕ → (offset : ℕ) → Bool
first_elsewhere f offset =
    elim ((number_of_sections then λ k. times k definition) (drop header_length f)) [ bad m ↦ false | good ds n ↦ not (eqb offset (header_length + n)) ]

-- ── The front ──

-- 4, of a system table at `system` behind a last configuration at `last`
unfoldable pub system_table : List ℕ → (system last : ℕ) → Result TablePlace Fault
system_table f system last = cond (ltb system last || ltb (last + longest_configuration) system) (Err (broken_at system_place))
    (table_place_of system (table (drop system f)))

-- what a file whose lines 1 to 4 pass shows ahead of its frames
unfoldable pub front_held : List ℕ → FrontHeld
front_held f =
    record {
      sections = length (defined_in f);
      system = system_offset f;
      system_tags = length (value_or [] (read_system f));
      start = walk_start f;
    }

-- the first of the lines 1 to 4 that holds, with its place
unfoldable pub front_of : List ℕ → Result FrontHeld Refusal
front_of f = unless (first_of (front_lines f)) (opening_place (first_of (front_lines f)) f) (front_held f)

-- what a front is refused with
abbrev pub front_refusal : Result FrontHeld Refusal → Option Refusal
front_refusal (Ok h) = None
front_refusal (Err n) = Some n
