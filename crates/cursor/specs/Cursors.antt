-- What a cursor is, by the layout's cursor.
use Rattle.std.specs.Prelude.{ℕ, List, Option, Some, None, Result, Ok, Err}
use Rattle.layout.specs.Cursor.{next_tag}
use Rattle.layout.specs.Cursor as layout
use Rattle.refusal.specs.Refusal.{placed}
use Rattle.refusal.specs.declared.Refusal.{Refusal}
use Rattle.cursor.specs.declared.Cursor.{Cursor}

-- a tag by the places and lengths of its name and its value, with so many left behind it
abbrev pub cursor_at : (name name_length value value_length left : ℕ) → Cursor
cursor_at name name_length value value_length left =
    record { tag = record { name = name; name_length = name_length; value = value; value_length = value_length }; left = left }

-- the layout's cursor in the code's own words
unfoldable pub cursor_as : layout.Cursor → Result (Option Cursor) Refusal
cursor_as (layout.at name value left) = Ok (Some (cursor_at name.start name.len value.start value.len left))
cursor_as layout.end = Ok None
cursor_as (layout.refused n p) = Err (placed n p)

-- the next of any cursor, one that is refused with its number and its place
unfoldable pub next_as : List ℕ → Result (Option Cursor) Refusal → Result (Option Cursor) Refusal
next_as s (Ok (Some c)) =
    cursor_as (next_tag s (layout.at (record { start = c.tag.name; len = c.tag.name_length }) (record { start = c.tag.value; len = c.tag.value_length }) c.left))
next_as s (Ok None) = Ok None
next_as s (Err r) = Err r
