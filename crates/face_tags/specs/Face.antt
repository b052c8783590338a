-- The flat answers of look, commit, the converter and tags, by cases on the answers of the calls behind them.
use Rattle.std.specs.Prelude.{ℕ, cond, List, eqb, Option, Some, None, Result, Ok, Err}
use Rattle.refusal.specs.Refusal.{number_of, place_of}
use Rattle.refusal.specs.declared.Refusal.{Refusal}
use Rattle.tables.specs.declared.TagFound.{TagFound}
use Rattle.apply.specs.Applied.{Applying}
use Rattle.saving.specs.declared.Looked.{Looked}
use Rattle.cursor.specs.declared.Cursor.{Cursor}
use Rattle.cursor.specs.Cursors.{cursor_at}
use Rattle.cursor.specs.Cursors.{next_as}
use Rattle.face_tags.specs.declared.FstfLooked.{FstfLooked}
use Rattle.face_tags.specs.declared.FstfCommitted.{FstfCommitted}
use Rattle.face_tags.specs.declared.FstfConverted.{FstfConverted}
use Rattle.face_tags.specs.declared.FstfTag.{FstfTag}
use Rattle.face_tags.specs.declared.FstfCursor.{FstfCursor}

-- ── To look and to commit ──

-- refused: its number and its place
abbrev pub looked_not : Refusal → FstfLooked
looked_not r = record { refused = number_of r; place = place_of r; changes = 0; conflicts = 0 }

abbrev pub looked_flat : Result Looked Refusal → FstfLooked
looked_flat (Ok l) = record { refused = 0; place = 0; changes = l.changes; conflicts = l.conflicts }
looked_flat (Err r) = looked_not r

abbrev pub committed_flat : Result ℕ Refusal → FstfCommitted
committed_flat (Ok n) = record { refused = 0; place = 0; length = n }
committed_flat (Err r) = record { refused = number_of r; place = place_of r; length = 0 }

-- an answer, and what the call leaves in the lent output
pub record Kept (A : Type 0) : Type 0 where
  pub answer : A
  pub out : List ℕ

abbrev pub kept : {A : Type 0} → A → List ℕ → Kept A
kept r out = record { answer = r; out = out }

unfoldable pub outcome_flat : Applying → Kept FstfCommitted
outcome_flat o = kept (committed_flat o.answer) o.out

-- ── To convert ──

abbrev pub converted_flat : Result ℕ Refusal → FstfConverted
converted_flat (Ok n) = record { refused = 0; place = 0; length = n }
converted_flat (Err r) = record { refused = number_of r; place = place_of r; length = 0 }

unfoldable pub conversion_flat : Applying → Kept FstfConverted
conversion_flat o = kept (converted_flat o.answer) o.out

-- ── Tags ──

-- no tag: refused with its number and its place, or by 0 the end
abbrev pub tag_not : (number place : ℕ) → FstfTag
tag_not n place = record { refused = n; place = place; found = 0; name = 0; name_length = 0; value = 0; value_length = 0 }

abbrev pub tag_flat : Result (Option TagFound) Refusal → FstfTag
tag_flat (Ok (Some t)) =
    record { refused = 0; place = 0; found = 1; name = t.name; name_length = t.name_length; value = t.value; value_length = t.value_length }
tag_flat (Ok None) = tag_not 0 0
tag_flat (Err r) = tag_not (number_of r) (place_of r)

-- ── One tag after another ──

-- at no tag: refused with its number and its place, or by 0 the end
abbrev pub cursor_not : (number place : ℕ) → FstfCursor
cursor_not n place = record { refused = n; place = place; found = 0; name = 0; name_length = 0; value = 0; value_length = 0; left = 0 }

abbrev pub cursor_flat : Result (Option Cursor) Refusal → FstfCursor
cursor_flat (Ok (Some c)) =
    record {
      refused = 0;
      place = 0;
      found = 1;
      name = c.tag.name;
      name_length = c.tag.name_length;
      value = c.tag.value;
      value_length = c.tag.value_length;
      left = c.left;
    }
cursor_flat (Ok None) = cursor_not 0 0
cursor_flat (Err r) = cursor_not (number_of r) (place_of r)

-- the numbers of a cursor at a tag, or any others
unfoldable pub cursor_asked : FstfCursor → Cursor
cursor_asked c = cursor_at c.name c.name_length c.value c.value_length c.left

-- what is refused stays so, and so does the end; else the next tag by the numbers given
unfoldable pub cursor_next : List ℕ → FstfCursor → FstfCursor
cursor_next s c =
    cond (eqb c.refused 0) (cond (eqb c.found 0) (cursor_not 0 0) (cursor_flat (next_as s (Ok (Some (cursor_asked c)))))) (cursor_not c.refused c.place)
