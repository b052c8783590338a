-- What the rows of the table and of the sheet add to the new table: tags.
use Rattle.std.specs.Prelude.{ℕ, ◌+◌, ◌≤◌, ◌≡◌, cond, length, take, drop, eqb, ltb}
use mathlib.Core.List.{List, [], ◌++◌, flat_map}
use Rattle.layout.specs.Recording.{Tag, tag_bytes}
use Rattle.layout.specs.Saving.{Entry, holds, Change, tag_with}
use Rattle.rows.specs.declared.Row.TheVariants as row
use Rattle.sheet.specs.Rows.{row_with, tag_with_name, change_with_name, tags_at, changes_at, made, change_makes, Beside, pair, beside}
use Rattle.pieces.specs.declared.Side.{Side}
use Rattle.pieces.specs.declared.Side.TheVariants as side

-- what the change at a place makes of a tag
unfoldable pub changed_entry : (sheet : List ℕ) → Beside Tag → Entry
changed_entry sheet t = cond (eqb t.place 0) (holds t.row.value) (change_makes (row_with row.Change change_with_name (drop t.place sheet)))

-- "Kept tags keep their order and a changed tag its place; removed tags vanish"
unfoldable pub kept_by : (sheet : List ℕ) → Beside Tag → List Tag
kept_by sheet t = tag_with t.row.name (changed_entry sheet t)

-- "new ones come last in sheet order"
unfoldable pub new_by : Beside Change → List Tag
new_by c = cond (ltb 0 c.place) [] (tag_with c.row.name c.row.new)

-- the tags of as many rows from a place on as there are places of others
unfoldable pub added_by : Side → (table sheet : List ℕ) → (at : ℕ) → (others : List ℕ) → List Tag
added_by side.Kept table sheet at others = flat_map (kept_by sheet) (beside others (tags_at table at (length others)))
added_by side.New table sheet at others = flat_map new_by (beside others (changes_at sheet at (length others)))

-- ── Row by row ──

-- the bytes whose rows are walked
unfoldable pub walked_in : Side → (table sheet : List ℕ) → List ℕ
walked_in side.Kept table sheet = table
walked_in side.New table sheet = sheet

-- the tags of the row at a place
unfoldable pub row_adds : Side → (table sheet : List ℕ) → (at other : ℕ) → List Tag
row_adds side.Kept table sheet at other = made (λ t. kept_by sheet (pair other t)) [] (row_with row.Tag tag_with_name (drop at table))
row_adds side.New table sheet at other = made (λ c. new_by (pair other c)) [] (row_with row.Change change_with_name (drop at sheet))

-- a piece is a tag, or it is empty
unfoldable pub tags_in : (bytes : ℕ) → ℕ
tags_in n = cond (ltb 0 n) 1 0

unfoldable pub piece_bytes : (from : List ℕ) → (place : ℕ) → (sheet : List ℕ) → (first value second : ℕ) → List ℕ
piece_bytes from place sheet first value second = take first (drop place from) ++ take second (drop value sheet)

-- a piece is these tags, and all there
pub record Makes (from : List ℕ) (place : ℕ) (sheet : List ℕ) (first value second : ℕ) (ts : List Tag) : Type 0 where
  pub bytes : piece_bytes from place sheet first value second ≡ flat_map tag_bytes ts
  pub count : tags_in (first + second) ≡ length ts
  pub first_there : place + first ≤ length from
  pub second_there : value + second ≤ length sheet
  pub short : first + second ≤ 512
