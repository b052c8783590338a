-- The piece of the new table that a row adds, by where its bytes stand.
use Rattle.std.specs.Prelude.{ℕ, ◌+◌, ◌-◌, ◌<◌, cond, List, drop, eqb, ltb, Option, Some, None}
use Rattle.rows.specs.Rows.{row_name, row_of}
use Rattle.rows.specs.declared.Row.TheVariants as row
use Rattle.rows.specs.declared.RowPlace.{RowPlace}
use Rattle.sheet.specs.Values.{new_value}
use Rattle.sheet.specs.declared.Value.{Value}
use Rattle.pieces.specs.declared.Side.{Side}
use Rattle.pieces.specs.declared.Side.TheVariants as side
use Rattle.pieces.specs.declared.Piece.{Piece}

-- the new value of the change at a place
unfoldable pub changed_row : (sheet : List ℕ) → (at : ℕ) → Option RowPlace → Option Value
changed_row sheet at (Some r) = new_value sheet (at + 1 + r.name)
changed_row sheet at None = None

unfoldable pub changed_value : (sheet : List ℕ) → (at : ℕ) → Option Value
changed_value sheet at = changed_row sheet at (row_of at (row_name row.Change (drop at sheet)))

abbrev pub piece : (first value second end : ℕ) → Piece
piece f v n e = record { first = f; value = v; second = n; end = e }

-- a name with a value of the sheet; or nothing
unfoldable pub with_value : (len : ℕ) → Option Value → (end : ℕ) → Piece
with_value len (Some v) end = piece (1 + len) v.place (1 + v.length) end
with_value len None end = piece 0 0 0 end

-- a tag that the sheet does not name
unfoldable pub whole_row : (place : ℕ) → Option RowPlace → Option Piece
whole_row place (Some r) = Some (piece (r.end - place) 0 0 r.end)
whole_row place None = None

unfoldable pub whole_at : (table : List ℕ) → (place : ℕ) → Option Piece
whole_at table place = whole_row place (row_of place (row_name row.Tag (drop place table)))

-- a tag that it names, by the place of its change
unfoldable pub changed_tag : (sheet : List ℕ) → (change : ℕ) → Option RowPlace → Option Piece
changed_tag sheet change (Some r) = Some (with_value r.name (changed_value sheet change) r.end)
changed_tag sheet change None = None

unfoldable pub changed_at : (table : List ℕ) → (place : ℕ) → (sheet : List ℕ) → (change : ℕ) → Option Piece
changed_at table place sheet change = changed_tag sheet change (row_of place (row_name row.Tag (drop place table)))

-- a tag of the table, by the place of its change in the sheet, or 0
unfoldable pub kept_row : (place : ℕ) → (sheet : List ℕ) → (change : ℕ) → Option RowPlace → Option Piece
kept_row place sheet change (Some r) =
    Some (cond (eqb change 0) (piece (r.end - place) 0 0 r.end) (with_value r.name (changed_value sheet change) r.end))
kept_row place sheet change None = None

unfoldable pub kept_at : (table : List ℕ) → (place : ℕ) → (sheet : List ℕ) → (change : ℕ) → Option Piece
kept_at table place sheet change = kept_row place sheet change (row_of place (row_name row.Tag (drop place table)))

-- a change of the sheet, by the place of its tag in the table, or 0
unfoldable pub new_row : (place : ℕ) → (sheet : List ℕ) → (tag : ℕ) → Option RowPlace → Option Piece
new_row place sheet tag (Some r) =
    Some (cond (ltb 0 tag) (piece 0 0 0 r.end) (with_value r.name (new_value sheet (place + 1 + r.name)) r.end))
new_row place sheet tag None = None

unfoldable pub new_at : (place : ℕ) → (sheet : List ℕ) → (tag : ℕ) → Option Piece
new_at place sheet tag = new_row place sheet tag (row_of place (row_name row.Change (drop place sheet)))

-- a row that is not just kept
unfoldable pub named_at : Side → (table : List ℕ) → (place : ℕ) → (sheet : List ℕ) → (other : ℕ) → Option Piece
named_at side.Kept table place sheet other = changed_at table place sheet other
named_at side.New table place sheet other = new_at place sheet other

unfoldable pub piece_at : Side → (table : List ℕ) → (place : ℕ) → (sheet : List ℕ) → (other : ℕ) → Option Piece
piece_at side.Kept table place sheet other = kept_at table place sheet other
piece_at side.New table place sheet other = new_at place sheet other

-- no short string is longer than a byte can say
unfoldable pub value_length : Option Value → ℕ
value_length (Some v) = v.length
value_length None = 0

pub record Short (len : ℕ) (v : Option Value) : Type 0 where
  pub name : len < 256
  pub value : value_length v < 256
