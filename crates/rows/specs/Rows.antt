-- Rows that begin with a name, read by their length bytes alone: where they end.
use Rattle.std.specs.Prelude.{ℕ, ◌+◌, cond, List, [], length, eqb, Option, Some, None}
use Rattle.layout.specs.Reading.{Parsed, bad, good, Reader, ◌then◌, give, number, block, string}
use Rattle.layout.specs.Saving.{Entry, kind, entry_of}
use Rattle.rows.specs.declared.Row.{Row}
use Rattle.rows.specs.declared.Row.TheVariants.{Definition, SetUp, Tag, Change}
use Rattle.rows.specs.declared.RowPlace.{RowPlace}

-- an entry of a change: its kind and, for kind 1, a value
unfoldable pub entry : Reader (List ℕ)
entry = number 1 then λ kind. cond (eqb kind 1) string (give [])

-- the same, read as the layout says; its kind goes up to `most`
unfoldable pub entry_up_to : (most : ℕ) → Reader Entry
entry_up_to most = kind most then entry_of

-- what follows the name in a row of each kind
unfoldable pub rest : Row → Reader (List ℕ)
rest Definition = block 8
rest SetUp = number 2 then block
rest Tag = string
rest Change = entry then λ seen. entry

-- a row, of which the name is kept
unfoldable pub row_name : Row → Reader (List ℕ)
row_name k = string then λ name. rest k then λ r. give name

-- a row whose name has so many bytes, and which ends there
abbrev pub row_whole : (name end : ℕ) → Option RowPlace
row_whole n e = Some (record { name = n; end = e })

unfoldable pub row_of : (at : ℕ) → Parsed (List ℕ) → Option RowPlace
row_of at (bad m) = None
row_of at (good name n) = row_whole (length name) (at + n)
