-- The tag browser for a whole table: a cursor looks at the table once and then goes on from the tag that it stands at.
use Rattle.std.specs.Prelude.{ℕ, zero, suc, ◌+◌, List, length, drop}
use Rattle.layout.specs.Reading.{exactly, tag, table, bad, good}
use Rattle.layout.specs.Items.{Part}

-- where name and value of the tag stand that it stands at, and how many tags are left behind it; or the end; or the refusal
pub data Cursor : Type 0 where
  at : (name value : Part) → (left : ℕ) → Cursor
  end : Cursor
  refused : (number place : ℕ) → Cursor

-- the cursor at a place with so many tags from there on; where there is no tag, the end
unfoldable pub stands_at : (bytes : List ℕ) → (place count : ℕ) → Cursor
stands_at bytes place zero = end
stands_at bytes place (suc left) =
    elim (tag (drop place bytes)) [ bad m ↦ end | good t n ↦ at (record { start = place + 1; len = length t.name }) (record { start = place + 1 + length t.name + 1; len = length t.value }) left ]

-- "Over bytes that are not exactly a legal table it is refused 7"; else it stands at the first tag, behind the table's number
unfoldable pub first_tag : (bytes : List ℕ) → Cursor
first_tag bytes = elim (exactly table bytes) [ bad m ↦ refused 7 m | good ts n ↦ stands_at bytes 4 (length ts) ]

-- "one tag after another, then the end": the next tag stands behind the value of this one; at the end, and where it is refused, it stays
unfoldable pub next_tag : (bytes : List ℕ) → Cursor → Cursor
next_tag bytes (at name value left) = stands_at bytes (value.start + value.len) left
next_tag bytes end = end
next_tag bytes (refused n p) = refused n p
