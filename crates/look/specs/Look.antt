-- The look by the place of each change's tag.
use Rattle.std.specs.Prelude.{ℕ, ◌+◌, ◌%◌, ◌^◌, Bool, cond, not, List, [], ◌∷◌, length}
use Rattle.layout.specs.Saving.{Entry, Change, same_entry, bits}
use Rattle.sheet.specs.Rows.{tag_entry, changes_at, Beside, beside}

-- what a change saw is not what the table has
unfoldable pub differs : Entry → Change → Bool
differs e c = not (same_entry c.seen e)

-- of each change, whether it disagrees with its tag
unfoldable pub compared_by : (table : List ℕ) → List (Beside Change) → List Bool
compared_by table [] = []
compared_by table (c ∷ cs) = differs (tag_entry table c.place) c.row ∷ compared_by table cs

-- the set of the changes that disagree, the lowest 64 bits of it; `places` has for each change where its tag stands, or 0
unfoldable pub compare_of : (table sheet places : List ℕ) → ℕ
compare_of table sheet places = bits (compared_by table (beside places (changes_at sheet 1 (length places)))) % 2 ^ 64

-- the set with the bit of a change, where that conflicts
unfoldable pub with_bit : (set bit : ℕ) → (conflicts : Bool) → ℕ
with_bit set bit b = cond b ((set + bit) % 2 ^ 64) set
