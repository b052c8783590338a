-- The converted sheet by the place of each change's tag, of bytes that may be no sheet at all.
use Rattle.std.specs.Prelude.{ℕ, ◌+◌, ◌-◌, ◌≡◌, false, cond, List, [], ◌∷◌, ◌++◌, length, take, drop, get_or, eqb, Some, None}
use Rattle.layout.specs.Saving.{entry_part_bytes}
use Rattle.layout.specs.OldSheets.{old_changes_of, bad_old_sheet}
use Rattle.rows.specs.Rows.{row_name, row_of}
use Rattle.rows.specs.declared.Row.TheVariants as row
use Rattle.sheet.specs.Rows.{tag_entry}

-- the change at a place, whose name has `len` bytes and which ends at `end`: where its seen kind is 2, an entry with what the tag holds stands for that byte
unfoldable pub row_filled : (table sheet : List ℕ) → (place len end tag : ℕ) → List ℕ
row_filled table sheet place len end tag =
    cond (eqb (get_or sheet (place + 1 + len) 0) 2)
    (take (1 + len) (drop place sheet)
    ++ (entry_part_bytes (tag_entry table tag)
    ++ take (end - (place + 1 + len + 1)) (drop (place + 1 + len + 1) sheet)))
    (take (end - place) (drop place sheet))

-- the changes from a place on, up to the first that is broken; for each the place of its tag, or 0
unfoldable pub filled_from : (table sheet : List ℕ) → (place : ℕ) → (tags : List ℕ) → List ℕ
filled_from table sheet place [] = []
filled_from table sheet place (tag ∷ tags) =
    elim (row_of place (row_name row.Change (drop place sheet))) [
      | Some r ↦ row_filled table sheet place r.name r.end tag ++ filled_from table sheet r.end tags
      | None ↦ []
    ]

-- the number of changes, and the changes
unfoldable pub sheet_filled : (table sheet tags : List ℕ) → List ℕ
sheet_filled table sheet tags = take 1 sheet ++ filled_from table sheet 1 tags

-- bytes that were a sheet of so many changes
pub record Old (sheet : List ℕ) (changes : ℕ) : Type 0 where
  pub whole : bad_old_sheet sheet ≡ false
  pub count : length (old_changes_of sheet) ≡ changes
