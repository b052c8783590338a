-- What the converter answers, and what it leaves in the lent output.
use Rattle.std.specs.Prelude.{ℕ, cond, List, map, length, Ok, Err}
use Rattle.layout.specs.Recorder.{filled, no_room}
use Rattle.layout.specs.Saving.{sheet_bytes}
use Rattle.layout.specs.OldSheets.{old_changes_of, filled_in, Convert, convert}
use Rattle.sheet.specs.Rows.{tags_at}
use Rattle.apply.specs.Applied.{Applying, applying}
use Rattle.refusal.specs.Refusal.{unless}
use Rattle.refusal.specs.declared.Refusal.TheVariants.{NoRoom}

-- a sheet, 9 before it
unfoldable pub written_to : (sheet out : List ℕ) → Applying
written_to bytes out = cond (no_room (length out) (length bytes)) (applying (Err NoRoom) out) (applying (Ok (length bytes)) (filled out bytes))

-- the sheet filled in, of the n tags that stand in these bytes
unfoldable pub converted_in : (table : List ℕ) → (at n : ℕ) → (sheet out : List ℕ) → Applying
converted_in table at n sheet out = written_to (sheet_bytes (map (filled_in (tags_at table at n)) (old_changes_of sheet))) out

-- the length of the sheet, which is in the output
unfoldable pub converted_as : Convert → (out : List ℕ) → Applying
converted_as c out = applying (unless c.refused c.place (length c.sheet)) (filled out c.sheet)

unfoldable pub convert_of : (file sheet out : List ℕ) → Applying
convert_of file sheet out = converted_as (convert file sheet (length out)) out
