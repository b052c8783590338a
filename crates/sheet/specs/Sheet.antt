-- A change sheet by its number of changes.
use Rattle.std.specs.Prelude.{ℕ, List, length, Option, Some, None, Result, Ok, Err}
use Rattle.layout.specs.Reading.{Parsed, bad, good, Reader}
use Rattle.layout.specs.Saving.{Change, change_with, sheet_with}
use Rattle.parts.specs.Parts.{broken_at}
use Rattle.parts.specs.declared.Fault.{Fault}
use Rattle.rows.specs.Rows.{entry_up_to}
use Rattle.sheet.specs.declared.SheetEnd.{SheetEnd}

-- a change in which the kind of what was seen goes up to `most`
abbrev pub change_up_to : (most : ℕ) → Reader Change
change_up_to most = change_with (entry_up_to most)

-- a sheet in which the kinds of what was seen go up to `most`: for 1 it is the layout's
unfoldable pub sheet_up_to : (most : ℕ) → Reader (List Change)
sheet_up_to most = sheet_with (entry_up_to most)

abbrev pub sheet_whole : (changes end : ℕ) → Option SheetEnd
sheet_whole n e = Some (record { changes = n; end = e })

-- a sheet that was read, by its number of changes and its end
unfoldable pub sheet_end_of : {A : Type 0} → Parsed (List A) → Option SheetEnd
sheet_end_of (bad m) = None
sheet_end_of (good cs n) = sheet_whole (length cs) n

-- a sheet and nothing behind it; or where the first fault is
unfoldable pub sheet_of : {A : Type 0} → Parsed (List A) → Result ℕ Fault
sheet_of (bad m) = Err (broken_at m)
sheet_of (good cs n) = Ok (length cs)
