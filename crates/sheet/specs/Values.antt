-- The value that an entry names, by its place in the bytes.
use Rattle.std.specs.Prelude.{ℕ, ◌+◌, ◌-◌, ◌≡◌, cond, List, take, drop, get_or, eqb, Option, Some, None}
use Rattle.layout.specs.Reading.{good, string}
use Rattle.layout.specs.Saving.{Entry, absent, holds}
use Rattle.strings.specs.Strings.{text_of}
use Rattle.parts.specs.Parts.{end_of}
use Rattle.rows.specs.Rows.{entry, row_name, row_of}
use Rattle.rows.specs.declared.Row.TheVariants as row
use Rattle.rows.specs.declared.RowPlace.{RowPlace}
use Rattle.sheet.specs.declared.Value.{Value}

abbrev pub value_at : (place length : ℕ) → Option Value
value_at p n = Some (record { place = p; length = n })

-- a short string at a place; nothing where it is not all there
unfoldable pub text_value : (at : ℕ) → Option ℕ → Option Value
text_value at (Some n) = value_at at n
text_value at None = None

-- the value of the entry at a place: "1 a value, which follows"
unfoldable pub entry_value : List ℕ → (at : ℕ) → Option Value
entry_value s at = cond (eqb (get_or s at 0) 1) (text_value (at + 1) (text_of (string (drop (at + 1) s)))) None

-- the value of the entry behind another
unfoldable pub value_behind : List ℕ → Option ℕ → Option Value
value_behind s (Some at) = entry_value s at
value_behind s None = None

unfoldable pub new_value : List ℕ → (seen : ℕ) → Option Value
new_value s seen = value_behind s (end_of seen (entry (drop seen s)))

-- the value of the tag whose row stands at a place
unfoldable pub value_of_row : (place : ℕ) → Option RowPlace → Option Value
value_of_row place (Some r) = value_at (place + 1 + r.name) (r.end - (place + 1 + r.name + 1))
value_of_row place None = None

unfoldable pub row_value : List ℕ → (place : ℕ) → Option Value
row_value s place = value_of_row place (row_of place (row_name row.Tag (drop place s)))

unfoldable pub held_value : List ℕ → (tag : ℕ) → Option Value
held_value s tag = cond (eqb tag 0) None (row_value s tag)

-- ── What it says ──

unfoldable pub value_in : List ℕ → Option Value → Entry
value_in s (Some v) = holds (take v.length (drop (v.place + 1) s))
value_in s None = absent

unfoldable pub Stands : List ℕ → Option Value → Type 0
Stands s (Some v) = string (drop v.place s) ≡ good (take v.length (drop (v.place + 1) s)) (1 + v.length)
Stands s None = ◌≡◌ {A = ℕ} 0 0

-- an answer names the short string that an entry holds
pub record Finds (s : List ℕ) (r : Option Value) (e : Entry) : Type 0 where
  pub found : value_in s r ≡ e
  pub there : Stands s r
