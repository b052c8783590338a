-- The tags of a table and the changes of a sheet, as rows that their length bytes and kind bytes lead over; that they are legal is for others to say.
use Rattle.std.specs.Prelude.{ℕ, zero, suc, ◌+◌, cond, List, [], ◌∷◌, length, drop, get_or, eqb}
use Rattle.layout.specs.Recording.{Tag}
use Rattle.layout.specs.Reading.{Parsed, bad, good, Reader, onward, string, value_or}
use Rattle.layout.specs.Saving.{Entry, absent, holds, Change}
use Rattle.rows.specs.Rows.{entry, row_name}
use Rattle.rows.specs.declared.Row.{Row}
use Rattle.rows.specs.declared.Row.TheVariants as row

-- n rows, up to the first that is broken
unfoldable pub rows : {A : Type 0} → ℕ → Reader A → List ℕ → List A
rows zero p s = []
rows (suc n) p s = elim (p s) [ bad j ↦ [] | good x m ↦ x ∷ rows n p (drop m s) ]

-- a row, of which its name and the bytes behind it make a value
unfoldable pub row_with : {A : Type 0} → Row → (make : List ℕ → List ℕ → A) → Reader A
row_with k make t = onward (row_name k t) (λ name m. good (make name (drop (1 + length name) t)) m)

-- a short string as an entry; nothing where it is not all there
unfoldable pub text_entry : Parsed (List ℕ) → Entry
text_entry (bad m) = absent
text_entry (good v n) = holds v

unfoldable pub text_in : List ℕ → Entry
text_in t = text_entry (string t)

-- an entry by its kind byte
unfoldable pub entry_in : List ℕ → Entry
entry_in t = cond (eqb (get_or t 0 0) 1) (text_in (drop 1 t)) absent

-- the entry behind an entry
unfoldable pub entry_behind : List ℕ → Parsed (List ℕ) → Entry
entry_behind t (bad m) = absent
entry_behind t (good v n) = entry_in (drop n t)

unfoldable pub new_in : List ℕ → Entry
new_in t = entry_behind t (entry t)

unfoldable pub tag_with_name : List ℕ → List ℕ → Tag
tag_with_name name t = record { name = name; value = value_or [] (string t) }

unfoldable pub change_with_name : List ℕ → List ℕ → Change
change_with_name name t = record { name = name; seen = entry_in t; new = new_in t }

-- the n tags that stand from a place on
abbrev pub tags_at : List ℕ → (at n : ℕ) → List Tag
tags_at s at n = rows n (row_with row.Tag tag_with_name) (drop at s)

-- the n changes that stand from a place on
abbrev pub changes_at : List ℕ → (at n : ℕ) → List Change
changes_at s at n = rows n (row_with row.Change change_with_name) (drop at s)

-- ── What a row says ──

-- what is made of a row that was read, or `else` where none was
unfoldable pub made : {A B : Type 0} → (A → B) → (else : B) → Parsed A → B
made f else (bad m) = else
made f else (good x n) = f x

-- what a tag that was read holds, and what a change that was read makes new
abbrev pub tag_holds : Parsed Tag → Entry
tag_holds = made (λ t. holds t.value) absent

abbrev pub change_makes : Parsed Change → Entry
change_makes = made (λ c. c.new) absent

-- what the tag at a place holds; nothing for place 0, where none stands
unfoldable pub tag_entry : (table : List ℕ) → (tag : ℕ) → Entry
tag_entry table tag = cond (eqb tag 0) absent (tag_holds (row_with row.Tag tag_with_name (drop tag table)))

-- ── Rows with a place beside each ──

-- a row, and the place of the row of its name elsewhere; 0, where none stands, for none
pub record Beside (A : Type 0) : Type 0 where
  pub place : ℕ
  pub row : A

abbrev pub pair : {A : Type 0} → ℕ → A → Beside A
pair p x = record { place = p; row = x }

unfoldable pub beside : {A : Type 0} → List ℕ → List A → List (Beside A)
beside [] xs = []
beside (p ∷ ps) [] = []
beside (p ∷ ps) (x ∷ xs) = pair p x ∷ beside ps xs
