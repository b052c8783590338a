-- The tag browser, "Over bytes that are not exactly a legal table it is refused 7"; and, as a form needs it, a tag by its name.
use Rattle.std.specs.Prelude.{ℕ, suc, ◌+◌, cond, List, [], ◌∷◌, length, get_or, ltb}
use Rattle.layout.specs.Recording.{Tag, same}
use Rattle.layout.specs.Reading.{exactly, table, bad, good}
use Rattle.layout.specs.Items.{Part, no_tag, name_start, value_start}

-- where name and value of a tag stand in the table; or the end; or the refusal
pub data Browsed : Type 0 where
  tag : (name value : Part) → Browsed
  end : Browsed
  refused : (number place : ℕ) → Browsed

unfoldable pub tag_at : List Tag → ℕ → Browsed
tag_at ts i =
    tag (record { start = name_start 0 ts i; len = length (get_or ts i no_tag).name })
    (record { start = value_start 0 ts i; len = length (get_or ts i no_tag).value })

-- "it holds the next tag's number, and from the count on it gives the end"
unfoldable pub browse : (bytes : List ℕ) → (next : ℕ) → Browsed
browse bytes i =
    elim (exactly table bytes) [ bad m ↦ refused 7 m | good ts n ↦ cond (ltb i (length ts)) (tag_at ts i) end ]

-- the cursor after it: one further where there was a tag, and else as it was
unfoldable pub cursor_after : Browsed → ℕ → ℕ
cursor_after (tag name value) i = i + 1
cursor_after end i = i
cursor_after (refused n p) i = i

-- the number of the tag of that name, or the count where there is none
unfoldable pub number_of_tag : List ℕ → List Tag → ℕ
number_of_tag name [] = 0
number_of_tag name (t ∷ ts) = cond (same name t.name) 0 (suc (number_of_tag name ts))

-- the tag of a name, or the end where there is none
unfoldable pub tag_named : (bytes name : List ℕ) → Browsed
tag_named bytes name =
    elim (exactly table bytes) [ bad m ↦ refused 7 m | good ts n ↦ cond (ltb (number_of_tag name ts) (length ts)) (tag_at ts (number_of_tag name ts)) end ]
