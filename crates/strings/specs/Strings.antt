-- Short strings that were read, and the classes of their bytes.
use Rattle.std.specs.Prelude.{ℕ, ◌+◌, Bool, ◌&&◌, List, length, Option, Some, None, Result, Ok, Err}
use Rattle.layout.specs.Recording.{within, every, is_name_byte, is_tag_byte}
use Rattle.layout.specs.Reading.{Parsed, bad, good, Reader, only, placed, string, string_fault, section_name, tag_name, tag_value}
use Rattle.parts.specs.Parts.{broken_at}
use Rattle.parts.specs.declared.Fault.{Fault}
use Rattle.strings.specs.declared.Rule.{Rule}
use Rattle.strings.specs.declared.Rule.TheVariants as rule
use Rattle.strings.specs.declared.Class.{Class}
use Rattle.strings.specs.declared.Class.TheVariants as class

-- a short string that was read, by its number of bytes
unfoldable pub text_of : Parsed (List ℕ) → Option ℕ
text_of (bad m) = None
text_of (good v n) = Some (length v)

unfoldable pub in_class : Class → ℕ → Bool
in_class class.Name = is_name_byte
in_class class.Tag = is_tag_byte

-- the rule of names and values, over the least number of bytes and their class
unfoldable pub legal_text : (least : ℕ) → Class → List ℕ → Bool
legal_text least c v = within least 255 (length v) && every (in_class c) v

-- a short string by that rule; where it fails, with "the first byte that breaks its rule"
unfoldable pub text_by : (least : ℕ) → Class → Reader (List ℕ)
text_by least c = placed (string_fault least (in_class c)) (only (legal_text least c) string)

-- a short string that was read from `at` on, by its number of bytes; or the place where it broke
unfoldable pub short_of : (at : ℕ) → Parsed (List ℕ) → Result ℕ Fault
short_of at (bad m) = Err (broken_at (at + m))
short_of at (good v n) = Ok (length v)

unfoldable pub read_by : Rule → Reader (List ℕ)
read_by rule.SectionName = section_name
read_by rule.TagName = tag_name
read_by rule.TagValue = tag_value
