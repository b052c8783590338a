-- The first fault of rows of a kind, as this crate's functions find it.
use Rattle.std.specs.Prelude.{ℕ, ◌+◌, cond, List, drop, eqb, Option, Some, None, Result, Ok, Err}
use Rattle.layout.specs.Recording.{most_sections, most_tags, within}
use Rattle.layout.specs.Reading.{Parsed, bad, good, Reader, ◌then◌, only, give, number, tag_value, keeping, counted_fault}
use Rattle.layout.specs.Opening.{offset_behind}
use Rattle.layout.specs.Recorder.{configured}
use Rattle.layout.specs.Saving.{most_changes, kind, entry_part}
use Rattle.strings.specs.Strings.{read_by}
use Rattle.strings.specs.declared.Rule.{Rule}
use Rattle.strings.specs.declared.Rule.TheVariants as rule
use Rattle.rows.specs.Rows.{entry_up_to}
use Rattle.rows.specs.declared.Row.{Row}
use Rattle.rows.specs.declared.Row.TheVariants as row
use Rattle.order.specs.Order.{seek}
use Rattle.parts.specs.Parts.{broken_at}
use Rattle.parts.specs.declared.Fault.{Fault}
use Rattle.faults.specs.declared.Rest.{Rest}
use Rattle.faults.specs.declared.Passed.{Passed}
use Rattle.faults.specs.declared.Count.{Count}

-- ── A row of a kind ──

unfoldable pub rule_of : Row → Rule
rule_of row.Definition = rule.SectionName
rule_of row.SetUp = rule.SectionName
rule_of row.Tag = rule.TagName
rule_of row.Change = rule.TagName

-- its name,
unfoldable pub name_by : Row → Reader (List ℕ)
name_by k = read_by (rule_of k)

-- and what follows it; of a change, `before` is the greatest kind of what was seen
unfoldable pub rest_by : Row → (before : ℕ) → Reader ℕ
rest_by row.Definition = offset_behind
rest_by row.SetUp = keeping configured
rest_by row.Tag = keeping tag_value
rest_by row.Change = λ most. keeping (entry_up_to most then λ s. entry_part) most

-- an entry of a change, whatever becomes of it: a kind up to `most` and, for kind 1, a value
unfoldable pub entry_by : (most before : ℕ) → Reader ℕ
entry_by most before = kind most then λ k. cond (eqb k 1) (keeping tag_value before) (give before)

-- ── As the functions answer it ──

-- what ends at a place, with a number for the row behind it
abbrev pub rest_whole : (end number : ℕ) → Result Rest Fault
rest_whole end n = Ok (record { end = end; number = n })

-- what was read from `at` on
unfoldable pub rest_of : (at : ℕ) → Parsed ℕ → Result Rest Fault
rest_of at (bad m) = Err (broken_at (at + m))
rest_of at (good n m) = rest_whole (at + m) n

unfoldable pub passed_by : (seat : ℕ) → Result Rest Fault → Result Passed Fault
passed_by i (Ok rest) = Ok (record { seat = i; end = rest.end; number = rest.number })
passed_by i (Err f) = Err f

-- a row with a seat; its name is used twice where there is none
unfoldable pub seated_by : Option ℕ → (place : ℕ) → Result Rest Fault → Result Passed Fault
seated_by (Some i) place r = passed_by i r
seated_by None place r = Err (broken_at place)

-- the row at a place, behind those at the first `passed` of these places
unfoldable pub row_passed : List ℕ → (places : List ℕ) → (passed place : ℕ) → Row → (before : ℕ) → Result Passed Fault
row_passed s places passed place k before =
    elim (name_by k (drop place s)) [
      | bad m ↦ Err (broken_at (place + m))
      | good name m ↦ seated_by (seek s places passed place) place (rest_of (place + m) (rest_by k before (drop (place + m) s)))
    ]

-- ── Rows behind their number ──

unfoldable pub count_of : Row → Count
count_of row.Definition = record { width = 1; least = 1; most = most_sections }
count_of row.SetUp = record { width = 1; least = 1; most = most_sections }
count_of row.Tag = record { width = 4; least = 0; most = most_tags }
count_of row.Change = record { width = 1; least = 0; most = most_changes }

unfoldable pub count_by : Row → Reader ℕ
count_by k = only (within (count_of k).least (count_of k).most) (number (count_of k).width)

unfoldable pub first_fault : Row → (before : ℕ) → List ℕ → ℕ
first_fault k before = counted_fault (count_by k) (name_by k) (rest_by k) before
