-- What the work on a table and a sheet begins with.
use Rattle.std.specs.Prelude.{ℕ, ◌+◌, ◌*◌, ◌<◌, ◌≤◌, ◌≡◌, true, List, length, drop, get_or}
use Rattle.layout.specs.Recording.{most_tags}
use Rattle.layout.specs.Reading.{good, times}
use Rattle.layout.specs.Saving.{most_changes}
use Rattle.rows.specs.Rows.{row_name}
use Rattle.rows.specs.declared.Row.TheVariants as row
use Rattle.names.specs.Names.{distinct_names}

-- a table behind the file's start, of at most 1,000 tags that go to its end, and a sheet of at most 64 changes; in each the names differ
pub record Legal (table : List ℕ) (at n : ℕ) (sheet : List ℕ) (changes : ℕ) : Type 0 where
  pub tags : n ≤ most_tags
  pub few : changes ≤ most_changes
  pub behind : 0 < at
  pub names : List (List ℕ)
  pub size : ℕ
  pub read : times n (row_name row.Tag) (drop at table) ≡ good names size
  pub end : at + size ≡ length table
  pub apart : distinct_names table at n row.Tag ≡ true
  pub differ : distinct_names sheet 1 changes row.Change ≡ true

-- with room for a list of the tags that changes name, three words each, and places of which none is known
pub record Begun (table : List ℕ) (at n : ℕ) (sheet list places : List ℕ) : Type 0 where
  pub legal : Legal table at n sheet (length places)
  pub room : 3 * length places ≤ length list
  pub blank : (c : ℕ) → c < length places → get_or places c 0 ≡ 0
