-- What is kept of a table, as the list of the tags that changes name leads through it: from one of them to the next.
use Rattle.std.specs.Prelude.{ℕ, ◌+◌, ◌*◌, ◌-◌, ◌≤◌, ◌≡◌, length, drop, get_or}
use mathlib.Core.List.{List, ◌++◌, flat_map}
use Rattle.layout.specs.Recording.{Tag, tag_bytes}
use Rattle.places.specs.Places.{change_found, listing, listed_by}
use Rattle.apply.specs.declared.Walk.{Walk}
use Rattle.pieces.specs.Added.{piece_bytes}
use Rattle.apply.specs.Applied.{kept_from}
use Rattle.apply.specs.declared.Part.{Part}

-- from word i on the list says what a walk finds from a tag on, which has a place and a number; all tags of the walk are whole
pub record Leads (table : List ℕ) (place passed : ℕ) (walk : Walk) (sheet list : List ℕ) (i : ℕ) : Type 0 where
  pub there : place ≤ length table
  pub few : walk.tags ≤ 1000
  pub within : passed ≤ walk.tags
  pub listed : listing (drop i list) walk.tags walk.end ≡ listed_by (change_found sheet walk.changes) (walk.tags - passed) table place passed

-- the tags from a number on, up to the one that is listed at word i, with that one, leave a part, which is all there
pub record Keeps (table : List ℕ) (place passed : ℕ) (walk : Walk) (sheet list : List ℕ) (i : ℕ) (part : Part) : Type 0 where
  pub made : List Tag
  pub adds : kept_from table place (walk.tags - passed) sheet walk.changes ≡ made
      ++ kept_from table part.piece.end (walk.tags - (get_or list i 0 + 1)) sheet walk.changes
  pub bytes : piece_bytes table place sheet part.piece.first part.piece.value part.piece.second ≡ flat_map tag_bytes made
  pub count : part.tags ≡ length made
  pub first_there : place + part.piece.first ≤ length table
  pub second_there : part.piece.value + part.piece.second ≤ length sheet
  pub fewer : part.tags + passed ≤ get_or list i 0 + 1
  pub short : part.piece.first + part.piece.second + 512 * passed ≤ 512 * (get_or list i 0 + 1)
  pub onward : Leads table part.piece.end (get_or list i 0 + 1) walk sheet list (i + 3)
