-- The new table by the places of its tags' changes and of its changes' tags, and what is left in the lent output.
use Rattle.std.specs.Prelude.{ℕ, ◌+◌, ◌≤◌, ◌≡◌, cond, length, ltb, Result, Ok, Err}
use mathlib.Core.List.{List, ◌++◌, flat_map}
use Rattle.std.proofs.lemmas.List.Edits.{sets}
use Rattle.layout.specs.Recording.{Tag, most_tags, tag_bytes, table_bytes}
use Rattle.layout.specs.Recorder.{filled, no_room}
use Rattle.places.specs.Places.{named_in}
use Rattle.apply.specs.declared.Walk.{Walk}
use Rattle.pieces.specs.Added.{added_by}
use Rattle.pieces.specs.declared.Side.TheVariants as side
use Rattle.refusal.specs.declared.Refusal.{Refusal}
use Rattle.refusal.specs.declared.Refusal.TheVariants.{NoRoom, TableFull}
use Rattle.apply.specs.declared.Size.{Size}

-- an answer, and the output as it is at the end
pub record Applying : Type 0 where
  pub answer : Result ℕ Refusal
  pub out : List ℕ

abbrev pub applying : Result ℕ Refusal → List ℕ → Applying
applying r out = record { answer = r; out = out }

-- the new table, 17 and 9 before it
unfoldable pub applied_to : List Tag → (out : List ℕ) → Applying
applied_to ts out =
    cond (ltb most_tags (length ts)) (applying (Err TableFull) out)
    (cond (no_room (length out) (length (table_bytes ts))) (applying (Err NoRoom) out)
    (applying (Ok (length (table_bytes ts))) (filled out (table_bytes ts))))

-- what n tags from a place on leave, by the places of their changes
unfoldable pub kept_from : (table : List ℕ) → (at n : ℕ) → (sheet : List ℕ) → (changes : ℕ) → List Tag
kept_from table at n sheet k = added_by side.Kept table sheet at (named_in table at n sheet k)

-- what is kept of the tags of a walk, and what is new behind it
unfoldable pub tags_by : (table : List ℕ) → (at : ℕ) → Walk → (sheet places : List ℕ) → List Tag
tags_by table at walk sheet places = kept_from table at walk.tags sheet walk.changes ++ added_by side.New sheet sheet 1 places

-- ── As the code finds it ──

-- how many tags, and how many bytes they take
unfoldable pub size_of : List Tag → Size
size_of ts = record { tags = length ts; bytes = length (flat_map tag_bytes ts) }

-- so much, and a size
unfoldable pub plus : (tags bytes : ℕ) → Size → Size
plus tags bytes s = record { tags = tags + s.tags; bytes = bytes + s.bytes }

-- some bytes are stored from a place on, and an answer is where they end
pub record Written (r : ℕ) (before after : List ℕ) (start : ℕ) (bytes : List ℕ) : Type 0 where
  pub end : r ≡ start + length bytes
  pub stored : after ≡ sets before start bytes

-- the new table, of what is kept and what is new, has room
pub record Room (kept new : List Tag) (out : List ℕ) : Type 0 where
  pub room : 4 + length (flat_map tag_bytes kept) + length (flat_map tag_bytes new) ≤ length out
