-- Where a part ends, equal parts and copying.
use Rattle.std.specs.Prelude.{ℕ, ◌+◌, Bool, ◌&&◌, cond, List, take, drop, Option, Some, None}
use Rattle.std.proofs.lemmas.List.Edits.{sets}
use Rattle.number.specs.Number.{has}
use Rattle.layout.specs.Recording.{same}
use Rattle.layout.specs.Reading.{Parsed, bad, good}
use Rattle.parts.specs.declared.Fault.{Fault}

-- the n bytes at two places are there, and the same
unfoldable pub same_part : (a : List ℕ) → (here : ℕ) → (b : List ℕ) → (there n : ℕ) → Bool
same_part a here b there n = has a here n && has b there n && same (take n (drop here a)) (take n (drop there b))

-- `to` with n bytes of `from` stored at a place; as it was where either part is not all there
unfoldable pub copied : (from : List ℕ) → (start : ℕ) → (to : List ℕ) → (at n : ℕ) → List ℕ
copied from start to at n = cond (has from start n && has to at n) (sets to at (take n (drop start from))) to

-- where that which was read from `at` on ends
unfoldable pub end_of : {A : Type 0} → (at : ℕ) → Parsed A → Option ℕ
end_of at (bad m) = None
end_of at (good x n) = Some (at + n)

-- that bytes break their rule at a place
abbrev pub broken_at : (place : ℕ) → Fault
broken_at p = record { place = p }
