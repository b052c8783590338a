-- A length and the two parts of what stands behind it.
use Rattle.std.specs.Prelude.{ℕ, ◌+◌, List, length, take, drop, leb, cond, Option, Some, None}
use denote.Ref.{Bor}
use Rattle.number.specs.Number.{read_at}

-- the bytes of two parts that are there
abbrev pub shown : Option (Bor (List ℕ) × Bor (List ℕ)) → Option (List ℕ × List ℕ)
shown (Some parts) = Some (parts.0.now, parts.1.now)
shown None = None

-- as many bytes as a length of so many bytes says, and the rest
unfoldable pub counted_of : List ℕ → (width : ℕ) → Option (List ℕ × List ℕ)
counted_of s width =
    cond (leb (width + read_at s 0 width) (length s))
    (Some (take (read_at s 0 width) (drop width s), drop (read_at s 0 width) (drop width s))) None
