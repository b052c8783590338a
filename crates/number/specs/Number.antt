-- Numbers as a file holds them, over any width, and times as 64-bit patterns. The code reads up to eight bytes, and writes any width.
use Rattle.std.specs.Prelude.{ℕ, zero, suc, ◌+◌, ◌*◌, ◌/◌, ◌%◌, ◌^◌, Bool, ◌&&◌, cond, List, [], ◌∷◌, length, take, drop, leb}
use Rattle.std.proofs.lemmas.List.Edits.{sets}

-- "All numbers are little-endian": the w bytes of n, the low byte first
unfoldable pub bytes_of : ℕ → ℕ → List ℕ
bytes_of zero n = []
bytes_of (suc w) n = n % 256 ∷ bytes_of w (n / 256)

-- the number that some bytes stand for
unfoldable pub number_of : List ℕ → ℕ
number_of [] = 0
number_of (b ∷ bs) = b + 256 * number_of bs

-- A time is carried as the 64-bit pattern of its Int64. Its rank counts from the least Int64, -2^63, so that the order and the difference of two
-- times are those of their ranks, and neither can overflow.
abbrev pub rank : ℕ → ℕ
rank time = (time + 2 ^ 63) % 2 ^ 64

-- ── What the code's readers and writers do ──

-- whether w bytes stand at a place of s
abbrev pub has : List ℕ → (at w : ℕ) → Bool
has s at w = leb (at + w) (length s)

-- the number of w bytes at a place, w at most 8; 0 where they are not all there
unfoldable pub read_at : List ℕ → (at w : ℕ) → ℕ
read_at s at w = cond (leb w 8 && has s at w) (number_of (take w (drop at s))) 0

-- the w bytes of n stored at a place; nothing where there is no room for them
unfoldable pub write_at : List ℕ → (at w n : ℕ) → List ℕ
write_at s at w n = cond (has s at w) (sets s at (bytes_of w n)) s
