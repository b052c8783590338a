-- Card blocks: the alignments there are, the zeros up to the next block, and where a frame may start behind them.
use Rattle.std.specs.Prelude.{ℕ, zero, suc, ◌+◌, ◌-◌, ◌%◌, Bool, ◌&&◌, ◌||◌, cond, List, [], ◌∷◌, length, take, drop, replicate, eqb, Option, Some, None}
use Rattle.number.specs.Number.{has}
use Rattle.layout.specs.Recording.{same}

-- `FRAME-ALIGN`, `512`, `4096`
unfoldable pub align_name : List ℕ
align_name = 70 ∷ 82 ∷ 65 ∷ 77 ∷ 69 ∷ 45 ∷ 65 ∷ 76 ∷ 73 ∷ 71 ∷ 78 ∷ []

-- the block that a value says, if it says one
unfoldable pub block_of : (value : List ℕ) → Option ℕ
block_of v = cond (same v (53 ∷ 49 ∷ 50 ∷ [])) (Some 512) (cond (same v (52 ∷ 48 ∷ 57 ∷ 54 ∷ [])) (Some 4096) None)

unfoldable pub legal_align : ℕ → Bool
legal_align a = eqb a 1 || eqb a 512 || eqb a 4096

-- from a place to the next multiple
unfoldable pub gap : (align at : ℕ) → ℕ
gap a at = (a - at % a) % a

-- the gap of an alignment that there is; 0 of any other
unfoldable pub gap_by : (align at : ℕ) → ℕ
gap_by a at = cond (eqb a 512) (gap 512 at) (cond (eqb a 4096) (gap 4096 at) 0)

-- n zeros stand at a place
unfoldable pub zeros_at : List ℕ → (at n : ℕ) → Bool
zeros_at s at n = has s at n && same (replicate n 0) (take n (drop at s))

-- where the frame behind a place may start, with n bytes up to the next multiple: at the end, where no frame stands, if one of them is not zero
unfoldable pub start_behind : List ℕ → (at n : ℕ) → ℕ
start_behind s at zero = at
start_behind s at (suc n) = cond (zeros_at s at (suc n)) (at + suc n) (length s)

unfoldable pub start_at : List ℕ → (at align : ℕ) → ℕ
start_at s at a = start_behind s at (gap_by a at)

-- n bytes stand at a place, and are the name FRAME-ALIGN
unfoldable pub is_align_name : List ℕ → (at n : ℕ) → Bool
is_align_name s at n = has s at n && same (take n (drop at s)) align_name

-- the block that a value of n bytes at a place says; none where it says another, or is not all there
unfoldable pub block_at : List ℕ → (at n : ℕ) → Option ℕ
block_at s at n = cond (has s at n) (block_of (take n (drop at s))) None
