-- The time since the first frame, by ranks.
use Rattle.std.specs.Prelude.{ℕ, ◌-◌}
use Rattle.number.specs.Number.{rank}

-- the time since the first frame
unfoldable pub since_first : (first time : ℕ) → ℕ
since_first first time = rank time - rank first
