-- A part of bytes that are lent has the length that it is asked for: what the programs' proofs cite.
-- Assumes nothing.
use Rattle.std.proofs.Common.{◌≡◌, ℕ, ◌≤◌, List, length, take, sym, arith, length-take-le, rules}

pub part-long : (n : ℕ) (l : List ℕ) → n ≤ length l → n ≡ length (take n l)
part-long n l h = sym (length-take-le n l h)

-- a turn of a sweep
pub turn-long : (n : ℕ) (l : List ℕ) → n ≤ 1024 → 1024 ≡ length l → n ≡ length (take n l)
turn-long n l h e = part-long n l (omega arith)

pub ruleset laws = (rules, part-long, turn-long)
