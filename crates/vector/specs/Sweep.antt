-- A sweep: its turns, and its tally, counts modulo 2^64 and the check over the answers.
use Rattle.std.specs.Prelude.{ℕ, ◌+◌, ◌-◌, ◌*◌, ◌/◌, ◌%◌, ◌^◌, cond, ◌||◌, List, length, replicate, ◌==◌, nat_le, nat_lt, slice_index, slice_set}
use Rattle.parts.specs.Parts.{copied}
use Rattle.vector.specs.Check.{with_answer}
use Rattle.vector.specs.declared.sweep.Tally.{Tally}

-- 32 turns at each place, of no more than 1,024
unfoldable pub turns_of : (bytes : ℕ) → ℕ
turns_of n = cond (nat_lt 1024 n) 0 (32 * n)

-- the first of a place is cut there, the others have all bytes
unfoldable pub turn_length : (bytes turn : ℕ) → ℕ
turn_length n turn = cond (nat_lt 1024 n) 0 (cond (turn % 32 == 0) (cond (nat_lt n (turn / 32)) n (turn / 32)) n)

-- what is swept, at the start of 1,024 bytes; and with the turn's value at its place, if there is one
unfoldable pub swept : List ℕ → List ℕ
swept base = copied base 0 (replicate 1024 0) 0 (length base)

unfoldable pub turn_bytes : (base values : List ℕ) → (turn : ℕ) → List ℕ
turn_bytes base values turn =
    cond (turn % 32 == 0 || nat_lt (length values) (turn % 32) || nat_le 1024 (turn / 32)) (swept base)
    (slice_set (swept base) (turn / 32) (slice_index values (turn % 32 - 1)))

-- one more where there is a refusal
abbrev pub counted : (refused number : ℕ) → ℕ
counted n number = cond (number == 0) n ((n + 1) % 2 ^ 64)

-- one input more, with its answer
abbrev pub tallied : Tally → (number place : ℕ) → Tally
tallied t number place =
    record {
      inputs = (t.inputs + 1) % 2 ^ 64;
      refused = counted t.refused number;
      sum = with_answer t.sum number place;
    }
