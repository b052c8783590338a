-- The check over bytes: FNV-1a.
use Rattle.std.specs.Prelude.{ℕ, ◌*◌, ◌%◌, ◌^◌, List, [], ◌∷◌, bit_xor, Option, Some, None}
use Rattle.number.specs.Number.{bytes_of}
use Rattle.refusal.specs.Refusal.{number_of, place_of}
use Rattle.refusal.specs.declared.Refusal.{Refusal}

-- a check with one byte behind it
abbrev pub with_byte : (sum byte : ℕ) → ℕ
with_byte h b = bit_xor h b * 1099511628211 % 2 ^ 64

-- a check with bytes behind it
unfoldable pub with_bytes : (sum : ℕ) → List ℕ → ℕ
with_bytes h [] = h
with_bytes h (b ∷ bs) = with_bytes (with_byte h b) bs

-- a check with an answer behind it: the number of a refusal, 0 for none, in one byte, and the place that it carries in eight
abbrev pub with_answer : (sum number place : ℕ) → ℕ
with_answer h number place = with_bytes (with_byte h number) (bytes_of 8 place)

-- the number of a refusal, 0 for none, and its place
abbrev pub number_told : Option Refusal → ℕ
number_told (Some r) = number_of r
number_told None = 0

abbrev pub place_told : Option Refusal → ℕ
place_told (Some r) = place_of r
place_told None = 0
