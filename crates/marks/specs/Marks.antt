-- Marks of names: equal names have equal marks, so a name that is not marked is none of those that were.
use Rattle.std.specs.Prelude.{ℕ, zero, suc, ◌+◌, ◌-◌, ◌*◌, ◌/◌, ◌%◌, ◌^◌, Bool, true, ◌&&◌, cond, List, [], ◌∷◌, length, take, drop, get_or, set, leb, ltb, eqb}
use Rattle.std.specs.Int.Bits.{bit_or}
use Rattle.number.specs.Number.{has, number_of}

-- one more word or byte, below 2^32, mixed in: a round spreads it over the higher bits, two over all of them
unfoldable pub mix : ℕ → ℕ → ℕ
mix m w = (m * 11400715 + w) % 2 ^ 40

-- so many words of four bytes mixed in
unfoldable pub mix_words : ℕ → ℕ → List ℕ → ℕ
mix_words zero m s = m
mix_words (suc k) m s = mix_words k (mix m (number_of (take 4 s))) (drop 4 s)

unfoldable pub mix_bytes : ℕ → List ℕ → ℕ
mix_bytes m [] = m
mix_bytes m (b ∷ bs) = mix_bytes (mix m b) bs

-- the mark of a name: its words and, over them, its last four bytes; of a shorter name its bytes; its length; and a last round
unfoldable pub mark_for : List ℕ → ℕ
mark_for s = mix (mix (cond (ltb (length s) 4) (mix_bytes 0 s) (mix (mix_words (length s / 4) 0 s) (number_of (drop (length s - 4) s))))
    (length s % 256)) 0

-- the mark of n bytes at a place; 0 where they are not all there
unfoldable pub mark_of : List ℕ → (at n : ℕ) → ℕ
mark_of s at n = cond (has s at n) (mark_for (take n (drop at s))) 0

-- a mark stands in three bits of one of 512 words
abbrev pub place : ℕ → ℕ
place m = m / 2 ^ 31

abbrev pub first : ℕ → ℕ
first m = m / 2 ^ 25 % 64

abbrev pub second : ℕ → ℕ
second m = m / 2 ^ 19 % 64

abbrev pub third : ℕ → ℕ
third m = m / 2 ^ 13 % 64

-- bit k of a word
unfoldable pub has_bit : (word k : ℕ) → Bool
has_bit w k = eqb (w / 2 ^ k % 2) 1

-- whether there are words for a mark
unfoldable pub takes : List ℕ → ℕ → Bool
takes ms m = leb 512 (length ms) && ltb m (2 ^ 40)

-- a word with the bits of a mark
unfoldable pub with_bits : (word m : ℕ) → ℕ
with_bits w m = bit_or (bit_or (bit_or w (2 ^ first m)) (2 ^ second m)) (2 ^ third m)

-- the marks with one more; as they were where there are no words for it
unfoldable pub with_mark : List ℕ → ℕ → List ℕ
with_mark ms m = cond (takes ms m) (set ms (place m) (with_bits (get_or ms (place m) 0) m)) ms

unfoldable pub has_bits : (word m : ℕ) → Bool
has_bits w m = has_bit w (first m) && (has_bit w (second m) && has_bit w (third m))

-- false only for a mark that was never set
unfoldable pub is_marked : List ℕ → ℕ → Bool
is_marked ms m = cond (takes ms m) (has_bits (get_or ms (place m) 0) m) true
