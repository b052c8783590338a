-- Little-endian numbers, over the width: what is written is read back, and what was read is written again.
-- Assumes nothing.
use Prim.Native.Nat.{ℕ, zero, suc, ◌+◌, ◌*◌, ◌/◌, ◌%◌, ◌^◌, ◌<◌, ◌≤◌}
use native.Mathlib.Omega.{arith}
use native.Mathlib.Nat.{pow-suc}
use mathlib.Core.Path.{◌≡◌, refl, ap}
use mathlib.Core.Bool.{Bool, true, false, ◌&&◌}
use mathlib.Core.List.{List, [], ◌∷◌}
use lib.ListN.{length, take, drop, get_or, length-drop}
use lib.Seq.{length-take-le}
use lib.Dec.{ltb}
use lib.Pow.{are_bytes}
use borrow.Author.Tests.{ltb-true, lt-ltb}
use mir.Syntax.{w8}
use mir.Val.{Fits}
use Rattle.number.specs.Number.{bytes_of, number_of}

-- a test of two parts, taken apart and put together
pub both_true : (a b : Bool) → a && b ≡ true → (a ≡ true) × (b ≡ true)
both_true true b e = (refl, e)
both_true false b e = (e, cc)

pub and-true : (a b : Bool) → a ≡ true → b ≡ true → a && b ≡ true
and-true true b p q = q
and-true false b p q = p

pub length-bytes_of : (w n : ℕ) → length (bytes_of w n) ≡ w
unfolding bytes_of
length-bytes_of zero n = refl
length-bytes_of (suc w) n = ap suc (length-bytes_of w (n / 256))

pub bytes_of-bytes : (w n : ℕ) → are_bytes (bytes_of w n) ≡ true
unfolding bytes_of
bytes_of-bytes zero n = refl
bytes_of-bytes (suc w) n = and-true _ _ (lt-ltb (n % 256) 256 (omega arith)) (bytes_of-bytes w (n / 256))

-- a number that w bytes hold comes back
pub number_of-bytes_of : (w n : ℕ) → n < 256 ^ w → number_of (bytes_of w n) ≡ n
unfolding bytes_of number_of
number_of-bytes_of zero n h = omega arith
number_of-bytes_of (suc w) n h =
    let e : number_of (bytes_of w (n / 256)) ≡ n / 256 = number_of-bytes_of w (n / 256) (omega arith) in
    omega arith

pub number_of-less : (s : List ℕ) → are_bytes s ≡ true → number_of s < 256 ^ length s
unfolding number_of
number_of-less [] h = omega arith
number_of-less (b ∷ bs) h =
    let i : number_of bs < 256 ^ length bs = number_of-less bs (both_true (ltb b 256) (are_bytes bs) h).1 in
    let l : b < 256 = ltb-true b 256 (both_true (ltb b 256) (are_bytes bs) h).0 in
    omega (arith, pow-suc 256 (length bs))

-- bytes that were read as a number are the bytes of that number
pub bytes_of-number_of : (s : List ℕ) → are_bytes s ≡ true → bytes_of (length s) (number_of s) ≡ s
unfolding bytes_of number_of
bytes_of-number_of [] h = refl
bytes_of-number_of (b ∷ bs) h =
    let l : b < 256 = ltb-true b 256 (both_true (ltb b 256) (are_bytes bs) h).0 in
    let lo : (b + 256 * number_of bs) % 256 ≡ b = omega arith in
    let hi : (b + 256 * number_of bs) / 256 ≡ number_of bs = omega arith in
    let i : bytes_of (length bs) (number_of bs) ≡ bs = bytes_of-number_of bs (both_true (ltb b 256) (are_bytes bs) h).1 in
    cc

-- the elements of a slice of bytes are bytes
pub slice-bytes : (s : List ℕ) → ((i : ℕ) → Fits w8 (get_or s i 0)) → are_bytes s ≡ true
slice-bytes [] h = refl
slice-bytes (b ∷ bs) h = and-true _ _ (lt-ltb b 256 (h zero).fits) (slice-bytes bs (λ i. h (suc i)))

-- a part that is all there is as long as it should be
pub part-long : (s : List ℕ) (at n : ℕ) → at + n ≤ length s → length (take n (drop at s)) ≡ n
part-long s at n h = length-take-le n (drop at s) (simp length-drop (omega arith))
