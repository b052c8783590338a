-- What the functions of this crate leave to be shown, and what a mark says.
-- Assumes nothing.
use Prim.Native.Nat.{ℕ, zero, suc, ◌+◌, ◌*◌, ◌-◌, ◌/◌, ◌%◌, ◌^◌, ◌<◌, ◌≤◌}
use native.Mathlib.Nat.{sub-zero, mod-lt, one-mul, div_self}
use native.Mathlib.Omega.{arith}
use mathlib.Core.Path.{◌≡◌, refl, ap, sym, subst, ◌∙◌}
use mathlib.Core.Bool.{Bool, true, false, ◌&&◌, cond}
use mathlib.Core.List.{List, [], ◌∷◌}
use lib.ListN.{length, take, drop, get_or, set, length-set, drop_of_length-le}
use lib.Seq.{drop-cons, drop-drop, take-take, get_or-set_same}
use lib.Dec.{leb, ltb, eqb}
use lib.Bits.{bit_or, or_comm, or_shr, or_mod}
use lib.Pow.{pow_pos, shl_exact}
use borrow.Author.Rules.{rules}
use borrow.Author.Tests.{leb-true, ltb-true, eqb-true, le-leb, lt-leb, lt-ltb, le-ltb, not-true, not-false}
use mir.Syntax.{w64}
use mir.Val.{Fits}
use Rattle.number.specs.Number.{number_of}
use Rattle.number.proofs.Bytes.{both_true, and-true, part-long}
use Rattle.marks.specs.Marks.{mix, mix_words, mix_bytes, mark_for, mark_of, place, first, second, third, has_bit, takes, with_bits, with_mark, has_bits, is_marked}

-- ── Mixing ──

pub mixed : (m w : ℕ) → (m * 11400715 + w) % 1099511627776 ≡ mix m w
unfolding mix
mixed m w = refl

pub below : (m : ℕ) → m % 1099511627776 < 1099511627776
below m = omega arith

pub times-fits : (m : ℕ) → m < 1099511627776 → Fits w64 (m * 11400715)
times-fits m h = record { fits = omega arith }

pub sum_fits : (m w : ℕ) → m < 1099511627776 → w < 4294967296 → Fits w64 (m * 11400715 + w)
sum_fits m w h l = record { fits = omega arith }

-- ── Four bytes as a word ──

pub word_small : (a b c d : ℕ) → a < 256 → b < 256 → c < 256 → d < 256 → a + 256 * (b + 256 * (c + 256 * d)) < 4294967296
word_small a b c d h k l m = omega arith

pub word-is : (s : List ℕ) (at a b c d : ℕ) → at + 4 ≤ length s → a ≡ get_or s at 0 → b ≡ get_or s (at + 1) 0 → c ≡ get_or s (at + 2) 0
    → d ≡ get_or s (at + 3) 0 → a + 256 * (b + 256 * (c + 256 * d)) ≡ number_of (take 4 (drop at s))
unfolding number_of
word-is s at a b c d h e f g i =
    let one : drop at s ≡ get_or s at 0 ∷ drop (suc at) s = drop-cons s at 0 (omega arith) in
    let two : drop (suc at) s ≡ get_or s (suc at) 0 ∷ drop (suc (suc at)) s = drop-cons s (suc at) 0 (omega arith) in
    let three : drop (suc (suc at)) s ≡ get_or s (suc (suc at)) 0 ∷ drop (suc (suc (suc at))) s = drop-cons s (suc (suc at)) 0 (omega arith) in
    let four : drop (suc (suc (suc at))) s ≡ get_or s (suc (suc (suc at))) 0 ∷ drop (suc (suc (suc (suc at)))) s =
    drop-cons s (suc (suc (suc at))) 0 (omega arith) in
    let p : at + 1 ≡ suc at = omega arith in
    let q : at + 2 ≡ suc (suc at) = omega arith in
    let r : at + 3 ≡ suc (suc (suc at)) = omega arith in
    go (get_or s at 0) (get_or s (suc at) 0) (get_or s (suc (suc at)) 0) (get_or s (suc (suc (suc at))) 0) (drop (suc (suc (suc (suc at)))) s) e
    (rw p at f) (rw q at g) (rw r at i) (ap (λ (l : List ℕ). number_of (take 4 l))
    (one ∙ ap (λ (l : List ℕ). get_or s at 0 ∷ l) (two ∙ ap (λ (l : List ℕ). get_or s (suc at) 0 ∷ l)
    (three ∙ ap (λ (l : List ℕ). get_or s (suc (suc at)) 0 ∷ l) four))))
  where
    go : (x y z w : ℕ) (t : List ℕ) → a ≡ x → b ≡ y → c ≡ z → d ≡ w → {u : ℕ} → u ≡ number_of (take 4 (x ∷ y ∷ z ∷ w ∷ t))
        → a + 256 * (b + 256 * (c + 256 * d)) ≡ u
    go x y z w t e f g i {u} j = omega arith

-- ── Words and bytes of a name ──

-- one word more behind k words
words-onward : (s : List ℕ) (k m at : ℕ) → mix (mix_words k m (drop at s)) (number_of (take 4 (drop (at + 4 * k) s))) ≡ mix_words (k + 1) m (drop at s)
unfolding mix_words
words-onward s zero m at = let p : at + 4 * 0 ≡ at = omega arith in rw p
words-onward s (suc k) m at =
    let p : suc k + 1 ≡ suc (k + 1) = omega arith in
    let q : at + 4 * suc k ≡ at + 4 + 4 * k = omega arith in
    let r : drop 4 (drop at s) ≡ drop (at + 4) s = drop-drop 4 at s in
    let n = mix m (number_of (take 4 (drop at s))) in
    rw (p, q)
    (subst (λ (t : List ℕ). mix (mix_words k n t) (number_of (take 4 (drop (at + 4 + 4 * k) s))) ≡ mix_words (k + 1) n t) (sym r)
    (words-onward s k n (at + 4)))

pub words-more : (s : List ℕ) (at k m w n : ℕ) → m ≡ mix_words k 0 (drop at s) → w ≡ number_of (take 4 (drop (at + 4 * k) s)) → n ≡ mix m w
    → n ≡ mix_words (k + 1) 0 (drop at s)
words-more s at k m w n e f g = g ∙ rw (e, f) (words-onward s k 0 at)

pub words-none : (s : List ℕ) → 0 ≡ mix_words 0 0 s
unfolding mix_words
words-none s = refl

-- one byte more of some
pub bytes-more : (t : List ℕ) (m k n : ℕ) (all : ℕ) → mix_bytes m (drop k t) ≡ all → k < length t → n ≡ mix m (get_or t k 0)
    → mix_bytes n (drop (k + 1) t) ≡ all
unfolding mix_bytes
bytes-more t m k n all g h f =
    let p : k + 1 ≡ suc k = omega arith in
    rw (p, f) (rw (drop-cons t k 0 h) at g)

pub bytes-done : (t : List ℕ) (m k : ℕ) (all : ℕ) → mix_bytes m (drop k t) ≡ all → length t ≤ k → m ≡ all
unfolding mix_bytes
bytes-done t m k all g h = rw (drop_of_length-le t {i = k} h) at g

pub byte_small : (b : ℕ) → b < 256 → b < 4294967296
byte_small b h = omega arith

-- ── The mark of some bytes ──

pub of-short : (s : List ℕ) (at n : ℕ) → length s < n → 0 ≡ mark_of s at n
unfolding mark_of
of-short s at n h = rw (lt-leb (at + n) (length s) (omega arith))

pub of-far : (s : List ℕ) (at n : ℕ) → n ≤ length s → length s - n < at → 0 ≡ mark_of s at n
unfolding mark_of
of-far s at n l h = rw (lt-leb (at + n) (length s) (omega arith))

-- where the bytes are all there, the mark is theirs: equal bytes have equal marks
pub of-there : (s : List ℕ) (at n : ℕ) → at + n ≤ length s → mark_of s at n ≡ mark_for (take n (drop at s))
unfolding mark_of
of-there s at n h = rw (le-leb (at + n) (length s) h)

drop-part : (k n : ℕ) (t : List ℕ) → k ≤ n → drop k (take n t) ≡ take (n - k) (drop k t)
drop-part zero n t h = rw (sub-zero n)
drop-part (suc k) zero t h = absurd (omega arith)
drop-part (suc k) (suc n) [] h = go (suc n - suc k)
  where
    go : (m : ℕ) → ◌≡◌ {A = List ℕ} [] (take m [])
    go zero = refl
    go (suc m) = refl
drop-part (suc k) (suc n) (x ∷ t) h = let q : suc n - suc k ≡ n - k = omega arith in rw q (drop-part k n t (omega arith))

-- the words of a part are those of the whole
words-part : (k m n : ℕ) (t : List ℕ) → 4 * k ≤ n → mix_words k m (take n t) ≡ mix_words k m t
unfolding mix_words
words-part zero m n t h = refl
words-part (suc k) m n t h =
    rw (take-take 4 n t (omega arith), drop-part 4 n t (omega arith)) (words-part k (mix m (number_of (take 4 t))) (n - 4) (drop 4 t) (omega arith))

pub of-few : (s : List ℕ) (at n m q r : ℕ) → n ≤ length s → at ≤ length s - n → n < 4 → m ≡ mix_bytes 0 (take n (drop at s)) → q ≡ mix m (n % 256)
    → r ≡ mix q 0 → r ≡ mark_of s at n
unfolding mark_for
of-few s at n m q r l h k e f g =
    let w : length (take n (drop at s)) ≡ n = part-long s at n (omega arith) in
    g ∙ sym (of-there s at n (omega arith) ∙ rw (w, lt-ltb n 4 k, ← e, ← f))

pub of-many : (s : List ℕ) (at n words last all long r : ℕ) → n ≤ length s → at ≤ length s - n → 4 ≤ n → words ≡ mix_words (n / 4) 0 (drop at s)
    → last ≡ number_of (take 4 (drop (at + (n - 4)) s)) → all ≡ mix words last → long ≡ mix all (n % 256) → r ≡ mix long 0 → r ≡ mark_of s at n
unfolding mark_for
of-many s at n words last all long r l h k e f g i j =
    let q : length (take n (drop at s)) ≡ n = part-long s at n (omega arith) in
    let o : n - (n - 4) ≡ 4 = omega arith in
    let p : drop (n - 4) (take n (drop at s)) ≡ take 4 (drop (at + (n - 4)) s) =
    drop-part (n - 4) n (drop at s) (omega arith) ∙ rw (o, drop-drop (n - 4) at s) in
    j ∙ sym (of-there s at n (omega arith) ∙ rw (q, le-ltb n 4 k, p, words-part (n / 4) 0 n (drop at s) (omega arith), ← e, ← f, ← g, ← i))

pub last-there : (s : List ℕ) (at n : ℕ) → n ≤ length s → at ≤ length s - n → 4 ≤ n → at + (n - 4) + 4 ≤ length s
last-there s at n l h k = omega arith

pub last_fits_lem : (s : List ℕ) (at n : ℕ) → length s < 2 ^ 64 → n ≤ length s → at ≤ length s - n → 4 ≤ n → Fits w64 (at + (n - 4))
last_fits_lem s at n l h k e = record { fits = omega arith }

pub words-all-there : (s : List ℕ) (at n : ℕ) → n ≤ length s → at ≤ length s - n → at + 4 * (n / 4) ≤ length s
words-all-there s at n l h = omega arith

pub length-small : (n : ℕ) → n % 256 < 4294967296
length-small n = omega arith

-- ── Bits ──

-- one shifted by k loses nothing in a word
pub one_bit : (k : ℕ) → k < 64 → 1 * 2 ^ k % 2 ^ 64 ≡ 2 ^ k
one_bit k h = shl_exact {a = 1} 1 k 64 (omega arith) (omega arith) ∙ one-mul (2 ^ k)

or-odd : (a b : ℕ) → bit_or a b % 2 ≡ bit_or (a % 2) (b % 2)
or-odd a b = or_mod a b 1

-- a bit that a word has stays, whatever is added
bit-stays : (w x k : ℕ) → has_bit w k ≡ true → has_bit (bit_or w x) k ≡ true
unfolding has_bit
bit-stays w x k h =
    let p : w / 2 ^ k % 2 ≡ 1 = eqb-true (w / 2 ^ k % 2) 1 h in
    rw (or_shr w x k, or-odd (w / 2 ^ k) (x / 2 ^ k), p) (go (x / 2 ^ k % 2) (mod-lt (x / 2 ^ k) (omega arith)))
  where
    go : (b : ℕ) → b < 2 → eqb (bit_or 1 b) 1 ≡ true
    go zero l = refl
    go (suc zero) l = refl
    go (suc (suc b)) l = absurd (omega arith)

-- and the bit that is added is there
bit_added : (w k : ℕ) → has_bit (bit_or w (2 ^ k)) k ≡ true
unfolding has_bit
bit_added w k = ap (λ (x : ℕ). has_bit x k) (or_comm w (2 ^ k)) ∙ bit-stays (2 ^ k) w k (own k)
  where
    own : (k : ℕ) → has_bit (2 ^ k) k ≡ true
    own k = rw (div_self (pow_pos k))

bits-added : (w m : ℕ) → has_bits (with_bits w m) m ≡ true
unfolding with_bits has_bits
bits-added w m =
    let one : ℕ = bit_or w (2 ^ first m) in
    let two : ℕ = bit_or one (2 ^ second m) in
    let three : ℕ = bit_or two (2 ^ third m) in
    and-true (has_bit three (first m)) (has_bit three (second m) && has_bit three (third m))
    (bit-stays two (2 ^ third m) (first m) (bit-stays one (2 ^ second m) (first m) (bit_added w (first m))))
    (and-true (has_bit three (second m)) (has_bit three (third m)) (bit-stays two (2 ^ third m) (second m) (bit_added one (second m)))
    (bit_added two (third m)))

bit_kept : (w m k : ℕ) → has_bit w k ≡ true → has_bit (with_bits w m) k ≡ true
unfolding with_bits
bit_kept w m k h =
    bit-stays (bit_or (bit_or w (2 ^ first m)) (2 ^ second m)) (2 ^ third m) k
    (bit-stays (bit_or w (2 ^ first m)) (2 ^ second m) k (bit-stays w (2 ^ first m) k h))

bits-kept : (w m k : ℕ) → has_bits w k ≡ true → has_bits (with_bits w m) k ≡ true
unfolding has_bits
bits-kept w m k h =
    let (p, q) = both_true (has_bit w (first k)) (has_bit w (second k) && has_bit w (third k)) h in
    let (r, s) = both_true (has_bit w (second k)) (has_bit w (third k)) q in
    and-true (has_bit (with_bits w m) (first k)) (has_bit (with_bits w m) (second k) && has_bit (with_bits w m) (third k)) (bit_kept w m (first k) p)
    (and-true (has_bit (with_bits w m) (second k)) (has_bit (with_bits w m) (third k)) (bit_kept w m (second k) r) (bit_kept w m (third k) s))

pub bit_is : (w k : ℕ) → eqb (w / 2 ^ k % 2) 1 ≡ has_bit w k
unfolding has_bit
bit_is w k = refl

pub bits_are : (w m a b c : ℕ) → a ≡ 2 ^ (m / 33554432 % 64) → b ≡ 2 ^ (m / 524288 % 64) → c ≡ 2 ^ (m / 8192 % 64)
    → bit_or (bit_or (bit_or w a) b) c ≡ with_bits w m
unfolding with_bits
bits_are w m a b c e f g = rw (e, f, g)

pub no-first : (w m : ℕ) (a : Bool) → a ≡ has_bit w (m / 33554432 % 64) → a ≡ false → false ≡ has_bits w m
unfolding has_bits
no-first w m a e f = rw (sym e ∙ f)

pub no_second : (w m : ℕ) (a b : Bool) → a ≡ has_bit w (m / 33554432 % 64) → a ≡ true → b ≡ has_bit w (m / 524288 % 64) → b ≡ false
    → false ≡ has_bits w m
unfolding has_bits
no_second w m a b e f g h = rw (sym e ∙ f, sym g ∙ h)

pub by-third : (w m : ℕ) (a b r : Bool) → a ≡ has_bit w (m / 33554432 % 64) → a ≡ true → b ≡ has_bit w (m / 524288 % 64) → b ≡ true
    → r ≡ has_bit w (m / 8192 % 64) → r ≡ has_bits w m
unfolding has_bits
by-third w m a b r e f g h i = i ∙ rw (sym e ∙ f, sym g ∙ h)

-- ── Marks that are set ──

takes-yes : (ms : List ℕ) (m : ℕ) → 512 ≤ length ms → m < 1099511627776 → takes ms m ≡ true
unfolding takes
takes-yes ms m h l = rw (le-leb 512 (length ms) h, lt-ltb m 1099511627776 l)

takes-short : (ms : List ℕ) (m : ℕ) → length ms < 512 → takes ms m ≡ false
unfolding takes
takes-short ms m h = rw (lt-leb 512 (length ms) h)

takes-far : (ms : List ℕ) (m : ℕ) → 1099511627776 ≤ m → takes ms m ≡ false
unfolding takes
takes-far ms m h = rw (le-ltb m 1099511627776 h) (go (leb 512 (length ms)))
  where
    go : (b : Bool) → (b && false) ≡ false
    go true = refl
    go false = refl

takes-both : (ms : List ℕ) (m : ℕ) → takes ms m ≡ true → (512 ≤ length ms) × (m < 1099511627776)
unfolding takes
takes-both ms m e =
    let (p, q) = both_true (leb 512 (length ms)) (ltb m 1099511627776) e in
    (leb-true 512 (length ms) p, ltb-true m 1099511627776 q)

pub set-short : (ms : List ℕ) (m : ℕ) → length ms < 512 → ms ≡ with_mark ms m
unfolding with_mark
set-short ms m h = rw (takes-short ms m h)

pub set-far : (ms : List ℕ) (m : ℕ) → 1099511627776 ≤ m → ms ≡ with_mark ms m
unfolding with_mark
set-far ms m h = rw (takes-far ms m h)

pub set-done : (ms : List ℕ) (m w x : ℕ) → 512 ≤ length ms → m < 1099511627776 → w ≡ get_or ms (m / 2147483648) 0 → x ≡ with_bits w m
    → set ms (m / 2147483648) x ≡ with_mark ms m
unfolding with_mark
set-done ms m w x h l e f = rw (takes-yes ms m h l, f, e)

pub word-there : (ms : List ℕ) (m : ℕ) → 512 ≤ length ms → m < 1099511627776 → m / 2147483648 < length ms
word-there ms m h l = omega arith

pub told-short : (ms : List ℕ) (m : ℕ) → length ms < 512 → true ≡ is_marked ms m
unfolding is_marked
told-short ms m h = rw (takes-short ms m h)

pub told-far : (ms : List ℕ) (m : ℕ) → 1099511627776 ≤ m → true ≡ is_marked ms m
unfolding is_marked
told-far ms m h = rw (takes-far ms m h)

pub told : (ms : List ℕ) (m w : ℕ) (r : Bool) → 512 ≤ length ms → m < 1099511627776 → w ≡ get_or ms (m / 2147483648) 0 → r ≡ has_bits w m
    → r ≡ is_marked ms m
unfolding is_marked
told ms m w r h l e f = f ∙ rw (takes-yes ms m h l, e)

-- ── What a mark says ──

pub length_marked : (ms : List ℕ) (m : ℕ) → length (with_mark ms m) ≡ length ms
unfolding with_mark
length_marked ms m = go (takes ms m)
  where
    go : (b : Bool) → length (cond b (set ms (place m) (with_bits (get_or ms (place m) 0) m)) ms) ≡ length ms
    go true = length-set ms (place m) (with_bits (get_or ms (place m) 0) m)
    go false = refl

-- the bits of a mark, where there are words for it
by_bits : (ms : List ℕ) (m : ℕ) → (takes ms m ≡ true → has_bits (get_or ms (place m) 0) m ≡ true) → is_marked ms m ≡ true
unfolding is_marked
by_bits ms m h = go (takes ms m) refl
  where
    go : (b : Bool) → takes ms m ≡ b → cond b (has_bits (get_or ms (place m) 0) m) true ≡ true
    go true e = h e
    go false e = refl

bits-there : (ms : List ℕ) (m : ℕ) → is_marked ms m ≡ true → takes ms m ≡ true → has_bits (get_or ms (place m) 0) m ≡ true
unfolding is_marked
bits-there ms m e t = rw t at e

-- a word that gets bits keeps those it has, and so do the other words
words-keep : (ms : List ℕ) (i j m k : ℕ) → has_bits (get_or ms j 0) k ≡ true → has_bits (get_or (set ms i (with_bits (get_or ms i 0) m)) j 0) k ≡ true
words-keep [] i j m k h = h
words-keep (x ∷ xs) zero zero m k h = bits-kept x m k h
words-keep (x ∷ xs) zero (suc j) m k h = h
words-keep (x ∷ xs) (suc i) zero m k h = h
words-keep (x ∷ xs) (suc i) (suc j) m k h = words-keep xs i j m k h

-- a mark that was set is told
pub mark-told : (ms : List ℕ) (m : ℕ) → is_marked (with_mark ms m) m ≡ true
unfolding with_mark
mark-told ms m = go (takes ms m) refl
  where
    go : (b : Bool) → takes ms m ≡ b → is_marked (cond b (set ms (place m) (with_bits (get_or ms (place m) 0) m)) ms) m ≡ true
    go true e =
        let (p, q) = takes-both ms m e in
        by_bits (set ms (place m) (with_bits (get_or ms (place m) 0) m)) m (λ t.
        rw (get_or-set_same ms (place m) (with_bits (get_or ms (place m) 0) m) 0 (word-there ms m p q)) (bits-added (get_or ms (place m) 0) m))
    go false e = by_bits ms m (λ t. let z : ◌≡◌ {A = ℕ} 0 1 = cc in absurd (omega arith))

-- and stays set
pub mark-stays : (ms : List ℕ) (m k : ℕ) → is_marked ms k ≡ true → is_marked (with_mark ms m) k ≡ true
unfolding with_mark takes
mark-stays ms m k h = go (takes ms m)
  where
    same_takes : takes (set ms (place m) (with_bits (get_or ms (place m) 0) m)) k ≡ takes ms k
    same_takes = rw (length-set ms (place m) (with_bits (get_or ms (place m) 0) m))

    go : (b : Bool) → is_marked (cond b (set ms (place m) (with_bits (get_or ms (place m) 0) m)) ms) k ≡ true
    go true = by_bits (set ms (place m) (with_bits (get_or ms (place m) 0) m)) k
        (λ t. words-keep ms (place m) (place k) m k (bits-there ms k h (sym same_takes ∙ t)))
    go false = h

pub ruleset laws = (
  rules,
  not-true,
  not-false,
  mixed,
  below,
  times-fits,
  sum_fits,
  word_small,
  word-is,
  words-more,
  words-none,
  bytes-more,
  bytes-done,
  byte_small,
  of-short,
  of-far,
  of-few,
  of-many,
  last-there,
  last_fits_lem,
  words-all-there,
  length-small,
  one_bit,
  bit_is,
  bits_are,
  no-first,
  no_second,
  by-third,
  set-short,
  set-far,
  set-done,
  word-there,
  told-short,
  told-far,
  told,
)
