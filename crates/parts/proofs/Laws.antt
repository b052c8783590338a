-- Equal parts and copying: what the functions of this crate leave to be shown.
-- Assumes nothing.
use Prim.Native.Nat.{ℕ, suc, ◌+◌, ◌*◌, ◌-◌, ◌/◌, ◌<◌, ◌≤◌}
use native.Mathlib.Omega.{arith}
use mathlib.Core.Path.{◌≡◌, refl, ap, sym, ◌∙◌}
use mathlib.Core.Bool.{Bool, true, false, ◌&&◌}
use mathlib.Core.List.{List, [], ◌∷◌}
use lib.ListN.{length, take, drop, get_or, set}
use lib.Seq.{sets, drop-cons}
use lib.Dec.{eqb}
use borrow.Author.Rules.{rules}
use borrow.Author.Tests.{le-leb, lt-leb, eq-eqb, ne_eqb, not-true, not-false}
use Rattle.number.specs.Number.{has}
use Rattle.std.specs.Prelude.{nat_eq}
use Rattle.std.specs.Cmp.Lexicographic.{pointwise}
use Rattle.std.proofs.Common.{append_assoc}
use Rattle.number.proofs.Bools.{and-false}
use Rattle.layout.specs.Recording.{same}
use Rattle.parts.specs.Parts.{same_part, copied}
use Rattle.parts.proofs.Same.{same_add, eight-same, sixteen-same, blocks-stop, blocks_next}

-- ── Equal parts ──

-- the test of the toolchain's that two lists are alike
pub alike : (a b : List ℕ) → pointwise nat_eq a b ≡ same a b
unfolding same
alike [] [] = refl
alike [] (y ∷ b) = refl
alike (x ∷ a) [] = refl
alike (x ∷ a) (y ∷ b) = ap (λ (r : Bool). eqb x y && r) (alike a b)

pub same-parts : (a b : List ℕ) (i j n k m : ℕ) (r : Bool) → r ≡ pointwise nat_eq (take k (drop i a)) (take m (drop j b)) → k ≡ n → m ≡ n
    → r ≡ same (take n (drop i a)) (take n (drop j b))
same-parts a b i j n k m r e p q = e ∙ rw (p, q) (alike (take n (drop i a)) (take n (drop j b)))

pub not_there : (s : List ℕ) (at n : ℕ) → length s < at + n → has s at n ≡ false
not_there s at n h = lt-leb (at + n) (length s) h

pub there : (s : List ℕ) (at n : ℕ) → at + n ≤ length s → has s at n ≡ true
there s at n h = le-leb (at + n) (length s) h

pub equal-short : (a b : List ℕ) (i j n : ℕ) → length a < n → false ≡ same_part a i b j n
unfolding same_part
equal-short a b i j n h = rw (not_there a i n (omega arith))

pub equal-far : (a b : List ℕ) (i j n : ℕ) → n ≤ length a → length a - n < i → false ≡ same_part a i b j n
unfolding same_part
equal-far a b i j n l h = rw (not_there a i n (omega arith))

pub equal-short-other : (a b : List ℕ) (i j n : ℕ) → length b < n → false ≡ same_part a i b j n
unfolding same_part
equal-short-other a b i j n h = rw (not_there b j n (omega arith), and-false (has a i n))

pub equal-far-other : (a b : List ℕ) (i j n : ℕ) → n ≤ length b → length b - n < j → false ≡ same_part a i b j n
unfolding same_part
equal-far-other a b i j n l h = rw (not_there b j n (omega arith), and-false (has a i n))

-- where both parts are there, it goes by their bytes
pub equal-there : (a b : List ℕ) (i j n : ℕ) → n ≤ length a → i ≤ length a - n → n ≤ length b → j ≤ length b - n
    → same (take n (drop i a)) (take n (drop j b)) ≡ same_part a i b j n
unfolding same_part
equal-there a b i j n h k l m = rw (there a i n (omega arith), there b j n (omega arith))

-- in blocks, and what is left behind them
equal-split : (a b : List ℕ) (i j n : ℕ) → i + n ≤ length a → j + n ≤ length b
    → same (take n (drop i a)) (take n (drop j b)) ≡ (same (take (16 * (n / 16)) (drop i a)) (take (16 * (n / 16)) (drop j b))
    && same (take (n - 16 * (n / 16)) (drop (i + 16 * (n / 16)) a)) (take (n - 16 * (n / 16)) (drop (j + 16 * (n / 16)) b)))
equal-split a b i j n h k =
    let e : n ≡ 16 * (n / 16) + (n - 16 * (n / 16)) = omega arith in
    ap (λ (m : ℕ). same (take m (drop i a)) (take m (drop j b))) e
    ∙ same_add a b i j (16 * (n / 16)) (n - 16 * (n / 16)) (omega arith) (omega arith)

pub equal-blocks : (a b : List ℕ) (i j n : ℕ) (r : Bool) → n ≤ length a → i ≤ length a - n → n ≤ length b → j ≤ length b - n
    → r ≡ same (take (16 * (n / 16)) (drop i a)) (take (16 * (n / 16)) (drop j b)) → r ≡ false → false ≡ same_part a i b j n
equal-blocks a b i j n r h k l m e f =
    let q : same (take (16 * (n / 16)) (drop i a)) (take (16 * (n / 16)) (drop j b)) ≡ false = sym e ∙ f in
    sym (rw q at (equal-split a b i j n (omega arith) (omega arith))) ∙ equal-there a b i j n h k l m

pub equal_rest : (a b : List ℕ) (i j n : ℕ) (r s : Bool) → n ≤ length a → i ≤ length a - n → n ≤ length b → j ≤ length b - n
    → r ≡ same (take (16 * (n / 16)) (drop i a)) (take (16 * (n / 16)) (drop j b)) → r ≡ true
    → s ≡ same (take (n - 16 * (n / 16)) (drop (i + 16 * (n / 16)) a)) (take (n - 16 * (n / 16)) (drop (j + 16 * (n / 16)) b))
    → s ≡ same_part a i b j n
equal_rest a b i j n r s h k l m e f g =
    let q : same (take (16 * (n / 16)) (drop i a)) (take (16 * (n / 16)) (drop j b)) ≡ true = sym e ∙ f in
    g ∙ sym (rw q at (equal-split a b i j n (omega arith) (omega arith))) ∙ equal-there a b i j n h k l m

-- ── Copying ──

copied-out : (f t : List ℕ) (i j n : ℕ) → (has f i n && has t j n) ≡ false → t ≡ copied f i t j n
unfolding copied
copied-out f t i j n e = rw e

pub copied-short : (f t : List ℕ) (i j n : ℕ) → length f < n → t ≡ copied f i t j n
copied-short f t i j n h = copied-out f t i j n (rw (not_there f i n (omega arith)))

pub copied-far : (f t : List ℕ) (i j n : ℕ) → n ≤ length f → length f - n < i → t ≡ copied f i t j n
copied-far f t i j n l h = copied-out f t i j n (rw (not_there f i n (omega arith)))

pub copied-no-room : (f t : List ℕ) (i j n : ℕ) → length t < n → t ≡ copied f i t j n
copied-no-room f t i j n h = copied-out f t i j n (rw (not_there t j n (omega arith), and-false (has f i n)))

pub copied-past : (f t : List ℕ) (i j n : ℕ) → n ≤ length t → length t - n < j → t ≡ copied f i t j n
copied-past f t i j n l h = copied-out f t i j n (rw (not_there t j n (omega arith), and-false (has f i n)))

-- where both parts are there, the bytes are stored
pub copied-there : (f t : List ℕ) (i j n : ℕ) → i + n ≤ length f → j + n ≤ length t → copied f i t j n ≡ sets t j (take n (drop i f))
unfolding copied
copied-there f t i j n h k = rw (there f i n h, there t j n k)

pub copy_start : (f t : List ℕ) (i j n : ℕ) → sets t (j + 0) (take (n - 0) (drop (i + 0) f)) ≡ sets t j (take n (drop i f))
copy_start f t i j n =
    let p : j + 0 ≡ j = omega arith in
    let q : n - 0 ≡ n = omega arith in
    let r : i + 0 ≡ i = omega arith in
    rw (p, q, r)

pub copy_more : (f t t₀ : List ℕ) (i j n k : ℕ) → k < n → i + n ≤ length f
    → sets t (j + k) (take (n - k) (drop (i + k) f)) ≡ sets t₀ j (take n (drop i f))
    → sets (set t (j + k) (get_or f (i + k) 0)) (j + (k + 1)) (take (n - (k + 1)) (drop (i + (k + 1)) f)) ≡ sets t₀ j (take n (drop i f))
copy_more f t t₀ i j n k h l e =
    let p : n - k ≡ suc (n - (k + 1)) = omega arith in
    let q : j + (k + 1) ≡ suc (j + k) = omega arith in
    let r : i + (k + 1) ≡ suc (i + k) = omega arith in
    rw (q, r) (sym (rw (p, drop-cons f (i + k) 0 (omega arith))) ∙ e)

pub copy-end : (f t t₀ : List ℕ) (i j n k : ℕ) → n ≤ k → k ≤ n → i + n ≤ length f → j + n ≤ length t → length t ≡ length t₀
    → sets t (j + k) (take (n - k) (drop (i + k) f)) ≡ sets t₀ j (take n (drop i f)) → t ≡ copied f i t₀ j n
copy-end f t t₀ i j n k h l p q o e =
    let z : n - k ≡ 0 = omega arith in
    sym (rw z) ∙ e ∙ sym (copied-there f t₀ i j n p (omega arith))

pub ruleset laws = (
  rules,
  not-true,
  not-false,
  eight-same,
  sixteen-same,
  blocks-stop,
  blocks_next,
  same-parts,
  equal-short,
  equal-far,
  equal-short-other,
  equal-far-other,
  equal-blocks,
  equal_rest,
  copied-short,
  copied-far,
  copied-no-room,
  copied-past,
  copy_start,
  copy_more,
  copy-end,
)
