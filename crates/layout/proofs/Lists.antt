-- Laws of lists and tests that every part of the theory uses.
-- Assumes nothing.
use Prim.Native.Nat.{ℕ, zero, suc, ◌≤◌, ◌<◌, min}
use native.Mathlib.Omega.{arith}
use native.Mathlib.Nat.{zero-min, suc-min-suc}
use mathlib.Core.Path.{◌≡◌, refl, ap, sym, ◌∙◌}
use mathlib.Core.Bool.{Bool, true, false, ◌&&◌, ◌||◌, cond}
use mathlib.Core.Logic.{◌⊎◌, inl, inr}
use mathlib.Core.List.{List, [], ◌∷◌, ◌++◌, flat_map, append_assoc}
use lib.ListN.{length, take, drop, length-append, take-append-drop, drop_of_length-le}
use lib.Seq.{drop-nil, take-nil, drop-append-le}
use lib.Dec.{leb, ltb, eqb}
use lib.Pow.{are_bytes}
use borrow.Author.Tests.{leb-true, leb-false, eqb-true, eq-eqb, ne_eqb}
use Rattle.number.proofs.Bytes.{both_true, and-true}
use Rattle.layout.specs.Recording.{every, same}

-- ── Tests ──

pub or-false : (a b : Bool) → a || b ≡ false → (a ≡ false) × (b ≡ false)
or-false true b e = (e, cc)
or-false false b e = (refl, e)

pub or_right : (a b : Bool) → b ≡ true → a || b ≡ true
or_right true b e = refl
or_right false b e = e

pub not-or : (a b : Bool) → a ≡ false → b ≡ false → a || b ≡ false
not-or true b p q = p
not-or false b p q = q

pub cond-true : {A : Type 0} (b : Bool) (x y : A) → b ≡ true → cond b x y ≡ x
cond-true b x y e = simp e

pub cond-false : {A : Type 0} (b : Bool) (x y : A) → b ≡ false → cond b x y ≡ y
cond-false b x y e = simp e

pub cond_same : {A : Type 0} (b : Bool) (x : A) → cond b x x ≡ x
cond_same true x = refl
cond_same false x = refl

-- the number that is asked for, or what the others say
pub asks : {A : Type 0} (k m : ℕ) (x y z : A) → k ≡ m → z ≡ x → z ≡ cond (eqb k m) x y
asks k m x y z e h = rw (eq-eqb k m e) h

pub asks-not : {A : Type 0} (k m : ℕ) (x y z : A) → (k ≡ m → ⊥) → z ≡ y → z ≡ cond (eqb k m) x y
asks-not k m x y z e h = rw (ne_eqb k m e) h

-- a test passes or fails
pub decided : (b : Bool) → (b ≡ true) ⊎ (b ≡ false)
decided true = inl refl
decided false = inr refl

-- at most, or more
pub le-or-lt : (n m : ℕ) → (n ≤ m) ⊎ (m < n)
le-or-lt n m = go (decided (leb n m))
  where
    go : (leb n m ≡ true) ⊎ (leb n m ≡ false) → (n ≤ m) ⊎ (m < n)
    go (inl e) = inl (leb-true n m e)
    go (inr e) = inr (leb-false n m e)

-- what stands in a cut list from a place on is the front of what stands there in the whole one
pub drop-cut : {A : Type 0} (at m : ℕ) (s : List A) → (t : List A) × (drop at (take m s) ++ t ≡ drop at s)
drop-cut {A} at m s = go (le-or-lt at (length (take m s)))
  where
    go : (at ≤ length (take m s)) ⊎ (length (take m s) < at) → (t : List A) × (drop at (take m s) ++ t ≡ drop at s)
    go (inl h) = (drop m s, sym (drop-append-le at (take m s) (drop m s) h) ∙ ap (drop at) (take-append-drop m s))
    go (inr h) = (drop at s, ap (λ (l : List A). l ++ drop at s) (drop_of_length-le (take m s) {i = at} (omega arith)))

-- ── The same bytes ──

pub same_refl : (s : List ℕ) → same s s ≡ true
unfolding same
same_refl [] = refl
same_refl (x ∷ xs) = and-true (eqb x x) (same xs xs) (eq-eqb x x refl) (same_refl xs)

pub same_true : (s t : List ℕ) → same s t ≡ true → s ≡ t
unfolding same
same_true [] [] e = refl
same_true [] (y ∷ ys) e = let z : ◌≡◌ {A = ℕ} 0 1 = cc in absurd (omega arith)
same_true (x ∷ xs) [] e = let z : ◌≡◌ {A = ℕ} 0 1 = cc in absurd (omega arith)
same_true (x ∷ xs) (y ∷ ys) e =
    let h : x ≡ y = eqb-true x y (both_true (eqb x y) (same xs ys) e).0 in
    let t : xs ≡ ys = same_true xs ys (both_true (eqb x y) (same xs ys) e).1 in
    cc

-- ── Every ──

pub every_append : {A : Type 0} (ok : A → Bool) (xs ys : List A) → every ok (xs ++ ys) ≡ (every ok xs && every ok ys)
unfolding every
every_append ok [] ys = refl
every_append ok (x ∷ xs) ys = go (ok x) (every_append ok xs ys)
  where
    go : (b : Bool) → every ok (xs ++ ys) ≡ (every ok xs && every ok ys) → (b && every ok (xs ++ ys)) ≡ ((b && every ok xs) && every ok ys)
    go true e = e
    go false e = refl

-- what all pass, all pass a weaker test
pub every-weaker : {A : Type 0} (ok weaker : A → Bool) → ((x : A) → ok x ≡ true → weaker x ≡ true) → (xs : List A) → every ok xs ≡ true → every weaker xs ≡ true
unfolding every
every-weaker ok weaker h [] e = refl
every-weaker ok weaker h (x ∷ xs) e =
    let b = both_true (ok x) (every ok xs) e in
    and-true (weaker x) (every weaker xs) (h x b.0) (every-weaker ok weaker h xs b.1)

-- what holds of every element holds of the first ones
pub every_take : {A : Type 0} (ok : A → Bool) (n : ℕ) (xs : List A) → every ok xs ≡ true → every ok (take n xs) ≡ true
unfolding every
every_take ok zero xs h = refl
every_take ok (suc n) [] h = refl
every_take ok (suc n) (x ∷ xs) h = and-true (ok x) (every ok (take n xs)) (both_true (ok x) (every ok xs) h).0 (every_take ok n xs (both_true (ok x) (every ok xs) h).1)

-- no more than there are
pub take_min : {A : Type 0} (n : ℕ) (xs : List A) → take (min n (length xs)) xs ≡ take n xs
take_min zero xs = rw zero-min
take_min (suc n) [] = rw take-nil
take_min (suc n) (x ∷ xs) = rw suc-min-suc (ap (λ (l : List _). x ∷ l) (take_min n xs))

-- ── Bytes ──

pub bytes-append : (s t : List ℕ) → are_bytes s ≡ true → are_bytes t ≡ true → are_bytes (s ++ t) ≡ true
bytes-append [] t p q = q
bytes-append (x ∷ xs) t p q = and-true (ltb x 256) (are_bytes (xs ++ t)) (both_true (ltb x 256) (are_bytes xs) p).0 (bytes-append xs t (both_true (ltb x 256) (are_bytes xs) p).1 q)

pub bytes-split : (s t : List ℕ) → are_bytes (s ++ t) ≡ true → (are_bytes s ≡ true) × (are_bytes t ≡ true)
bytes-split [] t h = (refl, h)
bytes-split (x ∷ xs) t h =
    let b = both_true (ltb x 256) (are_bytes (xs ++ t)) h in
    let i = bytes-split xs t b.1 in
    (and-true (ltb x 256) (are_bytes xs) b.0 i.0, i.1)

pub bytes_drop : (n : ℕ) (s : List ℕ) → are_bytes s ≡ true → are_bytes (drop n s) ≡ true
bytes_drop n [] p = rw drop-nil
bytes_drop zero (x ∷ xs) p = p
bytes_drop (suc n) (x ∷ xs) p = bytes_drop n xs (both_true (ltb x 256) (are_bytes xs) p).1

pub bytes_take : (n : ℕ) (s : List ℕ) → are_bytes s ≡ true → are_bytes (take n s) ≡ true
bytes_take n [] p = rw take-nil
bytes_take zero (x ∷ xs) p = refl
bytes_take (suc n) (x ∷ xs) p = and-true (ltb x 256) (are_bytes (take n xs)) (both_true (ltb x 256) (are_bytes xs) p).0 (bytes_take n xs (both_true (ltb x 256) (are_bytes xs) p).1)

-- ── Encodings in a row ──

pub flat_map-append : {A : Type 0} (f : A → List ℕ) (xs ys : List A) → flat_map f (xs ++ ys) ≡ flat_map f xs ++ flat_map f ys
unfolding flat_map
flat_map-append f [] ys = refl
flat_map-append f (x ∷ xs) ys = ap (λ (l : List ℕ). f x ++ l) (flat_map-append f xs ys) ∙ sym (append_assoc (f x) (flat_map f xs) (flat_map f ys))

-- the first ones take no more than all
pub flat_map-take : {A : Type 0} (f : A → List ℕ) (n : ℕ) (xs : List A) → length (flat_map f (take n xs)) ≤ length (flat_map f xs)
flat_map-take f n xs =
    let e : flat_map f xs ≡ flat_map f (take n xs) ++ flat_map f (drop n xs) = ap (flat_map f) (sym (take-append-drop n xs)) ∙ flat_map-append f (take n xs) (drop n xs) in
    rw (e, length-append) (omega arith)
