-- What the layout's readers read, taken apart.
-- Assumes nothing.
use Prim.Native.Nat.{ℕ, ◌+◌, zero, suc, ◌-◌, ◌<◌, ◌≤◌}
use native.Mathlib.Omega.{arith}
use mathlib.Core.Path.{◌≡◌, refl, ap, ◌∙◌}
use mathlib.Core.Bool.{Bool, true, false, cond}
use mathlib.Core.List.{List, ◌∷◌}
use lib.ListN.{drop, length, take, length-drop}
use borrow.Author.Tests.{lt-leb}
use Rattle.layout.specs.Reading.{Parsed, Reader, bad, good, onward, behind, ◌then◌, only, give, times, number, block}
use Rattle.parts.proofs.Readers.{then-onward, number-there}
use Rattle.number.specs.Number.{number_of, read_at}
use Rattle.layout.proofs.Readers.{number-good, then-good, times-suc-takes}

-- ── Readers taken apart ──

-- what one reader and then another read, each read its part of
pub then-parts : {A B G : Type 0} (p : Reader A) (q : A → Reader B) (t : List ℕ) (y : B) (m : ℕ) → (p then q) t ≡ good y m
    → ((x : A) (n k : ℕ) → p t ≡ good x n → q x (drop n t) ≡ good y k → m ≡ n + k → G) → G
unfolding ◌then◌ onward behind
then-parts {A} {B} {G} p q t y m e w = go (p t) refl e
  where
    second : (x : A) (n : ℕ) (r : Parsed B) → p t ≡ good x n → q x (drop n t) ≡ r → behind n r ≡ good y m → G
    second x n (bad i) f g h = let z : ◌≡◌ {A = ℕ} 0 1 = cc in absurd (omega arith)
    second x n (good b k) f g h = let j : b ≡ y = cc in w x n k f (rw (← j) g) cc

    go : (r : Parsed A) → p t ≡ r → onward r (λ a n. behind n (q a (drop n t))) ≡ good y m → G
    go (bad i) f h = let z : ◌≡◌ {A = ℕ} 0 1 = cc in absurd (omega arith)
    go (good x n) f h = second x n (q x (drop n t)) f refl h

-- what was read, and another value made of it
pub give-parts : {A B G : Type 0} (p : Reader A) (f : A → B) (t : List ℕ) (y : B) (m : ℕ) → (p then λ a. give (f a)) t ≡ good y m
    → ((x : A) → p t ≡ good x m → y ≡ f x → G) → G
unfolding give
give-parts p f t y m e w =
    then-parts p (λ a. give (f a)) t y m e (λ x n k g h i.
    let j : k ≡ 0 = cc in
    let l : m ≡ n = omega arith in
    w x (rw l g) (cc))

pub only_parts : {A : Type 0} (ok : A → Bool) (p : Reader A) (t : List ℕ) (x : A) (n : ℕ) → only ok p t ≡ good x n → (p t ≡ good x n) × (ok x ≡ true)
unfolding only onward
only_parts {A} ok p t x n e = go (p t) refl e
  where
    pass : (y : A) (m : ℕ) (b : Bool) → p t ≡ good y m → ok y ≡ b → cond b (good y m) (bad 0) ≡ good x n → (p t ≡ good x n) × (ok x ≡ true)
    pass y m true f g h = let j : y ≡ x = cc in (f ∙ h, rw (← j) g)
    pass y m false f g h = let z : ◌≡◌ {A = ℕ} 0 1 = cc in absurd (omega arith)

    go : (r : Parsed A) → p t ≡ r → onward r (λ a k. cond (ok a) (good a k) (bad 0)) ≡ good x n → (p t ≡ good x n) × (ok x ≡ true)
    go (bad i) f h = let z : ◌≡◌ {A = ℕ} 0 1 = cc in absurd (omega arith)
    go (good y m) f h = pass y m (ok y) f refl h

pub then-give : {A B : Type 0} (p : Reader A) (f : A → B) (t : List ℕ) (x : A) (n : ℕ) → p t ≡ good x n → (p then λ a. give (f a)) t ≡ good (f x) n
unfolding behind give
then-give p f t x n e = then-onward p (λ a. give (f a)) t x n e ∙ ap (good (f x)) (omega arith)

-- ── A number at a place ──

pub number_read : (s : List ℕ) (at w : ℕ) → w ≤ 8 → at + w ≤ length s → number w (drop at s) ≡ good (read_at s at w) w
number_read s at w e h = number-there w s at e (omega arith) (omega arith)

-- ── What fails ──

pub block-short : (n : ℕ) (s : List ℕ) (at : ℕ) → length s - at < n → block n (drop at s) ≡ bad 0
unfolding block
block-short n s at h =
    let m : length (drop at s) < n = simp length-drop h in
    rw (lt-leb n (length (drop at s)) m)

pub then-next-bad : {A B : Type 0} (p : Reader A) (next : A → Reader B) (s : List ℕ) (a : A) (n : ℕ) {m : ℕ} → p s ≡ good a n
    → next a (drop n s) ≡ bad m
    → (p then next) s ≡ bad (n + m)
unfolding ◌then◌ onward behind
then-next-bad p next s a n e f = rw (e, f)

-- ── What was read, taken apart ──

-- a number, and what stands behind it
pub number-then : {B : Type 0} (w : ℕ) (next : ℕ → Reader B) (s : List ℕ) (b : B) (k : ℕ) → (number w then next) s ≡ good b k
    → (w ≤ length s) × (m : ℕ) × (next (number_of (take w s)) (drop w s) ≡ good b m) × (k ≡ w + m)
number-then {B} w next s b k e = outer (then-good (number w) next s b k e)
  where
    inner : (a n m : ℕ) → next a (drop n s) ≡ good b m → k ≡ n + m → ((w ≤ length s) × (number_of (take w s) ≡ a) × (w ≡ n))
        → (w ≤ length s) × (m : ℕ) × (next (number_of (take w s)) (drop w s) ≡ good b m) × (k ≡ w + m)
    inner a n m f g (l, p, q) = (l, m, cc, cc)

    outer : ((a : ℕ) × (n : ℕ) × (m : ℕ) × (number w s ≡ good a n) × (next a (drop n s) ≡ good b m) × (k ≡ n + m))
        → (w ≤ length s) × (m : ℕ) × (next (number_of (take w s)) (drop w s) ≡ good b m) × (k ≡ w + m)
    outer (a, n, m, f, g, h) = inner a n m g h (number-good w s a n f)

-- a number that passes a test, and what stands behind it
pub tested-then : {B : Type 0} (ok : ℕ → Bool) (w : ℕ) (next : ℕ → Reader B) (s : List ℕ) (b : B) (k : ℕ)
    → (only ok (number w) then next) s ≡ good b k → (w ≤ length s) × (ok (number_of (take w s)) ≡ true) × (m : ℕ)
    × (next (number_of (take w s)) (drop w s) ≡ good b m) × (k ≡ w + m)
tested-then {B} ok w next s b k e = outer (then-good (only ok (number w)) next s b k e)
  where
    inner : (a n m : ℕ) → next a (drop n s) ≡ good b m → k ≡ n + m → ok a ≡ true → ((w ≤ length s) × (number_of (take w s) ≡ a) × (w ≡ n))
        → (w ≤ length s) × (ok (number_of (take w s)) ≡ true) × (m : ℕ) × (next (number_of (take w s)) (drop w s) ≡ good b m) × (k ≡ w + m)
    inner a n m f g t (l, p, q) = (l, cc, m, cc, cc)

    outer : ((a : ℕ) × (n : ℕ) × (m : ℕ) × (only ok (number w) s ≡ good a n) × (next a (drop n s) ≡ good b m) × (k ≡ n + m))
        → (w ≤ length s) × (ok (number_of (take w s)) ≡ true) × (m : ℕ) × (next (number_of (take w s)) (drop w s) ≡ good b m) × (k ≡ w + m)
    outer (a, n, m, f, g, h) = let o = only_parts ok (number w) s a n f in inner a n m g h o.1 (number-good w s a n o.0)

-- ── In a row: the first, and those behind it ──

module _ {A : Type 0} (p : Reader A) where
  pub times-first-bad : (n : ℕ) (s : List ℕ) {m : ℕ} → 0 < n → p s ≡ bad m → times n p s ≡ bad m
  unfolding times onward
  times-first-bad zero s k e = absurd (omega arith)
  times-first-bad (suc n) s k e = rw e

  pub times-later-bad : (n : ℕ) (s : List ℕ) (x : A) (a : ℕ) {m : ℕ} → 0 < n → p s ≡ good x a → times (n - 1) p (drop a s) ≡ bad m
      → times n p s ≡ bad (a + m)
  unfolding times onward behind
  times-later-bad zero s x a k e g = absurd (omega arith)
  times-later-bad (suc n) s x a k e g =
      let q : suc n - 1 ≡ n = omega arith in
      rw (e, rw q at g)

  pub times-cons : (n : ℕ) (s : List ℕ) (x : A) (a : ℕ) (xs : List A) (m : ℕ) → 0 < n → p s ≡ good x a → times (n - 1) p (drop a s) ≡ good xs m
      → times n p s ≡ good (x ∷ xs) (a + m)
  times-cons zero s x a xs m k e g = absurd (omega arith)
  times-cons (suc n) s x a xs m k e g =
      let q : suc n - 1 ≡ n = omega arith in
      times-suc-takes p n s x xs a m e (rw q at g)
