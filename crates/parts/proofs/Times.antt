-- A reader so many times in a row, at a place.
-- Assumes nothing.
use Rattle.std.specs.Prelude.{Some, None}
use Prim.Native.Nat.{ℕ, zero, suc, ◌+◌, ◌-◌, ◌<◌, ◌≤◌}
use native.Mathlib.Omega.{arith}
use mathlib.Core.Path.{◌≡◌, refl, ap, ◌∙◌}
use mathlib.Core.List.{List, [], ◌∷◌, map, flat_map}
use lib.ListN.{length, take, drop, get_or, length-append}
use lib.Seq.{drop-drop}
use Rattle.layout.specs.Reading.{Parsed, Reader, bad, good, onward, behind, times}
use Rattle.layout.proofs.Readers.{times-suc-takes}
use Rattle.parts.specs.Parts.{end_of}
use Rattle.parts.proofs.Readers.{end_later, end-made}

-- k in a row, of which the first was read, or not
pub times-end : {A : Type 0} (p : Reader A) (left : ℕ) (s : List ℕ) (at : ℕ) (x : A) (n : ℕ) → 0 < left → p (drop at s) ≡ good x n
    → end_of at (times left p (drop at s)) ≡ end_of (at + n) (times (left - 1) p (drop (at + n) s))
unfolding times onward
times-end p zero s at x n h e = absurd (omega arith)
times-end p (suc left) s at x n h e =
    let q : suc left - 1 ≡ left = omega arith in
    rw (q, e, drop-drop n at s) (end_later (onward (times left p (drop (at + n) s)) (λ xs m. good (x ∷ xs) m)) at n ∙ end-made (λ xs. x ∷ xs) (times left p (drop (at + n) s)) (at + n))

pub times-stop : {A : Type 0} (p : Reader A) (left : ℕ) (s : List ℕ) (at : ℕ) {m : ℕ} → 0 < left → p (drop at s) ≡ bad m
    → end_of at (times left p (drop at s)) ≡ None
unfolding times onward end_of
times-stop p zero s at h e = absurd (omega arith)
times-stop p (suc left) s at h e = rw e

pub times-done : {A : Type 0} (p : Reader A) (left : ℕ) (s : List ℕ) (at : ℕ) → left ≤ 0 → end_of at (times left p (drop at s)) ≡ Some at
unfolding times end_of
times-done p zero s at h = ap Some (omega arith)
times-done p (suc left) s at h = absurd (omega arith)

-- ── What was read so many times, taken apart ──

pub times-parts : {A G : Type 0} (p : Reader A) (k : ℕ) (t : List ℕ) (xs : List A) (m : ℕ) → times (suc k) p t ≡ good xs m
    → ((x : A) (n : ℕ) (ys : List A) (j : ℕ) → p t ≡ good x n → times k p (drop n t) ≡ good ys j → xs ≡ x ∷ ys → m ≡ n + j → G) → G
unfolding times onward behind
times-parts {A} {G} p k t xs m e w = go (p t) refl e
  where
    later : (x : A) (n : ℕ) (r : Parsed (List A)) → p t ≡ good x n → times k p (drop n t) ≡ r
        → behind n (onward r (λ rest j. good (x ∷ rest) j)) ≡ good xs m → G
    later x n (bad i) f g h = let z : ◌≡◌ {A = ℕ} 0 1 = cc in absurd (omega arith)
    later x n (good ys j) f g h = w x n ys j f g (cc) (cc)

    go : (r : Parsed A) → p t ≡ r → onward r (λ a n. behind n (onward (times k p (drop n t)) (λ rest j. good (a ∷ rest) j))) ≡ good xs m → G
    go (bad i) f h = let z : ◌≡◌ {A = ℕ} 0 1 = cc in absurd (omega arith)
    go (good x n) f h = later x n (times k p (drop n t)) f refl h

none_read : {A : Type 0} (p : Reader A) (t : List ℕ) (xs : List A) (m : ℕ) → times zero p t ≡ good xs m → (xs ≡ []) × (m ≡ 0)
unfolding times
none_read p t xs m e = (cc, cc)

pub times-length : {A : Type 0} (p : Reader A) (k : ℕ) (t : List ℕ) (xs : List A) (m : ℕ) → times k p t ≡ good xs m → length xs ≡ k
times-length p zero t xs m e = rw (none_read p t xs m e).0
times-length p (suc k) t xs m e = times-parts p k t xs m e (λ x n ys j f g h i. rw h (ap suc (times-length p k (drop n t) ys j g)))

-- a reader that reads a part of what another reads, over the same bytes, does so in a row
pub times-led : {A B : Type 0} (p : Reader A) (q : Reader B) (part : A → B)
    → ((t : List ℕ) (x : A) (n : ℕ) → p t ≡ good x n → q t ≡ good (part x) n) → (k : ℕ) (t : List ℕ) (xs : List A) (m : ℕ)
    → times k p t ≡ good xs m → times k q t ≡ good (map part xs) m
unfolding times
times-led p q part leads zero t xs m e = let (a, b) = none_read p t xs m e in rw (a, b)
times-led p q part leads (suc k) t xs m e =
    times-parts p k t xs m e (λ x n ys j f g h i. rw (h, i) (times-suc-takes q k t (part x) (map part ys) n j (leads t x n f)
    (times-led p q part leads k (drop n t) ys j g)))

-- the bytes that were taken are as many as the encodings have, if that is so for one
pub times-taken : {A : Type 0} (p : Reader A) (bytes : A → List ℕ) → ((t : List ℕ) (x : A) (n : ℕ) → p t ≡ good x n → n ≡ length (bytes x))
    → (k : ℕ) (t : List ℕ) (xs : List A) (m : ℕ) → times k p t ≡ good xs m → m ≡ length (flat_map bytes xs)
unfolding flat_map
times-taken p bytes one zero t xs m e = let (a, b) = none_read p t xs m e in rw (a, b)
times-taken p bytes one (suc k) t xs m e =
    times-parts p k t xs m e (λ x n ys j f g h i.
    let a : n ≡ length (bytes x) = one t x n f in
    let b : j ≡ length (flat_map bytes ys) = times-taken p bytes one k (drop n t) ys j g in
    rw (h, length-append (bytes x) (flat_map bytes ys)) (omega arith))

-- number i of those read stands behind the i ahead of it
pub times-at : {A G : Type 0} (p : Reader A) (d : A) (k : ℕ) (t : List ℕ) (xs : List A) (m i : ℕ) → times k p t ≡ good xs m → i < k
    → ((j n : ℕ) → times i p t ≡ good (take i xs) j → p (drop j t) ≡ good (get_or xs i d) n → G) → G
unfolding times
times-at p d zero t xs m i e l w = absurd (omega arith)
times-at p d (suc k) t xs m zero e l w = times-parts p k t xs m e (λ x n ys j f g h o. w 0 n refl (rw h f))
times-at p d (suc k) t xs m (suc i) e l w =
    times-parts p k t xs m e (λ x n ys j f g h o.
    times-at p d k (drop n t) ys j i g (omega arith) (λ a b q r.
    w (n + a) b (rw h (times-suc-takes p i t x (take i ys) n a f q)) (rw (h, ← drop-drop a n t) r)))
