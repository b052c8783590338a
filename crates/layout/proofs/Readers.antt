-- Readers that read back exactly what was encoded, and how they are put together: the laws of `then`, `only`, `times` and `exactly`.
-- Assumes nothing.
use Prim.Native.Nat.{ℕ, zero, suc, ◌+◌, ◌^◌, ◌≤◌, ◌<◌}
use native.Mathlib.Omega.{arith}
use mathlib.Core.Path.{◌≡◌, refl, ap, sym, ◌∙◌}
use mathlib.Core.Bool.{Bool, true, false, cond}
use mathlib.Core.Logic.{◌↔◌}
use mathlib.Core.List.{List, [], ◌∷◌, ◌++◌, flat_map, append_assoc}
use lib.ListN.{length, take, drop, length-append, take-append-drop}
use lib.Seq.{drop-drop, drop-append_seam, take_at, length-take-le}
use lib.Dec.{leb, eqb}
use lib.Pow.{are_bytes}
use borrow.Author.Tests.{leb-true, le-leb, eqb-true, eq-eqb}
use Rattle.number.specs.Number.{bytes_of, number_of}
use Rattle.number.proofs.Bytes.{both_true, and-true, length-bytes_of, number_of-bytes_of, number_of-less, bytes_of-number_of}
use Rattle.layout.specs.Recording.{every}
use Rattle.layout.specs.Reading.{Parsed, bad, good, Reader, onward, behind, give, ◌then◌, only, times, exactly, fault_at, placed, number, block}
use Rattle.layout.proofs.Lists.{cond-true, bytes_drop, bytes_take}

-- what p reads is Ok and stands encoded at the front; and what is Ok is read back, whatever follows
pub record Reads {A : Type 0} (Ok : A → Type 0) (bytes : A → List ℕ) (p : Reader A) : Type 0 where
  pub takes : (x : A) (rest : List ℕ) → Ok x → p (bytes x ++ rest) ≡ good x (length (bytes x))
  pub gives : (s : List ℕ) (x : A) (n : ℕ) → are_bytes s ≡ true → p s ≡ good x n → Ok x × (n ≡ length (bytes x)) × (s ≡ bytes x ++ drop n s)

-- ── What was read, taken apart ──

pub onward-good : {A B : Type 0} (x : Parsed A) (next : A → ℕ → Parsed B) (b : B) (k : ℕ) → onward x next ≡ good b k → (a : A) × (n : ℕ) × (x ≡ good a n) × (next a n ≡ good b k)
unfolding onward
onward-good (bad m) next b k e = let z : ◌≡◌ {A = ℕ} 0 1 = cc in absurd (omega arith)
onward-good (good a n) next b k e = (a, n, refl, e)

pub behind-good : {A : Type 0} (n : ℕ) (x : Parsed A) (b : A) (k : ℕ) → behind n x ≡ good b k → (m : ℕ) × (x ≡ good b m) × (k ≡ n + m)
unfolding behind
behind-good n (bad m) b k e = let z : ◌≡◌ {A = ℕ} 0 1 = cc in absurd (omega arith)
behind-good n (good a m) b k e = (m, cc, cc)

pub cond-good : {A : Type 0} (q : ℕ) (t : Bool) (a b : A) (n k : ℕ) → cond t (good a n) (bad q) ≡ good b k → (t ≡ true) × (a ≡ b) × (n ≡ k)
cond-good q true a b n k e = (refl, cc, cc)
cond-good q false a b n k e = let z : ◌≡◌ {A = ℕ} 0 1 = cc in absurd (omega arith)

pub then-good : {A B : Type 0} (p : Reader A) (next : A → Reader B) (s : List ℕ) (b : B) (k : ℕ) → (p then next) s ≡ good b k → (a : A) × (n : ℕ) × (m : ℕ) × (p s ≡ good a n) × (next a (drop n s) ≡ good b m) × (k ≡ n + m)
unfolding ◌then◌
then-good {A} {B} p next s b k e = outer (onward-good (p s) (λ a n. behind n (next a (drop n s))) b k e)
  where
    inner : (a : A) (n : ℕ) → p s ≡ good a n → ((m : ℕ) × (next a (drop n s) ≡ good b m) × (k ≡ n + m)) → (a : A) × (n : ℕ) × (m : ℕ) × (p s ≡ good a n) × (next a (drop n s) ≡ good b m) × (k ≡ n + m)
    inner a n f (m, g, h) = (a, n, m, f, g, h)

    outer : ((a : A) × (n : ℕ) × (p s ≡ good a n) × (behind n (next a (drop n s)) ≡ good b k)) → (a : A) × (n : ℕ) × (m : ℕ) × (p s ≡ good a n) × (next a (drop n s) ≡ good b m) × (k ≡ n + m)
    outer (a, n, f, g) = inner a n f (behind-good n (next a (drop n s)) b k g)

-- two encodings, one behind the other at the front
pub joined : (s x y : List ℕ) (n m : ℕ) → n ≡ length x → s ≡ x ++ drop n s → m ≡ length y → drop n s ≡ y ++ drop m (drop n s) → (n + m ≡ length (x ++ y)) × (s ≡ x ++ y ++ drop (n + m) s)
joined s x y n m p e q f =
    (omega (arith, length-append x y), e ∙ ap (λ (l : List ℕ). x ++ l) f ∙ sym (append_assoc x y (drop m (drop n s))) ∙ ap (λ (l : List ℕ). x ++ y ++ l) (drop-drop m n s))

-- what p makes of an encoding with more behind it decides what follows it
pub onward-takes : {A B : Type 0} (p : Reader A) (next : A → ℕ → Parsed B) (s : List ℕ) (a : A) (n : ℕ) → p s ≡ good a n → onward (p s) next ≡ next a n
unfolding onward
onward-takes p next s a n e = rw e

pub then-takes : {A B : Type 0} (p : Reader A) (next : A → Reader B) (s : List ℕ) (a : A) (b : B) (n m : ℕ) → p s ≡ good a n → next a (drop n s) ≡ good b m → (p then next) s ≡ good b (n + m)
unfolding ◌then◌ onward behind
then-takes p next s a b n m e f = rw (e, f)

-- ── Exact readers, put together ──

-- the same reader, its Ok and its bytes said in other words
pub reads-alike : {A : Type 0} {Ok Ok' : A → Type 0} {bytes bytes' : A → List ℕ} {p : Reader A} → Reads Ok bytes p → ((x : A) → Ok x ↔ Ok' x) → ((x : A) → Ok x → bytes x ≡ bytes' x) → Reads Ok' bytes' p
reads-alike e oks alike =
    record {
      takes = λ x rest h. rw (← alike x ((oks x).1 h)) (e.takes x rest ((oks x).1 h));
      gives = λ s x n h q. let g = e.gives s x n h q in rw (← alike x g.0) (((oks x).0 g.0, g.1, g.2));
    }

pub give-reads : {A : Type 0} (a : A) → Reads (λ x. x ≡ a) (λ x. []) (give a)
unfolding give
give-reads {A} a = record { takes = λ x rest h. cc; gives = λ s x n h q. (cc, cc, ap (λ (k : ℕ). drop k s) (nothing s x n q)) }
  where
    nothing : (s : List ℕ) (x : A) (n : ℕ) → give a s ≡ good x n → 0 ≡ n
    nothing s x n q = cc

pub number_is : (w : ℕ) (s : List ℕ) → w ≤ length s → number w s ≡ good (number_of (take w s)) w
unfolding number
number_is w s h = cond-true (leb w (length s)) (good (number_of (take w s)) w) (bad 0) (le-leb w (length s) h)

pub number-good : (w : ℕ) (s : List ℕ) (n k : ℕ) → number w s ≡ good n k → (w ≤ length s) × (number_of (take w s) ≡ n) × (w ≡ k)
unfolding number
number-good w s n k e = (leb-true w (length s) c.0, c.1, c.2)
  where
    c : (leb w (length s) ≡ true) × (number_of (take w s) ≡ n) × (w ≡ k)
    c = cond-good 0 (leb w (length s)) (number_of (take w s)) n w k e

pub block-is : (n : ℕ) (s : List ℕ) → n ≤ length s → block n s ≡ good (take n s) n
unfolding block
block-is n s h = cond-true (leb n (length s)) (good (take n s) n) (bad 0) (le-leb n (length s) h)

pub block-good : (n : ℕ) (s x : List ℕ) (k : ℕ) → block n s ≡ good x k → (n ≤ length s) × (take n s ≡ x) × (n ≡ k)
unfolding block
block-good n s x k e = (leb-true n (length s) c.0, c.1, c.2)
  where
    c : (leb n (length s) ≡ true) × (take n s ≡ x) × (n ≡ k)
    c = cond-good 0 (leb n (length s)) (take n s) x n k e

pub number-reads : (w : ℕ) → Reads (λ n. n < 256 ^ w) (bytes_of w) (number w)
number-reads w = record { takes = takes; gives = λ s n k h q. gives s n k h (number-good w s n k q) }
  where
    takes : (n : ℕ) (rest : List ℕ) → n < 256 ^ w → number w (bytes_of w n ++ rest) ≡ good n (length (bytes_of w n))
    takes n rest h =
        let i : number w (bytes_of w n ++ rest) ≡ good (number_of (take w (bytes_of w n ++ rest))) w = number_is w (bytes_of w n ++ rest) (omega (arith, length-append (bytes_of w n) rest, length-bytes_of w n)) in
        cc (take_at (bytes_of w n) rest w (length-bytes_of w n), number_of-bytes_of w n h, length-bytes_of w n)

    gives : (s : List ℕ) (n k : ℕ) → are_bytes s ≡ true → ((w ≤ length s) × (number_of (take w s) ≡ n) × (w ≡ k)) → (n < 256 ^ w) × (k ≡ length (bytes_of w n)) × (s ≡ bytes_of w n ++ drop k s)
    gives s n k h (l, e, f) =
        let t : length (take w s) ≡ w = length-take-le w s l in
        let b : are_bytes (take w s) ≡ true = bytes_take w s h in
        let o : bytes_of (length (take w s)) (number_of (take w s)) ≡ take w s = bytes_of-number_of (take w s) b in
        let d : take w s ++ drop w s ≡ s = take-append-drop w s in
        (rw (← e) (rw t at (number_of-less (take w s) b)), cc (length-bytes_of w n), cc)

pub block_reads : (n : ℕ) → Reads (λ s. length s ≡ n) (λ s. s) (block n)
block_reads n = record { takes = takes; gives = λ s x k h q. gives s x k (block-good n s x k q) }
  where
    takes : (x rest : List ℕ) → length x ≡ n → block n (x ++ rest) ≡ good x (length x)
    takes x rest h =
        let i : block n (x ++ rest) ≡ good (take n (x ++ rest)) n = block-is n (x ++ rest) (omega (arith, length-append x rest)) in
        cc (take_at x rest n h)

    gives : (s x : List ℕ) (k : ℕ) → ((n ≤ length s) × (take n s ≡ x) × (n ≡ k)) → (length x ≡ n) × (k ≡ length x) × (s ≡ x ++ drop k s)
    gives s x k (l, e, f) =
        let t : length (take n s) ≡ n = length-take-le n s l in
        let d : take n s ++ drop n s ≡ s = take-append-drop n s in
        (cc, cc, cc)

pub only-reads : {A : Type 0} {Ok : A → Type 0} {bytes : A → List ℕ} {p : Reader A} (test : A → Bool) → Reads Ok bytes p → Reads (λ x. Ok x × (test x ≡ true)) bytes (only test p)
unfolding only
only-reads {A} {Ok} {bytes} {p} test e = record { takes = takes; gives = λ s x n h q. outer s x n h (onward-good (p s) (λ a m. cond (test a) (good a m) (bad 0)) x n q) }
  where
    takes : (x : A) (rest : List ℕ) → (Ok x × (test x ≡ true)) → only test p (bytes x ++ rest) ≡ good x (length (bytes x))
    takes x rest (o, t) =
        onward-takes p (λ a m. cond (test a) (good a m) (bad 0)) (bytes x ++ rest) x (length (bytes x)) (e.takes x rest o)
        ∙ cond-true (test x) (good x (length (bytes x))) (bad 0) t

    inner : (s : List ℕ) (x a : A) (n m : ℕ) → are_bytes s ≡ true → p s ≡ good a m → ((test a ≡ true) × (a ≡ x) × (m ≡ n)) → (Ok x × (test x ≡ true)) × (n ≡ length (bytes x)) × (s ≡ bytes x ++ drop n s)
    inner s x a n m h q (t, f, g) =
        let r : Ok x × (n ≡ length (bytes x)) × (s ≡ bytes x ++ drop n s) = e.gives s x n h (cc) in
        ((r.0, cc), r.1, r.2)

    outer : (s : List ℕ) (x : A) (n : ℕ) → are_bytes s ≡ true → ((a : A) × (m : ℕ) × (p s ≡ good a m) × (cond (test a) (good a m) (bad 0) ≡ good x n)) → (Ok x × (test x ≡ true)) × (n ≡ length (bytes x)) × (s ≡ bytes x ++ drop n s)
    outer s x n h (a, m, q, c) = inner s x a n m h q (cond-good 0 (test a) a x m n c)

-- where a fault is found leaves what is read as it is
pub placed-good : {A : Type 0} (at : List ℕ → ℕ) (p : Reader A) (s : List ℕ) (x : A) (n : ℕ) → placed at p s ≡ good x n → p s ≡ good x n
unfolding placed fault_at
placed-good {A} at p s x n e = go (p s) e
  where
    go : (v : Parsed A) → fault_at (at s) v ≡ good x n → v ≡ good x n
    go (bad m) q = let z : ◌≡◌ {A = ℕ} 0 1 = cc in absurd (omega arith)
    go (good a m) q = q

pub placed-takes : {A : Type 0} (at : List ℕ → ℕ) (p : Reader A) (s : List ℕ) (x : A) (n : ℕ) → p s ≡ good x n → placed at p s ≡ good x n
unfolding placed fault_at
placed-takes at p s x n e = rw e

pub placed-reads : {A : Type 0} {Ok : A → Type 0} {bytes : A → List ℕ} {p : Reader A} (at : List ℕ → ℕ) → Reads Ok bytes p → Reads Ok bytes (placed at p)
placed-reads {A} {Ok} {bytes} {p} at e =
    record {
      takes = λ x rest h. placed-takes at p (bytes x ++ rest) x (length (bytes x)) (e.takes x rest h);
      gives = λ s x n h q. e.gives s x n h (placed-good at p s x n q);
    }

-- `first` is what of the whole value p has read
pub then-reads : {A C : Type 0} {OkA : A → Type 0} {OkC : A → C → Type 0} {bytes_a : A → List ℕ} {bytes_c : C → List ℕ} {p : Reader A} {next : A → Reader C} (first : C → A) → Reads OkA bytes_a p → ((a : A) → Reads (OkC a) bytes_c (next a)) → ((a : A) (c : C) → OkA a → OkC a c → a ≡ first c) → Reads (λ c. OkA (first c) × OkC (first c) c) (λ c. bytes_a (first c) ++ bytes_c c) (p then next)
then-reads {A} {C} {OkA} {OkC} {bytes_a} {bytes_c} {p} {next} first e es firsts =
    record { takes = takes; gives = λ s c k h q. gives s c k h (then-good p next s c k q) }
  where
    takes : (c : C) (rest : List ℕ) → (OkA (first c) × OkC (first c) c) → (p then next) (bytes_a (first c) ++ bytes_c c ++ rest) ≡ good c (length (bytes_a (first c) ++ bytes_c c))
    takes c rest (o, u) =
        rw (append_assoc, length-append)
        (then-takes p next (bytes_a (first c) ++ (bytes_c c ++ rest)) (first c) c (length (bytes_a (first c))) (length (bytes_c c)) (e.takes (first c) (bytes_c c ++ rest) o) (rw drop-append_seam ((es (first c)).takes c rest u)))

    gives : (s : List ℕ) (c : C) (k : ℕ) → are_bytes s ≡ true → ((a : A) × (n : ℕ) × (m : ℕ) × (p s ≡ good a n) × (next a (drop n s) ≡ good c m) × (k ≡ n + m)) → (OkA (first c) × OkC (first c) c) × (k ≡ length (bytes_a (first c) ++ bytes_c c)) × (s ≡ bytes_a (first c) ++ bytes_c c ++ drop k s)
    gives s c k h (a, n, m, q, r, f) =
        let x : OkA a × (n ≡ length (bytes_a a)) × (s ≡ bytes_a a ++ drop n s) = e.gives s a n h q in
        let y : OkC a c × (m ≡ length (bytes_c c)) × (drop n s ≡ bytes_c c ++ drop m (drop n s)) = (es a).gives (drop n s) c m (bytes_drop n s h) r in
        let j : (n + m ≡ length (bytes_a a ++ bytes_c c)) × (s ≡ bytes_a a ++ bytes_c c ++ drop (n + m) s) = joined s (bytes_a a) (bytes_c c) n m x.1 x.2 y.1 y.2 in
        rw (← firsts a c x.0 y.0, f) ((x.0, y.0), j.0, j.1)

-- ── One behind the other, as often as asked ──

pub times-suc-takes : {A : Type 0} (p : Reader A) (k : ℕ) (s : List ℕ) (x : A) (xs : List A) (n m : ℕ) → p s ≡ good x n → times k p (drop n s) ≡ good xs m → times (suc k) p s ≡ good (x ∷ xs) (n + m)
unfolding times onward behind
times-suc-takes p k s x xs n m e f = rw (e, f)

pub times-suc-good : {A : Type 0} (p : Reader A) (k : ℕ) (s : List ℕ) (ys : List A) (j : ℕ) → times (suc k) p s ≡ good ys j → (x : A) × (xs : List A) × (n : ℕ) × (m : ℕ) × (p s ≡ good x n) × (times k p (drop n s) ≡ good xs m) × (x ∷ xs ≡ ys) × (n + m ≡ j)
unfolding times
times-suc-good {A} p k s ys j e = outer (onward-good (p s) (λ x n. behind n (onward (times k p (drop n s)) (λ xs m. good (x ∷ xs) m))) ys j e)
  where
    inner : (x : A) (n i : ℕ) → p s ≡ good x n → j ≡ n + i → ((xs : List A) × (m : ℕ) × (times k p (drop n s) ≡ good xs m) × (good (x ∷ xs) m ≡ good ys i)) → (x : A) × (xs : List A) × (n : ℕ) × (m : ℕ) × (p s ≡ good x n) × (times k p (drop n s) ≡ good xs m) × (x ∷ xs ≡ ys) × (n + m ≡ j)
    inner x n i f w (xs, m, g, h) = let y : m ≡ i = cc in (x, xs, n, m, f, g, cc, omega arith)

    outer : ((x : A) × (n : ℕ) × (p s ≡ good x n) × (behind n (onward (times k p (drop n s)) (λ xs m. good (x ∷ xs) m)) ≡ good ys j)) → (x : A) × (xs : List A) × (n : ℕ) × (m : ℕ) × (p s ≡ good x n) × (times k p (drop n s) ≡ good xs m) × (x ∷ xs ≡ ys) × (n + m ≡ j)
    outer (x, n, f, g) = let b = behind-good n (onward (times k p (drop n s)) (λ xs m. good (x ∷ xs) m)) ys j g in inner x n b.0 f b.2 (onward-good (times k p (drop n s)) (λ xs m. good (x ∷ xs) m) ys b.0 b.1)

module _ {A : Type 0} (ok : A → Bool) (bytes : A → List ℕ) (p : Reader A) (e : Reads (λ x. ok x ≡ true) bytes p) where
  times-takes : (xs : List A) (rest : List ℕ) → every ok xs ≡ true → times (length xs) p (flat_map bytes xs ++ rest) ≡ good xs (length (flat_map bytes xs))
  unfolding times every flat_map
  times-takes [] rest h = refl
  times-takes (x ∷ xs) rest h =
      let b : (ok x ≡ true) × (every ok xs ≡ true) = both_true (ok x) (every ok xs) h in
      rw (append_assoc, length-append)
      (times-suc-takes p (length xs) (bytes x ++ (flat_map bytes xs ++ rest)) x xs (length (bytes x)) (length (flat_map bytes xs)) (e.takes x (flat_map bytes xs ++ rest) b.0) (rw drop-append_seam (times-takes xs rest b.1)))

  -- what k times in a row has to give
  Gives : ℕ → Type 0
  Gives k = (s : List ℕ) (ys : List A) (j : ℕ) → are_bytes s ≡ true → times k p s ≡ good ys j → ((length ys ≡ k) × (every ok ys ≡ true)) × (j ≡ length (flat_map bytes ys)) × (s ≡ flat_map bytes ys ++ drop j s)

  times-gives-zero : Gives 0
  unfolding Gives times every flat_map
  times-gives-zero s ys j h q =
      let y : [] ≡ ys = cc in
      let z : 0 ≡ j = cc in
      rw (← y, ← z) ((refl, refl), refl, refl)

  times-gives-suc : (k : ℕ) → Gives k → Gives (suc k)
  unfolding Gives every flat_map
  times-gives-suc k ih s ys j h q = go (times-suc-good p k s ys j q)
    where
      go : ((x : A) × (xs : List A) × (n : ℕ) × (m : ℕ) × (p s ≡ good x n) × (times k p (drop n s) ≡ good xs m) × (x ∷ xs ≡ ys) × (n + m ≡ j)) → ((length ys ≡ suc k) × (every ok ys ≡ true)) × (j ≡ length (flat_map bytes ys)) × (s ≡ flat_map bytes ys ++ drop j s)
      go (x, xs, n, m, f, g, y, z) =
          let a : (ok x ≡ true) × (n ≡ length (bytes x)) × (s ≡ bytes x ++ drop n s) = e.gives s x n h f in
          let b : ((length xs ≡ k) × (every ok xs ≡ true)) × (m ≡ length (flat_map bytes xs)) × (drop n s ≡ flat_map bytes xs ++ drop m (drop n s)) = ih (drop n s) xs m (bytes_drop n s h) g in
          let i : (n + m ≡ length (bytes x ++ flat_map bytes xs)) × (s ≡ bytes x ++ flat_map bytes xs ++ drop (n + m) s) = joined s (bytes x) (flat_map bytes xs) n m a.1 a.2 b.1 b.2 in
          rw (← y, ← z) ((ap suc b.0.0, and-true (ok x) (every ok xs) a.0 b.0.1), i.0, i.1)

  times-gives : (k : ℕ) → Gives k
  times-gives zero = times-gives-zero
  times-gives (suc k) = times-gives-suc k (times-gives k)

pub times-reads : {A : Type 0} {bytes : A → List ℕ} {p : Reader A} (ok : A → Bool) (k : ℕ) → Reads (λ x. ok x ≡ true) bytes p → Reads (λ xs. (length xs ≡ k) × (every ok xs ≡ true)) (flat_map bytes) (times k p)
unfolding Gives
times-reads {A} {bytes} {p} ok k e =
    record { takes = λ xs rest h. rw (← h.0) (times-takes ok bytes p e xs rest h.1); gives = times-gives ok bytes p e k }

-- ── Where nothing may follow ──

pub exactly-good : {A : Type 0} (p : Reader A) (s : List ℕ) (x : A) (n : ℕ) → exactly p s ≡ good x n → (p s ≡ good x n) × (n ≡ length s)
unfolding exactly
exactly-good {A} p s x n e = outer (onward-good (p s) (λ a m. cond (eqb m (length s)) (good a m) (bad m)) x n e)
  where
    inner : (a : A) (m : ℕ) → p s ≡ good a m → ((eqb m (length s) ≡ true) × (a ≡ x) × (m ≡ n)) → (p s ≡ good x n) × (n ≡ length s)
    inner a m f (t, g, h) = (cc, cc (eqb-true m (length s) t))

    outer : ((a : A) × (m : ℕ) × (p s ≡ good a m) × (cond (eqb m (length s)) (good a m) (bad m) ≡ good x n)) → (p s ≡ good x n) × (n ≡ length s)
    outer (a, m, f, g) = inner a m f (cond-good m (eqb m (length s)) a x m n g)

pub exactly-is : {A : Type 0} (p : Reader A) (s : List ℕ) (x : A) → p s ≡ good x (length s) → exactly p s ≡ good x (length s)
unfolding exactly
exactly-is p s x e =
    onward-takes p (λ a m. cond (eqb m (length s)) (good a m) (bad m)) s x (length s) e
    ∙ cond-true (eqb (length s) (length s)) (good x (length s)) (bad (length s)) (eq-eqb (length s) (length s) refl)
