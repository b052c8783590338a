-- A number's seat among numbers that ascend, found by halves: where it has one it is none of them, and with it they still ascend. And a place put at
-- its seat.
-- Assumes nothing.
use Rattle.std.specs.Prelude.{Option, Some, None}
use Rattle.std.specs.declared.cmp.Ordering.{Ordering}
use Rattle.std.specs.declared.cmp.Ordering.TheVariants.{Less, Equal, Greater}
use Prim.Native.Nat.{ℕ, zero, suc, ◌+◌, ◌-◌, ◌<◌, ◌≤◌}
use native.Mathlib.Nat.{add-zero, add-suc}
use native.Mathlib.Omega.{arith}
use mathlib.Core.Path.{◌≡◌, refl, ap, sym, ◌∙◌}
use mathlib.Core.Bool.{Bool, true, false, ◌&&◌, ◌||◌, cond}
use mathlib.Core.List.{List, [], ◌∷◌, ◌++◌, append_assoc, append-nil}
use lib.ListN.{length, take, drop, get_or, set, length-append, length-drop, length-set, take-append-drop}
use lib.Seq.{length-take-le, take-suc, take-add, take_at, drop_at, set_at, drop-cons, take-set-le, drop-set-lt, drop-set-add, get_or-set_same, get_or-drop}
use lib.Dec.{leb, ltb, eqb}
use borrow.Author.Tests.{ltb-true, lt-ltb, le-ltb, le-leb, lt-leb, leb-true, eq-eqb, ne_eqb}
use Rattle.number.proofs.Bytes.{both_true, and-true, part-long}
use Rattle.number.proofs.Bools.{or_left, and-false}
use Rattle.order.specs.Order.{key, name_at, turn_of, keys, middle, halves, seek, inserted}
use Rattle.order.proofs.Keys.{three, key-some, turn-before, turn-same, turn-after}

-- ── Numbers that ascend ──

-- each is above the one before it, and the first above a bound
unfoldable pub ascend : ℕ → List ℕ → Bool
ascend b [] = true
ascend b (k ∷ ks) = ltb b k && ascend k ks

unfoldable pub holds : ℕ → List ℕ → Bool
holds x [] = false
holds x (k ∷ ks) = eqb x k || holds x ks

below : (x b : ℕ) (ks : List ℕ) → ascend b ks ≡ true → x ≤ b → holds x ks ≡ false
unfolding ascend holds
below x b [] h l = refl
below x b (k ∷ ks) h l =
    let (p, q) = both_true (ltb b k) (ascend k ks) h in
    let m = ltb-true b k p in
    rw (ne_eqb x k (λ e. omega arith)) (below x k ks q (omega arith))

-- what stands between its neighbours is none of them, and may stand there
seated : (b : ℕ) (ks : List ℕ) (x i : ℕ) → ascend b ks ≡ true → i ≤ length ks → get_or (b ∷ ks) i 0 < x → (i < length ks → x < get_or ks i 0)
    → (b < x) × (holds x ks ≡ false) × (ascend b (take i ks ++ x ∷ drop i ks) ≡ true)
unfolding ascend holds
seated b [] x zero h l low high = (low, refl, and-true (ltb b x) true (lt-ltb b x low) refl)
seated b [] x (suc i) h l low high = absurd (omega arith)
seated b (k ∷ ks) x zero h l low high =
    let (p, q) = both_true (ltb b k) (ascend k ks) h in
    let m : x < k = high (omega arith) in (
      low,
      rw (ne_eqb x k (λ e. omega arith)) (below x k ks q (omega arith)),
      and-true (ltb b x) (ltb x k && ascend k ks) (lt-ltb b x low)
          (and-true (ltb x k) (ascend k ks) (lt-ltb x k m) q),
    )
seated b (k ∷ ks) x (suc i) h l low high =
    let (p, q) = both_true (ltb b k) (ascend k ks) h in
    let m = ltb-true b k p in
    let (r, t, u) = seated k ks x i q (omega arith) low (λ o. high (omega arith)) in
    (omega arith, rw (ne_eqb x k (λ e. omega arith)) t, and-true (ltb b k) (ascend k (take i ks ++ x ∷ drop i ks)) p u)

holds_at_lem : (x : ℕ) (ks : List ℕ) (i : ℕ) → i < length ks → x ≡ get_or ks i 0 → holds x ks ≡ true
unfolding holds
holds_at_lem x [] i h e = absurd (omega arith)
holds_at_lem x (k ∷ ks) zero h e = or_left (eqb x k) (holds x ks) (eq-eqb x k e)
holds_at_lem x (k ∷ ks) (suc i) h e = go (eqb x k) (holds_at_lem x ks i (omega arith) e)
  where
    go : (b : Bool) {c : Bool} → c ≡ true → (b || c) ≡ true
    go true e = refl
    go false e = e

pub or_swap : (a b c : Bool) → (a || (b || c)) ≡ (b || (a || c))
or_swap true true c = refl
or_swap true false c = refl
or_swap false b c = refl

-- one number more, wherever it stands
pub holds_more : (x y : ℕ) (ks ls : List ℕ) → holds x (ks ++ y ∷ ls) ≡ (eqb x y || holds x (ks ++ ls))
unfolding holds
holds_more x y [] ls = refl
holds_more x y (k ∷ ks) ls = rw (holds_more x y ks ls) (or_swap (eqb x k) (eqb x y) (holds x (ks ++ ls)))

-- ── By halves ──

module _ (ks : List ℕ) (k low high : ℕ) where
  spent : halves zero ks k low high ≡ Some low
  unfolding halves
  spent = refl

  stop : (n : ℕ) → high ≤ low → halves n ks k low high ≡ Some low
  unfolding halves
  stop zero h = refl
  stop (suc n) h = rw (le-ltb low high h)

  lower : (n : ℕ) → low < high → turn_of k (get_or ks (middle low high) 0) ≡ Less
      → halves (suc n) ks k low high ≡ halves n ks k low (middle low high)
  unfolding halves
  lower n h e = rw (lt-ltb low high h, e)

  meet : (n : ℕ) → low < high → turn_of k (get_or ks (middle low high) 0) ≡ Equal → halves (suc n) ks k low high ≡ None
  unfolding halves
  meet n h e = rw (lt-ltb low high h, e)

  upper : (n : ℕ) → low < high → turn_of k (get_or ks (middle low high) 0) ≡ Greater
      → halves (suc n) ks k low high ≡ halves n ks k (middle low high + 1) high
  unfolding halves
  upper n h e = rw (lt-ltb low high h, e)

-- how often is enough
enough : (n m : ℕ) (ks : List ℕ) (k low high : ℕ) → high - low ≤ n → high - low ≤ m → halves n ks k low high ≡ halves m ks k low high
enough zero m ks k low high h l = stop ks k low high zero (omega arith) ∙ sym (stop ks k low high m (omega arith))
enough (suc n) zero ks k low high h l = stop ks k low high (suc n) (omega arith) ∙ sym (stop ks k low high zero (omega arith))
enough (suc n) (suc m) ks k low high h l =
    three low high (λ p.
    go (turn_of k (get_or ks (middle low high) 0)) refl p (enough n m ks k low (middle low high) (omega arith) (omega arith))
    (enough n m ks k (middle low high + 1) high (omega arith) (omega arith))) (λ p.
    stop ks k low high (suc n) (omega arith) ∙ sym (stop ks k low high (suc m) (omega arith))) (λ p.
    stop ks k low high (suc n) (omega arith) ∙ sym (stop ks k low high (suc m) (omega arith)))
  where
    go : (t : Ordering) → turn_of k (get_or ks (middle low high) 0) ≡ t → low < high
        → halves n ks k low (middle low high) ≡ halves m ks k low (middle low high)
        → halves n ks k (middle low high + 1) high ≡ halves m ks k (middle low high + 1) high
        → halves (suc n) ks k low high ≡ halves (suc m) ks k low high
    go Less e p f g = lower ks k low high n p e ∙ f ∙ sym (lower ks k low high m p e)
    go Equal e p f g = meet ks k low high n p e ∙ sym (meet ks k low high m p e)
    go Greater e p f g = upper ks k low high n p e ∙ g ∙ sym (upper ks k low high m p e)

-- a number that has a seat stands between its neighbours there
between : (n : ℕ) (ks : List ℕ) (k low high i : ℕ) → high - low ≤ n → low ≤ high → high ≤ length ks → get_or (0 ∷ ks) low 0 < k
    → (high < length ks → k < get_or ks high 0) → halves n ks k low high ≡ Some i
    → (i ≤ length ks) × (get_or (0 ∷ ks) i 0 < k) × (i < length ks → k < get_or ks i 0)
between zero ks k low high i h l m lo hi e =
    let q : i ≡ low = cc (spent ks k low high) in
    let r : i ≡ high = omega arith in
    (omega arith, rw q lo, rw r hi)
between (suc n) ks k low high i h l m lo hi e =
    three low high (λ p.
    three k (get_or ks (middle low high) 0) (λ q.
    between n ks k low (middle low high) i (omega arith) (omega arith) (omega arith) lo (λ o. q)
    (sym (lower ks k low high n p (sym (turn-before k (get_or ks (middle low high) 0) q))) ∙ e)) (λ q.
    let z : ◌≡◌ {A = ℕ} 0 1 = cc (meet ks k low high n p (sym (turn-same k (get_or ks (middle low high) 0) (omega arith) (omega arith)))) in
    absurd (omega arith)) (λ q.
    let s : middle low high + 1 ≡ suc (middle low high) = omega arith in
    between n ks k (middle low high + 1) high i (omega arith) (omega arith) m (rw s q) hi
    (sym (upper ks k low high n p (sym (turn-after k (get_or ks (middle low high) 0) q))) ∙ e))) (λ p.
    let q : i ≡ low = cc (stop ks k low high (suc n) (omega arith)) in
    let r : i ≡ high = omega arith in
    (omega arith, rw q lo, rw r hi)) (λ p. absurd (omega arith))

-- one that has none is one of them
met : (n : ℕ) (ks : List ℕ) (k low high : ℕ) → high ≤ length ks → halves n ks k low high ≡ None → holds k ks ≡ true
met zero ks k low high l e = let z : ◌≡◌ {A = ℕ} 0 1 = cc (spent ks k low high) in absurd (omega arith)
met (suc n) ks k low high l e =
    three low high (λ p.
    three k (get_or ks (middle low high) 0) (λ q.
    met n ks k low (middle low high) (omega arith)
    (sym (lower ks k low high n p (sym (turn-before k (get_or ks (middle low high) 0) q))) ∙ e)) (λ q.
    holds_at_lem k ks (middle low high) (omega arith) q) (λ q.
    met n ks k (middle low high + 1) high l
    (sym (upper ks k low high n p (sym (turn-after k (get_or ks (middle low high) 0) q))) ∙ e))) (λ p.
    let z : ◌≡◌ {A = ℕ} 0 1 = cc (stop ks k low high (suc n) (omega arith)) in absurd (omega arith)) (λ p.
    let z : ◌≡◌ {A = ℕ} 0 1 = cc (stop ks k low high (suc n) (omega arith)) in absurd (omega arith))

-- ── What the search by halves leaves to be shown ──

module _ (ks : List ℕ) (k low high : ℕ) (all : Option ℕ) where
  pub halves-done : high ≤ low → halves (high - low) ks k low high ≡ all → Some low ≡ all
  halves-done h e = sym (stop ks k low high (high - low) h) ∙ e

  again : low < high → halves (high - low) ks k low high ≡ all → halves (suc (high - low)) ks k low high ≡ all
  again h e = enough (suc (high - low)) (high - low) ks k low high (omega arith) (omega arith) ∙ e

  pub halves-lower : low < high → turn_of k (get_or ks (middle low high) 0) ≡ Less → halves (high - low) ks k low high ≡ all
      → halves (middle low high - low) ks k low (middle low high) ≡ all
  halves-lower h t e = enough (middle low high - low) (high - low) ks k low (middle low high) (omega arith) (omega arith)
      ∙ sym (lower ks k low high (high - low) h t) ∙ again h e

  pub halves-met : low < high → turn_of k (get_or ks (middle low high) 0) ≡ Equal → halves (high - low) ks k low high ≡ all → None ≡ all
  halves-met h t e = sym (meet ks k low high (high - low) h t) ∙ again h e

  pub halves-upper : low < high → turn_of k (get_or ks (middle low high) 0) ≡ Greater → halves (high - low) ks k low high ≡ all
      → halves (high - (middle low high + 1)) ks k (middle low high + 1) high ≡ all
  halves-upper h t e = enough (high - (middle low high + 1)) (high - low) ks k (middle low high + 1) high (omega arith) (omega arith)
      ∙ sym (upper ks k low high (high - low) h t) ∙ again h e

-- ── Places ──

pub length-keys : (s ps : List ℕ) → length (keys s ps) ≡ length ps
unfolding keys
length-keys s [] = refl
length-keys s (p ∷ ps) = ap suc (length-keys s ps)

keys-append : (s ps qs : List ℕ) → keys s (ps ++ qs) ≡ keys s ps ++ keys s qs
unfolding keys
keys-append s [] qs = refl
keys-append s (p ∷ ps) qs = ap (λ (l : List ℕ). key (name_at s p) ∷ l) (keys-append s ps qs)

pub keys-at : (s ps : List ℕ) (n i : ℕ) → i < n → n ≤ length ps → get_or (keys s (take n ps)) i 0 ≡ key (name_at s (get_or ps i 0))
unfolding keys
keys-at s ps zero i h l = absurd (omega arith)
keys-at s [] (suc n) i h l = absurd (omega arith)
keys-at s (p ∷ ps) (suc n) zero h l = refl
keys-at s (p ∷ ps) (suc n) (suc i) h l = keys-at s ps n i (omega arith) (omega arith)

first-keys : (s ps : List ℕ) (n : ℕ) → n ≤ length ps → length (keys s (take n ps)) ≡ n
first-keys s ps n h = length-keys s (take n ps) ∙ length-take-le n ps h

-- the first places, ahead of a seat and behind it
cut : (ps : List ℕ) (n i : ℕ) → i ≤ n → take n ps ≡ take i ps ++ take (n - i) (drop i ps)
cut ps n i h = let q : n ≡ i + (n - i) = omega arith in ap (λ (m : ℕ). take m ps) q ∙ take-add i (n - i) ps

pub length_inserted : (ps : List ℕ) (n i place : ℕ) → length (inserted ps n i place) ≡ length ps
unfolding inserted
length_inserted ps n i place = go (ltb n (length ps)) (leb i n) refl refl
  where
    whole : n < length ps → i ≤ n
        → length ((take i ps ++ (place ∷ take (n - i) (drop i ps))) ++ drop (n + 1) ps) ≡ length ps
    whole h l =
        length-append (take i ps ++ (place ∷ take (n - i) (drop i ps))) (drop (n + 1) ps)
        ∙ omega (
          arith,
          length-append (take i ps) (place ∷ take (n - i) (drop i ps)),
          length-take-le i ps (omega arith),
          part-long ps i (n - i) (omega arith),
          length-drop (n + 1) ps,
        )

    go : (a b : Bool) → ltb n (length ps) ≡ a → leb i n ≡ b
        → length (cond (a && b) ((take i ps ++ (place ∷ take (n - i) (drop i ps))) ++ drop (n + 1) ps) ps) ≡ length ps
    go true true p q = whole (ltb-true n (length ps) p) (leb-true i n q)
    go true false p q = refl
    go false b p q = refl

-- a place put at its seat, among the first ones
inserted-first : (ps : List ℕ) (n i place : ℕ) → n < length ps → i ≤ n
    → take (n + 1) (inserted ps n i place) ≡ take i ps ++ (place ∷ take (n - i) (drop i ps))
unfolding inserted
inserted-first ps n i place h l =
    rw (lt-ltb n (length ps) h, le-leb i n l) (take_at (take i ps ++ (place ∷ take (n - i) (drop i ps))) (drop (n + 1) ps) (n + 1)
    (length-append (take i ps) (place ∷ take (n - i) (drop i ps))
    ∙ omega (arith, length-take-le i ps (omega arith), part-long ps i (n - i) (omega arith))))

module _ (s ps : List ℕ) (n i place : ℕ) (h : n < length ps) (l : i ≤ n) where
  keys-inserted : keys s (take (n + 1) (inserted ps n i place)) ≡ keys s (take i ps) ++ (key (name_at s place) ∷ keys s (take (n - i) (drop i ps)))
  unfolding keys
  keys-inserted = ap (keys s) (inserted-first ps n i place h l) ∙ keys-append s (take i ps) (place ∷ take (n - i) (drop i ps))

  keys-cut : keys s (take n ps) ≡ keys s (take i ps) ++ keys s (take (n - i) (drop i ps))
  keys-cut = ap (keys s) (cut ps n i l) ∙ keys-append s (take i ps) (take (n - i) (drop i ps))

  front_long : length (keys s (take i ps)) ≡ i
  front_long = first-keys s ps i (omega arith)

  seat-kept : take i (keys s (take n ps)) ++ key (name_at s place) ∷ drop i (keys s (take n ps)) ≡ keys s (take (n + 1) (inserted ps n i place))
  seat-kept =
      rw (
        keys-cut,
        take_at (keys s (take i ps)) (keys s (take (n - i) (drop i ps))) i front_long,
        drop_at (keys s (take i ps)) (keys s (take (n - i) (drop i ps))) i front_long,
      ) (sym keys-inserted)

  -- the names that stand there afterwards
  pub inserted-holds : (x : ℕ) → holds x (keys s (take (n + 1) (inserted ps n i place))) ≡
      (eqb x (key (name_at s place)) || holds x (keys s (take n ps)))
  inserted-holds x =
      rw (keys-inserted, keys-cut) (holds_more x (key (name_at s place)) (keys s (take i ps)) (keys s (take (n - i) (drop i ps))))

-- ── The seat of a name ──

module _ (s ps : List ℕ) (n place : ℕ) where
  open-seek : n ≤ length ps → seek s ps n place ≡ halves n (keys s (take n ps)) (key (name_at s place)) 0 n
  unfolding seek
  open-seek h = rw (le-leb n (length ps) h)

  pub seek-more : length ps < n → None ≡ seek s ps n place
  unfolding seek
  seek-more h = rw (lt-leb n (length ps) h)

  pub seek-start : n ≤ length ps → halves (n - 0) (keys s (take n ps)) (key (name_at s place)) 0 n ≡ seek s ps n place
  seek-start h = let z : n - 0 ≡ n = omega arith in rw z (sym (open-seek h))

  -- no seat: the name is one of those
  pub seek-met : n ≤ length ps → seek s ps n place ≡ None → holds (key (name_at s place)) (keys s (take n ps)) ≡ true
  seek-met h e = met n (keys s (take n ps)) (key (name_at s place)) 0 n (omega (arith, first-keys s ps n h)) (sym (open-seek h) ∙ e)

  -- a seat: the name is none of those, and with its place there they still ascend
  pub seek-new : (i : ℕ) → n < length ps → ascend 0 (keys s (take n ps)) ≡ true → seek s ps n place ≡ Some i → (i ≤ n)
      × (holds (key (name_at s place)) (keys s (take n ps)) ≡ false) × (ascend 0 (keys s (take (n + 1) (inserted ps n i place))) ≡ true)
  seek-new i h up e =
      let f = first-keys s ps n (omega arith) in
      let (l, lo, hi) = between n (keys s (take n ps)) (key (name_at s place)) 0 n i (omega arith) (omega arith) (omega arith)
      (key-some (name_at s place)) (λ p. absurd (omega arith)) (sym (open-seek (omega arith)) ∙ e) in
      let m : i ≤ n = omega arith in
      let (a, b, c) = seated 0 (keys s (take n ps)) (key (name_at s place)) i up l lo hi in
      (m, b, rw (seat-kept s ps n i place h m) at c)

-- ── A place put at its seat ──

-- the k places from a seat on, each stored one later, the last first
unfoldable pub raised : (k seat : ℕ) → List ℕ → List ℕ
raised zero p ps = ps
raised (suc k) p ps = raised k p (set ps (p + suc k) (get_or ps (p + k) 0))

raised_is : (k p : ℕ) (ps : List ℕ) → p + k < length ps → raised k p ps ≡ (take (suc p) ps ++ take k (drop p ps)) ++ drop (suc (p + k)) ps
unfolding raised
raised_is zero p ps h =
    rw (append-nil (take (suc p) ps), add-zero p) (sym (take-append-drop (suc p) ps))
raised_is (suc k) p ps h =
    let x : ℕ = get_or ps (p + k) 0 in
    let qs : List ℕ = set ps (p + suc k) x in
    let a : take (suc p) qs ≡ take (suc p) ps = take-set-le (suc p) ps (p + suc k) x (omega arith) in
    let b : take k (drop p qs) ≡ take k (drop p ps) = ap (take k) (drop-set-add p ps (suc k) x) ∙ take-set-le k (drop p ps) (suc k) x (omega arith) in
    let c : drop (p + suc k) qs ≡ x ∷ drop (suc (p + suc k)) ps =
    drop-cons qs (p + suc k) 0 (rw length-set h) ∙ rw (get_or-set_same ps (p + suc k) x 0 h, drop-set-lt (suc (p + suc k)) ps (p + suc k) x (omega arith)) in
    let d : take (suc k) (drop p ps) ≡ take k (drop p ps) ++ (x ∷ []) =
    take-suc (drop p ps) k 0 (omega (arith, length-drop p ps)) ∙ rw (get_or-drop p ps k 0) in
    raised_is k p qs (rw length-set (omega arith)) ∙ rw (a, b, ← add-suc p k, c, d)
    (sym (append_assoc (take (suc p) ps ++ take k (drop p ps)) (x ∷ []) (drop (suc (p + suc k)) ps))
    ∙ ap (λ (l : List ℕ). l ++ drop (suc (p + suc k)) ps) (append_assoc (take (suc p) ps) (take k (drop p ps)) (x ∷ [])))

raised-suc : (k p : ℕ) (ps : List ℕ) → raised (suc k) p ps ≡ raised k p (set ps (p + suc k) (get_or ps (p + k) 0))
unfolding raised
raised-suc k p ps = refl

module _ (ps : List ℕ) (n p place : ℕ) where
  pub insert-full : length ps ≤ n → ps ≡ inserted ps n p place
  unfolding inserted
  insert-full h = rw (le-ltb n (length ps) h)

  pub insert-nowhere : n < p → ps ≡ inserted ps n p place
  unfolding inserted
  insert-nowhere h = rw (lt-leb p n h, and-false (ltb n (length ps)))

  pub insert-start : n < length ps → p ≤ n → set (raised (n - p) p ps) p place ≡ inserted ps n p place
  unfolding inserted
  insert-start h l =
      let q : suc (p + (n - p)) ≡ n + 1 = omega arith in
      let a : take (suc p) ps ≡ take p ps ++ (get_or ps p 0 ∷ []) = take-suc ps p 0 (omega arith) in
      rw (
        raised_is (n - p) p ps (omega arith),
        q,
        a,
        append_assoc (take p ps) (get_or ps p 0 ∷ []) (take (n - p) (drop p ps)),
        append_assoc (take p ps) (get_or ps p 0 ∷ take (n - p) (drop p ps)) (drop (n + 1) ps),
        set_at (take p ps) (get_or ps p 0) (take (n - p) (drop p ps) ++ drop (n + 1) ps) place p (length-take-le p ps (omega arith)),
        lt-ltb n (length ps) h,
        le-leb p n l,
      ) (sym (append_assoc (take p ps) (place ∷ take (n - p) (drop p ps)) (drop (n + 1) ps)))

module _ (ps : List ℕ) (p place : ℕ) where
  pub insert-step : (i : ℕ) (all : List ℕ) → p < i → set (raised (i - p) p ps) p place ≡ all
      → set (raised (i - 1 - p) p (set ps i (get_or ps (i - 1) 0))) p place ≡ all
  insert-step i all h e =
      let q : i - p ≡ suc (i - 1 - p) = omega arith in
      let a : p + suc (i - 1 - p) ≡ i = omega arith in
      let b : p + (i - 1 - p) ≡ i - 1 = omega arith in
      let c : set ps (p + suc (i - 1 - p)) (get_or ps (p + (i - 1 - p)) 0) ≡ set ps i (get_or ps (i - 1) 0) = rw (a, b) in
      sym (ap (λ (l : List ℕ). set l p place) (ap (λ (k : ℕ). raised k p ps) q ∙ raised-suc (i - 1 - p) p ps ∙ ap (raised (i - 1 - p) p) c)) ∙ e

  pub insert-done : (i : ℕ) (all : List ℕ) → i ≤ p → p ≤ i → set (raised (i - p) p ps) p place ≡ all → set ps p place ≡ all
  unfolding raised
  insert-done i all h l e = let q : i - p ≡ 0 = omega arith in rw q at e
