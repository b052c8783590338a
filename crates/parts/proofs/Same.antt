-- When bytes in two parts, and the bytes of a number, are the same.
-- Assumes nothing.
use Prim.Native.Nat.{ℕ, ◌+◌, ◌-◌, ◌^◌, ◌<◌, ◌≤◌}
use native.Mathlib.Omega.{arith}
use mathlib.Core.Path.{◌≡◌, refl, ap, sym, ◌∙◌}
use mathlib.Core.Bool.{Bool, true, false, ◌&&◌}
use mathlib.Core.List.{List, [], ◌∷◌, ◌++◌}
use lib.ListN.{length, take, drop, get_or}
use lib.Seq.{drop-drop, take-add, take_all, length-take-le}
use lib.Dec.{eqb}
use lib.Pow.{are_bytes}
use borrow.Author.Tests.{eqb-true, eqb-false}
use mir.Syntax.{w8}
use mir.Val.{Fits}
use Rattle.number.specs.Number.{bytes_of, number_of, read_at}
use Rattle.number.proofs.Bytes.{number_of-bytes_of, number_of-less, bytes_of-number_of, slice-bytes, part-long}
use Rattle.number.proofs.Laws.{read_is}
use Rattle.layout.specs.Recording.{same}
use Rattle.layout.proofs.Lists.{same_refl, same_true, bytes_take, bytes_drop}

-- parts of equal lengths are compared each by itself
pub same-append : (a b c d : List ℕ) → length a ≡ length c → same (a ++ b) (c ++ d) ≡ (same a c && same b d)
unfolding same
same-append [] b [] d l = refl
same-append [] b (y ∷ c) d l = absurd (omega arith)
same-append (x ∷ a) b [] d l = absurd (omega arith)
same-append (x ∷ a) b (y ∷ c) d l = go (eqb x y) (same-append a b c d (omega arith))
  where
    go : (e : Bool) → same (a ++ b) (c ++ d) ≡ (same a c && same b d) → (e && same (a ++ b) (c ++ d)) ≡ ((e && same a c) && same b d)
    go true i = i
    go false i = refl

-- w bytes are those of a number exactly when they stand for it
pub same_number : (w : ℕ) (s : List ℕ) (n : ℕ) → are_bytes s ≡ true → w ≤ length s → n < 256 ^ w
    → same (take w s) (bytes_of w n) ≡ eqb (number_of (take w s)) n
same_number w s n b l h = go (eqb (number_of (take w s)) n) refl
  where
    other : (e : Bool) → same (take w s) (bytes_of w n) ≡ e → (number_of (take w s) ≡ n → ⊥) → e ≡ false
    other true q u = absurd (u (ap number_of (same_true (take w s) (bytes_of w n) q) ∙ number_of-bytes_of w n h))
    other false q u = refl

    go : (e : Bool) → eqb (number_of (take w s)) n ≡ e → same (take w s) (bytes_of w n) ≡ e
    go true q =
        let v : number_of (take w s) ≡ n = eqb-true (number_of (take w s)) n q in
        let t : length (take w s) ≡ w = length-take-le w s l in
        let p : bytes_of w n ≡ take w s = ap (bytes_of w) (sym v) ∙ ap (λ (k : ℕ). bytes_of k (number_of (take w s))) (sym t)
        ∙ bytes_of-number_of (take w s) (bytes_take w s b) in
        rw p (same_refl (take w s))
    go false q = other (same (take w s) (bytes_of w n)) refl (eqb-false (number_of (take w s)) n q)

-- w bytes at two places are the same exactly when they stand for one number
same_numbers : (w : ℕ) (s t : List ℕ) → are_bytes s ≡ true → are_bytes t ≡ true → length s ≡ w → length t ≡ w
    → eqb (number_of s) (number_of t) ≡ same s t
same_numbers w s t b c l m =
    let u : take w s ≡ s = take_all w s (omega arith) in
    let v : bytes_of w (number_of t) ≡ t = ap (λ (k : ℕ). bytes_of k (number_of t)) (sym m) ∙ bytes_of-number_of t c in
    let h : number_of t < 256 ^ w = rw (← m) (number_of-less t c) in
    let e = same_number w s (number_of t) b (omega arith) h in
    sym (rw (u, v) at e)

-- ── Parts in blocks ──

abbrev part : List ℕ → (at n : ℕ) → List ℕ
part s at n = take n (drop at s)

-- bytes, and those behind them
pub same_add : (a b : List ℕ) (i j n m : ℕ) → i + n ≤ length a → j + n ≤ length b
    → same (part a i (n + m)) (part b j (n + m)) ≡ (same (part a i n) (part b j n) && same (part a (i + n) m) (part b (j + n) m))
same_add a b i j n m h k =
    rw (take-add n m (drop i a), take-add n m (drop j b), drop-drop n i a, drop-drop n j b)
    (same-append (part a i n) (part a (i + n) m) (part b j n) (part b (j + n) m) (part-long a i n h ∙ sym (part-long b j n k)))

-- eight bytes, read from a part of just these
pub eight-read : (s : List ℕ) (at n : ℕ) → at + 8 ≤ length s → n ≡ read_at (part s at (at + 8 - at)) 0 8 → n ≡ number_of (part s at 8)
eight-read s at n l e =
    let d : at + 8 - at ≡ 8 = omega arith in
    let m : length (part s at 8) ≡ 8 = part-long s at 8 l in
    e ∙ rw d (read_is (part s at 8) 0 8 (omega arith) (omega arith) ∙ ap number_of (take_all 8 (part s at 8) (omega arith)))

pub eight-same : (a b : List ℕ) (i j x y : ℕ) → ((k : ℕ) → Fits w8 (get_or a k 0)) → ((k : ℕ) → Fits w8 (get_or b k 0)) → i + 8 ≤ length a
    → j + 8 ≤ length b → x ≡ read_at (part a i (i + 8 - i)) 0 8 → y ≡ read_at (part b j (j + 8 - j)) 0 8
    → eqb x y ≡ same (part a i 8) (part b j 8)
eight-same a b i j x y f g h k p q =
    rw (eight-read a i x h p, eight-read b j y k q)
    (same_numbers 8 (part a i 8) (part b j 8) (bytes_take 8 (drop i a) (bytes_drop i a (slice-bytes a f)))
    (bytes_take 8 (drop j b) (bytes_drop j b (slice-bytes b g))) (part-long a i 8 h) (part-long b j 8 k))

pub sixteen-same : (a b : List ℕ) (i j : ℕ) (p q : Bool) → i + 16 ≤ length a → j + 16 ≤ length b → p ≡ same (part a i 8) (part b j 8)
    → q ≡ same (part a (i + 8) 8) (part b (j + 8) 8) → (p && q) ≡ same (part a i 16) (part b j 16)
sixteen-same a b i j p q h k e f = rw (e, f) (sym (same_add a b i j 8 8 (omega arith) (omega arith)))

-- sixteen of n bytes, and those behind them
module _ (a b : List ℕ) (i j n : ℕ) (all r : Bool) where
  ahead : i + n ≤ length a → j + n ≤ length b → (m : ℕ) → n ≡ m + 16
      → same (part a i n) (part b j n) ≡ (same (part a i 16) (part b j 16) && same (part a (i + 16) m) (part b (j + 16) m))
  ahead h k m o =
      let e : n ≡ 16 + m = omega arith in
      rw e (same_add a b i j 16 m (omega arith) (omega arith))

  pub blocks-stop : same (part a i n) (part b j n) ≡ all → r ≡ same (part a i 16) (part b j 16) → r ≡ false → 16 ≤ n → i + n ≤ length a
      → j + n ≤ length b → false ≡ all
  blocks-stop g e f z h k =
      let q : same (part a i 16) (part b j 16) ≡ false = sym e ∙ f in
      let o : n ≡ n - 16 + 16 = omega arith in
      sym (rw q at (ahead h k (n - 16) o)) ∙ g

  pub blocks_next : (m : ℕ) → same (part a i n) (part b j n) ≡ all → r ≡ same (part a i 16) (part b j 16) → r ≡ true → n ≡ m + 16
      → i + n ≤ length a → j + n ≤ length b → same (part a (i + 16) m) (part b (j + 16) m) ≡ all
  blocks_next m g e f o h k =
      let t : same (part a i 16) (part b j 16) ≡ true = sym e ∙ f in
      sym (rw t at (ahead h k m o)) ∙ g
