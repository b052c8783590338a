-- Times are compared and subtracted by their ranks: the order of ranks is the order of the Int64s, and the difference of ranks is their difference,
-- also where the difference of the two does not fit an Int64.
-- Assumes nothing.
use Prim.Native.Nat.{ℕ, zero, suc, ◌+◌, ◌-◌, ◌^◌, ◌<◌, ◌≤◌}
use native.Mathlib.Omega.{arith}
use mathlib.Core.Path.{◌≡◌, refl, ap, sym}
use mathlib.Core.Bool.{Bool, true, false}
use lib.Dec.{leb}
use lib.IntN.{ℤ, pos, negsuc, ◌-ℤ◌, sub_ℕ}
use lib.Signed.{le_z}
use borrow.Author.Tests.{leb-true, leb-false, le-leb, lt-leb, le-ltb}
use mir.Syntax.{w64}
use mir.Val.{SFits, of_z}
use Rattle.number.specs.Number.{rank}

same_test : (x y u v : ℕ) → (x ≤ y → u ≤ v) → (y < x → v < u) → leb x y ≡ leb u v
same_test x y u v p q = go (leb x y) refl
  where
    go : (b : Bool) → leb x y ≡ b → b ≡ leb u v
    go true e = sym (le-leb u v (p (leb-true x y e)))
    go false e = sym (lt-leb u v (q (leb-false x y e)))

rank-low : (n : ℕ) → n < 2 ^ 63 → rank n ≡ n + 2 ^ 63
rank-low n h = omega arith

rank-high : (n : ℕ) → n < 2 ^ 63 → rank (2 ^ 64 - suc n) ≡ 2 ^ 63 - suc n
rank-high n h = omega arith

-- a time is not after another exactly if its rank is not
pub rank-order : (a b : ℤ) → SFits w64 a → SFits w64 b → le_z a b ≡ leb (rank (of_z w64 a)) (rank (of_z w64 b))
rank-order (pos a) (pos b) f g = rw (rank-low a f.sfits, rank-low b g.sfits)
    (same_test a b (a + 2 ^ 63) (b + 2 ^ 63) (λ p. omega arith) (λ p. omega arith))
rank-order (pos a) (negsuc b) f g = rw (rank-low a f.sfits, rank-high b g.sfits) (sym (lt-leb (a + 2 ^ 63) (2 ^ 63 - suc b) (omega arith)))
rank-order (negsuc a) (pos b) f g = rw (rank-high a f.sfits, rank-low b g.sfits) (sym (le-leb (2 ^ 63 - suc a) (b + 2 ^ 63) (omega arith)))
rank-order (negsuc a) (negsuc b) f g =
    let h = f.sfits in
    let k = g.sfits in
    rw (rank-high a h, rank-high b k) (same_test b a (2 ^ 63 - suc a) (2 ^ 63 - suc b) (λ p. omega arith) (λ p. omega arith))

difference : (m n k : ℕ) → n ≤ m → m - n ≡ k → sub_ℕ m n ≡ pos k
difference m n k h e = rw (le-ltb m n h) (ap pos e)

-- the time from one to a later one is the difference of their ranks
pub rank-difference : (a b : ℤ) → SFits w64 a → SFits w64 b → le_z a b ≡ true → b -ℤ a ≡ pos (rank (of_z w64 b) - rank (of_z w64 a))
rank-difference (pos zero) (pos m) f g h = rw (rank-low 0 f.sfits, rank-low m g.sfits) (ap pos (omega arith))
rank-difference (pos (suc n)) (pos m) f g h =
    let l : suc n ≤ m = leb-true (suc n) m h in
    rw (rank-low (suc n) f.sfits, rank-low m g.sfits) (difference m (suc n) (m + 2 ^ 63 - (suc n + 2 ^ 63)) l (omega arith))
rank-difference (pos n) (negsuc m) f g h = let z : ◌≡◌ {A = ℕ} 0 1 = cc in absurd (omega arith)
rank-difference (negsuc n) (pos m) f g h =
    let k = f.sfits in
    rw (rank-high n f.sfits, rank-low m g.sfits) (ap pos (omega arith))
rank-difference (negsuc n) (negsuc m) f g h =
    let l : m ≤ n = leb-true m n h in
    let k = f.sfits in
    rw (rank-high n f.sfits, rank-high m g.sfits) (difference (suc n) (suc m) (2 ^ 63 - suc m - (2 ^ 63 - suc n)) (omega arith) (omega arith))
