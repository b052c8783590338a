-- Tests of the toolchain's over lists, as the layout says them.
-- Assumes nothing.
use Prim.Native.Nat.{ℕ, suc, ◌+◌, ◌≤◌}
use native.Mathlib.Omega.{arith}
use mathlib.Core.Path.{◌≡◌, refl, ap, ◌∙◌}
use mathlib.Core.Bool.{Bool, true, false, not, cond, ◌&&◌}
use mathlib.Core.List.{List, [], ◌∷◌}
use lib.Dec.{ltb}
use lib.ListN.{length}
use borrow.Author.Tests.{ltb-false}
use Rattle.std.specs.Prelude.{Option, Some, None, unwrap_or}
use Rattle.std.specs.List.{list_all, position_or_len}
use Rattle.layout.specs.Recording.{every}
use Rattle.layout.specs.Reading.{outside}

pub all-every : (ok : ℕ → Bool) (xs : List ℕ) → list_all ok xs ≡ every ok xs
unfolding every
all-every ok [] = refl
all-every ok (x ∷ xs) = ap (λ (r : Bool). ok x && r) (all-every ok xs)

pub position-outside : (ok : ℕ → Bool) (xs : List ℕ) → position_or_len (λ x. not (ok x)) xs ≡ outside ok xs
unfolding outside
position-outside ok [] = refl
position-outside ok (x ∷ xs) = go (ok x) (position-outside ok xs)
  where
    go : (b : Bool) → position_or_len (λ x. not (ok x)) xs ≡ outside ok xs
        → cond (not (not b)) (1 + position_or_len (λ x. not (ok x)) xs) 0 ≡ cond b (suc (outside ok xs)) 0
    go true e = omega (arith, e)
    go false e = refl

outside-within : (ok : ℕ → Bool) (xs : List ℕ) → outside ok xs ≤ length xs
unfolding outside
outside-within ok [] = omega arith
outside-within ok (x ∷ xs) = go (ok x) (outside-within ok xs)
  where
    go : (b : Bool) → outside ok xs ≤ length xs → cond b (suc (outside ok xs)) 0 ≤ suc (length xs)
    go true h = omega arith
    go false h = omega arith

-- where the first one is that fails, or behind them all
pub first-outside : (ok : ℕ → Bool) (xs : List ℕ) (n : ℕ) (r : Option ℕ) → length xs ≡ n
    → r ≡ cond (ltb (position_or_len (λ x. not (ok x)) xs) (length xs)) (Some (position_or_len (λ x. not (ok x)) xs)) None
    → unwrap_or r n ≡ outside ok xs
first-outside ok xs n r l e = go (ltb (outside ok xs) (length xs)) refl (rw (position-outside ok xs) at e)
  where
    go : (b : Bool) → ltb (outside ok xs) (length xs) ≡ b → r ≡ cond (ltb (outside ok xs) (length xs)) (Some (outside ok xs)) None → unwrap_or r n ≡ outside ok xs
    go true f g = let h : r ≡ Some (outside ok xs) = g ∙ rw f in rw h
    go false f g =
        let h : r ≡ None = g ∙ rw f in
        let k : length xs ≤ outside ok xs = ltb-false (outside ok xs) (length xs) f in
        let m : outside ok xs ≤ length xs = outside-within ok xs in
        rw h (omega arith)
