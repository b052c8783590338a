-- An order of refusals that gives a number of its own: what that number says of its lines.
-- Assumes nothing.
use Prim.Native.Nat.{ℕ}
use mathlib.Core.Path.{◌≡◌, refl, sym, ◌∙◌}
use mathlib.Core.Bool.{Bool, true, false, not, ◌&&◌}
use mathlib.Core.List.{List, [], ◌∷◌, ◌++◌, append-nil}
use lib.Dec.{eqb}
use borrow.Author.Tests.{eqb-false, not-true}
use Rattle.number.proofs.Bytes.{both_true}
use Rattle.layout.specs.Opening.{Line, line, first_of}

-- no line has this number
unfoldable pub without : ℕ → List Line → Bool
without k [] = true
without k (l ∷ ls) = not (eqb l.number k) && without k ls

-- no lines, no number
pub no_lines : first_of [] ≡ 0
unfolding first_of
no_lines = refl

-- an answer that is not the first line's number: that line does not hold
pub line_other : (n : ℕ) (b : Bool) (ls : List Line) (k : ℕ) → (n ≡ k → ⊥) → first_of (line n b ∷ ls) ≡ k → (b ≡ false) × (first_of ls ≡ k)
unfolding first_of
line_other n true ls k d e = absurd (d e)
line_other n false ls k d e = (refl, e)

-- an answer that no line of the first lines has: none of them holds, and the others answer
pub lines_other : (front bs : List Line) (k : ℕ) → without k front ≡ true → first_of (front ++ bs) ≡ k → (first_of front ≡ 0) × (first_of bs ≡ k)
unfolding first_of without
lines_other [] bs k w e = (refl, e)
lines_other (l ∷ ls) bs k w e = go l.holds e (lines_other ls bs k (both_true (not (eqb l.number k)) (without k ls) w).1)
  where
    go : (b : Bool) → first_of (line l.number b ∷ ls ++ bs) ≡ k → (first_of (ls ++ bs) ≡ k → (first_of ls ≡ 0) × (first_of bs ≡ k)) → (first_of (line l.number b ∷ ls) ≡ 0) × (first_of bs ≡ k)
    go true q i = absurd (eqb-false l.number k (not-true (eqb l.number k) (both_true (not (eqb l.number k)) (without k ls) w).0) q)
    go false q i = i q

-- an answer that only the first line can give: that line holds
pub line-own : (n : ℕ) (b : Bool) (ls : List Line) → (n ≡ 0 → ⊥) → without n ls ≡ true → first_of (line n b ∷ ls) ≡ n → b ≡ true
unfolding first_of
line-own n true ls d w e = refl
line-own n false ls d w e = absurd (d (sym (lines_other ls [] n w (rw append-nil e)).1))

-- lines that do not have a number never give it
pub lines-not : (ls : List Line) (n : ℕ) → without n ls ≡ true → (n ≡ 0 → ⊥) → first_of ls ≡ n → ⊥
lines-not ls n w d e = d (sym e ∙ (lines_other ls [] n w (rw append-nil e)).0)
