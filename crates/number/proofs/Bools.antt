-- Truth values: conjunctions, disjunctions, and tests that were made.
-- Assumes nothing.
use mathlib.Core.Path.{◌≡◌, refl, sym, ◌∙◌}
use mathlib.Core.Bool.{Bool, true, false, ◌&&◌, ◌||◌}

pub and-false : (b : Bool) → (b && false) ≡ false
and-false true = refl
and-false false = refl

pub or_left : (a b : Bool) → a ≡ true → a || b ≡ true
or_left true b e = refl
or_left false b e = let z : false ≡ true = e in cc

-- a test that was made, and failed
pub tested : (a b : Bool) → a ≡ b → a ≡ false → b ≡ false
tested a b e h = sym e ∙ h
