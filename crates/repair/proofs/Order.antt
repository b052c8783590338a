-- The order of repair: 1 to 4, 16, and then the lines of the frames.
-- Assumes nothing.
use Prim.Native.Nat.{ℕ, suc, ◌≤◌}
use native.Mathlib.Omega.{arith}
use mathlib.Core.Path.{◌≡◌, refl, ap, sym, ◌∙◌}
use mathlib.Core.Bool.{Bool, true, false}
use mathlib.Core.List.{List, [], ◌∷◌}
use lib.ListN.{length, drop, get_or}
use lib.Dec.{eqb}
use borrow.Author.Tests.{eq-eqb, ne_eqb}
use mir.Syntax.{w8}
use mir.Val.{Fits}
use Rattle.number.proofs.Bytes.{slice-bytes}
use Rattle.layout.specs.Reading.{Walk, walk}
use Rattle.layout.specs.Opening.{line, defined_in, walk_start, walk_of, first_of, front_lines, refusal, opening_place}
use Rattle.layout.specs.Repair.{walked, kept_length, kept_count, tail, repair_lines, repair_refusal, repair}
use Rattle.layout.proofs.Lines.{line-pass, line-holds, FrontPasses, front-pass, lines-first}
use Rattle.front.specs.Front.{front_held, front_of}
use Rattle.opening.specs.Opened.{open_of}
use Rattle.front.specs.declared.FrontHeld.{FrontHeld}
use Rattle.opening.specs.declared.Held.{Held}
use Rattle.front.proofs.Passed.{front-passes, front-refuses, start-within, few-sections}
use Rattle.opening.proofs.Lines.{open-opens, open-refuses}
use Rattle.repair.proofs.Frames.{refused-made}
use Rattle.std.specs.Prelude.{Result, Ok, Err, is_ok}
use Rattle.refusal.specs.Refusal.{placed}
use Rattle.refusal.specs.declared.Refusal.{Refusal}
use Rattle.refusal.specs.declared.Refusal.TheVariants.{Whole}
use Rattle.repair.specs.Repaired.{made, repair_of, tail_of, walk_lines, keeping, walk_repaired, frames_repaired}
use Rattle.repair.specs.declared.Repaired.{Repaired}

-- ── 16 ──

opens-whole : (f : List ℕ) (r : Result Held Refusal) → r ≡ open_of f → is_ok r ≡ eqb (refusal f) 0
opens-whole f (Ok h) p = sym (eq-eqb (refusal f) 0 (open-opens f h (sym p)).0)
opens-whole f (Err n) p = go (open-refuses f n (sym p))
  where
    go : ((m : ℕ) × (n ≡ placed (suc m) (opening_place (suc m) f)) × (refusal f ≡ suc m)) → false ≡ eqb (refusal f) 0
    go (m, k, e) = sym (ne_eqb (refusal f) 0 (λ z. omega arith))

-- ── Each way out ──

-- 13, 15 and 9 have no place
placeless : (f : List ℕ) (a b c : Bool) → opening_place (first_of (line 13 a ∷ line 15 b ∷ line 9 c ∷ [])) f ≡ 0
unfolding opening_place first_of
placeless f true b c = refl
placeless f false true c = refl
placeless f false false true = refl
placeless f false false false = refl

walk-placeless : (f : List ℕ) (w : Walk) (start room : ℕ) → opening_place (first_of (walk_lines w start room)) f ≡ 0
unfolding walk_lines
walk-placeless f w start room = placeless f _ _ _

refused-repair : (f out : List ℕ) (n : ℕ) → repair_refusal f (length out) ≡ suc n
    → made (Err (placed (suc n) (opening_place (suc n) f))) out ≡ repair_of f out
unfolding repair_of repair
refused-repair f out n e =
    ap (λ (m : ℕ). made (Err (placed (suc n) (opening_place m f))) out) (sym e)
    ∙ refused-made (opening_place (repair_refusal f (length out)) f) out (repair_refusal f (length out)) n _ e

pub repair-front : (f out : List ℕ) (n : Refusal) → Err n ≡ front_of f → made (Err n) out ≡ repair_of f out
unfolding repair_refusal repair_lines
repair-front f out n p = go (front-refuses f n (sym p))
  where
    go : ((j : ℕ) × (n ≡ placed (suc j) (opening_place (suc j) f)) × (first_of (front_lines f) ≡ suc j)) → made (Err n) out ≡ repair_of f out
    go (j, k, e) = rw k (refused-repair f out j (lines-first (front_lines f) _ j e))

module _ (f out : List ℕ) (held : FrontHeld) (p : Ok held ≡ front_of f) where
  passes : FrontPasses f
  passes = (front-passes f held (sym p)).0

  held-is : held ≡ front_held f
  held-is = (front-passes f held (sym p)).1

  pub repair-whole : (b : Bool) (r : Result Held Refusal) → r ≡ open_of f → b ≡ is_ok r → b ≡ true → made (Err Whole) out ≡ repair_of f out
  unfolding repair_refusal repair_lines opening_place
  repair-whole b r o s t = refused-repair f out 15 (front-pass f _ passes ∙ line-holds 16 _ _ (sym (opens-whole f r o) ∙ sym s ∙ t))

  -- the lines of the frames are left
  lines_are : eqb (refusal f) 0 ≡ false → repair_refusal f (length out) ≡ first_of (walk_lines (walked f) (walk_start f) (length out))
  unfolding repair_refusal repair_lines walk_lines kept_length kept_count tail tail_of
  lines_are e = front-pass f _ passes ∙ line-pass 16 _ _ e

  frames-are : eqb (refusal f) 0 ≡ false → frames_repaired f (length (defined_in f)) (walk_start f) out ≡ repair_of f out
  unfolding frames_repaired walk_repaired keeping tail_of repair_of repair walked walk_of kept_length kept_count tail
  frames-are e = rw (lines_are e, walk-placeless f (walk 1000000 (length (defined_in f)) (drop (walk_start f) f)) (walk_start f) (length out))

  pub repair-behind : (b : Bool) (r : Result Held Refusal) (a : Result Repaired Refusal) (new : List ℕ) → r ≡ open_of f → b ≡ is_ok r → b ≡ false
      → made a new ≡ frames_repaired f held.sections held.start out → made a new ≡ repair_of f out
  unfolding front_held
  repair-behind b r a new o s t e = rw held-is at e ∙ frames-are (sym (opens-whole f r o) ∙ sym s ∙ t)

pub start-there : (f : List ℕ) (held : FrontHeld) → ((i : ℕ) → Fits w8 (get_or f i 0)) → Ok held ≡ front_of f → held.start ≤ length f
unfolding front_held
start-there f held b p = rw (held-is f [] held p) (start-within f (slice-bytes f b) (passes f [] held p).system)

pub sections-few : (f : List ℕ) (held : FrontHeld) → Ok held ≡ front_of f → held.sections ≤ 8
unfolding front_held
sections-few f held p = rw (held-is f [] held p) (few-sections f (passes f [] held p).sections)

pub ruleset order = (repair-front, repair-whole, repair-behind, start-there, sections-few)
