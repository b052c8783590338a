-- The layout's readers at a place: one behind another, numbers and blocks, and where they end.
-- Assumes nothing.
use Rattle.std.specs.Prelude.{Some, None}
use Prim.Native.Nat.{ℕ, ◌+◌, ◌-◌, ◌<◌, ◌≤◌}
use native.Mathlib.Omega.{arith}
use mathlib.Core.Path.{◌≡◌, refl, ◌∙◌, ap}
use mathlib.Core.Bool.{Bool, true, false}
use mathlib.Core.List.{List}
use lib.ListN.{length, drop, length-drop}
use lib.Seq.{drop-drop}
use borrow.Author.Rules.{rules}
use borrow.Author.Tests.{le-leb, lt-leb}
use Rattle.number.specs.Number.{read_at}
use Rattle.layout.specs.Reading.{Parsed, Reader, bad, good, onward, behind, ◌then◌, only, number, block}
use Rattle.parts.specs.Parts.{end_of}

-- ── Short strings by a rule ──

pub only-bad : {A : Type 0} (ok : A → Bool) (p : Reader A) (s : List ℕ) {m : ℕ} → p s ≡ bad m → only ok p s ≡ bad m
unfolding only onward
only-bad ok p s e = rw e

pub only-pass : {A : Type 0} (ok : A → Bool) (p : Reader A) (s : List ℕ) (x : A) (n : ℕ) → p s ≡ good x n → ok x ≡ true → only ok p s ≡ good x n
unfolding only onward
only-pass ok p s x n e t = rw (e, t)

pub only-fail : {A : Type 0} (ok : A → Bool) (p : Reader A) (s : List ℕ) (x : A) (n : ℕ) → p s ≡ good x n → ok x ≡ false → only ok p s ≡ bad 0
unfolding only onward
only-fail ok p s x n e t = rw (e, t)

-- ── One reader and then another ──

pub then-bad : {A B : Type 0} (p : Reader A) (q : A → Reader B) (t : List ℕ) {m : ℕ} → p t ≡ bad m → (p then q) t ≡ bad m
unfolding ◌then◌ onward
then-bad p q t e = rw e

pub then-onward : {A B : Type 0} (p : Reader A) (q : A → Reader B) (t : List ℕ) (x : A) (n : ℕ) → p t ≡ good x n
    → (p then q) t ≡ behind n (q x (drop n t))
unfolding ◌then◌ onward
then-onward p q t x n e = rw e

-- what is read behind n bytes ends where it ends,
pub end_later : {B : Type 0} (r : Parsed B) (at n : ℕ) → end_of at (behind n r) ≡ end_of (at + n) r
unfolding end_of behind
end_later (bad i) at n = refl
end_later (good y m) at n = ap Some (omega arith)

-- whatever is made of it
pub end-made : {B C : Type 0} (f : B → C) (r : Parsed B) (at : ℕ) → end_of at (onward r (λ y m. good (f y) m)) ≡ end_of at r
unfolding end_of onward
end-made f (bad i) at = refl
end-made f (good y m) at = refl

-- the second is read where the first ends
pub then-end : {A B : Type 0} (p : Reader A) (q : A → Reader B) (s : List ℕ) (at : ℕ) (x : A) (n : ℕ) → p (drop at s) ≡ good x n
    → end_of at ((p then q) (drop at s)) ≡ end_of (at + n) (q x (drop (at + n) s))
then-end p q s at x n e = ap (end_of at) (then-onward p q (drop at s) x n e) ∙ rw (drop-drop n at s) (end_later (q x (drop (at + n) s)) at n)

-- ── Numbers, blocks and short strings at a place ──

pub number-there : (w : ℕ) (s : List ℕ) (at : ℕ) → w ≤ 8 → at ≤ length s → w ≤ length s - at → number w (drop at s) ≡ good (read_at s at w) w
unfolding number read_at
number-there w s at h l k =
    let m : w ≤ length (drop at s) = simp length-drop k in
    rw (le-leb w (length (drop at s)) m, le-leb w 8 h, le-leb (at + w) (length s) (omega arith))

pub number_cut : (w : ℕ) (s : List ℕ) (at : ℕ) → length s - at < w → number w (drop at s) ≡ bad 0
unfolding number
number_cut w s at h =
    let m : length (drop at s) < w = simp length-drop h in
    rw (lt-leb w (length (drop at s)) m)

pub block-cut : (n : ℕ) (s : List ℕ) (at : ℕ) → length s - at < n → None ≡ end_of at (block n (drop at s))
unfolding block end_of
block-cut n s at h =
    let m : length (drop at s) < n = simp length-drop h in
    rw (lt-leb n (length (drop at s)) m)

pub block-whole : (n : ℕ) (s : List ℕ) (at : ℕ) → n ≤ length s - at → Some (at + n) ≡ end_of at (block n (drop at s))
unfolding block end_of
block-whole n s at h =
    let m : n ≤ length (drop at s) = simp length-drop h in
    rw (le-leb n (length (drop at s)) m)

-- ── What follows a name ──

-- what ended at a place was read
pub end-good : {A : Type 0} (p : Parsed A) (at next : ℕ) → end_of at p ≡ Some next → (x : A) × (n : ℕ) × (p ≡ good x n) × (next ≡ at + n)
unfolding end_of
end-good (bad i) at next e = let z : ◌≡◌ {A = ℕ} 0 1 = cc in absurd (omega arith)
end-good (good x n) at next e = (x, n, refl, cc)

pub end-bad : {A : Type 0} (p : Parsed A) (at : ℕ) → end_of at p ≡ None → (m : ℕ) × (p ≡ bad m)
unfolding end_of
end-bad (bad m) at e = (m, refl)
end-bad (good x n) at e = let z : ◌≡◌ {A = ℕ} 0 1 = cc in absurd (omega arith)

pub ruleset laws = (rules, block-cut, block-whole)
