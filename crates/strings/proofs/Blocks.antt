-- Blocks of bytes that are all of a class: one behind the other, and the last one over the one ahead of it.
-- Assumes nothing.
use Prim.Native.Nat.{ℕ, zero, suc, ◌+◌, ◌*◌, ◌-◌, ◌/◌, ◌<◌, ◌≤◌}
use native.Mathlib.Omega.{arith}
use mathlib.Core.Path.{◌≡◌, refl, ap, sym, ◌∙◌}
use mathlib.Core.Bool.{Bool, true, false, ◌&&◌}
use mathlib.Core.List.{List, [], ◌∷◌, ◌++◌}
use lib.ListN.{length, take, drop, get_or}
use lib.Seq.{drop-drop, take-add, get_or-take, get_or-drop}
use borrow.Author.Rules.{rules}
use borrow.Author.Tests.{not-true, not-false}
use Rattle.number.proofs.Bools.{and-false}
use Rattle.layout.specs.Recording.{every, is_tag_byte}
use Rattle.strings.specs.Strings.{in_class}
use Rattle.strings.specs.declared.Class.{Class}
use Rattle.strings.specs.declared.Class.TheVariants as class
use Rattle.strings.proofs.Laws.{every-cons}

-- ── Bools ──

and_assoc : (a b c : Bool) → ((a && b) && c) ≡ (a && (b && c))
and_assoc true b c = refl
and_assoc false b c = refl

and-end : (a : Bool) → (a && true) ≡ a
and-end true = refl
and-end false = refl

-- what is asked twice is asked once
and-over : (a b c : Bool) → ((a && b) && (b && c)) ≡ (a && (b && c))
and-over true true c = refl
and-over true false c = refl
and-over false b c = refl

-- ── Parts ──

every_append : (ok : ℕ → Bool) (a b : List ℕ) → every ok (a ++ b) ≡ (every ok a && every ok b)
unfolding every
every_append ok [] b = refl
every_append ok (x ∷ a) b = ap (λ (t : Bool). ok x && t) (every_append ok a b) ∙ sym (and_assoc (ok x) (every ok a) (every ok b))

-- bytes, and those behind them
every-add : (ok : ℕ → Bool) (s : List ℕ) (at n m : ℕ)
    → every ok (take (n + m) (drop at s)) ≡ (every ok (take n (drop at s)) && every ok (take m (drop (at + n) s)))
every-add ok s at n m = rw (take-add n m (drop at s), drop-drop n at s) (every_append ok (take n (drop at s)) (take m (drop (at + n) s)))

-- bytes whose last part goes over the first one
every-over : (ok : ℕ → Bool) (s : List ℕ) (at n first last : ℕ) → first ≤ n → last ≤ n → n ≤ first + last
    → (every ok (take first (drop at s)) && every ok (take last (drop (at + (n - last)) s))) ≡ every ok (take n (drop at s))
every-over ok s at n first last p q r =
    let a : first ≡ (n - last) + (first + last - n) = omega arith in
    let b : last ≡ (first + last - n) + (n - first) = omega arith in
    let c : n ≡ (n - last) + last = omega arith in
    let u = every-add ok s at (n - last) (first + last - n) in
    let v = every-add ok s (at + (n - last)) (first + last - n) (n - first) in
    let w = every-add ok s at (n - last) last in
    ap (λ (k : ℕ). every ok (take k (drop at s)) && every ok (take last (drop (at + (n - last)) s))) a
    ∙ ap (λ (t : Bool). t && every ok (take last (drop (at + (n - last)) s))) u
    ∙ ap (λ (t : Bool). (every ok (take (n - last) (drop at s)) && every ok (take (first + last - n) (drop (at + (n - last)) s))) && t)
    (ap (λ (k : ℕ). every ok (take k (drop (at + (n - last)) s))) b ∙ v)
    ∙ and-over (every ok (take (n - last) (drop at s))) (every ok (take (first + last - n) (drop (at + (n - last)) s)))
    (every ok (take (n - first) (drop (at + (n - last) + (first + last - n)) s)))
    ∙ ap (λ (t : Bool). every ok (take (n - last) (drop at s)) && t) (sym (ap (λ (k : ℕ). every ok (take k (drop (at + (n - last)) s))) b ∙ v))
    ∙ sym (ap (λ (k : ℕ). every ok (take k (drop at s))) c ∙ w)

-- ── Blocks ──

every_one : (ok : ℕ → Bool) (s : List ℕ) (at : ℕ) → at < length s → every ok (take 1 (drop at s)) ≡ ok (get_or s at 0)
unfolding every
every_one ok s at h = every-cons ok s at 1 (omega arith) h ∙ and-end (ok (get_or s at 0))

pub every-none : (ok : ℕ → Bool) → true ≡ every ok []
unfolding every
every-none ok = refl

-- one byte more of those of a part
pub one-more : (ok : ℕ → Bool) (s : List ℕ) (at n m : ℕ) (all r : Bool) → all ≡ every ok (take n (drop at s)) → n < m → at + n < length s
    → r ≡ ok (get_or (take m (drop at s)) n 0) → (all && r) ≡ every ok (take (n + 1) (drop at s))
one-more ok s at n m all r e l h f =
    let b : get_or (take m (drop at s)) n 0 ≡ get_or s (at + n) 0 = get_or-take m (drop at s) n 0 l ∙ get_or-drop at s n 0 in
    rw (e, f, b) (sym (every-add ok s at n 1 ∙ rw (every_one ok s (at + n) h)))

-- blocks ahead of a place, and one more
pub block-more : (ok : ℕ → Bool) (s : List ℕ) (at k : ℕ) (r : Bool) → true ≡ every ok (take (16 * k) (drop at s))
    → r ≡ every ok (take 16 (drop (at + 16 * k) s)) → r ≡ true → true ≡ every ok (take (16 * (k + 1)) (drop at s))
block-more ok s at k r e f g =
    let m : 16 * (k + 1) ≡ 16 * k + 16 = omega arith in
    rw (m, every-add ok s at (16 * k) 16, ← e, ← f, g)

pub block-stop : (ok : ℕ → Bool) (s : List ℕ) (at k n : ℕ) (r : Bool) → r ≡ every ok (take 16 (drop (at + 16 * k) s)) → r ≡ false → k < n
    → false ≡ every ok (take (16 * n) (drop at s))
block-stop ok s at k n r f g h =
    let m : 16 * n ≡ 16 * k + (16 + (16 * (n - (k + 1)))) = omega arith in
    rw (m, every-add ok s at (16 * k) (16 + (16 * (n - (k + 1)))), every-add ok s (at + 16 * k) 16 (16 * (n - (k + 1))), ← f, g) (sym (and-false (every ok (take (16 * k) (drop at s)))))

-- ── All bytes ──

pub few-none : (ok : ℕ → Bool) (s : List ℕ) (at n : ℕ) → n ≡ 0 → true ≡ every ok (take n (drop at s))
unfolding every
few-none ok s at n e = rw e

pub few_bytes : (ok : ℕ → Bool) (s : List ℕ) (at n : ℕ) (a b c : Bool) → n < 4 → (n ≡ 0 → ⊥) → at + n ≤ length s → a ≡ ok (get_or s at 0)
    → b ≡ ok (get_or s (at + n / 2) 0) → c ≡ ok (get_or s (at + (n - 1)) 0) → ((a && b) && c) ≡ every ok (take n (drop at s))
few_bytes ok s at zero a b c h z l e f g = absurd (z refl)
few_bytes ok s at (suc zero) a b c h z l e f g =
    let p : at + 0 ≡ at = omega arith in
    rw (e, rw p at f, rw p at g) (thrice (ok (get_or s at 0)) ∙ sym (every_one ok s at (omega arith)))
  where
    thrice : (x : Bool) → ((x && x) && x) ≡ x
    thrice true = refl
    thrice false = refl
few_bytes ok s at (suc (suc zero)) a b c h z l e f g =
    rw (e, f, g)
    (twice (ok (get_or s at 0)) (ok (get_or s (at + 1) 0))
    ∙ sym (every-add ok s at 1 1 ∙ rw (every_one ok s at (omega arith), every_one ok s (at + 1) (omega arith))))
  where
    twice : (x y : Bool) → ((x && y) && y) ≡ (x && y)
    twice true true = refl
    twice true false = refl
    twice false y = refl
few_bytes ok s at (suc (suc (suc zero))) a b c h z l e f g =
    rw (e, f, g)
    (sym (every-add ok s at 2 1
    ∙ rw (every-add ok s at 1 1, every_one ok s at (omega arith), every_one ok s (at + 1) (omega arith), every_one ok s (at + 2) (omega arith))))
few_bytes ok s at (suc (suc (suc (suc n)))) a b c h z l e f g = absurd (omega arith)

pub over-four : (ok : ℕ → Bool) (s : List ℕ) (at n : ℕ) (a b : Bool) → 4 ≤ n → n < 8 → a ≡ every ok (take 4 (drop at s))
    → b ≡ every ok (take 4 (drop (at + (n - 4)) s)) → (a && b) ≡ every ok (take n (drop at s))
over-four ok s at n a b p q e f = rw (e, f) (every-over ok s at n 4 4 p p (omega arith))

pub over-eight : (ok : ℕ → Bool) (s : List ℕ) (at n : ℕ) (a b : Bool) → 8 ≤ n → n < 16 → a ≡ every ok (take 8 (drop at s))
    → b ≡ every ok (take 8 (drop (at + (n - 8)) s)) → (a && b) ≡ every ok (take n (drop at s))
over-eight ok s at n a b p q e f = rw (e, f) (every-over ok s at n 8 8 p p (omega arith))

pub over-sixteen : (ok : ℕ → Bool) (s : List ℕ) (at n : ℕ) (a b : Bool) → 16 ≤ n → a ≡ every ok (take (16 * (n / 16)) (drop at s))
    → b ≡ every ok (take 16 (drop (at + (n - 16)) s)) → (a && b) ≡ every ok (take n (drop at s))
over-sixteen ok s at n a b p e f = rw (e, f) (every-over ok s at n (16 * (n / 16)) 16 (omega arith) p (omega arith))

-- tags have their own class
pub class-tags : (s : List ℕ) (at n : ℕ) (c : Class) (r : Bool) → c ≡ class.Tag → r ≡ every is_tag_byte (take n (drop at s))
    → r ≡ every (in_class c) (take n (drop at s))
unfolding in_class
class-tags s at n c r z e = rw z e

pub ruleset laws = (
  rules,
  class-tags,
  not-true,
  not-false,
  every-none,
  one-more,
  block-more,
  block-stop,
  few-none,
  few_bytes,
  over-four,
  over-eight,
  over-sixteen,
)
