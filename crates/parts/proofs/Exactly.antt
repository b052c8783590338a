-- Where nothing may follow: whether what stands from the start is all, by where it ends.
-- Assumes nothing.
use Rattle.std.specs.Prelude.{Option, Some, None}
use Prim.Native.Nat.{ℕ, ◌+◌}
use native.Mathlib.Omega.{arith}
use mathlib.Core.Path.{◌≡◌, refl, sym, ◌∙◌}
use mathlib.Core.Bool.{Bool, true, false, not, cond}
use mathlib.Core.List.{List}
use lib.ListN.{length, drop}
use lib.Dec.{eqb}
use borrow.Author.Tests.{eq-eqb, ne_eqb}
use Rattle.layout.specs.Reading.{Parsed, bad, good, Reader, onward, exactly, is_bad}
use Rattle.parts.specs.Parts.{end_of}

end-broken : {A : Type 0} (x : Parsed A) (n : ℕ) → None ≡ end_of 0 x → is_bad (onward x (λ a m. cond (eqb m n) (good a m) (bad m))) ≡ true
unfolding end_of onward
end-broken (bad i) n e = refl
end-broken (good a m) n e = let z : ◌≡◌ {A = ℕ} 0 1 = cc in absurd (omega arith)

end_whole : {A : Type 0} (x : Parsed A) (n q : ℕ) → Some q ≡ end_of 0 x → is_bad (onward x (λ a m. cond (eqb m n) (good a m) (bad m))) ≡ not (eqb q n)
unfolding end_of onward
end_whole (bad i) n q e = let z : ◌≡◌ {A = ℕ} 0 1 = cc in absurd (omega arith)
end_whole {A} (good a m) n q e =
    let f : q ≡ 0 + m = cc in
    let g : q ≡ m = omega arith in
    rw g (go (eqb m n))
  where
    go : (b : Bool) → is_bad (cond b (good a m) (bad m)) ≡ not b
    go true = refl
    go false = refl

pub ends-broken : {A : Type 0} (p : Reader A) (s : List ℕ) (x : Option ℕ) → x ≡ end_of 0 (p (drop 0 s)) → x ≡ None → true ≡ is_bad (exactly p s)
unfolding exactly
ends-broken p s x e h = sym (end-broken (p s) (length s) (sym h ∙ e))

pub ends-exact : {A : Type 0} (p : Reader A) (s : List ℕ) (x : Option ℕ) (q : ℕ) → x ≡ end_of 0 (p (drop 0 s)) → x ≡ Some q → q ≡ length s
    → false ≡ is_bad (exactly p s)
unfolding exactly
ends-exact p s x q e h l = sym (end_whole (p s) (length s) q (sym h ∙ e) ∙ rw (eq-eqb q (length s) l))

pub ends-other : {A : Type 0} (p : Reader A) (s : List ℕ) (x : Option ℕ) (q : ℕ) → x ≡ end_of 0 (p (drop 0 s)) → x ≡ Some q → (q ≡ length s → ⊥)
    → true ≡ is_bad (exactly p s)
unfolding exactly
ends-other p s x q e h l = sym (end_whole (p s) (length s) q (sym h ∙ e) ∙ rw (ne_eqb q (length s) l))
