-- What is refused with a number of document 01's, and beside it a place where that number has one, is refused with one of document 01's refusals.
-- Assumes nothing.
use Prim.Native.Nat.{ℕ, zero, suc, ◌≤◌}
use native.Mathlib.Omega.{arith}
use mathlib.Core.Path.{◌≡◌, refl, sym, ap, ◌∙◌}
use mathlib.Core.Bool.{Bool, true}
use Rattle.std.specs.Prelude.{Option, Some, None, Result, Ok, Err, ⊤}
use Rattle.refusal.specs.declared.Refusal.{Refusal}
use Rattle.refusal.specs.Refusal.{placed, unless}
use Rattle.listed.specs.Listed.{is_listed, OnlyListed}
use Rattle.listed.proofs.Numbers.{Bare}

pub placed-listed : (p : ℕ → ℕ) → Bare p → (n : ℕ) → 1 ≤ n → n ≤ 17 → is_listed (placed n (p n)) ≡ true
placed-listed p b zero l h = absurd (omega arith)
placed-listed p b (suc zero) l h = rw (b.1)
placed-listed p b (suc (suc zero)) l h = rw (b.2)
placed-listed p b (suc (suc (suc zero))) l h = refl
placed-listed p b (suc (suc (suc (suc zero)))) l h = refl
placed-listed p b (suc (suc (suc (suc (suc zero))))) l h = rw (b.3)
placed-listed p b (suc (suc (suc (suc (suc (suc zero)))))) l h = rw (b.4)
placed-listed p b (suc (suc (suc (suc (suc (suc (suc zero))))))) l h = refl
placed-listed p b (suc (suc (suc (suc (suc (suc (suc (suc zero)))))))) l h = rw (b.5)
placed-listed p b (suc (suc (suc (suc (suc (suc (suc (suc (suc zero))))))))) l h = rw (b.6)
placed-listed p b (suc (suc (suc (suc (suc (suc (suc (suc (suc (suc zero)))))))))) l h = refl
placed-listed p b (suc (suc (suc (suc (suc (suc (suc (suc (suc (suc (suc zero))))))))))) l h = refl
placed-listed p b (suc (suc (suc (suc (suc (suc (suc (suc (suc (suc (suc (suc zero)))))))))))) l h = rw (b.7)
placed-listed p b (suc (suc (suc (suc (suc (suc (suc (suc (suc (suc (suc (suc (suc zero))))))))))))) l h = rw (b.8)
placed-listed p b (suc (suc (suc (suc (suc (suc (suc (suc (suc (suc (suc (suc (suc (suc zero)))))))))))))) l h = rw (b.9)
placed-listed p b (suc (suc (suc (suc (suc (suc (suc (suc (suc (suc (suc (suc (suc (suc (suc zero))))))))))))))) l h = rw (b.10)
placed-listed p b (suc (suc (suc (suc (suc (suc (suc (suc (suc (suc (suc (suc (suc (suc (suc (suc zero)))))))))))))))) l h = rw (b.11)
placed-listed p b (suc (suc (suc (suc (suc (suc (suc (suc (suc (suc (suc (suc (suc (suc (suc (suc (suc zero))))))))))))))))) l h = rw (b.12)
placed-listed p b (suc (suc (suc (suc (suc (suc (suc (suc (suc (suc (suc (suc (suc (suc (suc (suc (suc (suc n)))))))))))))))))) l h = absurd (omega arith)

-- the same by cases: what is not refused, and what is refused so
abbrev pub lists : {A : Type 0} → Result A Refusal → Bool
lists (Ok x) = true
lists (Err r) = is_listed r

pub only-listed : {A : Type 0} (a : Result A Refusal) → lists a ≡ true → OnlyListed a
only-listed a l r e = sym (ap lists e) ∙ l

-- what is refused by numbers is refused by one of document 01's
pub numbered-listed : {A : Type 0} (p : ℕ → ℕ) → Bare p → (a : ℕ → Result A Refusal) → lists (a 0) ≡ true
    → ((k : ℕ) → a (suc k) ≡ Err (placed (suc k) (p (suc k)))) → (n : ℕ) → n ≤ 17 → OnlyListed (a n)
numbered-listed p b a z s zero h = only-listed (a 0) z
numbered-listed p b a z s (suc k) h = only-listed (a (suc k)) (ap lists (s k) ∙ placed-listed p b (suc k) (omega arith) h)

pub refused-listed : {A : Type 0} (p : ℕ → ℕ) → Bare p → (n : ℕ) → n ≤ 17 → (x : A) (r : Refusal) → unless n (p n) x ≡ Err r → is_listed r ≡ true
unfolding unless
refused-listed p b n h x = numbered-listed p b (λ m. unless m (p m) x) refl (λ k. refl) n h

-- a refusal that may be there, as an answer
abbrev pub may_be : Option Refusal → Result ⊤ Refusal
may_be None = Ok tt
may_be (Some r) = Err r

pub there-listed : (o : Option Refusal) → OnlyListed (may_be o) → (r : Refusal) → o ≡ Some r → is_listed r ≡ true
there-listed o l r e = l r (ap may_be e)

-- what hands on the refusal that an answer has
pub handed-listed : {A : Type 0} (refusal : Result A Refusal → Option Refusal) → ((x : A) → refusal (Ok x) ≡ None)
    → ((q : Refusal) → refusal (Err q) ≡ Some q) → (a : Result A Refusal) → OnlyListed a → (r : Refusal) → refusal a ≡ Some r → is_listed r ≡ true
handed-listed refusal none some (Ok x) l = there-listed (refusal (Ok x)) (only-listed _ (ap (λ o. lists (may_be o)) (none x)))
handed-listed refusal none some (Err q) l = there-listed (refusal (Err q)) (only-listed _ (ap (λ o. lists (may_be o)) (some q) ∙ l q refl))
