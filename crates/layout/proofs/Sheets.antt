-- What a well-formed sheet holds: legal changes, of distinct names.
-- Assumes nothing.
use Prim.Native.Nat.{ℕ, zero, suc, ◌+◌}
use native.Mathlib.Omega.{arith}
use mathlib.Core.Path.{◌≡◌, refl}
use mathlib.Core.Bool.{Bool, true, false, cond}
use mathlib.Core.List.{List, [], ◌∷◌}
use lib.ListN.{drop}
use lib.Dec.{eqb}
use Rattle.number.proofs.Bytes.{and-true}
use Rattle.layout.specs.Recording.{every, distinct, legal_tag_name, legal_tag_value}
use Rattle.layout.specs.Reading.{Parsed, bad, good, Reader, ◌then◌, only, placed, give, exactly, times, tag_name, tag_value, is_bad, value_or}
use Rattle.layout.specs.Saving.{absent, holds, Change, entry_of, entry_part, change_with, change_names, sheet_fault, sheet_with, sheet, changes_of}
use Rattle.layout.proofs.Readers.{onward-good, cond-good, then-good, times-suc-good, exactly-good, placed-good}
use Rattle.layout.proofs.Applied.{legal_entry, legal_change}

-- ── What a reader gives passes a test ──

abbrev pub Gives : {A : Type 0} → (A → Bool) → Reader A → Type 0
Gives {A} ok p = (s : List ℕ) (x : A) (n : ℕ) → p s ≡ good x n → ok x ≡ true

pub any-gives : {A : Type 0} (p : Reader A) → Gives (λ x. true) p
any-gives p s x n e = refl

pub give-gives : {A : Type 0} (ok : A → Bool) (a : A) → ok a ≡ true → Gives ok (give a)
unfolding give
give-gives ok a h s x n e = let y : a ≡ x = cc in rw (← y) h

pub only-good : {A : Type 0} (test : A → Bool) (p : Reader A) (s : List ℕ) (x : A) (n : ℕ) → only test p s ≡ good x n → (test x ≡ true) × (p s ≡ good x n)
unfolding only
only-good {A} test p s x n e = outer (onward-good (p s) (λ a m. cond (test a) (good a m) (bad 0)) x n e)
  where
    inner : (a : A) (m : ℕ) → p s ≡ good a m → ((test a ≡ true) × (a ≡ x) × (m ≡ n)) → (test x ≡ true) × (p s ≡ good x n)
    inner a m q (t, f, g) = (cc, cc)

    outer : ((a : A) × (m : ℕ) × (p s ≡ good a m) × (cond (test a) (good a m) (bad 0) ≡ good x n)) → (test x ≡ true) × (p s ≡ good x n)
    outer (a, m, q, c) = inner a m q (cond-good 0 (test a) a x m n c)

pub only-gives : {A : Type 0} (test : A → Bool) (p : Reader A) → Gives test (only test p)
only-gives test p s x n e = (only-good test p s x n e).0

placed-gives : {A : Type 0} (ok : A → Bool) (at : List ℕ → ℕ) (p : Reader A) → Gives ok p → Gives ok (placed at p)
placed-gives ok at p g s x n e = g s x n (placed-good at p s x n e)

pub then-gives : {A B : Type 0} (first : A → Bool) (ok : B → Bool) (p : Reader A) (next : A → Reader B) → Gives first p → ((a : A) → first a ≡ true → Gives ok (next a)) → Gives ok (p then next)
then-gives {A} {B} first ok p next g h s x n e = go (then-good p next s x n e)
  where
    go : ((a : A) × (k : ℕ) × (m : ℕ) × (p s ≡ good a k) × (next a (drop k s) ≡ good x m) × (n ≡ k + m)) → ok x ≡ true
    go (a, k, m, q, r, f) = h a (g s a k q) (drop k s) x m r

pub times-gives : {A : Type 0} (ok : A → Bool) (p : Reader A) → Gives ok p → (k : ℕ) → Gives (every ok) (times k p)
unfolding times every
times-gives ok p g zero s ys n e = let y : [] ≡ ys = cc in rw (← y)
times-gives {A} ok p g (suc k) s ys n e = go (times-suc-good p k s ys n e) (times-gives ok p g k)
  where
    go : ((x : A) × (xs : List A) × (i : ℕ) × (m : ℕ) × (p s ≡ good x i) × (times k p (drop i s) ≡ good xs m) × (x ∷ xs ≡ ys) × (i + m ≡ n)) → Gives (every ok) (times k p) → every ok ys ≡ true
    go (x, xs, i, m, q, r, y, f) ih = rw (← y) (and-true (ok x) (every ok xs) (g s x i q) (ih (drop i s) xs m r))

-- ── A sheet ──

entry_gives : (kind : ℕ) → Gives legal_entry (entry_of kind)
unfolding entry_of tag_value legal_entry
entry_gives kind = go (eqb kind 1)
  where
    go : (b : Bool) → Gives legal_entry (cond b (tag_value then λ v. give (holds v)) (give absent))
    go false = give-gives legal_entry absent refl
    go true = then-gives legal_tag_value legal_entry _ _ (placed-gives legal_tag_value _ _ (only-gives legal_tag_value _)) (λ v h. give-gives legal_entry (holds v) h)

change-gives : Gives legal_change (change_with entry_part)
unfolding change_with legal_change tag_name entry_part
change-gives =
    then-gives legal_tag_name legal_change _ _ (placed-gives legal_tag_name _ _ (only-gives legal_tag_name _)) (λ m h.
    then-gives (λ x. true) legal_change _ _ (any-gives _) (λ s t.
    then-gives legal_entry legal_change _ _ (then-gives (λ x. true) legal_entry _ _ (any-gives _) (λ kind t. entry_gives kind)) (λ e i.
    give-gives legal_change _ (and-true (legal_tag_name m) (legal_entry e) h i))))

-- the changes of a well-formed sheet are legal and of distinct names
pub sheet-legal : (bytes : List ℕ) → is_bad (exactly sheet bytes) ≡ false → (every legal_change (changes_of bytes) ≡ true) × (distinct (change_names (changes_of bytes)) ≡ true)
unfolding changes_of sheet sheet_with value_or
sheet-legal bytes h = go (exactly sheet bytes) refl h
  where
    go : (p : Parsed (List Change)) → exactly sheet bytes ≡ p → is_bad p ≡ false → (every legal_change (value_or [] p) ≡ true) × (distinct (change_names (value_or [] p)) ≡ true)
    go (bad m) e b = let z : ◌≡◌ {A = ℕ} 0 1 = cc in absurd (omega arith)
    go (good cs n) e b =
        let o = only-good (λ ds. distinct (change_names ds)) _ bytes cs n (placed-good (sheet_fault entry_part) _ bytes cs n (exactly-good sheet bytes cs n e).0) in
        (then-gives (λ x. true) (every legal_change) _ _ (any-gives _) (λ k t. times-gives legal_change (change_with entry_part) change-gives k) bytes cs n o.1, o.0)
