-- Lines 1 and 2, and the number of sections: what their functions leave to be shown.
-- Assumes nothing.
use Prim.Native.Nat.{ℕ, ◌+◌, ◌<◌, ◌≤◌}
use native.Mathlib.Omega.{arith}
use mathlib.Core.Path.{◌≡◌, refl, ap, sym, ◌∙◌}
use mathlib.Core.Bool.{Bool, true, false, not, ◌&&◌, cond}
use mathlib.Core.List.{List}
use lib.ListN.{length, take, drop, get_or, get_or-eq_default}
use lib.Seq.{drop-cons, length-take-le}
use lib.Dec.{leb}
use lib.Pow.{are_bytes}
use borrow.Author.Rules.{rules}
use borrow.Author.Tests.{lt-leb, lt-ltb, le-ltb, eq-eqb, ne_eqb, leb-true, leb-false}
use mir.Syntax.{w8}
use mir.Val.{Fits}
use Rattle.number.specs.Number.{bytes_of, number_of, read_at}
use Rattle.number.proofs.Bytes.{bytes_of-number_of, slice-bytes}
use Rattle.number.proofs.Laws.{read_is}
use Rattle.std.specs.Prelude.{Option, Some, None}
use Rattle.number.proofs.Bytes.{both_true}
use Rattle.layout.specs.Recording.{file_mark, same, most_sections, within}
use Rattle.layout.specs.Reading.{Parsed, bad, good, number, number_of_sections}
use Rattle.layout.proofs.Readers.{number-good}
use Rattle.strings.proofs.Laws.{inside, above}
use Rattle.parts.proofs.Readers.{only-bad, only-pass, only-fail, number_cut}
use Rattle.parts.proofs.Taken.{only_parts}
use Rattle.parts.proofs.Taken.{number_read as number_at}
use Rattle.front.specs.Front.{number_read, section_count}
use Rattle.layout.specs.Opening.{not_fstf, other_revision}
use Rattle.layout.proofs.Lists.{same_refl, same_true, bytes_take}

-- ── 1, 2 ──

pub fstf-short : (f : List ℕ) → length f < 34 → true ≡ not_fstf f
unfolding not_fstf
fstf-short f h = rw (lt-ltb (length f) 34 h)

-- four bytes are the mark's exactly when their number is its number
mark-number : (f : List ℕ) → 4 ≤ length f → are_bytes f ≡ true → number_of (take 4 f) ≡ 0x46545346 → take 4 f ≡ file_mark
unfolding file_mark bytes_of
mark-number f h b e =
    let l : length (take 4 f) ≡ 4 = length-take-le 4 f h in
    sym (bytes_of-number_of (take 4 f) (bytes_take 4 f b)) ∙ rw (l, e)

number-mark : number_of file_mark ≡ 0x46545346
unfolding file_mark number_of
number-mark = refl

pub fstf-mark : (f : List ℕ) (n : ℕ) → ((i : ℕ) → Fits w8 (get_or f i 0)) → 34 ≤ length f → n ≡ read_at f 0 4 → n ≡ 0x46545346 → false ≡ not_fstf f
unfolding not_fstf
fstf-mark f n b h p e =
    let q : number_of (take 4 f) ≡ 0x46545346 = sym (read_is f 0 4 (omega arith) (omega arith)) ∙ sym p ∙ e in
    rw (le-ltb (length f) 34 h, mark-number f (omega arith) (slice-bytes f b) q, same_refl)

pub fstf-other : (f : List ℕ) (n : ℕ) → 34 ≤ length f → n ≡ read_at f 0 4 → (n ≡ 0x46545346 → ⊥) → true ≡ not_fstf f
unfolding not_fstf
fstf-other f n h p e = rw (le-ltb (length f) 34 h) (go (same (take 4 f) file_mark) refl)
  where
    go : (b : Bool) → same (take 4 f) file_mark ≡ b → true ≡ not b
    go false q = refl
    go true q = absurd (e (p ∙ read_is f 0 4 (omega arith) (omega arith) ∙ ap number_of (same_true (take 4 f) file_mark q) ∙ number-mark))

-- a number of one byte is that byte, also where there is none
read_one : (f : List ℕ) (at : ℕ) → read_at f at 1 ≡ get_or f at 0
unfolding read_at number_of
read_one f at = go (leb (at + 1) (length f)) refl
  where
    go : (b : Bool) → leb (at + 1) (length f) ≡ b → cond (leb 1 8 && b) (number_of (take 1 (drop at f))) 0 ≡ get_or f at 0
    go true e = rw (drop-cons f at 0 (omega (arith, leb-true (at + 1) (length f) e))) (omega arith)
    go false e = sym (get_or-eq_default f 0 {n = at} (omega (arith, leb-false (at + 1) (length f) e)))

pub revision-one : (f : List ℕ) (n : ℕ) → n ≡ read_at f 4 1 → n ≡ 1 → false ≡ other_revision f
unfolding other_revision
revision-one f n p e = rw (eq-eqb (get_or f 4 0) 1 (sym (read_one f 4) ∙ sym p ∙ e))

pub revision-other : (f : List ℕ) (n : ℕ) → n ≡ read_at f 4 1 → (n ≡ 1 → ⊥) → true ≡ other_revision f
unfolding other_revision
revision-other f n p e = rw (ne_eqb (get_or f 4 0) 1 (λ q. e (p ∙ read_one f 4 ∙ q)))

-- ── The number of sections ──

count-not : (f : List ℕ) {m : ℕ} → number_of_sections (drop 33 f) ≡ bad m → None ≡ section_count f
unfolding section_count number_read
count-not f e = rw e

pub count-short : (f : List ℕ) → length f ≤ 33 → None ≡ section_count f
unfolding number_of_sections
count-short f h = count-not f (only-bad (within 1 most_sections) (number 1) (drop 33 f) (number_cut 1 f 33 (omega arith)))

module _ (f : List ℕ) (n : ℕ) (h : 33 < length f) (p : n ≡ read_at f 33 1) where
  there : number 1 (drop 33 f) ≡ good n 1
  there = rw p (number_at f 33 1 (omega arith) (omega arith))

  pub count-none : n < 1 → None ≡ section_count f
  unfolding number_of_sections
  count-none l = count-not f (only-fail (within 1 most_sections) (number 1) (drop 33 f) n 1 there (rw (lt-leb 1 n l)))

  pub count-many : 1 ≤ n → 8 < n → None ≡ section_count f
  unfolding number_of_sections
  count-many k l = count-not f (only-fail (within 1 most_sections) (number 1) (drop 33 f) n 1 there (above 1 8 n k l))

  pub count-whole : 1 ≤ n → n ≤ 8 → Some n ≡ section_count f
  unfolding number_of_sections section_count number_read
  count-whole k l = rw (only-pass (within 1 most_sections) (number 1) (drop 33 f) n 1 there (inside 1 8 n k l))

-- a number of sections that was read is one byte, and not zero
pub number-read-of : (f : List ℕ) (k i : ℕ) → number_of_sections (drop 33 f) ≡ good k i → (i ≡ 1) × (1 ≤ k)
unfolding number_of_sections
number-read-of f k i e =
    let (g, h) = only_parts (within 1 most_sections) (number 1) (drop 33 f) k i e in
    let (l, p, q) = number-good 1 (drop 33 f) k i g in
    (sym q, leb-true 1 k (both_true (leb 1 k) (leb k 8) h).0)

module _ (f : List ℕ) (t : Option ℕ) (e : t ≡ section_count f) where
  pub count-bad : t ≡ None → (m : ℕ) × (number_of_sections (drop 33 f) ≡ bad m)
  unfolding section_count number_read
  count-bad g = go (number_of_sections (drop 33 f)) refl (sym e ∙ g)
    where
      go : (p : Parsed ℕ) → number_of_sections (drop 33 f) ≡ p → number_read p ≡ None → (m : ℕ) × (number_of_sections (drop 33 f) ≡ bad m)
      go (bad m) q r = (m, q)
      go (good k i) q r = let z : ◌≡◌ {A = ℕ} 0 1 = cc in absurd (omega arith)

  pub count-good : (n : ℕ) → t ≡ Some n → (number_of_sections (drop 33 f) ≡ good n 1) × (1 ≤ n)
  unfolding section_count number_read
  count-good n g = go (number_of_sections (drop 33 f)) refl (sym e ∙ g)
    where
      go : (p : Parsed ℕ) → number_of_sections (drop 33 f) ≡ p → number_read p ≡ Some n → (number_of_sections (drop 33 f) ≡ good n 1) × (1 ≤ n)
      go (bad m) q r = let z : ◌≡◌ {A = ℕ} 0 1 = cc in absurd (omega arith)
      go (good k i) q r =
          let j : k ≡ n = cc in
          let (a, b) = number-read-of f k i q in
          (q ∙ ap (λ (x : ℕ). good x i) j ∙ ap (good n) a, omega arith)

  pub count-one : (n : ℕ) → t ≡ Some n → 1 ≤ n
  count-one n g = (count-good n g).1

pub ruleset laws = (
  rules,
  fstf-short,
  fstf-mark,
  fstf-other,
  revision-one,
  revision-other,
  count-short,
  count-none,
  count-many,
  count-whole,
  count-one,
)
