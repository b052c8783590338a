-- "the first byte that breaks its rule": what stands ahead of the place at which a short string is refused is how some legal string begins.
-- Assumes nothing.
use Prim.Native.Nat.{ℕ, zero, suc, ◌-◌, ◌≤◌}
use native.Mathlib.Omega.{arith}
use mathlib.Core.Path.{◌≡◌, refl, sym, ◌∙◌}
use mathlib.Core.Bool.{Bool, true, false, ◌&&◌, cond}
use mathlib.Core.List.{List, [], ◌∷◌, ◌++◌}
use lib.ListN.{length, take, replicate, length-append, length-take, length-replicate}
use lib.Seq.{length-take-le, take-append-le, take-take}
use lib.Dec.{ltb}
use lib.Pow.{are_bytes}
use borrow.Author.Tests.{le-leb, ltb-true, ltb-false}
use Rattle.number.proofs.Bytes.{both_true}
use Rattle.layout.specs.Recording.{short_string, within, every, is_name_byte, is_tag_byte, legal_section_name, legal_tag_name, legal_tag_value}
use Rattle.layout.specs.Reading.{Parsed, bad, good, fault_at, placed, only, string, outside, string_fault, section_name, tag_name, tag_value}
use Rattle.layout.proofs.Lists.{every_append}

outside-few : (class : ℕ → Bool) (s : List ℕ) → outside class s ≤ length s
unfolding outside
outside-few class [] = omega arith
outside-few class (b ∷ s) = go (class b) (outside-few class s)
  where
    go : (c : Bool) → outside class s ≤ length s → cond c (suc (outside class s)) 0 ≤ suc (length s)
    go true h = omega arith
    go false h = omega arith

-- the bytes ahead of it are of the class
outside-ahead : (class : ℕ → Bool) (s : List ℕ) → every class (take (outside class s) s) ≡ true
unfolding outside every
outside-ahead class [] = refl
outside-ahead class (b ∷ s) = go (class b) refl (outside-ahead class s)
  where
    go : (c : Bool) → class b ≡ c → every class (take (outside class s) s) ≡ true → every class (take (cond c (suc (outside class s)) 0) (b ∷ s)) ≡ true
    go true e h = rw e h
    go false e h = refl

every-replicate : (class : ℕ → Bool) (w n : ℕ) → class w ≡ true → every class (replicate n w) ≡ true
unfolding every
every-replicate class w zero e = refl
every-replicate class w (suc n) e = rw e (every-replicate class w n e)

fault-is : {A : Type 0} (k m : ℕ) (x : Parsed A) → fault_at k x ≡ bad m → k ≡ m
unfolding fault_at
fault-is k m (bad j) e = cc
fault-is k m (good a n) e = let z : ◌≡◌ {A = ℕ} 0 1 = cc in absurd (omega arith)

first_byte : (n : ℕ) (s : List ℕ) → are_bytes (n ∷ s) ≡ true → n ≤ 255
first_byte n s h = let l = ltb-true n 256 (both_true (ltb n 256) (are_bytes s) h).0 in omega arith

-- over the least number of bytes, their class, and a byte of it
module _ (least w : ℕ) (class : ℕ → Bool) (few : least ≤ 255) (is : class w ≡ true) where
  abbrev ruled : List ℕ → Bool
  ruled v = within least 255 (length v) && every class v

  -- as many bytes as the length byte says: those ahead of the fault, and then others of the class
  abbrev filled_up : (n : ℕ) → List ℕ → List ℕ
  filled_up n s = take (outside class (take n s)) (take n s) ++ replicate (n - outside class (take n s)) w

  least-ruled : ruled (replicate least w) ≡ true
  unfolding within
  least-ruled = rw (length-replicate least w, le-leb least least (omega arith), le-leb least 255 few, every-replicate class w least is)

  length-filled : (n : ℕ) (s : List ℕ) → length (filled_up n s) ≡ n
  length-filled n s =
      let j : outside class (take n s) ≤ length (take n s) = outside-few class (take n s) in
      omega (
        arith,
        length-take n s,
        length-append (take (outside class (take n s)) (take n s)) (replicate (n - outside class (take n s)) w),
        length-take-le (outside class (take n s)) (take n s) j,
        length-replicate (n - outside class (take n s)) w,
      )

  filled-ruled : (n : ℕ) (s : List ℕ) → least ≤ n → n ≤ 255 → ruled (filled_up n s) ≡ true
  unfolding within
  filled-ruled n s l m =
      rw (
        length-filled n s,
        le-leb least n l,
        le-leb n 255 m,
        every_append class (take (outside class (take n s)) (take n s)) (replicate (n - outside class (take n s)) w),
        outside-ahead class (take n s),
        every-replicate class w (n - outside class (take n s)) is,
      )

  filled-ahead : (n : ℕ) (s : List ℕ) → take (outside class (take n s)) (filled_up n s) ≡ take (outside class (take n s)) s
  filled-ahead n s =
      let j : outside class (take n s) ≤ length (take n s) = outside-few class (take n s) in
      let k = length-take-le (outside class (take n s)) (take n s) j in
      take-append-le (outside class (take n s)) (take (outside class (take n s)) (take n s)) (replicate (n - outside class (take n s)) w) (omega arith)
      ∙ take-take (outside class (take n s)) (outside class (take n s)) (take n s) (omega arith)
      ∙ take-take (outside class (take n s)) n s (omega (arith, length-take n s))

  fault-ahead : (s : List ℕ) → are_bytes s ≡ true
      → (v : List ℕ) × (ruled v ≡ true) × (take (string_fault least class s) (short_string v) ≡ take (string_fault least class s) s)
  unfolding string_fault short_string
  fault-ahead [] b = (replicate least w, least-ruled, refl)
  fault-ahead (n ∷ s) b = go (ltb n least) refl
    where
      go : (t : Bool) → ltb n least ≡ t → (v : List ℕ) × (ruled v ≡ true) × (take (cond t 0 (suc (outside class (take n s)))) (length v ∷ v)
          ≡ take (cond t 0 (suc (outside class (take n s)))) (n ∷ s))
      go true e = (replicate least w, least-ruled, refl)
      go false e = (filled_up n s, filled-ruled n s (ltb-false n least e) (first_byte n s b), rw (length-filled n s, filled-ahead n s))

  -- a string that is refused begins, up to the place that is answered, as a legal one does
  begins-legal : (legal : List ℕ → Bool) (s : List ℕ) (m : ℕ) → are_bytes s ≡ true → placed (string_fault least class) (only legal string) s ≡ bad m
      → (v : List ℕ) × (ruled v ≡ true) × (take m (short_string v) ≡ take m s)
  unfolding placed
  begins-legal legal s m b e = rw (sym (fault-is (string_fault least class s) m (only legal string s) e)) (fault-ahead s b)

-- ── The three kinds of short strings ──

pub section-name-begins : (s : List ℕ) (m : ℕ) → are_bytes s ≡ true → section_name s ≡ bad m
    → (v : List ℕ) × (legal_section_name v ≡ true) × (take m (short_string v) ≡ take m s)
unfolding section_name legal_section_name is_name_byte
section-name-begins = begins-legal 1 65 is_name_byte (omega arith) refl legal_section_name

pub tag-name-begins : (s : List ℕ) (m : ℕ) → are_bytes s ≡ true → tag_name s ≡ bad m → (v : List ℕ) × (legal_tag_name v ≡ true) × (take m (short_string v) ≡ take m s)
unfolding tag_name legal_tag_name is_tag_byte
tag-name-begins = begins-legal 1 32 is_tag_byte (omega arith) refl legal_tag_name

pub tag-value-begins : (s : List ℕ) (m : ℕ) → are_bytes s ≡ true → tag_value s ≡ bad m → (v : List ℕ) × (legal_tag_value v ≡ true) × (take m (short_string v) ≡ take m s)
unfolding tag_value legal_tag_value is_tag_byte
tag-value-begins = begins-legal 0 32 is_tag_byte (omega arith) refl legal_tag_value
