-- What the functions over card blocks answer.
-- Assumes nothing.
use Rattle.std.specs.Prelude.{Option, Some, None}
use Prim.Native.Nat.{ℕ, zero, suc, ◌+◌, ◌-◌, ◌%◌, ◌^◌, ◌<◌, ◌≤◌}
use native.Mathlib.Omega.{arith}
use native.Mathlib.Nat.{add-zero}
use mathlib.Core.Path.{◌≡◌, refl, ap, sym, ◌∙◌, subst}
use mathlib.Core.Bool.{Bool, true, false, ◌&&◌, cond}
use mathlib.Core.Logic.{◌⊎◌, inl, inr}
use mathlib.Core.List.{List, [], ◌∷◌, ◌++◌}
use lib.ListN.{length, take, drop, replicate, get_or, length-drop}
use lib.Seq.{drop-drop, take-add, get_or-drop}
use lib.Dec.{leb, eqb}
use borrow.Author.Rules.{rules}
use borrow.Author.Tests.{leb-true, eqb-true, eq-eqb, ne_eqb}
use mir.Syntax.{w8}
use mir.Val.{Fits}
use Rattle.number.specs.Number.{bytes_of, has, read_at}
use Rattle.number.proofs.Bytes.{both_true, slice-bytes, part-long}
use Rattle.number.proofs.Bools.{and-false}
use Rattle.number.proofs.Laws.{read_is}
use Rattle.layout.specs.Recording.{same}
use Rattle.layout.proofs.Lists.{same_true, decided, le-or-lt, bytes_drop}
use Rattle.parts.specs.Parts.{same_part}
use Rattle.parts.proofs.Laws.{there, not_there}
use Rattle.parts.proofs.Same.{same-append, same_number}
use Rattle.blocks.specs.Blocks.{align_name, block_of, legal_align, gap, gap_by, zeros_at, start_behind, start_at, is_align_name, block_at}

-- ── Alignments ──

-- the gap of an alignment that there is, is the layout's
pub gap_is : (a at : ℕ) → legal_align a ≡ true → gap_by a at ≡ gap a at
unfolding gap_by legal_align gap
gap_is a at h = go (decided (eqb a 1)) (decided (eqb a 512)) (decided (eqb a 4096))
  where
    go : (eqb a 1 ≡ true) ⊎ (eqb a 1 ≡ false) → (eqb a 512 ≡ true) ⊎ (eqb a 512 ≡ false) → (eqb a 4096 ≡ true) ⊎ (eqb a 4096 ≡ false) → gap_by a at ≡ gap a at
    go (inl p) q r = rw (eqb-true a 1 p) (omega arith)
    go (inr p) (inl q) r = rw (eqb-true a 512 q)
    go (inr p) (inr q) (inl r) = rw (eqb-true a 4096 r)
    go (inr p) (inr q) (inr r) = let z : ◌≡◌ {A = Bool} false true = rw (p, q, r) at h in let y : ◌≡◌ {A = ℕ} 0 1 = cc in absurd (omega arith)

pub gap-few : (a at : ℕ) → gap_by a at < 4096
unfolding gap_by gap
gap-few a at = go (eqb a 512) (eqb a 4096)
  where
    go : (b c : Bool) → cond b ((512 - at % 512) % 512) (cond c ((4096 - at % 4096) % 4096) 0) < 4096
    go true c = omega arith
    go false true = omega arith
    go false false = omega arith

-- ── Zeros ──

-- a run of bytes begins with one that is no zero
not_zeros : (n : ℕ) (t : List ℕ) → 0 < n → n ≤ length t → (get_or t 0 0 ≡ 0 → ⊥) → same (replicate n 0) (take n t) ≡ false
unfolding same
not_zeros zero t h l d = absurd (omega arith)
not_zeros (suc n) [] h l d = absurd (omega arith)
not_zeros (suc n) (x ∷ t) h l d = rw (ne_eqb 0 x (λ e. d (sym e)))

-- a run that begins with a zero is of zeros where each byte is as the one ahead of it
zero-run : (n : ℕ) (t : List ℕ) → n < length t → get_or t 0 0 ≡ 0 → same (take n t) (take n (drop 1 t)) ≡ same (replicate (suc n) 0) (take (suc n) t)
unfolding same
zero-run n [] l e = absurd (omega arith)
zero-run zero (x ∷ t) l e = rw (eq-eqb 0 x (sym e))
zero-run (suc n) (x ∷ []) l e = absurd (omega arith)
zero-run (suc n) (x ∷ y ∷ t) l e = go (decided (eqb 0 y)) (λ z. zero-run n (y ∷ t) (omega arith) z)
  where
    left : eqb x y ≡ eqb 0 y
    left = ap (λ (k : ℕ). eqb k y) e

    go : (eqb 0 y ≡ true) ⊎ (eqb 0 y ≡ false)
        → (y ≡ 0 → same (take n (y ∷ t)) (take n t) ≡ same (replicate (suc n) 0) (take (suc n) (y ∷ t)))
        → same (take (suc n) (x ∷ y ∷ t)) (take (suc n) (y ∷ t)) ≡ same (replicate (suc (suc n)) 0) (take (suc (suc n)) (x ∷ y ∷ t))
    go (inl q) i = rw (left, q, eq-eqb 0 x (sym e)) (rw q at (i (sym (eqb-true 0 y q))))
    go (inr q) i = rw (left, q, eq-eqb 0 x (sym e))

pub zeros-other : (s : List ℕ) (at n : ℕ) → n ≤ length s → at ≤ length s - n → (n ≡ 0 → ⊥) → (get_or s at 0 ≡ 0 → ⊥) → false ≡ zeros_at s at n
unfolding zeros_at
zeros-other s at n h k p d =
    let g : get_or (drop at s) 0 0 ≡ get_or s at 0 = get_or-drop at s 0 0 ∙ ap (λ (i : ℕ). get_or s i 0) (add-zero at) in
    rw (there s at n (omega arith), not_zeros n (drop at s) (omega arith) (omega (arith, length-drop at s)) (λ e. d (sym g ∙ e)))

pub zeros-run : (s : List ℕ) (at n : ℕ) (r : Bool) → n ≤ length s → at ≤ length s - n → (n ≡ 0 → ⊥) → get_or s at 0 ≡ 0
    → r ≡ same_part s at s (at + 1) (n - 1) → r ≡ zeros_at s at n
unfolding zeros_at same_part
zeros-run s at n r h k p d e =
    let g : get_or (drop at s) 0 0 ≡ get_or s at 0 = get_or-drop at s 0 0 ∙ ap (λ (i : ℕ). get_or s i 0) (add-zero at) in
    let m : suc (n - 1) ≡ n = omega arith in
    let z = zero-run (n - 1) (drop at s) (omega (arith, length-drop at s)) (g ∙ d) in
    let w : drop 1 (drop at s) ≡ drop (at + 1) s = drop-drop 1 at s in
    let x : same (take (n - 1) (drop at s)) (take (n - 1) (drop 1 (drop at s))) ≡ same (replicate n 0) (take n (drop at s)) =
    subst (λ (k : ℕ). same (take (n - 1) (drop at s)) (take (n - 1) (drop 1 (drop at s))) ≡ same (replicate k 0) (take k (drop at s))) m z in
    let y : same (take (n - 1) (drop at s)) (take (n - 1) (drop (at + 1) s)) ≡ same (replicate n 0) (take n (drop at s)) = rw w at x in
    e ∙ rw (there s at (n - 1) (omega arith), there s (at + 1) (n - 1) (omega arith), there s at n (omega arith), y)

-- ── Where a frame may start ──

-- zeros that stand there
pub zeros-parts : (s : List ℕ) (at n : ℕ) → zeros_at s at n ≡ true → (at + n ≤ length s) × (same (replicate n 0) (take n (drop at s)) ≡ true)
unfolding zeros_at
zeros-parts s at n e =
    let b = both_true (has s at n) (same (replicate n 0) (take n (drop at s))) e in
    (leb-true (at + n) (length s) b.0, b.1)

pub start_fits : (s : List ℕ) (at n : ℕ) (z : Bool) → length s < 2 ^ 64 → z ≡ zeros_at s at n → z ≡ true → at + n < 2 ^ 64
start_fits s at n z l f t = omega (arith, (zeros-parts s at n (sym f ∙ t)).0)

-- it is in the file, or at its end
pub start-in : (s : List ℕ) (at a : ℕ) → at ≤ length s → start_at s at a ≤ length s
unfolding start_at start_behind
start-in s at a l = go (gap_by a at)
  where
    go : (n : ℕ) → start_behind s at n ≤ length s
    go zero = l
    go (suc n) = pick (zeros_at s at (suc n)) refl
      where
        pick : (b : Bool) → zeros_at s at (suc n) ≡ b → cond b (at + suc n) (length s) ≤ length s
        pick true e = (zeros-parts s at (suc n) e).0
        pick false e = omega arith

-- ── The tag ──

-- no bytes of one length are those of another
other_length : (s t : List ℕ) → (length s ≡ length t → ⊥) → same s t ≡ false
other_length s t h = go (same s t) refl
  where
    go : (b : Bool) → same s t ≡ b → b ≡ false
    go true e = absurd (h (ap length (same_true s t e)))
    go false e = refl

pub name-other : (s : List ℕ) (at n : ℕ) → (n ≡ 11 → ⊥) → false ≡ is_align_name s at n
unfolding is_align_name align_name
name-other s at n h = go (le-or-lt (at + n) (length s))
  where
    go : (at + n ≤ length s) ⊎ (length s < at + n) → false ≡ has s at n && same (take n (drop at s)) align_name
    go (inl l) =
        let m : length (take n (drop at s)) ≡ n = part-long s at n l in
        rw (other_length (take n (drop at s)) align_name (λ e. h (sym m ∙ e)), and-false (has s at n))
    go (inr l) = rw (not_there s at n l)

-- the name by two numbers
name-numbers : (s : List ℕ) (at : ℕ) → ((k : ℕ) → Fits w8 (get_or s k 0)) → at + 11 ≤ length s
    → is_align_name s at 11 ≡ (eqb (read_at s at 8) 0x4C412D454D415246 && eqb (read_at s (at + 8) 3) 0x4E4749)
unfolding is_align_name
name-numbers s at b h =
    let t = drop at s in
    let u = drop (at + 8) s in
    let x : take 11 t ≡ take 8 t ++ take 3 u = take-add 8 3 t ∙ ap (λ (v : List ℕ). take 8 t ++ take 3 v) (drop-drop 8 at s) in
    let n : align_name ≡ bytes_of 8 0x4C412D454D415246 ++ bytes_of 3 0x4E4749 = unfold align_name bytes_of in refl in
    let l : length (take 8 t) ≡ length (bytes_of 8 0x4C412D454D415246) = part-long s at 8 (omega arith) ∙ unfold bytes_of in refl in
    let p = same_number 8 t 0x4C412D454D415246 (bytes_drop at s (slice-bytes s b)) (omega (arith, length-drop at s)) (omega arith) in
    let q = same_number 3 u 0x4E4749 (bytes_drop (at + 8) s (slice-bytes s b)) (omega (arith, length-drop (at + 8) s)) (omega arith) in
    rw (there s at 11 h, x, n, same-append (take 8 t) (take 3 u) (bytes_of 8 0x4C412D454D415246) (bytes_of 3 0x4E4749) l, p, q, read_is s at 8 (omega arith) (omega arith), read_is s (at + 8) 3 (omega arith) (omega arith))

pub name-first : (s : List ℕ) (at n x : ℕ) → ((k : ℕ) → Fits w8 (get_or s k 0)) → n ≡ 11 → 11 ≤ length s → at ≤ length s - 11 → x ≡ read_at s at 8
    → (x ≡ 0x4C412D454D415246 → ⊥) → false ≡ is_align_name s at n
name-first s at n x b e h k p d = rw (e, name-numbers s at b (omega arith), ← p, ne_eqb x 0x4C412D454D415246 d)

pub name-second : (s : List ℕ) (at n x y : ℕ) → ((k : ℕ) → Fits w8 (get_or s k 0)) → n ≡ 11 → 11 ≤ length s → at ≤ length s - 11 → x ≡ read_at s at 8
    → x ≡ 0x4C412D454D415246 → y ≡ read_at s (at + 8) 3 → eqb y 0x4E4749 ≡ is_align_name s at n
name-second s at n x y b e h k p d q = rw (e, name-numbers s at b (omega arith), ← p, ← q, eq-eqb x 0x4C412D454D415246 d)

-- ── Its value ──

-- what the value of w bytes says, w being the number of bytes that say this block
value-says : (w : ℕ) (s : List ℕ) (at k : ℕ) → ((k : ℕ) → Fits w8 (get_or s k 0)) → w ≤ 8 → k < 256 ^ w → at + w ≤ length s
    → same (take w (drop at s)) (bytes_of w k) ≡ eqb (read_at s at w) k
value-says w s at k b m l h =
    same_number w (drop at s) k (bytes_drop at s (slice-bytes s b)) (omega (arith, length-drop at s)) l ∙ rw (read_is s at w m h)

-- a number that is not all there is 0, which says no block
not-read : (w : ℕ) (s : List ℕ) (at : ℕ) → length s < at + w → read_at s at w ≡ 0
unfolding read_at
not-read w s at h = rw (not_there s at w h, and-false (leb w 8))

block-small : (s : List ℕ) (at : ℕ) → ((k : ℕ) → Fits w8 (get_or s k 0)) → cond (eqb (read_at s at 3) 0x323135) (Some 512) None ≡ block_at s at 3
unfolding block_at block_of
block-small s at b = go (le-or-lt (at + 3) (length s))
  where
    five : bytes_of 3 0x323135 ≡ 53 ∷ 49 ∷ 50 ∷ []
    five = unfold bytes_of in refl

    go : (at + 3 ≤ length s) ⊎ (length s < at + 3) → cond (eqb (read_at s at 3) 0x323135) (Some 512) None ≡ block_at s at 3
    go (inl l) =
        let n : length (take 3 (drop at s)) ≡ 3 = part-long s at 3 l in
        rw (there s at 3 l, ← five, value-says 3 s at 0x323135 b (omega arith) (omega arith) l, other_length (take 3 (drop at s)) (52 ∷ 48 ∷ 57 ∷ 54 ∷ []) (λ e. omega arith))
    go (inr l) = rw (not_there s at 3 l, not-read 3 s at l)

block-large : (s : List ℕ) (at : ℕ) → ((k : ℕ) → Fits w8 (get_or s k 0)) → cond (eqb (read_at s at 4) 0x36393034) (Some 4096) None ≡ block_at s at 4
unfolding block_at block_of
block-large s at b = go (le-or-lt (at + 4) (length s))
  where
    four : bytes_of 4 0x36393034 ≡ 52 ∷ 48 ∷ 57 ∷ 54 ∷ []
    four = unfold bytes_of in refl

    go : (at + 4 ≤ length s) ⊎ (length s < at + 4) → cond (eqb (read_at s at 4) 0x36393034) (Some 4096) None ≡ block_at s at 4
    go (inl l) =
        let n : length (take 4 (drop at s)) ≡ 4 = part-long s at 4 l in
        rw (there s at 4 l, other_length (take 4 (drop at s)) (53 ∷ 49 ∷ 50 ∷ []) (λ e. omega arith), ← four, value-says 4 s at 0x36393034 b (omega arith) (omega arith) l)
    go (inr l) = rw (not_there s at 4 l, not-read 4 s at l)

pub block-three : (s : List ℕ) (at n x : ℕ) (r : Option ℕ) → ((k : ℕ) → Fits w8 (get_or s k 0)) → n ≡ 3 → x ≡ read_at s at 3 → r ≡ cond (eqb x 0x323135) (Some 512) None → r ≡ block_at s at n
block-three s at n x r b e p q = q ∙ rw (p, e) (block-small s at b)

pub block-four : (s : List ℕ) (at n x : ℕ) (r : Option ℕ) → ((k : ℕ) → Fits w8 (get_or s k 0)) → n ≡ 4 → x ≡ read_at s at 4 → r ≡ cond (eqb x 0x36393034) (Some 4096) None → r ≡ block_at s at n
block-four s at n x r b e p q = q ∙ rw (p, e) (block-large s at b)

pub block-other : (s : List ℕ) (at n : ℕ) → (n ≡ 3 → ⊥) → (n ≡ 4 → ⊥) → None ≡ block_at s at n
unfolding block_at block_of
block-other s at n h k = go (le-or-lt (at + n) (length s))
  where
    go : (at + n ≤ length s) ⊎ (length s < at + n) → None ≡ block_at s at n
    go (inl l) =
        let m : length (take n (drop at s)) ≡ n = part-long s at n l in
        rw (there s at n l, other_length (take n (drop at s)) (53 ∷ 49 ∷ 50 ∷ []) (λ e. h (sym m ∙ e)), other_length (take n (drop at s)) (52 ∷ 48 ∷ 57 ∷ 54 ∷ []) (λ e. k (sym m ∙ e)))
    go (inr l) = rw (not_there s at n l)

pub ruleset laws = (
  rules,
  zeros-other,
  zeros-run,
  start_fits,
  name-other,
  name-first,
  name-second,
  block-three,
  block-four,
  block-other,
)
