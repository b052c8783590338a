-- What the functions of this crate leave to be shown, as laws about the definitions.
-- Assumes nothing.
use Prim.Native.Nat.{ℕ, zero, suc, ◌+◌, ◌*◌, ◌-◌, ◌/◌, ◌%◌, ◌^◌, ◌<◌, ◌≤◌}
use native.Mathlib.Omega.{arith}
use native.Mathlib.Nat.{mul_assoc, mul_comm, pow-suc}
use mathlib.Core.Path.{◌≡◌, refl, ap, sym, ◌∙◌}
use mathlib.Core.Bool.{Bool, true, false, ◌&&◌, cond}
use mathlib.Core.List.{List, [], ◌∷◌}
use lib.ListN.{length, take, drop, get_or, set}
use lib.Seq.{get_or-take, get_or-drop, take_all, sets}
use lib.Dec.{leb}
use borrow.Author.Rules.{rules}
use borrow.Author.Tests.{le-leb, lt-leb}
use Rattle.number.specs.Number.{bytes_of, number_of, has, read_at, write_at}
use Rattle.number.proofs.Bytes.{part-long}

-- ── Reading ──

-- a byte of a number, and what stands behind its last one
pub byte-there : (s : List ℕ) (at w i b : ℕ) → i < w → b ≡ get_or s (at + i) 0 → b ≡ get_or (take w (drop at s)) i 0
byte-there s at w i b h e = e ∙ sym (get_or-take w (drop at s) i 0 h ∙ get_or-drop at s i 0)

behind : (t : List ℕ) (w i : ℕ) → w ≤ i → 0 ≡ get_or (take w t) i 0
behind t zero i h = refl
behind [] (suc w) i h = refl
behind (b ∷ t) (suc w) zero h = absurd (omega arith)
behind (b ∷ t) (suc w) (suc i) h = behind t w i (omega arith)

pub byte-behind : (s : List ℕ) (at w i : ℕ) → w ≤ i → 0 ≡ get_or (take w (drop at s)) i 0
byte-behind s at w i h = behind (drop at s) w i h

-- over the width: one byte more adds that byte with its place value
one_more : (t : List ℕ) (w : ℕ) → number_of (take (suc w) t) ≡ number_of (take w t) + get_or t w 0 * 256 ^ w
unfolding number_of
one_more [] zero = omega arith
one_more [] (suc w) = omega arith
one_more (b ∷ t) zero = omega arith
one_more (b ∷ t) (suc w) =
    let i : number_of (take (suc w) t) ≡ number_of (take w t) + get_or t w 0 * 256 ^ w = one_more t w in
    let p : get_or t w 0 * 256 ^ suc w ≡ 256 * (get_or t w 0 * 256 ^ w) = rw (pow-suc 256 w) (simp (mul_assoc, mul_comm)) in
    omega arith

-- where the bytes are all there, the number is theirs
pub read_is : (s : List ℕ) (at w : ℕ) → w ≤ 8 → at + w ≤ length s → read_at s at w ≡ number_of (take w (drop at s))
unfolding read_at
read_is s at w e h = rw (le-leb w 8 e, le-leb (at + w) (length s) h)

no_bytes : (t : List ℕ) → number_of (take 0 t) ≡ 0
unfolding number_of
no_bytes t = refl

-- up to eight bytes are a number, each with its place value
pub read_whole : (s : List ℕ) (at w a b c d e f g h : ℕ) → w ≤ 8 → w ≤ length s → at ≤ length s - w → a ≡ get_or (take w (drop at s)) 0 0
    → b ≡ get_or (take w (drop at s)) 1 0 → c ≡ get_or (take w (drop at s)) 2 0 → d ≡ get_or (take w (drop at s)) 3 0
    → e ≡ get_or (take w (drop at s)) 4 0 → f ≡ get_or (take w (drop at s)) 5 0 → g ≡ get_or (take w (drop at s)) 6 0
    → h ≡ get_or (take w (drop at s)) 7 0
    → a + b * 256 + c * 65536 + d * 16777216 + e * 4294967296 + f * 1099511627776 + g * 281474976710656 + h * 72057594037927936 ≡ read_at s at w
read_whole s at w a b c d e f g h l m n p0 p1 p2 p3 p4 p5 p6 p7 =
    let t = take w (drop at s) in
    let all : number_of (take 8 t) ≡ number_of t = ap number_of (take_all 8 t (omega (arith, part-long s at w (omega arith)))) in
    omega (
      arith,
      all,
      read_is s at w l (omega arith),
      no_bytes t,
      one_more t 0,
      one_more t 1,
      one_more t 2,
      one_more t 3,
      one_more t 4,
      one_more t 5,
      one_more t 6,
      one_more t 7,
    )

pub read_wide : (s : List ℕ) (at w : ℕ) → 8 < w → 0 ≡ read_at s at w
unfolding read_at
read_wide s at w h = rw (lt-leb w 8 h)

read_out : (s : List ℕ) (at w : ℕ) → length s < at + w → 0 ≡ read_at s at w
unfolding read_at
read_out s at w h = go (leb w 8) (lt-leb (at + w) (length s) h)
  where
    go : (b : Bool) → leb (at + w) (length s) ≡ false → 0 ≡ cond (b && has s at w) (number_of (take w (drop at s))) 0
    go true e = rw e
    go false e = refl

pub read_short : (s : List ℕ) (at w : ℕ) → length s < w → 0 ≡ read_at s at w
read_short s at w h = read_out s at w (omega arith)

pub read-far : (s : List ℕ) (at w : ℕ) → w ≤ length s → length s - w < at → 0 ≡ read_at s at w
read-far s at w l h = read_out s at w (omega arith)

-- ── Writing ──

write-out : (s : List ℕ) (at w n : ℕ) → length s < at + w → s ≡ write_at s at w n
unfolding write_at
write-out s at w n h = rw (lt-leb (at + w) (length s) h)

pub write-short : (s : List ℕ) (at w n : ℕ) → length s < w → s ≡ write_at s at w n
write-short s at w n h = write-out s at w n (omega arith)

pub write-far : (s : List ℕ) (at w n : ℕ) → w ≤ length s → length s - w < at → s ≡ write_at s at w n
write-far s at w n l h = write-out s at w n (omega arith)

pub write-start : (s : List ℕ) (at w n : ℕ) → sets s (at + 0) (bytes_of (w - 0) n) ≡ sets s at (bytes_of w n)
write-start s at w n =
    let p : at + 0 ≡ at = omega arith in
    let q : w - 0 ≡ w = omega arith in
    rw (p, q)

pub write-more : (s s₀ : List ℕ) (at w n rest i : ℕ) → i < w → sets s (at + i) (bytes_of (w - i) rest) ≡ sets s₀ at (bytes_of w n)
    → sets (set s (at + i) (rest % 256)) (at + (i + 1)) (bytes_of (w - (i + 1)) (rest / 256)) ≡ sets s₀ at (bytes_of w n)
unfolding bytes_of
write-more s s₀ at w n rest i h e =
    let p : w - i ≡ suc (w - (i + 1)) = omega arith in
    let q : at + (i + 1) ≡ suc (at + i) = omega arith in
    rw q (sym (rw p) ∙ e)

pub write-end : (s s₀ : List ℕ) (at w n rest i : ℕ) → w ≤ i → i ≤ w → at + w ≤ length s → length s ≡ length s₀
    → sets s (at + i) (bytes_of (w - i) rest) ≡ sets s₀ at (bytes_of w n) → s ≡ write_at s₀ at w n
unfolding write_at bytes_of
write-end s s₀ at w n rest i h k f l e =
    let p : w - i ≡ 0 = omega arith in
    let g : at + w ≤ length s₀ = omega arith in
    rw (le-leb (at + w) (length s₀) g) (sym (rw p) ∙ e)

pub ruleset laws = (
  rules,
  byte-there,
  byte-behind,
  read_whole,
  read_wide,
  read_short,
  read-far,
  write-short,
  write-far,
  write-start,
  write-more,
  write-end,
)
