-- The walk over a cut row of frames takes the complete ones: a cut frame is no frame, and the index is none.
-- Assumes nothing.
use Prim.Native.Nat.{ℕ, zero, suc, ◌+◌, ◌-◌, ◌^◌, ◌≤◌, ◌<◌}
use native.Mathlib.Omega.{arith}
use mathlib.Core.Path.{◌≡◌, refl, ap, sym, ◌∙◌}
use mathlib.Core.Bool.{Bool, true, false, cond}
use mathlib.Core.Logic.{◌⊎◌, inl, inr}
use mathlib.Core.List.{List, [], ◌∷◌, ◌++◌, flat_map, append_assoc, append-nil}
use lib.ListN.{length, take, drop, length-append, length-take, length-drop, take-append-drop}
use lib.Seq.{take-append-le, drop-append-le, drop-append_seam, take_all, take-nil}
use lib.Dec.{leb, eqb}
use borrow.Author.Tests.{le-leb, lt-leb, lt-ltb, ne_eqb}
use Rattle.number.specs.Number.{bytes_of, number_of}
use Rattle.number.proofs.Bytes.{both_true}
use Rattle.layout.specs.Recording.{Frame, frame_bytes, frame_mark, index_bytes, entries_bytes, first_time, most_frames, every, legal_frame}
use Rattle.layout.specs.Reading.{Parsed, bad, good, is_bad, Reader, onward, give, ◌then◌, only, placed, times, number, block, string, tag_name, tag_value, number_of_tags, tag, table, sized, frame, walk}
use Rattle.layout.proofs.Lists.{cond-true, cond-false, le-or-lt, every_take}
use Rattle.layout.proofs.Readers.{onward-good, onward-takes, cond-good, then-good, then-takes, number_is, number-good, block-is, block-good, times-suc-good, times-suc-takes, placed-good, placed-takes}
use Rattle.layout.proofs.Exact.{number-exact, frame-exact}
use Rattle.layout.proofs.Stores.{take-append}
use Rattle.layout.proofs.Walks.{took, walk-stops, Walked}

-- ── What more bytes behind do not change ──

-- what is read lies within the bytes, and more bytes behind leave it as it is
abbrev pub Local : {A : Type 0} → Reader A → Type 0
Local {A} p = (s t : List ℕ) (x : A) (n : ℕ) → p s ≡ good x n → (n ≤ length s) × (p (s ++ t) ≡ good x n)

never : {A B : Type 0} (v : Parsed A) (x : A) (n : ℕ) → is_bad v ≡ true → v ≡ good x n → B
never v x n b e = let z : ◌≡◌ {A = ℕ} 0 1 = cc in absurd (omega arith)

number-local : (w : ℕ) → Local (number w)
number-local w s t x n e = go (number-good w s x n e)
  where
    go : (w ≤ length s) × (number_of (take w s) ≡ x) × (w ≡ n) → (n ≤ length s) × (number w (s ++ t) ≡ good x n)
    go (l, v, k) =
        let a : take w (s ++ t) ≡ take w s = take-append-le w s t l in
        (omega arith, number_is w (s ++ t) (rw length-append (omega arith)) ∙ cc)

block-local : (w : ℕ) → Local (block w)
block-local w s t x n e = go (block-good w s x n e)
  where
    go : (w ≤ length s) × (take w s ≡ x) × (w ≡ n) → (n ≤ length s) × (block w (s ++ t) ≡ good x n)
    go (l, v, k) =
        let a : take w (s ++ t) ≡ take w s = take-append-le w s t l in
        (omega arith, block-is w (s ++ t) (rw length-append (omega arith)) ∙ cc)

give-local : {A : Type 0} (a : A) → Local (give a)
unfolding give
give-local a s t x n e = let m : 0 ≡ n = cc in (omega arith, e)

only-local : {A : Type 0} (ok : A → Bool) (p : Reader A) → Local p → Local (only ok p)
unfolding only
only-local {A} ok p l s t x n e = go (onward-good (p s) (λ a m. cond (ok a) (good a m) (bad 0)) x n e)
  where
    go : ((a : A) × (m : ℕ) × (p s ≡ good a m) × (cond (ok a) (good a m) (bad 0) ≡ good x n)) → (n ≤ length s) × (only ok p (s ++ t) ≡ good x n)
    go (a, m, q, g) =
        let h = l s t a m q in
        (omega (arith, h.0, (cond-good 0 (ok a) a x m n g).2), onward-takes p (λ b i. cond (ok b) (good b i) (bad 0)) (s ++ t) a m h.1 ∙ g)

placed_local : {A : Type 0} (at : List ℕ → ℕ) (p : Reader A) → Local p → Local (placed at p)
placed_local at p l s t x n e = let h = l s t x n (placed-good at p s x n e) in (h.0, placed-takes at p (s ++ t) x n h.1)

then-local : {A B : Type 0} (p : Reader A) (next : A → Reader B) → Local p → ((a : A) → Local (next a)) → Local (p then next)
then-local {A} {B} p next l k s t x n e = go (then-good p next s x n e)
  where
    go : ((a : A) × (i : ℕ) × (m : ℕ) × (p s ≡ good a i) × (next a (drop i s) ≡ good x m) × (n ≡ i + m)) → (n ≤ length s) × ((p then next) (s ++ t) ≡ good x n)
    go (a, i, m, f, g, j) =
        let h = l s t a i f in
        let d = k a (drop i s) t x m g in
        (omega (arith, h.0, d.0, length-drop i s), then-takes p next (s ++ t) a x i m h.1 (rw (drop-append-le i s t h.0) d.1) ∙ ap (good x) (sym j))

times-local : {A : Type 0} (k : ℕ) (p : Reader A) → Local p → Local (times k p)
unfolding times
times-local zero p l s t x n e = let m : 0 ≡ n = cc in (omega arith, e)
times-local {A} (suc k) p l s t x n e = go (times-suc-good p k s x n e) (times-local k p l)
  where
    go : ((y : A) × (ys : List A) × (i : ℕ) × (m : ℕ) × (p s ≡ good y i) × (times k p (drop i s) ≡ good ys m) × (y ∷ ys ≡ x) × (i + m ≡ n)) → Local (times k p) → (n ≤ length s) × (times (suc k) p (s ++ t) ≡ good x n)
    go (y, ys, i, m, f, g, u, v) more =
        let h = l s t y i f in
        let d = more (drop i s) t ys m g in
        (omega (arith, h.0, d.0, length-drop i s), times-suc-takes p k (s ++ t) y ys i m h.1 (rw (drop-append-le i s t h.0) d.1) ∙ cc)

pub frame-local : (k : ℕ) → Local (frame k)
unfolding frame sized
frame-local k =
    then-local _ _ (only-local _ _ (number-local 4)) λ mark.
    then-local _ _ (number-local 8) λ t.
    then-local _ _ (number-local 4) λ e.
    then-local _ _ (times-local k _ (then-local _ _ (only-local _ _ (number-local 4)) block-local)) λ ss.
    give-local _

string-local : Local string
unfolding string
string-local = placed_local _ _ (then-local _ _ (number-local 1) block-local)

-- a table that is read stays the same with more bytes behind it
pub table-local : Local table
unfolding table tag tag_name tag_value number_of_tags
table-local =
    placed_local _ _ (only-local _ _ (then-local _ _ (only-local _ _ (number-local 4)) λ n.
    times-local n _ (then-local _ _ (placed_local _ _ (only-local _ _ string-local)) λ name.
    then-local _ _ (placed_local _ _ (only-local _ _ string-local)) λ value.
    give-local _)))

-- no frame at the front, and none after a cut
pub cut-none : (k i : ℕ) (s : List ℕ) → is_bad (frame k s) ≡ true → is_bad (frame k (take i s)) ≡ true
cut-none k i s e = go (frame k (take i s)) refl
  where
    go : (v : Parsed Frame) → frame k (take i s) ≡ v → is_bad (frame k (take i s)) ≡ true
    go (bad m) q = rw q
    go (good f n) q =
        let h : frame k (take i s ++ drop i s) ≡ good f n = (frame-local k (take i s) (drop i s) f n q).1 in
        never (frame k s) f n e (rw take-append-drop at h)

-- "a whole frame stands at a place if all its bytes are there": a cut frame is no frame
pub cut-frame : (k j : ℕ) (f : Frame) → legal_frame k f ≡ true → j < length (frame_bytes f) → is_bad (frame k (take j (frame_bytes f))) ≡ true
cut-frame k j f l h = go (frame k (take j (frame_bytes f))) refl
  where
    go : (v : Parsed Frame) → frame k (take j (frame_bytes f)) ≡ v → is_bad (frame k (take j (frame_bytes f))) ≡ true
    go (bad m) q = rw q
    go (good g n) q =
        let w = frame-local k (take j (frame_bytes f)) (drop j (frame_bytes f)) g n q in
        let a : frame k (frame_bytes f) ≡ good g n = rw take-append-drop at w.1 in
        let b : frame k (frame_bytes f) ≡ good f (length (frame_bytes f)) = rw append-nil at ((frame-exact k).takes f [] l) in
        let e : n ≡ length (frame_bytes f) = cc in
        absurd (omega (arith, w.0, length-take j (frame_bytes f)))

-- the index is no frame: its first number is at most 1,000,000, the mark is not
pub index-none : (k at : ℕ) (fs : List Frame) (rest : List ℕ) → length fs ≤ most_frames → is_bad (frame k (index_bytes at fs ++ rest)) ≡ true
unfolding index_bytes frame ◌then◌ only onward
index-none k at fs rest h =
    let e : number 4 (bytes_of 4 (length fs) ++ (entries_bytes (first_time fs) at fs ++ rest)) ≡ good (length fs) (length (bytes_of 4 (length fs))) = (number-exact 4).takes (length fs) (entries_bytes (first_time fs) at fs ++ rest) (lt-ltb (length fs) (256 ^ 4) (omega arith)) in
    let u : eqb (length fs) frame_mark ≡ false = ne_eqb (length fs) frame_mark (λ q. omega arith) in
    rw (append_assoc, e, u)

-- ── The complete frames of a cut row ──

-- how many of these frames are complete within j bytes
unfoldable pub complete : ℕ → List Frame → ℕ
complete j [] = 0
complete j (f ∷ fs) = cond (leb (length (frame_bytes f)) j) (suc (complete (j - length (frame_bytes f)) fs)) 0

complete-more : (j : ℕ) (f : Frame) (fs : List Frame) → length (frame_bytes f) ≤ j → complete j (f ∷ fs) ≡ suc (complete (j - length (frame_bytes f)) fs)
unfolding complete
complete-more j f fs h = cond-true (leb (length (frame_bytes f)) j) _ _ (le-leb (length (frame_bytes f)) j h)

complete-none : (j : ℕ) (f : Frame) (fs : List Frame) → j < length (frame_bytes f) → complete j (f ∷ fs) ≡ 0
unfolding complete
complete-none j f fs h = cond-false (leb (length (frame_bytes f)) j) _ _ (lt-leb (length (frame_bytes f)) j h)

pub complete-few : (j : ℕ) (fs : List Frame) → complete j fs ≤ length fs
unfolding complete
complete-few j [] = omega arith
complete-few j (f ∷ fs) = go (le-or-lt (length (frame_bytes f)) j) (complete-few (j - length (frame_bytes f)) fs)
  where
    go : (length (frame_bytes f) ≤ j) ⊎ (j < length (frame_bytes f)) → complete (j - length (frame_bytes f)) fs ≤ length fs → complete j (f ∷ fs) ≤ suc (length fs)
    go (inl h) more = omega (arith, complete-more j f fs h)
    go (inr h) more = omega (arith, complete-none j f fs h)

pub complete-within : (j : ℕ) (fs : List Frame) → length (flat_map frame_bytes (take (complete j fs) fs)) ≤ j
unfolding complete flat_map
complete-within j [] = omega arith
complete-within j (f ∷ fs) = go (le-or-lt (length (frame_bytes f)) j) (complete-within (j - length (frame_bytes f)) fs)
  where
    go : (length (frame_bytes f) ≤ j) ⊎ (j < length (frame_bytes f)) → length (flat_map frame_bytes (take (complete (j - length (frame_bytes f)) fs) fs)) ≤ j - length (frame_bytes f) → length (flat_map frame_bytes (take (complete j (f ∷ fs)) (f ∷ fs))) ≤ j
    go (inl h) more = rw (complete-more j f fs h, length-append) (omega arith)
    go (inr h) more = rw (complete-none j f fs h) (omega arith)

-- no more than those fit
pub complete-most : (j i : ℕ) (fs : List Frame) → i ≤ length fs → length (flat_map frame_bytes (take i fs)) ≤ j → i ≤ complete j fs
unfolding flat_map
complete-most j zero fs l h = omega arith
complete-most j (suc i) [] l h = absurd (omega arith)
complete-most j (suc i) (f ∷ fs) l h =
    let s : length (frame_bytes f) + length (flat_map frame_bytes (take i fs)) ≤ j = rw length-append at h in
    omega (arith, complete-more j f fs (omega arith), complete-most (j - length (frame_bytes f)) i fs (omega arith) (omega arith))

-- A cut row of frames with no frame behind it: the complete ones, and then no frame.
pub cut-row : (k j : ℕ) (fs : List Frame) (rest : List ℕ) → every (legal_frame k) fs ≡ true → is_bad (frame k rest) ≡ true → (left : List ℕ) × (take j (flat_map frame_bytes fs ++ rest) ≡ flat_map frame_bytes (take (complete j fs) fs) ++ left) × (is_bad (frame k left) ≡ true)
unfolding flat_map every
cut-row k j [] rest l b = (take j rest, rw take-nil, cut-none k j rest b)
cut-row k j (f ∷ fs) rest l b = go (le-or-lt (length (frame_bytes f)) j) (cut-row k (j - length (frame_bytes f)) fs rest (both_true (legal_frame k f) (every (legal_frame k) fs) l).1 b)
  where
    go : (length (frame_bytes f) ≤ j) ⊎ (j < length (frame_bytes f)) → ((left : List ℕ) × (take (j - length (frame_bytes f)) (flat_map frame_bytes fs ++ rest) ≡ flat_map frame_bytes (take (complete (j - length (frame_bytes f)) fs) fs) ++ left) × (is_bad (frame k left) ≡ true)) → (left : List ℕ) × (take j (flat_map frame_bytes (f ∷ fs) ++ rest) ≡ flat_map frame_bytes (take (complete j (f ∷ fs)) (f ∷ fs)) ++ left) × (is_bad (frame k left) ≡ true)
    go (inl h) (left, e, n) =
        (left, rw (complete-more j f fs h, append_assoc, append_assoc, take-append, take_all, e), n)
    go (inr h) more = (take j (frame_bytes f), rw (complete-none j f fs h, append_assoc, take-append-le j (frame_bytes f) _ (omega arith)), cut-frame k j f (both_true (legal_frame k f) (every (legal_frame k) fs) l).0 h)

-- The walk over a cut row of frames, with no frame behind it, takes just the complete ones, and they stand at the front.
pub walk-cut : (most k j : ℕ) (fs : List Frame) (rest : List ℕ) → length fs ≤ most → every (legal_frame k) fs ≡ true → is_bad (frame k rest) ≡ true → (walk most k (take j (flat_map frame_bytes fs ++ rest)) ≡ took (take (complete j fs) fs)) × Walked most k (take j (flat_map frame_bytes fs ++ rest)) (took (take (complete j fs) fs))
unfolding took
walk-cut most k j fs rest m l b =
    let c = cut-row k j fs rest l b in
    go c.0 c.1 c.2
  where
    go : (left : List ℕ) → take j (flat_map frame_bytes fs ++ rest) ≡ flat_map frame_bytes (take (complete j fs) fs) ++ left → is_bad (frame k left) ≡ true → (walk most k (take j (flat_map frame_bytes fs ++ rest)) ≡ took (take (complete j fs) fs)) × Walked most k (take j (flat_map frame_bytes fs ++ rest)) (took (take (complete j fs) fs))
    go left e n =
        let few : length (take (complete j fs) fs) ≤ most = rw length-take (omega arith) in
        let legal : every (legal_frame k) (take (complete j fs) fs) ≡ true = every_take (legal_frame k) (complete j fs) fs l in
        rw e (walk-stops (take (complete j fs) fs) most k left few legal n, record { legal = legal; few = few; size = refl; front = rw drop-append_seam })
