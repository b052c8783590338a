-- A walk by its first frame: its time, and the index of its frames.
-- Assumes nothing.
use Prim.Native.Nat.{ℕ, zero, suc, ◌+◌, ◌*◌, ◌-◌, ◌<◌}
use native.Mathlib.Omega.{arith}
use mathlib.Core.Path.{◌≡◌, refl, ap, sym, ◌∙◌}
use mathlib.Core.List.{List, [], ◌∷◌}
use lib.ListN.{length, drop, length-append, length-drop}
use lib.Seq.{drop-drop}
use Rattle.number.specs.Number.{bytes_of, read_at}
use Rattle.number.proofs.Bytes.{length-bytes_of}
use Rattle.number.proofs.Laws.{read_is}
use Rattle.layout.specs.Recording.{Frame, entries_bytes, index_bytes, first_time, follow, in_order}
use Rattle.layout.specs.Reading.{Parsed, bad, good, frame, stopped, longer, walk}
use Rattle.frames.proofs.Laws.{frame-parts}
use Rattle.layout.proofs.Walks.{walk_none, walk-stop, walk_step}
use Rattle.layout.proofs.Encoded.{length-entries}
use Rattle.times.proofs.Laws.{follows_itself}

-- ── The frames that are left ──

-- one more frame, and the walk behind it
pub walk-cons : (f : List ℕ) (k left at : ℕ) (x : Frame) (n : ℕ) → 0 < left → frame k (drop at f) ≡ good x n
    → walk left k (drop at f) ≡ longer x n (walk (left - 1) k (drop (at + n) f))
walk-cons f k zero at x n h e = absurd (omega arith)
walk-cons f k (suc left) at x n h e =
    let p : suc left - 1 ≡ left = omega arith in
    rw (p, ← drop-drop n at f) (walk_step left k (drop at f) x n e)

-- ── The index as a whole ──

pub length-index : (at : ℕ) (fs : List Frame) → length (index_bytes at fs) ≡ 4 + 16 * length fs
unfolding index_bytes
length-index at fs = omega (
  arith,
  length-append (bytes_of 4 (length fs)) (entries_bytes (first_time fs) at fs),
  length-bytes_of 4 (length fs),
  length-entries (first_time fs) at fs,
)

-- the first frame's time stands behind its mark
pub walk_first : (f : List ℕ) (k start most : ℕ) (x : Frame) (xs : List Frame) → (walk most k (drop start f)).frames ≡ x ∷ xs
    → x.time ≡ read_at f (start + 4) 8
unfolding stopped longer
walk_first f k start zero x xs e =
    let q : [] ≡ x ∷ xs = rw (walk_none k (drop start f)) at e in
    let z : ◌≡◌ {A = ℕ} 0 1 = cc in
    absurd (omega arith)
walk_first f k start (suc most) x xs e = go (frame k (drop start f)) refl
  where
    go : (p : Parsed Frame) → frame k (drop start f) ≡ p → x.time ≡ read_at f (start + 4) 8
    go (bad m) g =
        let q : [] ≡ x ∷ xs = rw (walk-stop (suc most) k (drop start f) (rw g)) at e in
        let z : ◌≡◌ {A = ℕ} 0 1 = cc in
        absurd (omega arith)
    go (good y n) g =
        let q : y ∷ (walk most k (drop n (drop start f))).frames ≡ x ∷ xs = rw (walk_step most k (drop start f) y n g) at e in
        let i : y ≡ x = cc in
        let p = frame-parts k (drop start f) y n g in
        ap (λ (v : Frame). v.time) (sym i) ∙ p.time ∙ rw (drop-drop 4 start f)
        (sym (read_is f (start + 4) 8 (omega arith) (omega (arith, length-drop start f, p.long))))

pub by_first : (fs : List Frame) (first start : ℕ) → ((x : Frame) (xs : List Frame) → fs ≡ x ∷ xs → x.time ≡ first)
    → (in_order fs ≡ follow first first fs) × (entries_bytes (first_time fs) start fs ≡ entries_bytes first start fs)
unfolding in_order follow first_time entries_bytes
by_first [] first start h = (refl, refl)
by_first (x ∷ xs) first start h =
    let e : x.time ≡ first = h x xs refl in
    (rw (e, follows_itself), ap (λ (n : ℕ). entries_bytes n start (x ∷ xs)) e)
