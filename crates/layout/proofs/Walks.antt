-- The walk takes back the frames that were encoded, one behind the other, and what it takes stands encoded at the front.
-- All of it over any number `most`: the walk is never opened at a number of its own.
-- Assumes nothing.
use Prim.Native.Nat.{ℕ, zero, suc, ◌+◌, ◌-◌, ◌≤◌}
use native.Mathlib.Omega.{arith}
use native.Mathlib.Nat.{zero-add, add-zero, suc-add, add_assoc}
use mathlib.Core.Path.{◌≡◌, refl, ap, sym, ◌∙◌}
use mathlib.Core.Bool.{true}
use mathlib.Core.List.{List, [], ◌∷◌, ◌++◌, flat_map, append_assoc, append-nil}
use lib.ListN.{length, drop, length-append}
use lib.Seq.{drop-append_seam, drop-drop}
use lib.Pow.{are_bytes}
use Rattle.number.proofs.Bytes.{both_true, and-true}
use Rattle.layout.specs.Recording.{Frame, frame_bytes, every, legal_frame}
use Rattle.layout.specs.Reading.{Parsed, bad, good, is_bad, frame, Walk, stopped, longer, walk}
use Rattle.layout.proofs.Lists.{bytes_drop}
use Rattle.layout.proofs.Exact.{frame-exact}

-- ── One step ──

pub walk_none : (k : ℕ) (s : List ℕ) → walk 0 k s ≡ stopped
unfolding walk
walk_none k s = refl

-- no frame here: the walk stops
pub walk-stop : (most k : ℕ) (s : List ℕ) → is_bad (frame k s) ≡ true → walk most k s ≡ stopped
unfolding walk
walk-stop zero k s e = refl
walk-stop (suc most) k s e = go (frame k s) refl e
  where
    go : (v : Parsed Frame) → frame k s ≡ v → is_bad v ≡ true → walk (suc most) k s ≡ stopped
    go (bad m) q b = rw (q, walk)
    go (good f n) q b = let z : ◌≡◌ {A = ℕ} 0 1 = cc in absurd (omega arith)

-- a frame here: it is taken, and the walk goes on behind it
pub walk_step : (most k : ℕ) (s : List ℕ) (f : Frame) (n : ℕ) → frame k s ≡ good f n → walk (suc most) k s ≡ longer f n (walk most k (drop n s))
unfolding walk
walk_step most k s f n e = rw (e, walk)

-- ── Over encoded frames ──

-- just these frames
unfoldable pub took : List Frame → Walk
took fs = record { frames = fs; bytes = length (flat_map frame_bytes fs) }

-- these frames, and what a walk took behind them
unfoldable pub after : List Frame → Walk → Walk
after fs w = record { frames = fs ++ w.frames; bytes = length (flat_map frame_bytes fs) + w.bytes }

pub after-stopped : (fs : List Frame) → after fs stopped ≡ took fs
unfolding after took stopped
after-stopped fs = rw (append-nil, add-zero)

-- the walk passes over encoded frames, and goes on behind them
pub walk-over : (fs : List Frame) (more k : ℕ) (rest : List ℕ) → every (legal_frame k) fs ≡ true → walk (length fs + more) k (flat_map frame_bytes fs ++ rest) ≡ after fs (walk more k rest)
unfolding every after flat_map longer
walk-over [] more k rest h = rw (zero-add, zero-add)
walk-over (f ∷ fs) more k rest h =
    let l = both_true (legal_frame k f) (every (legal_frame k) fs) h in
    let s : frame k (frame_bytes f ++ (flat_map frame_bytes fs ++ rest)) ≡ good f (length (frame_bytes f)) = (frame-exact k).takes f (flat_map frame_bytes fs ++ rest) l.0 in
    let w : walk (length fs + more) k (flat_map frame_bytes fs ++ rest) ≡ after fs (walk more k rest) = walk-over fs more k rest l.1 in
    rw (suc-add, append_assoc, walk_step (length fs + more) k _ f _ s, drop-append_seam, w, length-append) (rw add_assoc)

-- as many as they are: exactly these
pub walk-exactly : (fs : List Frame) (k : ℕ) (rest : List ℕ) → every (legal_frame k) fs ≡ true → walk (length fs) k (flat_map frame_bytes fs ++ rest) ≡ took fs
walk-exactly fs k rest h = ap (λ (n : ℕ). walk n k (flat_map frame_bytes fs ++ rest)) (sym (add-zero (length fs))) ∙ walk-over fs 0 k rest h ∙ ap (after fs) (walk_none k rest) ∙ after-stopped fs

-- no frame behind them: the walk stops exactly there, however many it may take
pub walk-stops : (fs : List Frame) (most k : ℕ) (rest : List ℕ) → length fs ≤ most → every (legal_frame k) fs ≡ true → is_bad (frame k rest) ≡ true → walk most k (flat_map frame_bytes fs ++ rest) ≡ took fs
walk-stops fs most k rest m h b =
    let e : most ≡ length fs + (most - length fs) = omega arith in
    ap (λ (n : ℕ). walk n k (flat_map frame_bytes fs ++ rest)) e ∙ walk-over fs (most - length fs) k rest h ∙ ap (after fs) (walk-stop (most - length fs) k rest b) ∙ after-stopped fs

-- ── What a walk takes ──

-- a walk's frames are legal, no more than it may take, and stand encoded at the front
pub record Walked (most k : ℕ) (s : List ℕ) (w : Walk) : Type 0 where
  pub legal : every (legal_frame k) w.frames ≡ true
  pub few : length w.frames ≤ most
  pub size : w.bytes ≡ length (flat_map frame_bytes w.frames)
  pub front : s ≡ flat_map frame_bytes w.frames ++ drop w.bytes s

stopped-walked : (most k : ℕ) (s : List ℕ) → Walked most k s stopped
unfolding stopped every flat_map
stopped-walked most k s = record { legal = refl; few = omega arith; size = refl; front = refl }

longer-walked : (most k : ℕ) (s : List ℕ) (f : Frame) (n : ℕ) (w : Walk) → legal_frame k f ≡ true → n ≡ length (frame_bytes f) → s ≡ frame_bytes f ++ drop n s → Walked most k (drop n s) w → Walked (suc most) k s (longer f n w)
unfolding longer every flat_map
longer-walked most k s f n w l m e r =
    record {
      legal = and-true (legal_frame k f) (every (legal_frame k) w.frames) l r.legal;
      few = omega arith;
      size = omega (arith, length-append (frame_bytes f) (flat_map frame_bytes w.frames));
      front = e ∙ ap (λ (t : List ℕ). frame_bytes f ++ t) r.front ∙ rw (append_assoc, drop-drop);
    }

pub walk-gives : (most k : ℕ) (s : List ℕ) → are_bytes s ≡ true → Walked most k s (walk most k s)
walk-gives zero k s h = rw walk_none (stopped-walked zero k s)
walk-gives (suc most) k s h = go (frame k s) refl (λ t b. walk-gives most k t b)
  where
    go : (p : Parsed Frame) → frame k s ≡ p → ((t : List ℕ) → are_bytes t ≡ true → Walked most k t (walk most k t)) → Walked (suc most) k s (walk (suc most) k s)
    go (bad m) e more = rw (walk-stop (suc most) k s (rw e)) (stopped-walked (suc most) k s)
    go (good f n) e more =
        let g = (frame-exact k).gives s f n h e in
        rw (walk_step most k s f n e) (longer-walked most k s f n (walk most k (drop n s)) g.0 g.1 g.2 (more (drop n s) (bytes_drop n s h)))
