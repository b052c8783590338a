-- A frame at a place, and its sections, as the code reads them.
-- Assumes nothing.
use Rattle.std.specs.Prelude.{Option, Some, None}
use Prim.Native.Nat.{ℕ, zero, suc, ◌+◌, ◌*◌, ◌-◌, ◌^◌, ◌<◌, ◌≤◌}
use native.Mathlib.Omega.{arith}
use mathlib.Core.Path.{◌≡◌, refl, ap, sym, ◌∙◌}
use mathlib.Core.Bool.{true, false}
use mathlib.Core.List.{List, ◌∷◌}
use lib.ListN.{length, take, drop, length-drop}
use lib.Seq.{drop-drop}
use lib.Dec.{leb, eqb}
use borrow.Author.Rules.{rules}
use borrow.Author.Tests.{le-leb, lt-leb, leb-true, eq-eqb, eqb-true}
use mir.Syntax.{w64}
use mir.Val.{Fits}
use Rattle.number.specs.Number.{number_of, read_at}
use Rattle.number.proofs.Bytes.{both_true, and-true}
use Rattle.number.proofs.Laws.{read_is}
use Rattle.layout.specs.Recording.{Frame, frame_mark, longest_section, within}
use Rattle.layout.specs.Reading.{Parsed, bad, good, Reader, give, ◌then◌, only, times, number, block, sized, frame}
use Rattle.layout.proofs.Readers.{number_is, block-is, block-good, then-good, then-takes, times-suc-good}
use Rattle.parts.proofs.Readers.{only-bad, only-pass, only-fail, then-bad, number_cut, end-good, end-bad}
use Rattle.parts.proofs.Times.{times-end, times-stop, times-done}
use Rattle.parts.proofs.Taken.{number_read, block-short, then-next-bad, number-then, tested-then}
use Rattle.parts.specs.Parts.{end_of}
use Rattle.frames.specs.Frames.{sized_at, sections_at, frame_end, whole_frame, frame_at}
use Rattle.frames.specs.declared.FrameAt.{FrameAt}

-- ── A section ──

within-high : (high n : ℕ) → n ≤ high → within 0 high n ≡ true
within-high high n h = and-true (leb 0 n) (leb n high) (le-leb 0 n (omega arith)) (le-leb n high h)

over-high : (high n : ℕ) → high < n → within 0 high n ≡ false
over-high high n h = rw (le-leb 0 n (omega arith), lt-leb n high h)

pub size-short : (f : List ℕ) (at : ℕ) → length f < at + 4 → sized (drop at f) ≡ bad 0
unfolding sized
size-short f at h = then-bad (only (within 0 longest_section) (number 4)) block (drop at f)
    (only-bad (within 0 longest_section) (number 4) (drop at f) (number_cut 4 f at (omega arith)))

pub size-large : (f : List ℕ) (at : ℕ) → at + 4 ≤ length f → longest_section < read_at f at 4 → sized (drop at f) ≡ bad 0
unfolding sized
size-large f at h e =
    then-bad (only (within 0 longest_section) (number 4)) block (drop at f)
    (only-fail (within 0 longest_section) (number 4) (drop at f) (read_at f at 4) 4 (number_read f at 4 (omega arith) h)
    (over-high longest_section (read_at f at 4) e))

size-read : (f : List ℕ) (at : ℕ) → at + 4 ≤ length f → read_at f at 4 ≤ longest_section
    → only (within 0 longest_section) (number 4) (drop at f) ≡ good (read_at f at 4) 4
size-read f at h e = only-pass (within 0 longest_section) (number 4) (drop at f) (read_at f at 4) 4 (number_read f at 4 (omega arith) h)
    (within-high longest_section (read_at f at 4) e)

pub size-cut : (f : List ℕ) (at : ℕ) → at + 4 ≤ length f → read_at f at 4 ≤ longest_section → length f < at + 4 + read_at f at 4 → sized (drop at f) ≡ bad 4
unfolding sized
size-cut f at h e l =
    then-next-bad (only (within 0 longest_section) (number 4)) block (drop at f) (read_at f at 4) 4 {m = 0} (size-read f at h e)
    (rw drop-drop (block-short (read_at f at 4) f (at + 4) (omega arith)))

pub size-whole : (f : List ℕ) (at : ℕ) → at + 4 + read_at f at 4 ≤ length f → read_at f at 4 ≤ longest_section
    → sized (drop at f) ≡ good (take (read_at f at 4) (drop (at + 4) f)) (4 + read_at f at 4)
unfolding sized
size-whole f at l e =
    then-takes (only (within 0 longest_section) (number 4)) block (drop at f) (read_at f at 4) (take (read_at f at 4) (drop (at + 4) f)) 4
    (read_at f at 4) (size-read f at (omega arith) e)
    (rw drop-drop (block-is (read_at f at 4) (drop (at + 4) f) (omega (arith, length-drop (at + 4) f))))

-- ── The sections of a frame ──

pub sections-done : (f : List ℕ) (at left : ℕ) (all : Option ℕ) → left ≤ 0 → sections_at f at left ≡ all → Some at ≡ all
unfolding sections_at
sections-done f at left all h e = sym (times-done sized left f at h) ∙ e

pub sections-stop : (f : List ℕ) (at left : ℕ) (all r : Option ℕ) → 0 < left → r ≡ sized_at f at → r ≡ None → sections_at f at left ≡ all → None ≡ all
unfolding sections_at sized_at
sections-stop f at left all r h p q e = sym (times-stop sized left f at h (end-bad (sized (drop at f)) at (sym p ∙ q)).1) ∙ e

pub sections-step : (f : List ℕ) (at next left later : ℕ) (all r : Option ℕ) → sections_at f at left ≡ all → r ≡ sized_at f at → r ≡ Some next
    → left ≡ later + 1 → sections_at f next later ≡ all
unfolding sections_at sized_at
sections-step f at next left later all r e p q h =
    let (x, n, g, a) = end-good (sized (drop at f)) at next (sym p ∙ q) in
    let l : later ≡ left - 1 = omega arith in
    rw l (ap (λ (k : ℕ). end_of k (times (left - 1) sized (drop k f))) a ∙ sym (times-end sized left f at x n (omega arith) g) ∙ e)

-- ── A frame ──

-- what a frame's bytes say
pub record FrameParts (k : ℕ) (s : List ℕ) (x : Frame) (n : ℕ) : Type 0 where
  pub long : 16 ≤ length s
  pub mark : number_of (take 4 s) ≡ frame_mark
  pub time : x.time ≡ number_of (take 8 (drop 4 s))
  pub exposure : x.exposure ≡ number_of (take 4 (drop 12 s))
  pub sizes : ℕ
  pub sections : times k sized (drop 16 s) ≡ good x.sections sizes
  pub taken : n ≡ 16 + sizes

-- what stands behind the mark, the time and the exposure
abbrev behind_exposure : (k time exposure : ℕ) → Reader Frame
behind_exposure k t e = times k sized then λ ss. give (record { time = t; exposure = e; sections = ss })

abbrev behind_time : (k time : ℕ) → Reader Frame
behind_time k t = number 4 then behind_exposure k t

abbrev behind_mark : (k mark : ℕ) → Reader Frame
behind_mark k mark = number 8 then behind_time k

sections-behind : (k t e : ℕ) (s : List ℕ) (x : Frame) (m : ℕ) → behind_exposure k t e s ≡ good x m
    → (x.time ≡ t) × (x.exposure ≡ e) × (times k sized s ≡ good x.sections m)
unfolding give
sections-behind k t e s x m q = go (then-good (times k sized) (λ ss. give (record { time = t; exposure = e; sections = ss })) s x m q)
  where
    go : ((ss : List (List ℕ)) × (n : ℕ) × (z : ℕ) × (times k sized s ≡ good ss n)
        × (give (record { time = t; exposure = e; sections = ss }) (drop n s) ≡ good x z) × (m ≡ n + z))
        → (x.time ≡ t) × (x.exposure ≡ e) × (times k sized s ≡ good x.sections m)
    go (ss, n, z, f, g, h) =
        let r : record { time = t; exposure = e; sections = ss } ≡ x = cc in
        let o : 0 ≡ z = cc in
        let l : m ≡ n = omega arith in
        (ap (λ (y : Frame). y.time) (sym r), ap (λ (y : Frame). y.exposure) (sym r), rw l (f ∙ ap (λ (y : Frame). good y.sections n) r))

pub frame-parts : (k : ℕ) (s : List ℕ) (x : Frame) (n : ℕ) → frame k s ≡ good x n → FrameParts k s x n
unfolding frame
frame-parts k s x n e = first (tested-then (λ mark. eqb mark frame_mark) 4 (behind_mark k) s x n e)
  where
    third : (a b c : ℕ) → 4 ≤ length s → eqb (number_of (take 4 s)) frame_mark ≡ true → n ≡ 4 + a → 8 ≤ length (drop 4 s) → a ≡ 8 + b
        → ((4 ≤ length (drop 8 (drop 4 s))) × (c : ℕ)
        × (behind_exposure k (number_of (take 8 (drop 4 s))) (number_of (take 4 (drop 8 (drop 4 s)))) (drop 4 (drop 8 (drop 4 s))) ≡ good x c)
        × (b ≡ 4 + c)) → FrameParts k s x n
    third a b c' l t p l₂ p₂ (l₃, c, g, p₃) =
        let d : drop 8 (drop 4 s) ≡ drop 12 s = drop-drop 8 4 s in
        let d₂ : drop 4 (drop 8 (drop 4 s)) ≡ drop 16 s = rw (drop-drop, drop-drop) in
        let q = sections-behind k _ _ _ x c g in
        record {
          long = omega (arith, length-drop 4 s, length-drop 8 (drop 4 s));
          mark = eqb-true (number_of (take 4 s)) frame_mark t;
          time = q.0;
          exposure = q.1 ∙ ap (λ (l : List ℕ). number_of (take 4 l)) d;
          sizes = c;
          sections = rw d₂ at q.2;
          taken = omega arith;
        }

    second : (a : ℕ) → 4 ≤ length s → eqb (number_of (take 4 s)) frame_mark ≡ true → n ≡ 4 + a
        → ((8 ≤ length (drop 4 s)) × (b : ℕ) × (behind_time k (number_of (take 8 (drop 4 s))) (drop 8 (drop 4 s)) ≡ good x b) × (a ≡ 8 + b))
        → FrameParts k s x n
    second a l t p (l₂, b, g, p₂) =
        third a b 0 l t p l₂ p₂ (number-then 4 (behind_exposure k (number_of (take 8 (drop 4 s)))) (drop 8 (drop 4 s)) x b g)

    first : ((4 ≤ length s) × (eqb (number_of (take 4 s)) frame_mark ≡ true) × (a : ℕ) × (behind_mark k (number_of (take 4 s)) (drop 4 s) ≡ good x a)
        × (n ≡ 4 + a)) → FrameParts k s x n
    first (l, t, a, g, p) = second a l t p (number-then 8 (behind_time k) (drop 4 s) x a g)

pub frame_is : (k : ℕ) (s : List ℕ) (ss : List (List ℕ)) (m : ℕ) → 16 ≤ length s → number_of (take 4 s) ≡ frame_mark
    → times k sized (drop 16 s) ≡ good ss m → frame k s ≡ good
    (record { time = number_of (take 8 (drop 4 s)); exposure = number_of (take 4 (drop 12 s)); sections = ss }) (16 + m)
unfolding frame give
frame_is k s ss m h e t =
    let d : drop 12 s ≡ drop 8 (drop 4 s) = sym (drop-drop 8 4 s) in
    let d₂ : drop 4 (drop 8 (drop 4 s)) ≡ drop 16 s = rw (drop-drop, drop-drop) in
    let n : ℕ = m + 0 in
    let q : m ≡ m + 0 = omega arith in
    let r : 16 + m ≡ 4 + (8 + (4 + (m + 0))) = omega arith in
    rw (r, d)
    (then-takes (only (λ mark. eqb mark frame_mark) (number 4)) (behind_mark k) s (number_of (take 4 s)) _ 4 (8 + (4 + (m + 0)))
    (only-pass (λ mark. eqb mark frame_mark) (number 4) s (number_of (take 4 s)) 4 (number_is 4 s (omega arith))
    (eq-eqb (number_of (take 4 s)) frame_mark e))
    (then-takes (number 8) (behind_time k) (drop 4 s) (number_of (take 8 (drop 4 s))) _ 8 (4 + (m + 0))
    (number_is 8 (drop 4 s) (omega (arith, length-drop 4 s)))
    (then-takes (number 4) (behind_exposure k (number_of (take 8 (drop 4 s)))) (drop 8 (drop 4 s)) (number_of (take 4 (drop 8 (drop 4 s)))) _ 4
    (m + 0) (number_is 4 (drop 8 (drop 4 s)) (omega (arith, length-drop 4 s, length-drop 8 (drop 4 s))))
    (then-takes (times k sized) _ _ ss _ m 0 (rw d₂ t) refl))))

parsed-not : {A : Type 0} (x : A) (m n : ℕ) → bad m ≡ good x n → ⊥
parsed-not x m n e = let z : ◌≡◌ {A = ℕ} 0 1 = cc in omega arith

-- there is no frame where its parts can not be there
no-frame : (f : List ℕ) (at k : ℕ) → ((x : Frame) (n : ℕ) → FrameParts k (drop at f) x n → ⊥) → None ≡ frame_end f at k
unfolding frame_end end_of
no-frame f at k h = go (frame k (drop at f)) refl
  where
    go : (p : Parsed Frame) → frame k (drop at f) ≡ p → None ≡ end_of at p
    go (bad m) e = refl
    go (good x n) e = absurd (h x n (frame-parts k (drop at f) x n e))

pub end_short : (f : List ℕ) (at k : ℕ) → length f < 16 → None ≡ frame_end f at k
end_short f at k h = no-frame f at k (λ x n p. omega (arith, length-drop at f, p.long))

pub end-far : (f : List ℕ) (at k : ℕ) → 16 ≤ length f → length f - 16 < at → None ≡ frame_end f at k
end-far f at k h e = no-frame f at k (λ x n p. omega (arith, length-drop at f, p.long))

pub end-unmarked : (f : List ℕ) (at k m : ℕ) → 16 ≤ length f → at ≤ length f - 16 → m ≡ read_at f at 4 → (m ≡ 3993051903 → ⊥)
    → None ≡ frame_end f at k
end-unmarked f at k m h e p u = no-frame f at k (λ x n q. u (p ∙ read_is f at 4 (omega arith) (omega arith) ∙ q.mark))

-- a frame with its mark ends where its sections do
pub end-sections : (f : List ℕ) (at k m : ℕ) (r : Option ℕ) → 16 ≤ length f → at ≤ length f - 16 → m ≡ read_at f at 4 → m ≡ 3993051903
    → r ≡ sections_at f (at + 16) k → r ≡ frame_end f at k
unfolding frame_end sections_at end_of
end-sections f at k m r h l p q u = u ∙ go (times k sized (drop (at + 16) f)) refl
  where
    d : times k sized (drop 16 (drop at f)) ≡ times k sized (drop (at + 16) f)
    d = ap (times k sized) (drop-drop 16 at f)

    go : (x : Parsed (List (List ℕ))) → times k sized (drop (at + 16) f) ≡ x → end_of (at + 16) x ≡ frame_end f at k
    go (bad m) g = no-frame f at k (λ x n w. let z : ◌≡◌ {A = Parsed (List (List ℕ))} (bad m) (good x.sections w.sizes) = sym g ∙ sym d
        ∙ w.sections in parsed-not x.sections m w.sizes z)
    go (good ss n) g =
        let i = frame_is k (drop at f) ss n (omega (arith, length-drop at f)) (sym (read_is f at 4 (omega arith) (omega arith)) ∙ sym p ∙ q)
        (d ∙ g) in
        rw i (ap Some (omega arith))

-- the frame that ends there, and its numbers where they stand
pub ended : (f : List ℕ) (at k next : ℕ) → frame_end f at k ≡ Some next
    → (x : Frame) × (n : ℕ) × (frame k (drop at f) ≡ good x n) × (at + n ≡ next) × (x.time ≡ read_at f (at + 4) 8)
    × (x.exposure ≡ read_at f (at + 12) 4)
unfolding frame_end
ended f at k next q =
    let (x, n, g, a) = end-good (frame k (drop at f)) at next q in
    let p = frame-parts k (drop at f) x n g in
    let l : at + 16 ≤ length f = omega (arith, length-drop at f, p.long) in
    let t : number_of (take 8 (drop 4 (drop at f))) ≡ read_at f (at + 4) 8 =
    ap (λ (s : List ℕ). number_of (take 8 s)) (drop-drop 4 at f) ∙ sym (read_is f (at + 4) 8 (omega arith) (omega arith)) in
    let e : number_of (take 4 (drop 12 (drop at f))) ≡ read_at f (at + 12) 4 =
    ap (λ (s : List ℕ). number_of (take 4 s)) (drop-drop 12 at f) ∙ sym (read_is f (at + 12) 4 (omega arith) (omega arith)) in
    (x, n, g, sym a, p.time ∙ t, p.exposure ∙ e)

pub not-ended : (f : List ℕ) (at k : ℕ) → frame_end f at k ≡ None → (m : ℕ) × (frame k (drop at f) ≡ bad m)
unfolding frame_end
not-ended f at k q = end-bad (frame k (drop at f)) at q

pub frame-none : (f : List ℕ) (at k : ℕ) (r : Option ℕ) → r ≡ frame_end f at k → r ≡ None → None ≡ frame_at f at k
unfolding frame_at whole_frame
frame-none f at k r p q = rw (not-ended f at k (sym p ∙ q)).1

pub frame-whole : (f : List ℕ) (at k t e next : ℕ) (r : Option ℕ) → r ≡ frame_end f at k → r ≡ Some next → t ≡ read_at f (at + 4) 8
    → e ≡ read_at f (at + 12) 4 → Some (record { next = next; time = t; exposure = e }) ≡ frame_at f at k
unfolding frame_at whole_frame
frame-whole f at k t e next r p q a b = go (ended f at k next (sym p ∙ q))
  where
    go : ((x : Frame) × (n : ℕ) × (frame k (drop at f) ≡ good x n) × (at + n ≡ next) × (x.time ≡ read_at f (at + 4) 8)
        × (x.exposure ≡ read_at f (at + 12) 4)) → Some (record { next = next; time = t; exposure = e }) ≡ frame_at f at k
    go (x, n, g, i, c, d) = rw (g, a, b, c, d, i)

-- ── How long a frame is ──

size-most : (s x : List ℕ) (n : ℕ) → sized s ≡ good x n → n ≤ 16777220
unfolding sized
size-most s x n e = go (tested-then (within 0 longest_section) 4 block s x n e)
  where
    go : ((4 ≤ length s) × (within 0 longest_section (number_of (take 4 s)) ≡ true) × (m : ℕ) × (block (number_of (take 4 s)) (drop 4 s) ≡ good x m)
        × (n ≡ 4 + m)) → n ≤ 16777220
    go (l, t, m, g, p) =
        let u = leb-true (number_of (take 4 s)) longest_section
        (both_true (leb 0 (number_of (take 4 s))) (leb (number_of (take 4 s)) longest_section) t).1 in
        omega (arith, (block-good (number_of (take 4 s)) (drop 4 s) x m g).2)

sizes-most : (k : ℕ) (s : List ℕ) (ss : List (List ℕ)) (m : ℕ) → times k sized s ≡ good ss m → m ≤ k * 16777220
unfolding times
sizes-most zero s ss m e = let z : 0 ≡ m = cc in omega arith
sizes-most (suc k) s ss m e = go (times-suc-good sized k s ss m e) (λ t xs n. sizes-most k t xs n)
  where
    go : ((x : List ℕ) × (xs : List (List ℕ)) × (n : ℕ) × (m' : ℕ) × (sized s ≡ good x n) × (times k sized (drop n s) ≡ good xs m')
        × (x ∷ xs ≡ ss) × (n + m' ≡ m)) → ((t : List ℕ) (xs : List (List ℕ)) (n : ℕ) → times k sized t ≡ good xs n → n ≤ k * 16777220)
        → m ≤ suc k * 16777220
    go (x, xs, n, m', f, g, y, z) more = omega (arith, size-most s x n f, more (drop n s) xs m' g)

pub frame-most : (k : ℕ) (s : List ℕ) (x : Frame) (n : ℕ) → frame k s ≡ good x n → n ≤ 16 + k * 16777220
frame-most k s x n e =
    let p = frame-parts k s x n e in
    omega (arith, p.taken, sizes-most k (drop 16 s) x.sections p.sizes p.sections)

-- the frame that the code found
pub found : (f : List ℕ) (at k : ℕ) (r : FrameAt) → frame_at f at k ≡ Some r
    → (x : Frame) × (n : ℕ) × (frame k (drop at f) ≡ good x n) × (at + n ≡ r.next) × (x.time ≡ r.time) × (x.exposure ≡ r.exposure)
unfolding frame_at whole_frame
found f at k r q = go (frame k (drop at f)) refl q
  where
    go : (p : Parsed Frame) → frame k (drop at f) ≡ p → whole_frame at p ≡ Some r
        → (x : Frame) × (n : ℕ) × (frame k (drop at f) ≡ good x n) × (at + n ≡ r.next) × (x.time ≡ r.time) × (x.exposure ≡ r.exposure)
    go (bad m) g w = let z : ◌≡◌ {A = ℕ} 0 1 = cc in absurd (omega arith)
    go (good x n) g w =
        let i : ◌≡◌ {A = FrameAt} (record { next = at + n; time = x.time; exposure = x.exposure }) r = cc in
        (x, n, g, ap (λ (p : FrameAt). p.next) i, ap (λ (p : FrameAt). p.time) i, ap (λ (p : FrameAt). p.exposure) i)

-- a frame that was found ends behind its place
pub found-behind : (f : List ℕ) (at k : ℕ) (p : FrameAt) (r : Option FrameAt) → r ≡ frame_at f at k → r ≡ Some p → at ≤ p.next
found-behind f at k p r e q =
    let (x, n, g, a, b, c) = found f at k p (sym e ∙ q) in
    omega arith

-- so does one whose end alone was asked for, and its length fits a UInt32
pub end-behind : (f : List ℕ) (at k next : ℕ) (r : Option ℕ) → r ≡ frame_end f at k → r ≡ Some next → at ≤ next
end-behind f at k next r p q =
    let (x, n, g, a, b, c) = ended f at k next (sym p ∙ q) in
    omega (arith, (frame-parts k (drop at f) x n g).taken)

pub end-within : (f : List ℕ) (at k next : ℕ) (r : Option ℕ) → r ≡ frame_end f at k → r ≡ Some next → at + 16 ≤ length f
end-within f at k next r p q =
    let (x, n, g, a, b, c) = ended f at k next (sym p ∙ q) in
    omega (arith, (frame-parts k (drop at f) x n g).long, length-drop at f)

-- the places of its time and of its exposure fit
pub time-fits : (f : List ℕ) (at k next : ℕ) (r : Option ℕ) → r ≡ frame_end f at k → r ≡ Some next → length f < 2 ^ 64 → Fits w64 (at + 4)
time-fits f at k next r p q h = let l = end-within f at k next r p q in record { fits = omega arith }

pub exposure-fits : (f : List ℕ) (at k next : ℕ) (r : Option ℕ) → r ≡ frame_end f at k → r ≡ Some next → length f < 2 ^ 64 → Fits w64 (at + 12)
exposure-fits f at k next r p q h = let l = end-within f at k next r p q in record { fits = omega arith }

pub end-near : (f : List ℕ) (at k next : ℕ) (r : Option ℕ) → k ≤ 8 → r ≡ frame_end f at k → r ≡ Some next → next - at < 2 ^ 32
end-near f at k next r l p q =
    let (x, n, g, a, b, c) = ended f at k next (sym p ∙ q) in
    omega (arith, frame-most k (drop at f) x n g)

pub ruleset laws = (
  rules,
  size-short,
  size-large,
  size-cut,
  size-whole,
  sections-done,
  sections-stop,
  sections-step,
  end_short,
  end-far,
  end-unmarked,
  end-sections,
  frame-none,
  frame-whole,
  time-fits,
  exposure-fits,
)
