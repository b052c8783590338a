-- The walk, one frame at a time; where it ends; and that as many frames as it took are walked again.
-- Assumes nothing.
use Prim.Native.Nat.{ℕ, zero, suc, ◌+◌, ◌-◌, ◌^◌, ◌<◌, ◌≤◌}
use native.Mathlib.Omega.{arith}
use mathlib.Core.Path.{◌≡◌, refl, ap, sym, ◌∙◌}
use mathlib.Core.Bool.{Bool, true, false, ◌&&◌, cond}
use mathlib.Core.List.{List, ◌∷◌}
use lib.ListN.{length, drop, get_or}
use borrow.Author.Tests.{eq-eqb, ne_eqb}
use mir.Syntax.{w8}
use mir.Val.{Fits}
use Rattle.number.specs.Number.{read_at}
use Rattle.number.proofs.Bytes.{slice-bytes}
use Rattle.layout.specs.Recording.{Frame, frame_bytes, follows, follow}
use Rattle.layout.specs.Reading.{good, frame, Walk, stopped, longer, walk}
use Rattle.layout.proofs.Lists.{bytes_drop}
use Rattle.layout.proofs.Exact.{frame-exact}
use Rattle.layout.proofs.Walks.{walk_none, walk-stop}
use Rattle.frames.specs.Frames.{frame_end}
use Rattle.frames.proofs.Laws.{ended, not-ended, end-behind, end-near}
use Rattle.frames.proofs.Walks.{walk-cons, walk_first, by_first}
use Rattle.std.specs.Prelude.{Option, Some, None, Result, Ok, Err}
use Rattle.refusal.specs.declared.Refusal.{Refusal}
use Rattle.refusal.specs.declared.Refusal.TheVariants.{Clock}
use Rattle.repair.specs.Repaired.{step_to, step_by, step_of, walked_to, common_with, common_behind, walked_behind, walked_from, walked_all, walked_in}
use Rattle.repair.specs.declared.Step.{Step}
use Rattle.repair.specs.declared.Walked.{Walked}

-- ── The length in common ──

pub common-first : (count : ℕ) (common : Option ℕ) (size : ℕ) → count ≡ 0 → Some size ≡ common_with count common size
unfolding common_with
common-first count common size e = rw e

pub common-same : (count length size : ℕ) → (count ≡ 0 → ⊥) → length ≡ size → Some length ≡ common_with count (Some length) size
unfolding common_with
common-same zero length size n e = absurd (n refl)
common-same (suc c) length size n e = rw (eq-eqb length size e)

pub common-other : (count length size : ℕ) → (count ≡ 0 → ⊥) → (length ≡ size → ⊥) → None ≡ common_with count (Some length) size
unfolding common_with
common-other zero length size n d = absurd (n refl)
common-other (suc c) length size n d = rw (ne_eqb length size d)

pub common-none : (count size : ℕ) → (count ≡ 0 → ⊥) → None ≡ common_with count None size
unfolding common_with
common-none zero size n = absurd (n refl)
common-none (suc c) size n = refl

common-longer : (x : Frame) (xs : List Frame) (n count : ℕ) (common : Option ℕ) → n ≡ length (frame_bytes x)
    → common_behind count common (x ∷ xs) ≡ common_behind (count + 1) (common_with count common n) xs
unfolding common_behind
common-longer x xs n count common e = ap (λ (m : ℕ). common_behind (count + 1) (common_with count common m) xs) (sym e)

-- ── One frame at a time ──

-- the first frame follows itself
behind-none : (w : Walk) (first start : ℕ) → ((x : Frame) (xs : List Frame) → w.frames ≡ x ∷ xs → x.time ≡ first)
    → walked_behind w first first 0 None start ≡ walked_all w start
unfolding walked_behind walked_all
behind-none w first start h =
    let z : 0 + length w.frames ≡ length w.frames = omega arith in
    rw ((by_first w.frames first start h).0, z)

pub walk_start_lem : (f : List ℕ) (k start first : ℕ) → first ≡ read_at f (start + 4) 8 → walked_from f k first 1000000 first 0 None start ≡ walked_in f k start
unfolding walked_from walked_in
walk_start_lem f k start first e = behind-none (walk 1000000 k (drop start f)) first start (λ x xs q. walk_first f k start 1000000 x xs q ∙ sym e)

-- no frame more
behind-stopped : (first last count : ℕ) (common : Option ℕ) (place : ℕ) → walked_behind stopped first last count common place ≡ walked_to count place common
unfolding walked_behind common_behind stopped follow
behind-stopped first last count common place =
    let c : count + 0 ≡ count = omega arith in
    let p : place + 0 ≡ place = omega arith in
    rw (c, p)

pub walk-most : (f : List ℕ) (k first left last count : ℕ) (common : Option ℕ) (place : ℕ) (all : Result Walked Refusal) → left ≤ 0
    → walked_from f k first left last count common place ≡ all → walked_to count place common ≡ all
unfolding walked_from
walk-most f k first left last count common place all h e =
    let z : left ≡ 0 = omega arith in
    sym (rw (z, walk_none) (behind-stopped first last count common place)) ∙ e

walk_end : (f : List ℕ) (k first left last count : ℕ) (common : Option ℕ) (place : ℕ) → frame_end f place k ≡ None
    → walked_from f k first left last count common place ≡ walked_to count place common
unfolding walked_from
walk_end f k first left last count common place p =
    rw (walk-stop left k (drop place f) (rw (not-ended f place k p).1)) (behind-stopped first last count common place)

-- a frame more, and the walk behind it
behind-longer : (w : Walk) (x : Frame) (n first last count : ℕ) (common : Option ℕ) (place : ℕ) → n ≡ length (frame_bytes x)
    → walked_behind (longer x n w) first last count common place ≡ cond (follows first last x.time)
    (walked_behind w first x.time (count + 1) (common_with count common n) (place + n)) (Err Clock)
unfolding walked_behind longer follow
behind-longer w x n first last count common place e =
    let c : count + suc (length w.frames) ≡ count + 1 + length w.frames = omega arith in
    let p : place + (n + w.bytes) ≡ place + n + w.bytes = omega arith in
    rw (c, p, common-longer x w.frames n count common e) (go (follows first last x.time) (follow first x.time w.frames)
    (walked_to (count + 1 + length w.frames) (place + n + w.bytes) (common_behind (count + 1) (common_with count common n) w.frames)))
  where
    go : (b t : Bool) (i : Result Walked Refusal) → cond (b && t) i (Err Clock) ≡ cond b (cond t i (Err Clock)) (Err Clock)
    go true t i = refl
    go false t i = refl

-- the rest of the walk, by the frame that ends at `next`
abbrev behind : (f : List ℕ) (k first left count : ℕ) (common : Option ℕ) (place next t : ℕ) → Result Walked Refusal
behind f k first left count common place next t = walked_from f k first (left - 1) t (count + 1) (common_with count common (next - place)) next

walk-longer : (f : List ℕ) (k first left last count : ℕ) (common : Option ℕ) (place next t : ℕ) → ((i : ℕ) → Fits w8 (get_or f i 0)) → 0 < left
    → frame_end f place k ≡ Some next → t ≡ read_at f (place + 4) 8
    → walked_from f k first left last count common place ≡ cond (follows first last t) (behind f k first left count common place next t) (Err Clock)
unfolding walked_from
walk-longer f k first left last count common place next t b h q v = go (ended f place k next q)
  where
    go : ((x : Frame) × (n : ℕ) × (frame k (drop place f) ≡ good x n) × (place + n ≡ next) × (x.time ≡ read_at f (place + 4) 8)
        × (x.exposure ≡ read_at f (place + 12) 4)) → walked_from f k first left last count common place ≡ cond (follows first last t)
        (behind f k first left count common place next t) (Err Clock)
    go (x, n, g, a, c, d) =
        let m : next - place ≡ n = omega arith in
        let z : n ≡ length (frame_bytes x) = ((frame-exact k).gives (drop place f) x n (bytes_drop place f (slice-bytes f b)) g).1 in
        rw (m, ← a, v, ← c, walk-cons f k left place x n h g)
        (behind-longer (walk (left - 1) k (drop (place + n) f)) x n first last count common place z)

-- ── A step ──

module _ (f : List ℕ) (k first last place : ℕ) where
  pub step-none : (r : Option ℕ) → r ≡ frame_end f place k → r ≡ None → Ok None ≡ step_of f k first last place
  unfolding step_of step_by
  step-none r p q = rw (sym p ∙ q)

  pub step-next : (next t : ℕ) (r : Option ℕ) (s : Bool) → r ≡ frame_end f place k → r ≡ Some next → t ≡ read_at f (place + 4) 8 → s ≡ follows first last t
      → s ≡ true → step_to next t ≡ step_of f k first last place
  unfolding step_of step_by
  step-next next t r s p q a u v = rw (sym p ∙ q, ← a, sym u ∙ v)

  pub step-late : (next t : ℕ) (r : Option ℕ) (s : Bool) → r ≡ frame_end f place k → r ≡ Some next → t ≡ read_at f (place + 4) 8 → s ≡ follows first last t
      → s ≡ false → Err Clock ≡ step_of f k first last place
  unfolding step_of step_by
  step-late next t r s p q a u v = rw (sym p ∙ q, ← a, sym u ∙ v)

  -- a step that goes on goes over a frame
  pub record Stepping (s : Step) : Type 0 where
    pub ends : frame_end f place k ≡ Some s.next
    pub time : s.time ≡ read_at f (place + 4) 8
    pub in_time : follows first last s.time ≡ true

  pub stepping : (s : Step) (r : Result (Option Step) Refusal) → r ≡ step_of f k first last place → r ≡ Ok (Some s) → Stepping s
  unfolding step_of step_by
  stepping s r p q = go (frame_end f place k) refl (sym p ∙ q)
    where
      told : (end : ℕ) (b : Bool) → frame_end f place k ≡ Some end → follows first last (read_at f (place + 4) 8) ≡ b
          → cond b (step_to end (read_at f (place + 4) 8)) (Err Clock) ≡ Ok (Some s) → Stepping s
      told end true g u c =
          let e : ◌≡◌ {A = Step} (record { next = end; time = read_at f (place + 4) 8 }) s = cc in
          let m : end ≡ s.next = ap (λ (x : Step). x.next) e in
          let n : read_at f (place + 4) 8 ≡ s.time = ap (λ (x : Step). x.time) e in
          record { ends = g ∙ ap Some m; time = sym n; in_time = rw n at u }
      told end false g u c = cc

      go : (e : Option ℕ) → frame_end f place k ≡ e → step_by e f first last place ≡ Ok (Some s) → Stepping s
      go (Some end) g c = told end (follows first last (read_at f (place + 4) 8)) g refl c
      go None g c = cc

  pub step-behind : (s : Step) → Ok (Some s) ≡ step_of f k first last place → place ≤ s.next
  step-behind s p = end-behind f place k s.next (Some s.next) (sym (stepping s (Ok (Some s)) p refl).ends) refl

  pub step-near : (s : Step) → Ok (Some s) ≡ step_of f k first last place → k ≤ 8 → s.next - place < 2 ^ 32
  step-near s p z = end-near f place k s.next (Some s.next) z (sym (stepping s (Ok (Some s)) p refl).ends) refl

-- the walk goes no further
pub walk-stops : (f : List ℕ) (k first left last count : ℕ) (common : Option ℕ) (place : ℕ) (all : Result Walked Refusal) → walked_from f k first left last count common place ≡ all
    → Ok None ≡ step_of f k first last place → walked_to count place common ≡ all
unfolding step_of step_by
walk-stops f k first left last count common place all i p = go (frame_end f place k) refl p
  where
    told : (b : Bool) (next : ℕ) → Ok None ≡ cond b (step_to next (read_at f (place + 4) 8)) (Err Clock) → walked_to count place common ≡ all
    told true next q = cc
    told false next q = cc

    go : (e : Option ℕ) → frame_end f place k ≡ e → Ok None ≡ step_by e f first last place → walked_to count place common ≡ all
    go (Some next) g q = told (follows first last (read_at f (place + 4) 8)) next q
    go None g q = sym (walk_end f k first left last count common place g) ∙ i

pub walk-late : (f : List ℕ) (k first left last count : ℕ) (common : Option ℕ) (place : ℕ) (r : Refusal) (all : Result Walked Refusal) → ((i : ℕ) → Fits w8 (get_or f i 0))
    → walked_from f k first left last count common place ≡ all → Err r ≡ step_of f k first last place → 0 < left → Err r ≡ all
unfolding step_of step_by
walk-late f k first left last count common place r all b i p h = go (frame_end f place k) refl p
  where
    told : (next : ℕ) (s : Bool) → frame_end f place k ≡ Some next → follows first last (read_at f (place + 4) 8) ≡ s
        → Err r ≡ cond s (step_to next (read_at f (place + 4) 8)) (Err Clock) → Err r ≡ all
    told next true g u q = cc
    told next false g u q = let c : r ≡ Clock = cc in ap Err c ∙ sym (rw u at (walk-longer f k first left last count common place next (read_at f (place + 4) 8) b h g refl)) ∙ i

    go : (e : Option ℕ) → frame_end f place k ≡ e → Err r ≡ step_by e f first last place → Err r ≡ all
    go (Some next) g q = told next (follows first last (read_at f (place + 4) 8)) g refl q
    go None g q = cc

pub walk-goes : (f : List ℕ) (k first left last count : ℕ) (common : Option ℕ) (place : ℕ) (new : Option ℕ) (next : ℕ) (s : Step) (all : Result Walked Refusal) → ((i : ℕ) → Fits w8 (get_or f i 0))
    → walked_from f k first left last count common place ≡ all → Ok (Some s) ≡ step_of f k first last place → new ≡ common_with count common (s.next - place)
    → left ≡ next + 1 → walked_from f k first next s.time (count + 1) new s.next ≡ all
walk-goes f k first left last count common place new next s all b i p n h =
    let t = stepping f k first last place s (Ok (Some s)) p refl in
    let m : next ≡ left - 1 = omega arith in
    rw (n, m) (sym (rw t.in_time at (walk-longer f k first left last count common place s.next s.time b (omega arith) t.ends t.time)) ∙ i)
