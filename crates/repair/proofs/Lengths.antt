-- The lengths of frames that the walk keeps, and that they lead from frame to frame.
-- Assumes nothing.
use Prim.Native.Nat.{ℕ, ◌+◌, ◌-◌, ◌<◌, ◌≤◌}
use native.Mathlib.Omega.{arith}
use mathlib.Core.Path.{◌≡◌, refl, sym, ◌∙◌}
use mathlib.Core.Bool.{Bool, true, false, ◌||◌, cond}
use mathlib.Core.List.{List, [], ◌∷◌}
use lib.ListN.{length, drop, get_or, set, length-set}
use lib.Seq.{get_or-set_same, get_or-set_other}
use lib.Dec.{leb, ltb, eqb}
use borrow.Author.Tests.{lt-ltb, le-ltb, leb-false, eq-eqb}
use mir.Syntax.{w8}
use mir.Val.{Fits}
use Rattle.number.specs.Number.{read_at}
use Rattle.number.proofs.Bytes.{slice-bytes}
use Rattle.layout.specs.Recording.{Frame, frame_bytes, follows}
use Rattle.layout.specs.Reading.{good, frame, stopped, longer, walk}
use Rattle.layout.proofs.Lists.{bytes_drop}
use Rattle.layout.proofs.Exact.{frame-exact}
use Rattle.layout.proofs.Walks.{walk_none, walk-stop}
use Rattle.frames.specs.Frames.{frame_end}
use Rattle.frames.proofs.Laws.{ended, not-ended}
use Rattle.frames.proofs.Walks.{walk-cons}
use Rattle.std.specs.Prelude.{Option, Some, None, Result, Ok, Err}
use Rattle.refusal.specs.declared.Refusal.{Refusal}
use Rattle.refusal.specs.declared.Refusal.TheVariants.{Clock}
use Rattle.repair.specs.Repaired.{step_to, step_by, step_of, noted, noted_from, Lengths, listed}
use Rattle.repair.proofs.Walks.{stepping}
use Rattle.repair.specs.declared.Step.{Step}
use Rattle.repair.specs.declared.Walked.{Walked}

-- ── One length ──

pub noted-past : (ls : List ℕ) (i n : ℕ) → length ls ≤ i → ls ≡ noted ls i n
unfolding noted
noted-past ls i n h = rw (le-ltb i (length ls) h)

pub noted-there : (ls : List ℕ) (i n : ℕ) → i < length ls → set ls i n ≡ noted ls i n
unfolding noted
noted-there ls i n h = rw (lt-ltb i (length ls) h)

length-noted : (ls : List ℕ) (i n : ℕ) → length (noted ls i n) ≡ length ls
unfolding noted
length-noted ls i n = go (ltb i (length ls))
  where
    go : (b : Bool) → length (cond b (set ls i n) ls) ≡ length ls
    go true = length-set ls i n
    go false = refl

-- the lengths of other frames stay
noted_other : (ls : List ℕ) (i n j : ℕ) → j < i → get_or (noted ls i n) j 0 ≡ get_or ls j 0
unfolding noted
noted_other ls i n j h = go (ltb i (length ls))
  where
    go : (b : Bool) → get_or (cond b (set ls i n) ls) j 0 ≡ get_or ls j 0
    go true = get_or-set_other ls i j n 0 (λ e. omega arith)
    go false = refl

noted-kept : (ls : List ℕ) (i n : ℕ) → (leb (length ls) i || eqb (get_or (noted ls i n) i 0) n) ≡ true
unfolding noted
noted-kept ls i n = go (leb (length ls) i) refl
  where
    go : (b : Bool) → leb (length ls) i ≡ b → (b || eqb (get_or (cond (ltb i (length ls)) (set ls i n) ls) i 0) n) ≡ true
    go true e = refl
    go false e =
        let h : i < length ls = omega (arith, leb-false (length ls) i e) in
        rw (lt-ltb i (length ls) h) (eq-eqb (get_or (set ls i n) i 0) n (get_or-set_same ls i n 0 h))

-- ── The lengths of all frames ──

length-kept : (ls : List ℕ) (i : ℕ) (xs : List Frame) → length (noted_from ls i xs) ≡ length ls
unfolding noted_from
length-kept ls i [] = refl
length-kept ls i (x ∷ xs) = length-kept (noted ls i (length (frame_bytes x))) (i + 1) xs ∙ length-noted ls i (length (frame_bytes x))

earlier-kept : (ls : List ℕ) (i j : ℕ) (xs : List Frame) → j < i → get_or (noted_from ls i xs) j 0 ≡ get_or ls j 0
unfolding noted_from
earlier-kept ls i j [] h = refl
earlier-kept ls i j (x ∷ xs) h =
    earlier-kept (noted ls i (length (frame_bytes x))) (i + 1) j xs (omega arith) ∙ noted_other ls i (length (frame_bytes x)) j h

pub all_listed : (ls : List ℕ) (i : ℕ) (xs : List Frame) → listed (noted_from ls i xs) i xs ≡ true
unfolding noted_from listed
all_listed ls i [] = refl
all_listed ls i (x ∷ xs) =
    rw (
      length-kept (noted ls i (length (frame_bytes x))) (i + 1) xs,
      length-noted ls i (length (frame_bytes x)),
      earlier-kept (noted ls i (length (frame_bytes x))) (i + 1) i xs (omega arith),
      noted-kept ls i (length (frame_bytes x)),
    ) (all_listed (noted ls i (length (frame_bytes x))) (i + 1) xs)

-- ── The walk keeps them ──

-- what is kept so far, and what the frames that are left add
abbrev pub kept : (f : List ℕ) (k left place count : ℕ) (ls : List ℕ) → List ℕ
kept f k left place count ls = noted_from ls count (walk left k (drop place f)).frames

kept-stopped : (f ls : List ℕ) (k left place count : ℕ) → walk left k (drop place f) ≡ stopped → kept f k left place count ls ≡ ls
unfolding noted_from stopped
kept-stopped f ls k left place count e = rw e

pub kept-most : (f before ls : List ℕ) (k start left place count : ℕ) (r : Result Walked Refusal) → kept f k left place count ls ≡ kept f k 1000000 start 0 before
    → left ≤ 0 → Lengths f k start r before ls
kept-most f before ls k start left place count r e h =
    let z : left ≡ 0 = omega arith in
    record { kept = λ w q. sym (kept-stopped f ls k left place count (rw z (walk_none k (drop place f)))) ∙ e }

pub kept-stops : (f before ls : List ℕ) (k start first last left place count : ℕ) (r : Result Walked Refusal)
    → kept f k left place count ls ≡ kept f k 1000000 start 0 before → Ok None ≡ step_of f k first last place → Lengths f k start r before ls
unfolding step_of step_by
kept-stops f before ls k start first last left place count r e p = record { kept = λ w q. go (frame_end f place k) refl p }
  where
    told : (x : Bool) (next : ℕ) → Ok None ≡ cond x (step_to next (read_at f (place + 4) 8)) (Err Clock) → ls ≡ kept f k 1000000 start 0 before
    told true next v = cc
    told false next v = cc

    go : (x : Option ℕ) → frame_end f place k ≡ x → Ok None ≡ step_by x f first last place → ls ≡ kept f k 1000000 start 0 before
    go None g v = sym (kept-stopped f ls k left place count (walk-stop left k (drop place f) (rw (not-ended f place k g).1))) ∙ e
    go (Some next) g v = told (follows first last (read_at f (place + 4) 8)) next v

pub kept-refused : (f before ls : List ℕ) (k start : ℕ) (r : Refusal) → Lengths f k start (Err r) before ls
kept-refused f before ls k start r = record { kept = λ w q. cc }

pub kept_goes : (f ls all : List ℕ) (k first last left place count next : ℕ) (new : List ℕ) (s : Step) → ((i : ℕ) → Fits w8 (get_or f i 0))
    → kept f k left place count ls ≡ all → Ok (Some s) ≡ step_of f k first last place → new ≡ noted ls count (s.next - place) → left ≡ next + 1
    → kept f k next s.next (count + 1) new ≡ all
unfolding noted_from longer
kept_goes f ls all k first last left place count next new s b e p u h = go (ended f place k s.next (stepping f k first last place s (Ok (Some s)) p refl).ends)
  where
    go : ((x : Frame) × (n : ℕ) × (frame k (drop place f) ≡ good x n) × (place + n ≡ s.next) × (x.time ≡ read_at f (place + 4) 8)
        × (x.exposure ≡ read_at f (place + 12) 4)) → noted_from new (count + 1) (walk next k (drop s.next f)).frames ≡ all
    go (x, n, g, a, c, d) =
        let o : next ≡ left - 1 = omega arith in
        let m : s.next - place ≡ n = omega arith in
        let z : n ≡ length (frame_bytes x) = ((frame-exact k).gives (drop place f) x n (bytes_drop place f (slice-bytes f b)) g).1 in
        let w : noted_from (noted ls count (length (frame_bytes x))) (count + 1) (walk (left - 1) k (drop (place + n) f)).frames ≡ all =
        rw (walk-cons f k left place x n (omega arith) g) at e in
        rw (u, m, z, o, ← a) w
