-- The frames' part of repair: where the walk ends, and each way out.
-- Assumes nothing.
use Prim.Native.Nat.{ℕ, zero, suc, ◌+◌, ◌*◌, ◌^◌, ◌<◌, ◌≤◌}
use native.Mathlib.Omega.{arith}
use mathlib.Core.Path.{◌≡◌, refl, ap, sym, ◌∙◌}
use mathlib.Core.Bool.{Bool, true, false, not, cond}
use mathlib.Core.List.{List, [], ◌∷◌, flat_map}
use lib.ListN.{length, drop, get_or, length-append}
use lib.Seq.{sets}
use lib.Pow.{are_bytes}
use lib.Dec.{eqb}
use borrow.Author.Tests.{lt-ltb, le-ltb, eqb-true, eq-eqb}
use mir.Syntax.{w8, w64}
use mir.Val.{Fits}
use Rattle.number.specs.Number.{bytes_of, read_at}
use Rattle.number.proofs.Bytes.{slice-bytes}
use Rattle.layout.specs.Recording.{Frame, frame_bytes, in_order, index_bytes, table_bytes}
use Rattle.layout.specs.Reading.{Walk, walk}
use Rattle.layout.specs.Opening.{line, first_of}
use Rattle.layout.specs.Recorder.{too_long, no_room, filled}
use Rattle.layout.specs.Repair.{Repair, repair_answer}
use Rattle.layout.proofs.Lists.{bytes_drop}
use Rattle.layout.proofs.Lines.{line-pass, line-holds}
use Rattle.layout.proofs.Orders.{no_lines}
use Rattle.layout.proofs.Outputs.{sets-append, filled_is}
use Rattle.layout.proofs.Walks.{walk-gives, took, walk-exactly}
use Rattle.frames.proofs.Walks.{walk_first, by_first, length-index}
use Rattle.std.specs.Prelude.{Ok, Err, Option, Some, None}
use Rattle.refusal.specs.Refusal.{placed, unless}
use Rattle.refusal.specs.declared.Refusal.{Refusal}
use Rattle.refusal.specs.declared.Refusal.TheVariants.{Clock, Full, NoRoom}
use Rattle.repair.specs.Repaired.{made, kept_with, answer_of, walked_to, made_of, common_with, common_behind, walked_all, walked_in, Lengths, frames_in, alike, alike_in, listed, listed_in, entries_in, index_in, tailed, tail_of, walk_lines, keeping, walk_repaired, frames_repaired}
use Rattle.repair.proofs.Lengths.{all_listed}
use Rattle.repair.specs.declared.Walked as declared

-- ── What the walk answered ──

walked-well : (w : Walk) (start count end : ℕ) (common : Option ℕ) → walked_all w start ≡ walked_to count end common
    → (in_order w.frames ≡ true) × (length w.frames ≡ count) × (start + w.bytes ≡ end) × (common_behind 0 None w.frames ≡ common)
unfolding walked_all
walked-well w start count end common e = go (in_order w.frames) e
  where
    go : (b : Bool) → cond b (walked_to (length w.frames) (start + w.bytes) (common_behind 0 None w.frames)) (Err Clock) ≡ walked_to count end
        common → (b ≡ true) × (length w.frames ≡ count) × (start + w.bytes ≡ end) × (common_behind 0 None w.frames ≡ common)
    go true q =
        let e : ◌≡◌ {A = declared.Walked} (record { count = length w.frames; end = start + w.bytes; common = common_behind 0 None w.frames })
        (record { count = count; end = end; common = common }) = cc in
        (refl, ap (λ (x : declared.Walked). x.count) e, ap (λ (x : declared.Walked). x.end) e, ap (λ (x : declared.Walked). x.common) e)
    go false q = let z : ◌≡◌ {A = ℕ} 0 1 = cc in absurd (omega arith)

walked-ill : (w : Walk) (start : ℕ) (r : Refusal) → Err r ≡ walked_all w start → (r ≡ Clock) × (not (in_order w.frames) ≡ true)
unfolding walked_all
walked-ill w start r e = go (in_order w.frames) e
  where
    go : (b : Bool) → Err r ≡ cond b (walked_to (length w.frames) (start + w.bytes) (common_behind 0 None w.frames)) (Err Clock) → (r ≡ Clock) × (not b ≡ true)
    go true q = cc
    go false q = (cc, refl)

-- ── Refused ──

-- a refused call answers its number and leaves the output
pub refused-made : (p : ℕ) (out : List ℕ) (refused n : ℕ) (r : Repair) → refused ≡ suc n
    → made (Err (placed (suc n) p)) out ≡ made_of p out (repair_answer refused r)
unfolding made_of repair_answer answer_of unless filled
refused-made p out refused n r e = rw e

refused-walk : (w : Walk) (start n : ℕ) (out : List ℕ) → first_of (walk_lines w start (length out)) ≡ suc n
    → made (Err (placed (suc n) 0)) out ≡ walk_repaired w start out
unfolding walk_repaired
refused-walk w start n out e = refused-made 0 out (first_of (walk_lines w start (length out))) n (keeping w start) e

clock-made : (w : Walk) (start : ℕ) (out : List ℕ) (r : Refusal) → Err r ≡ walked_all w start → made (Err r) out ≡ walk_repaired w start out
unfolding walk_lines
clock-made w start out r e =
    let (c, n) = walked-ill w start r e in
    rw c (refused-walk w start 12 out (line-holds 13 _ _ n))

pub frames-clock : (f out : List ℕ) (k start : ℕ) (r : Refusal) → Err r ≡ walked_in f k start → made (Err r) out ≡ frames_repaired f k start out
unfolding walked_in frames_repaired
frames-clock f out k start r p = clock-made (walk 1000000 k (drop start f)) start out r p

-- the lines 13 and 15, and then 9, of a walk in order
pass-clock : (w : Walk) (start room count end : ℕ) (common : Option ℕ) → walked_all w start ≡ walked_to count end common
    → first_of (walk_lines w start room) ≡ first_of (line 15 (too_long end count) ∷ line 9 (no_room room (length (tail_of w start))) ∷ [])
unfolding walk_lines
pass-clock w start room count end common e =
    let (o, c, b, m) = walked-well w start count end common e in
    line-pass 13 _ _ (ap not o) ∙ rw (c, b)

is-long : (end count : ℕ) → 1099511115772 < end + (4 + 16 * count) → too_long end count ≡ true
unfolding too_long
is-long end count h = lt-ltb (2 ^ 40) (end + (4 + 16 * count) + 512004) (omega arith)

not-long : (end count : ℕ) → end + (4 + 16 * count) ≤ 1099511115772 → too_long end count ≡ false
unfolding too_long
not-long end count h = le-ltb (2 ^ 40) (end + (4 + 16 * count) + 512004) (omega arith)

long-made : (w : Walk) (start count end : ℕ) (common : Option ℕ) (out : List ℕ) → walked_all w start ≡ walked_to count end common
    → 1099511115772 < end + (4 + 16 * count) → made (Err Full) out ≡ walk_repaired w start out
long-made w start count end common out e h = refused-walk w start 14 out
    (pass-clock w start (length out) count end common e ∙ line-holds 15 _ _ (is-long end count h))

pub frames-far : (f out : List ℕ) (k start : ℕ) (w : declared.Walked) → Ok w ≡ walked_in f k start
    → 1099511115772 < w.end → made (Err Full) out ≡ frames_repaired f k start out
unfolding walked_in frames_repaired
frames-far f out k start w p h = long-made (walk 1000000 k (drop start f)) start w.count w.end w.common out (sym p) (omega arith)

pub frames-long : (f out : List ℕ) (k start : ℕ) (w : declared.Walked) → Ok w ≡ walked_in f k start
    → 1099511115772 < w.end + (4 + 16 * w.count) → made (Err Full) out ≡ frames_repaired f k start out
unfolding walked_in frames_repaired
frames-long f out k start w p h = long-made (walk 1000000 k (drop start f)) start w.count w.end w.common out (sym p) h

length-tail : (w : Walk) (start count end : ℕ) (common : Option ℕ) → walked_all w start ≡ walked_to count end common → length (tail_of w start) ≡ 4 + 16 * count + 4
unfolding tail_of table_bytes bytes_of flat_map
length-tail w start count end common e =
    omega (
      arith,
      length-append (index_bytes start w.frames) (table_bytes []),
      length-index start w.frames,
      (walked-well w start count end common e).1,
    )

pass-long : (w : Walk) (start room count end : ℕ) (common : Option ℕ) → walked_all w start ≡ walked_to count end common → end + (4 + 16 * count) ≤ 1099511115772
    → first_of (walk_lines w start room) ≡ first_of (line 9 (no_room room (4 + 16 * count + 4)) ∷ [])
pass-long w start room count end common e h = pass-clock w start room count end common e ∙ line-pass 15 _ _ (not-long end count h)
    ∙ rw (length-tail w start count end common e)

room-made : (w : Walk) (start count end : ℕ) (common : Option ℕ) (out : List ℕ) → walked_all w start ≡ walked_to count end common
    → end + (4 + 16 * count) ≤ 1099511115772 → length out < 4 + 16 * count + 4 → made (Err NoRoom) out ≡ walk_repaired w start out
room-made w start count end common out e h l = refused-walk w start 8 out
    (pass-long w start (length out) count end common e h ∙ line-holds 9 _ _ (lt-ltb (length out) (4 + 16 * count + 4) l))

pub frames-room : (f out : List ℕ) (k start : ℕ) (w : declared.Walked) → Ok w ≡ walked_in f k start
    → w.end + (4 + 16 * w.count) ≤ 1099511115772 → length out < 4 + 16 * w.count + 4 → made (Err NoRoom) out ≡ frames_repaired f k start out
unfolding walked_in frames_repaired
frames-room f out k start w p h l = room-made (walk 1000000 k (drop start f)) start w.count w.end w.common out (sym p) h l

-- ── Kept ──

-- as many frames as were walked are walked again
walk-again : (most k : ℕ) (s : List ℕ) → are_bytes s ≡ true → (walk (length (walk most k s).frames) k s).frames ≡ (walk most k s).frames
unfolding took
walk-again most k s h =
    let g = walk-gives most k s h in
    ap (λ (w : Walk). w.frames) (ap (walk (length (walk most k s).frames) k) g.front
    ∙ walk-exactly (walk most k s).frames k (drop (walk most k s).bytes s) g.legal)

again-many : (f : List ℕ) (most k start count end : ℕ) (common : Option ℕ) → are_bytes f ≡ true
    → walked_all (walk most k (drop start f)) start ≡ walked_to count end common → frames_in f k count start ≡ count
unfolding frames_in
again-many f most k start count end common h e =
    let c : length (walk most k (drop start f)).frames ≡ count = (walked-well (walk most k (drop start f)) start count end common e).1 in
    ap (λ (n : ℕ). length (walk n k (drop start f)).frames) (sym c) ∙ ap length (walk-again most k (drop start f) (bytes_drop start f h)) ∙ c

pub frames-again : (f : List ℕ) (k start : ℕ) (w : declared.Walked) → ((i : ℕ) → Fits w8 (get_or f i 0)) → Ok w ≡ walked_in f k start → frames_in f k w.count start ≡ w.count
unfolding walked_in
frames-again f k start w s p = again-many f 1000000 k start w.count w.end w.common (slice-bytes f s) (sym p)

-- a length in common is that of each frame
common-each : (count : ℕ) (common : Option ℕ) (size n : ℕ) → 0 < count → common_with count common size ≡ Some n → (common ≡ Some n) × (size ≡ n)
unfolding common_with
common-each zero common size n h e = absurd (omega arith)
common-each (suc c) None size n h e = cc
common-each (suc c) (Some m) size n h e = go (eqb m size) refl e
  where
    go : (b : Bool) → eqb m size ≡ b → cond b (Some m) None ≡ Some n → (Some m ≡ Some n) × (size ≡ n)
    go true t q = let u : m ≡ size = eqb-true m size t in (q, cc)
    go false t q = cc

alike-behind : (frames : List Frame) (count : ℕ) (common : Option ℕ) (n : ℕ) → 0 < count → common_behind count common frames ≡ Some n
    → (common ≡ Some n) × (alike (Some n) frames ≡ true)
unfolding common_behind alike
alike-behind [] count common n h e = (e, refl)
alike-behind (x ∷ xs) count common n h e =
    let (c, a) = alike-behind xs (count + 1) (common_with count common (length (frame_bytes x))) n (omega arith) e in
    let (d, l) = common-each count common (length (frame_bytes x)) n h c in
    (d, rw (eq-eqb (length (frame_bytes x)) n l) a)

common-alike : (frames : List Frame) (common : Option ℕ) → common_behind 0 None frames ≡ common → alike common frames ≡ true
unfolding common_behind alike common_with
common-alike frames None e = refl
common-alike [] (Some n) e = refl
common-alike (x ∷ xs) (Some n) e =
    let (c, a) = alike-behind xs 1 (Some (length (frame_bytes x))) n (omega arith) e in
    let l : length (frame_bytes x) ≡ n = cc in
    rw (eq-eqb (length (frame_bytes x)) n l) a

alike-again : (f : List ℕ) (most k start count end : ℕ) (common : Option ℕ) → are_bytes f ≡ true
    → walked_all (walk most k (drop start f)) start ≡ walked_to count end common → alike_in f k common count start ≡ true
unfolding alike_in
alike-again f most k start count end common h e =
    let (o, c, b, m) = walked-well (walk most k (drop start f)) start count end common e in
    ap (λ (n : ℕ). alike common (walk n k (drop start f)).frames) (sym c)
    ∙ ap (alike common) (walk-again most k (drop start f) (bytes_drop start f h)) ∙ common-alike (walk most k (drop start f)).frames common m

pub frames-alike : (f : List ℕ) (k start : ℕ) (w : declared.Walked) → ((i : ℕ) → Fits w8 (get_or f i 0)) → Ok w ≡ walked_in f k start → alike_in f k w.common w.count start ≡ true
unfolding walked_in
frames-alike f k start w s p = alike-again f 1000000 k start w.count w.end w.common (slice-bytes f s) (sym p)

-- the lengths that the walk kept are those of the frames
pub frames-listed : (f before after : List ℕ) (k start : ℕ) (w : declared.Walked) → ((i : ℕ) → Fits w8 (get_or f i 0))
    → Ok w ≡ walked_in f k start → Lengths f k start (Ok w) before after → listed_in f k after 0 w.count start ≡ true
unfolding walked_in listed_in
frames-listed f before after k start w s p l =
    let (o, c, b, m) = walked-well (walk 1000000 k (drop start f)) start w.count w.end w.common (sym p) in
    ap (λ (n : ℕ). listed after 0 (walk n k (drop start f)).frames) (sym c)
    ∙ ap (listed after 0) (walk-again 1000000 k (drop start f) (bytes_drop start f (slice-bytes f s)))
    ∙ ap (λ (t : List ℕ). listed t 0 (walk 1000000 k (drop start f)).frames) (l.kept w refl)
    ∙ all_listed before 0 (walk 1000000 k (drop start f)).frames

-- the index that the code writes is that of the walked frames
index_is : (f : List ℕ) (most k start count : ℕ) → are_bytes f ≡ true → length (walk most k (drop start f)).frames ≡ count
    → index_in f k start count ≡ index_bytes start (walk most k (drop start f)).frames
unfolding index_in entries_in index_bytes
index_is f most k start count h e =
    rw (
      ← e,
      walk-again most k (drop start f) (bytes_drop start f h),
      (by_first (walk most k (drop start f)).frames (read_at f (start + 4) 8) start (λ x xs q. walk_first f k start most x xs q)).1,
    )

tail-is : (f out b : List ℕ) (most k start count end : ℕ) (common : Option ℕ) → are_bytes f ≡ true
    → walked_all (walk most k (drop start f)) start ≡ walked_to count end common → b ≡ tailed f k start count out
    → b ≡ sets out 0 (tail_of (walk most k (drop start f)) start)
unfolding tailed tail_of
tail-is f out b most k start count end common h e p =
    let c : length (walk most k (drop start f)).frames ≡ count = (walked-well (walk most k (drop start f)) start count end common e).1 in
    let l : 0 + length (index_bytes start (walk most k (drop start f)).frames) ≡ 4 + 16 * count =
    omega (arith, length-index start (walk most k (drop start f)).frames) in
    rw (sets-append out 0 (index_bytes start (walk most k (drop start f)).frames) (table_bytes []), l, ← index_is f most k start count h c) p

kept-made : (w : Walk) (start count end : ℕ) (common : Option ℕ) (out b : List ℕ) → walked_all w start ≡ walked_to count end common
    → end + (4 + 16 * count) ≤ 1099511115772 → 4 + 16 * count + 4 ≤ length out → b ≡ sets out 0 (tail_of w start)
    → made (Ok (kept_with end count end (end + (4 + 16 * count)) (4 + 16 * count + 4))) b ≡ walk_repaired w start out
unfolding walk_repaired made_of repair_answer answer_of unless keeping
kept-made w start count end common out b e h l p =
    let (o, c, d, m) = walked-well w start count end common e in
    let t = length-tail w start count end common e in
    let n : first_of (walk_lines w start (length out)) ≡ 0 = pass-long w start (length out) count end common e h
    ∙ line-pass 9 _ _ (le-ltb (length out) (4 + 16 * count + 4) l) ∙ no_lines in
    rw (n, ← filled_is out (tail_of w start) (omega arith), ← p, c, d, t)

pub frames-kept : (f out b : List ℕ) (k start : ℕ) (w : declared.Walked) → ((i : ℕ) → Fits w8 (get_or f i 0))
    → Ok w ≡ walked_in f k start → w.end + (4 + 16 * w.count) ≤ 1099511115772 → 4 + 16 * w.count + 4 ≤ length out
    → b ≡ tailed f k start w.count out → made (Ok (kept_with w.end w.count w.end (w.end + (4 + 16 * w.count)) (4 + 16 * w.count + 4))) b ≡ frames_repaired f k start out
unfolding walked_in frames_repaired
frames-kept f out b k start w s p h l u =
    kept-made (walk 1000000 k (drop start f)) start w.count w.end w.common out b (sym p) h l
    (tail-is f out b 1000000 k start w.count w.end w.common (slice-bytes f s) (sym p) u)

-- ── The sums fit ──

count-few : (f : List ℕ) (k start : ℕ) (w : declared.Walked) → ((i : ℕ) → Fits w8 (get_or f i 0)) → Ok w ≡ walked_in f k start → w.count ≤ 1000000
unfolding walked_in
count-few f k start w s p =
    omega (
      arith,
      (walked-well (walk 1000000 k (drop start f)) start w.count w.end w.common (sym p)).1,
      (walk-gives 1000000 k (drop start f) (bytes_drop start f (slice-bytes f s))).few,
    )

pub entries_fit : (f : List ℕ) (k start : ℕ) (w : declared.Walked) → ((i : ℕ) → Fits w8 (get_or f i 0)) → Ok w ≡ walked_in f k start → Fits w64 (16 * w.count)
entries_fit f k start w s p = let c = count-few f k start w s p in record { fits = omega arith }

pub index-fits : (f : List ℕ) (k start : ℕ) (w : declared.Walked) → ((i : ℕ) → Fits w8 (get_or f i 0)) → Ok w ≡ walked_in f k start → Fits w64 (4 + 16 * w.count)
index-fits f k start w s p = let c = count-few f k start w s p in record { fits = omega arith }

pub user-fits : (f : List ℕ) (k start : ℕ) (w : declared.Walked) → ((i : ℕ) → Fits w8 (get_or f i 0)) → Ok w ≡ walked_in f k start → w.end ≤ 1099511115772 → Fits w64 (w.end + (4 + 16 * w.count))
user-fits f k start w s p h = let c = count-few f k start w s p in record { fits = omega arith }

pub ruleset frames = (frames-clock, frames-far, frames-long, frames-room, frames-again, frames-alike, frames-listed, frames-kept, entries_fit, index-fits, user-fits)
