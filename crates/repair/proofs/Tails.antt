-- The tail as it is written: an entry, the frames that are known to stand, the entries one by one, the index, and the empty table.
-- Assumes nothing.
use Prim.Native.Nat.{ℕ, suc, ◌+◌, ◌*◌, ◌-◌, ◌^◌, ◌<◌, ◌≤◌}
use native.Mathlib.Omega.{arith}
use mathlib.Core.Path.{◌≡◌, refl, ap, sym, ◌∙◌}
use mathlib.Core.Bool.{Bool, true, false, ◌||◌, cond}
use mathlib.Core.List.{List, [], ◌++◌, append_assoc, append-nil, flat_map}
use lib.Dec.{leb, ltb, eqb}
use borrow.Author.Tests.{lt-ltb, lt-leb, ltb-true, eqb-true}
use lib.ListN.{length, take, drop, get_or, length-append, length-drop, drop_of_length-le}
use lib.Seq.{sets, length-sets, sets-eq, drop-drop, take_all, length-take-le}
use mir.Syntax.{w8, w64}
use mir.Val.{Fits}
use Rattle.number.specs.Number.{bytes_of, number_of, read_at, write_at}
use Rattle.number.proofs.Laws.{read_is}
use Rattle.number.proofs.Bytes.{both_true, length-bytes_of, slice-bytes}
use Rattle.layout.specs.Recording.{Frame, frame_bytes, entry_bytes, entries_bytes, table_bytes}
use Rattle.layout.specs.Reading.{Parsed, bad, good, frame, Walk, stopped, longer, walk}
use Rattle.layout.specs.Recorder.{filled}
use Rattle.layout.proofs.Lists.{bytes_drop}
use Rattle.layout.proofs.Outputs.{sets-append, filled_is, write-is}
use Rattle.layout.proofs.Walks.{walk_none, walk-stop}
use Rattle.layout.proofs.Exact.{frame-exact}
use Rattle.layout.proofs.Sizes.{length-entry}
use Rattle.parts.specs.Parts.{end_of}
use Rattle.std.specs.Prelude.{Option, Some, None}
use Rattle.frames.specs.Frames.{frame_end}
use Rattle.times.specs.Times.{since_first}
use Rattle.frames.proofs.Laws.{ended, end-behind, end-within}
use Rattle.frames.proofs.Walks.{walk-cons}
use Rattle.repair.specs.Repaired.{end_in, next_kept, next_by, frames_in, alike, alike_in, listed, listed_in, entries_in, index_in, tailed}

-- ── An entry ──

-- sixteen bytes become an entry's
pub entry-filled : (s a b c : List ℕ) (first time offset size since : ℕ) → length s ≡ 16 → since ≡ since_first first time → a ≡ write_at s 0 4 since
    → b ≡ write_at a 4 8 offset → c ≡ write_at b 12 4 size → c ≡ entry_bytes first time offset size
unfolding entry_bytes since_first filled
entry-filled s a b c first time offset size since h e p q r =
    let p' : a ≡ sets s 0 (bytes_of 4 since) = p ∙ write-is s 0 4 since (omega arith) in
    let l : length a ≡ length s = ap length p' ∙ length-sets s 0 (bytes_of 4 since) in
    let q' : b ≡ sets a 4 (bytes_of 8 offset) = q ∙ write-is a 4 8 offset (omega arith) in
    let m : length b ≡ length a = ap length q' ∙ length-sets a 4 (bytes_of 8 offset) in
    let r' : c ≡ sets b 12 (bytes_of 4 size) = r ∙ write-is b 12 4 size (omega arith) in
    let n : length (bytes_of 4 since ++ bytes_of 8 offset) ≡ 12 =
    length-append (bytes_of 4 since) (bytes_of 8 offset) ∙ rw (length-bytes_of 4 since, length-bytes_of 8 offset) in
    let w : sets s 0 (bytes_of 4 since ++ bytes_of 8 offset ++ bytes_of 4 size) ≡ c =
    rw (
      sets-append s 0 (bytes_of 4 since ++ bytes_of 8 offset) (bytes_of 4 size),
      sets-append s 0 (bytes_of 4 since) (bytes_of 8 offset),
      n,
      length-bytes_of 4 since,
      ← p',
      ← q',
    ) (sym r') in
    rw (← e) (sym w ∙ sets-all (bytes_of 4 since ++ bytes_of 8 offset ++ bytes_of 4 size) s
    (length-append (bytes_of 4 since ++ bytes_of 8 offset) (bytes_of 4 size) ∙ rw (n, length-bytes_of 4 size, h)))
  where
    sets-all : (vs l : List ℕ) → length vs ≡ length l → sets l 0 vs ≡ vs
    sets-all vs l g = filled_is l vs (omega arith) ∙ ap (λ (t : List ℕ). vs ++ t) (drop_of_length-le l {i = length vs} (omega arith)) ∙ append-nil vs

-- the entry's part of the output, lent and given back
pub entry-written : (out s : List ℕ) (at first time offset size : ℕ) → at + 16 ≤ length out → s ≡ entry_bytes first time offset size
    → take at out ++ (s ++ drop (at + 16 - at) (drop at out)) ≡ sets out at (entry_bytes first time offset size)
entry-written out s at first time offset size h e =
    let l : length (entry_bytes first time offset size) ≡ 16 = length-entry first time offset size in
    let d : at + 16 - at ≡ 16 = omega arith in
    let m : at + length (entry_bytes first time offset size) ≡ at + 16 = ap (λ (k : ℕ). at + k) l in
    rw (e, d, drop-drop 16 at out) (sym (append_assoc (take at out) (entry_bytes first time offset size) (drop (at + 16) out))
    ∙ sym (rw m at (sets-eq (entry_bytes first time offset size) out at (omega arith))))

pub entry-part : (out : List ℕ) (at : ℕ) → at + 16 ≤ length out → length (take (at + 16 - at) (drop at out)) ≡ 16
entry-part out at h =
    let d : at + 16 - at ≡ 16 = omega arith in
    rw d (length-take-le 16 (drop at out) (omega (arith, length-drop at out)))

-- ── A frame that is known to stand ──

-- the frame that stands where some are left, and as many as are left behind it
stands : (f : List ℕ) (k left place : ℕ) → 0 < left → frames_in f k left place ≡ left
    → (next : ℕ) × (frame_end f place k ≡ Some next) × (frames_in f k (left - 1) next ≡ left - 1)
unfolding frames_in frame_end end_of stopped longer
stands f k left place h e = go (frame k (drop place f)) refl
  where
    go : (p : Parsed Frame) → frame k (drop place f) ≡ p → (next : ℕ) × (frame_end f place k ≡ Some next) × (frames_in f k (left - 1) next ≡ left - 1)
    go (bad m) g =
        let z : 0 ≡ left = rw (walk-stop left k (drop place f) (rw g)) at e in
        absurd (omega arith)
    go (good x n) g =
        let m : suc (length (walk (left - 1) k (drop (place + n) f)).frames) ≡ left = rw (walk-cons f k left place x n h g) at e in
        (place + n, rw g, omega arith)

-- where it ends, and as many behind it
known : (f : List ℕ) (k left place next : ℕ) → 0 < left → frames_in f k left place ≡ left → next ≡ end_in (frame_end f place k)
    → (frame_end f place k ≡ Some next) × (frames_in f k (left - 1) next ≡ left - 1)
unfolding end_in
known f k left place next h e p =
    let (m, a, b) = stands f k left place h e in
    let q : next ≡ m = p ∙ ap end_in a in
    (rw q a, rw q b)

-- a step from a frame that is known to be whole
pub next-ended : (f : List ℕ) (k place next : ℕ) (r : Option ℕ) → r ≡ frame_end f place k → r ≡ Some next → next ≡ end_in (frame_end f place k)
unfolding end_in
next-ended f k place next r p q = rw (sym p ∙ q)

pub next-there : (f : List ℕ) (k place end : ℕ) (r : Option ℕ) → r ≡ frame_end f place k → r ≡ None → frame_end f place k ≡ Some end
    → place ≡ end_in (frame_end f place k)
next-there f k place end r p q e =
    let z : None ≡ Some end = sym q ∙ p ∙ e in
    let w : ◌≡◌ {A = ℕ} 0 1 = cc in
    absurd (omega arith)

pub next-common : (f ls : List ℕ) (k place size i : ℕ) → frame_end f place k ≡ Some (next_by f place k (Some size) ls i)
    → place + size ≡ end_in (frame_end f place k)
unfolding next_by end_in
next-common f ls k place size i e = rw e

pub next-kept : (f ls : List ℕ) (k place i m : ℕ) → i < length ls → m ≡ get_or ls i 0
    → frame_end f place k ≡ Some (next_by f place k None ls i) → place + m ≡ end_in (frame_end f place k)
unfolding next_by next_kept end_in
next-kept f ls k place i m h g e = rw (e, lt-ltb i (length ls) h, g)

-- a frame that is known to be whole lies in the file
end-there : (f : List ℕ) (k place next : ℕ) → ((i : ℕ) → Fits w8 (get_or f i 0)) → frame_end f place k ≡ Some next → next ≤ length f
end-there f k place next b q =
    let (x, n, g, a, t, d) = ended f place k next q in
    let (o, z, r) = (frame-exact k).gives (drop place f) x n (bytes_drop place f (slice-bytes f b)) g in
    let l : length (drop place f) ≡ length (frame_bytes x) + length (drop n (drop place f)) =
    ap length r ∙ length-append (frame_bytes x) (drop n (drop place f)) in
    omega (arith, length-drop place f, end-within f place k next (Some next) (sym q) refl)

-- so its end fits
ends-fit : (f : List ℕ) (k place next sum : ℕ) → ((i : ℕ) → Fits w8 (get_or f i 0)) → length f < 2 ^ 64 → frame_end f place k ≡ Some next
    → sum ≡ end_in (frame_end f place k) → Fits w64 sum
unfolding end_in
ends-fit f k place next sum b l e q =
    let t = end-there f k place next b e in
    let m : sum ≡ next = q ∙ ap end_in e in
    record { fits = omega arith }

pub next_fits : (f ls : List ℕ) (k place size i : ℕ) → ((i : ℕ) → Fits w8 (get_or f i 0))
    → frame_end f place k ≡ Some (next_by f place k (Some size) ls i) → length f < 2 ^ 64 → Fits w64 (place + size)
next_fits f ls k place size i b e l = ends-fit f k place (next_by f place k (Some size) ls i) (place + size) b l e (next-common f ls k place size i e)

pub kept-fits : (f ls : List ℕ) (k place i m : ℕ) → ((i : ℕ) → Fits w8 (get_or f i 0)) → i < length ls → m ≡ get_or ls i 0
    → frame_end f place k ≡ Some (next_by f place k None ls i) → length f < 2 ^ 64 → Fits w64 (place + m)
kept-fits f ls k place i m b h g e l =
    ends-fit f k place (next_by f place k None ls i) (place + m) b l e (next-kept f ls k place i m h g e)

-- frames that have a length in common stand at places that it gives
alike-first : (x : Frame) (n : ℕ) (w : Walk) (c : ℕ) → alike (Some c) (longer x n w).frames ≡ true
    → (length (frame_bytes x) ≡ c) × (alike (Some c) w.frames ≡ true)
unfolding alike longer
alike-first x n w c e = let b = both_true (eqb (length (frame_bytes x)) c) (alike (Some c) w.frames) e in
    (eqb-true (length (frame_bytes x)) c b.0, b.1)

-- frames whose lengths are kept stand at places that these give
listed-first : (x : Frame) (n : ℕ) (w : Walk) (ls : List ℕ) (i : ℕ) → listed ls i (longer x n w).frames ≡ true
    → ((leb (length ls) i || eqb (get_or ls i 0) (length (frame_bytes x))) ≡ true) × (listed ls (i + 1) w.frames ≡ true)
unfolding listed longer
listed-first x n w ls i e = both_true (leb (length ls) i || eqb (get_or ls i 0) (length (frame_bytes x))) (listed ls (i + 1) w.frames) e

listed-length : (ls : List ℕ) (i n : ℕ) → i < length ls → (leb (length ls) i || eqb (get_or ls i 0) n) ≡ true → get_or ls i 0 ≡ n
listed-length ls i n h e = eqb-true (get_or ls i 0) n (rw (lt-leb (length ls) i h) at e)

-- a frame and those behind it
pub record Next (f : List ℕ) (k left place next : ℕ) (common : Option ℕ) (ls : List ℕ) (i : ℕ) : Type 0 where
  pub by : next ≡ next_by f place k common ls i
  pub alike : alike_in f k common (left - 1) next ≡ true
  pub listed : listed_in f k ls (i + 1) (left - 1) next ≡ true

next-alike : (f ls : List ℕ) (k left place next : ℕ) (common : Option ℕ) (i : ℕ) → ((i : ℕ) → Fits w8 (get_or f i 0)) → 0 < left → frame_end f place k ≡ Some next
    → alike_in f k common left place ≡ true → listed_in f k ls i left place ≡ true → Next f k left place next common ls i
unfolding alike_in listed_in next_by next_kept end_in alike
next-alike f ls k left place next common i b h q e m = go (ended f place k next q)
  where
    in-common : (c : Option ℕ) (n : ℕ) (x : Frame) (w : Walk) → place + n ≡ next → n ≡ length (frame_bytes x) → alike c (longer x n w).frames ≡ true
        → (leb (length ls) i || eqb (get_or ls i 0) (length (frame_bytes x))) ≡ true
        → (next ≡ next_by f place k c ls i) × (alike c w.frames ≡ true)
    in-common None n x w a z t l = (kept (ltb i (length ls)) refl, refl)
      where
        kept : (t : Bool) → ltb i (length ls) ≡ t → next ≡ cond t (place + get_or ls i 0) (end_in (frame_end f place k))
        kept true o = sym a ∙ ap (λ (j : ℕ). place + j) (z ∙ sym (listed-length ls i (length (frame_bytes x)) (omega (arith, ltb-true i (length ls) o)) l))
        kept false o = rw q
    in-common (Some c) n x w a z t l =
        let (o, u) = alike-first x n w c t in
        (sym a ∙ ap (λ (j : ℕ). place + j) (z ∙ o), u)

    go : ((x : Frame) × (n : ℕ) × (frame k (drop place f) ≡ good x n) × (place + n ≡ next) × (x.time ≡ read_at f (place + 4) 8)
        × (x.exposure ≡ read_at f (place + 12) 4)) → Next f k left place next common ls i
    go (x, n, g, a, t, d) =
        let z : n ≡ length (frame_bytes x) = ((frame-exact k).gives (drop place f) x n (bytes_drop place f (slice-bytes f b)) g).1 in
        let w : Walk = walk (left - 1) k (drop (place + n) f) in
        let (o, u) = listed-first x n w ls i (rw (walk-cons f k left place x n h g) at m) in
        let (v, y) = in-common common n x w a z (rw (walk-cons f k left place x n h g) at e) o in
        record { by = v; alike = rw (← a) y; listed = rw (← a) u }

pub next_known : (f ls : List ℕ) (k left place : ℕ) (common : Option ℕ) (i : ℕ) → ((i : ℕ) → Fits w8 (get_or f i 0)) → 0 < left → frames_in f k left place ≡ left
    → alike_in f k common left place ≡ true → listed_in f k ls i left place ≡ true → frame_end f place k ≡ Some (next_by f place k common ls i)
next_known f ls k left place common i b h e a m =
    let (n, q, l) = stands f k left place h e in
    q ∙ ap Some (next-alike f ls k left place n common i b h q a m).by

pub alike-left : (f ls : List ℕ) (k left place next : ℕ) (common : Option ℕ) (i : ℕ) → ((i : ℕ) → Fits w8 (get_or f i 0)) → 0 < left → frames_in f k left place ≡ left
    → next ≡ end_in (frame_end f place k) → listed_in f k ls i left place ≡ true → alike_in f k common left place ≡ true
    → alike_in f k common (left - 1) next ≡ true
alike-left f ls k left place next common i b h e p m a = (next-alike f ls k left place next common i b h (known f k left place next h e p).0 a m).alike

pub listed-left : (f ls : List ℕ) (k left place next : ℕ) (common : Option ℕ) (i : ℕ) → ((i : ℕ) → Fits w8 (get_or f i 0)) → 0 < left → frames_in f k left place ≡ left
    → next ≡ end_in (frame_end f place k) → alike_in f k common left place ≡ true → listed_in f k ls i left place ≡ true
    → listed_in f k ls (i + 1) (left - 1) next ≡ true
listed-left f ls k left place next common i b h e p a m = (next-alike f ls k left place next common i b h (known f k left place next h e p).0 a m).listed

-- a time that is read from a part of just its bytes
pub part-read : (f : List ℕ) (at n : ℕ) → at + 8 ≤ length f → n ≡ read_at (take (at + 8 - at) (drop at f)) 0 8 → n ≡ read_at f at 8
part-read f at n l e =
    let d : at + 8 - at ≡ 8 = omega arith in
    let m : length (take 8 (drop at f)) ≡ 8 = length-take-le 8 (drop at f) (omega (arith, length-drop at f)) in
    e
    ∙ rw d
    (read_is (take 8 (drop at f)) 0 8 (omega arith) (omega arith) ∙ ap number_of (take_all 8 (take 8 (drop at f)) (omega arith))
    ∙ sym (read_is f at 8 (omega arith) l))

pub head-there : (f : List ℕ) (k left place : ℕ) → 0 < left → frames_in f k left place ≡ left → place + 4 + 8 ≤ length f
head-there f k left place h e =
    let (m, a, b) = stands f k left place h e in
    omega (arith, end-within f place k m (Some m) (sym a) refl)

pub known-time-fits : (f : List ℕ) (k left place : ℕ) → 0 < left → frames_in f k left place ≡ left → length f < 2 ^ 64 → Fits w64 (place + 4)
known-time-fits f k left place h e l = let w = head-there f k left place h e in record { fits = omega arith }

pub known_behind : (f : List ℕ) (k left place next : ℕ) → 0 < left → frames_in f k left place ≡ left → next ≡ end_in (frame_end f place k) → place ≤ next
known_behind f k left place next h e p = end-behind f place k next (Some next) (sym (known f k left place next h e p).0) refl

pub known-left : (f : List ℕ) (k left place next : ℕ) → 0 < left → frames_in f k left place ≡ left → next ≡ end_in (frame_end f place k)
    → frames_in f k (left - 1) next ≡ left - 1
known-left f k left place next h e p = (known f k left place next h e p).1

-- ── The entries ──

stopped-entries : (f : List ℕ) (k first left place : ℕ) → walk left k (drop place f) ≡ stopped → entries_in f k first left place ≡ []
unfolding entries_in stopped entries_bytes
stopped-entries f k first left place e = rw e

pub entries-done : (f out all : List ℕ) (k first left place entry : ℕ) → left ≤ 0 → sets out entry (entries_in f k first left place) ≡ all → out ≡ all
entries-done f out all k first left place entry h e =
    let z : left ≡ 0 = omega arith in
    rw (stopped-entries f k first left place (rw z (walk_none k (drop place f)))) at e

longer-entries : (w : Walk) (x : Frame) (n first place : ℕ) → n ≡ length (frame_bytes x)
    → entries_bytes first place (longer x n w).frames ≡ entry_bytes first x.time place n ++ entries_bytes first (place + n) w.frames
unfolding longer entries_bytes
longer-entries w x n first place e = rw e

entries-cons : (f : List ℕ) (k first left place next t : ℕ) → ((i : ℕ) → Fits w8 (get_or f i 0)) → 0 < left → frame_end f place k ≡ Some next
    → t ≡ read_at f (place + 4) 8 → entries_in f k first left place ≡ entry_bytes first t place (next - place) ++ entries_in f k first (left - 1) next
unfolding entries_in
entries-cons f k first left place next t b h q v = go (ended f place k next q)
  where
    go : ((x : Frame) × (n : ℕ) × (frame k (drop place f) ≡ good x n) × (place + n ≡ next) × (x.time ≡ read_at f (place + 4) 8)
        × (x.exposure ≡ read_at f (place + 12) 4)) → entries_in f k first left place ≡ entry_bytes first t place (next - place)
        ++ entries_in f k first (left - 1) next
    go (x, n, g, a, c, d) =
        let m : next - place ≡ n = omega arith in
        let z : n ≡ length (frame_bytes x) = ((frame-exact k).gives (drop place f) x n (bytes_drop place f (slice-bytes f b)) g).1 in
        rw (m, ← a, v, ← c, walk-cons f k left place x n h g) (longer-entries (walk (left - 1) k (drop (place + n) f)) x n first place z)

pub entries-step : (f out new all : List ℕ) (k first left place entry next t : ℕ) → ((i : ℕ) → Fits w8 (get_or f i 0)) → 0 < left
    → frames_in f k left place ≡ left → next ≡ end_in (frame_end f place k) → t ≡ read_at f (place + 4) 8
    → new ≡ sets out entry (entry_bytes first t place (next - place)) → sets out entry (entries_in f k first left place) ≡ all
    → sets new (entry + 16) (entries_in f k first (left - 1) next) ≡ all
entries-step f out new all k first left place entry next t b h s p q w i =
    let c = entries-cons f k first left place next t b h (known f k left place next h s p).0 q in
    let l = length-entry first t place (next - place) in
    rw w (sym (rw (c, sets-append out entry (entry_bytes first t place (next - place)) (entries_in f k first (left - 1) next), l)) ∙ i)

-- storing keeps the output's length
pub stored-length : (out new bytes : List ℕ) (at n : ℕ) → new ≡ sets out at bytes → length out ≡ n → length new ≡ n
stored-length out new bytes at n e h = ap length e ∙ length-sets out at bytes ∙ h

pub room-left : (out new bytes : List ℕ) (at entry left : ℕ) → new ≡ sets out at bytes → 0 < left → entry + 16 * left ≤ length out
    → entry + 16 + 16 * (left - 1) ≤ length new
room-left out new bytes at entry left e h l = omega (arith, stored-length out new bytes at (length out) e refl)

-- ── The index, and the empty table ──

pub index-written : (f out a b : List ℕ) (k start count first : ℕ) → 4 + 16 * count ≤ length out → first ≡ read_at f (start + 4) 8
    → a ≡ write_at out 0 4 count → b ≡ sets a 4 (entries_in f k first count start) → b ≡ sets out 0 (index_in f k start count)
unfolding index_in
index-written f out a b k start count first h e p q =
    let p' : a ≡ sets out 0 (bytes_of 4 count) = p ∙ write-is out 0 4 count (omega arith) in
    rw (sets-append out 0 (bytes_of 4 count) (entries_in f k (read_at f (start + 4) 8) count start), length-bytes_of 4 count, ← p', ← e) q

pub table-written : (out a : List ℕ) (at : ℕ) → at + 4 ≤ length out → a ≡ write_at out at 4 0 → a ≡ sets out at (table_bytes [])
unfolding table_bytes bytes_of flat_map
table-written out a at h p = p ∙ write-is out at 4 0 h

pub tail_written : (f out a b : List ℕ) (k start count : ℕ) → a ≡ sets out 0 (index_in f k start count)
    → b ≡ sets a (4 + 16 * count) (table_bytes []) → b ≡ tailed f k start count out
unfolding tailed
tail_written f out a b k start count p q = rw (← p) q

pub table-room : (out a bytes : List ℕ) (count : ℕ) → 4 + 16 * count + 4 ≤ length out → a ≡ sets out 0 bytes → 4 + 16 * count + 4 ≤ length a
table-room out a bytes count h e = omega (arith, stored-length out a bytes 0 (length out) e refl)
