-- An entry of the index reads back: the time since the first frame, the frame's offset and its length, none of them cut off by its width.
-- Assumes nothing.
use Prim.Native.Nat.{ℕ, zero, suc, ◌+◌, ◌*◌, ◌-◌, ◌^◌, ◌≤◌, ◌<◌}
use native.Mathlib.Omega.{arith}
use mathlib.Core.Path.{◌≡◌, ap, sym, ◌∙◌}
use mathlib.Core.Bool.{true}
use mathlib.Core.List.{List, [], ◌∷◌, ◌++◌, flat_map}
use lib.ListN.{length, take, drop, get_or, length-append}
use lib.Dec.{leb}
use borrow.Author.Tests.{leb-true}
use Rattle.number.specs.Number.{bytes_of, number_of, rank}
use Rattle.number.proofs.Bytes.{both_true, length-bytes_of, number_of-bytes_of}
use Rattle.layout.specs.Recording.{Frame, Recording, Legal, most_sections, longest_section, longest_span, sized_bytes, frame_head_bytes, frame_bytes, entry_bytes, entries_bytes, first_time, index_bytes, frames_start, frames_end, encode, table_bytes, follows, follow, in_order, legal_frame}
use Rattle.layout.specs.Opening.{field}
use Rattle.layout.specs.Items.{no_frame, frame_of, frame_start}
use Rattle.layout.proofs.Lists.{flat_map-take}
use Rattle.layout.proofs.Exact.{frame-legal}
use Rattle.layout.proofs.Encoded.{length-index, frames-end, user-start, length-encode, drop-index}
use Rattle.layout.proofs.Places.{Stands, stands-take, stands-front, stands-back, stands_at_lem, every_one, length-head}
use Rattle.layout.proofs.Sizes.{length-entry, flat_map-most}

-- ── What fits ──

-- no frame of a legal recording is before its first, and none more than 4,294,967,295 ms after it
follow-span : (first last : ℕ) (fs : List Frame) (i : ℕ) → rank first ≤ rank last → follow first last fs ≡ true → i < length fs → (rank first ≤ rank (get_or fs i no_frame).time) × (rank (get_or fs i no_frame).time - rank first ≤ longest_span)
unfolding follow follows
follow-span first last [] i h e k = absurd (omega arith)
follow-span first last (f ∷ fs) zero h e k =
    let b = both_true (follows first last f.time) (follow first f.time fs) e in
    let c = both_true (leb (rank last) (rank f.time)) (leb (rank f.time - rank first) longest_span) b.0 in
    (omega (arith, leb-true (rank last) (rank f.time) c.0), leb-true (rank f.time - rank first) longest_span c.1)
follow-span first last (f ∷ fs) (suc i) h e k =
    let b = both_true (follows first last f.time) (follow first f.time fs) e in
    let c = both_true (leb (rank last) (rank f.time)) (leb (rank f.time - rank first) longest_span) b.0 in
    follow-span first f.time fs i (omega (arith, leb-true (rank last) (rank f.time) c.0)) b.1 (omega arith)

pub order-span : (fs : List Frame) (i : ℕ)
    → in_order fs ≡ true
    → i < length fs
    → (rank (first_time fs) ≤ rank (get_or fs i no_frame).time)
    × (rank (get_or fs i no_frame).time - rank (first_time fs) ≤ longest_span)
unfolding in_order first_time
order-span [] i e k = absurd (omega arith)
order-span (f ∷ fs) zero e k = (omega arith, omega arith)
order-span (f ∷ fs) (suc i) e k = follow-span f.time f.time fs i (omega arith) e (omega arith)

-- a section with its size has at most 16,777,220 bytes, and so a frame's length fits four bytes
sized-most : (s : List ℕ) → leb (length s) longest_section ≡ true → length (sized_bytes s) ≤ longest_section + 4
unfolding sized_bytes
sized-most s h = omega (arith, length-append (bytes_of 4 (length s)) s, length-bytes_of 4 (length s), leb-true (length s) longest_section h)

pub frame-most : (k : ℕ) (f : Frame) → k ≤ most_sections → legal_frame k f ≡ true → length (frame_bytes f) < 256 ^ 4
unfolding frame_bytes
frame-most k f h l =
    let t = (frame-legal k f).1 l in
    let m = flat_map-most (λ s. leb (length s) longest_section) sized_bytes (longest_section + 4) sized-most f.sections t.3 in
    omega (arith, length-append (frame_head_bytes f.time f.exposure) (flat_map sized_bytes f.sections), length-head f.time f.exposure, m, t.2)

-- ── Where an entry stands ──

entry-stands : {s : List ℕ} {place : ℕ} (first at : ℕ) (fs : List Frame) (i : ℕ) → i < length fs → Stands s place (entries_bytes first at fs) → Stands s (place + 16 * i) (entry_bytes first (get_or fs i no_frame).time (at + length (flat_map frame_bytes (take i fs))) (length (frame_bytes (get_or fs i no_frame))))
unfolding entries_bytes flat_map
entry-stands first at [] i h p = absurd (omega arith)
entry-stands {s} {place} first at (f ∷ fs) zero h p =
    let e : at + 0 ≡ at = omega arith in
    rw e (stands_at_lem (place + 16 * 0) (omega arith) (stands-front (entry_bytes first f.time at (length (frame_bytes f))) (entries_bytes first (at + length (frame_bytes f)) fs) p))
entry-stands {s} {place} first at (f ∷ fs) (suc i) h p =
    let e : at + length (frame_bytes f ++ flat_map frame_bytes (take i fs)) ≡ at + length (frame_bytes f) + length (flat_map frame_bytes (take i fs)) = rw length-append (omega arith) in
    let q = stands-back (entry_bytes first f.time at (length (frame_bytes f))) (entries_bytes first (at + length (frame_bytes f)) fs) p in
    rw e (stands_at_lem (place + 16 * suc i) (omega (arith, length-entry first f.time at (length (frame_bytes f)))) (entry-stands {place = place + length (entry_bytes first f.time at (length (frame_bytes f)))} first (at + length (frame_bytes f)) fs i (omega arith) q))

index-stands : (r : Recording) → Stands (encode r) (frames_end r) (index_bytes (frames_start r) r.frames)
index-stands r =
    record { rest = table_bytes r.user; stands = drop-index r; inside = omega (arith, length-encode r, user-start r, length-index (frames_start r) r.frames) }

-- a number that stands somewhere and fits its width is read there
number-stands : {s : List ℕ} {place : ℕ} (w n : ℕ) → n < 256 ^ w → Stands s place (bytes_of w n) → field place w s ≡ n
unfolding field
number-stands {s} {place} w n h p = ap number_of (ap (λ (k : ℕ). take k (drop place s)) (sym (length-bytes_of w n)) ∙ stands-take p) ∙ number_of-bytes_of w n h

-- ── The index ──

-- The index of a legal recording starts with its number of frames;
pub index-count : (r : Recording) → Legal r → field (frames_end r) 4 (encode r) ≡ length r.frames
unfolding index_bytes
index-count r l = number-stands 4 (length r.frames) (omega (arith, l.frames_few)) (stands-front (bytes_of 4 (length r.frames)) (entries_bytes (first_time r.frames) (frames_start r) r.frames) (index-stands r))

-- and entry i, at 4 + 16·i from the index, holds the frame's time since the first frame, the offset of its mark, and its length from the mark to its last byte.
pub index-entry : (r : Recording) (i : ℕ)
    → Legal r
    → i < length r.frames
    → (rank (first_time r.frames) + field (frames_end r + 4 + 16 * i) 4 (encode r) ≡ rank (frame_of r i).time)
    × (field (frames_end r + 4 + 16 * i + 4) 8 (encode r) ≡ frame_start r i)
    × (field (frames_end r + 4 + 16 * i + 12) 4 (encode r) ≡ length (frame_bytes (frame_of r i)))
unfolding index_bytes entry_bytes frame_of frame_start
index-entry r i l h =
    let fs = r.frames in
    let f = get_or fs i no_frame in
    let since = rank f.time - rank (first_time fs) in
    let place = frames_start r + length (flat_map frame_bytes (take i fs)) in
    let size = length (frame_bytes f) in
    let span = order-span fs i l.frames_ordered h in
    let small = frame-most (length r.sections) f l.at_most_eight_sections (every_one (legal_frame (length r.sections)) fs i no_frame l.frames_legal h) in
    let all = stands-back (bytes_of 4 (length fs)) (entries_bytes (first_time fs) (frames_start r) fs) (index-stands r) in
    let four : frames_end r + length (bytes_of 4 (length fs)) ≡ frames_end r + 4 = omega (arith, length-bytes_of 4 (length fs)) in
    let entry = entry-stands (first_time fs) (frames_start r) fs i h (stands_at_lem (frames_end r + 4) four all) in
    let head = stands-front (bytes_of 4 since ++ bytes_of 8 place) (bytes_of 4 size) entry in
    let a = number-stands 4 since (omega (arith, span.1)) (stands-front (bytes_of 4 since) (bytes_of 8 place) head) in
    let b = number-stands 8 place (omega (arith, flat_map-take frame_bytes i fs, frames-end r, user-start r, l.user_offset_fits)) (stands_at_lem (frames_end r + 4 + 16 * i + 4) (omega (arith, length-bytes_of 4 since)) (stands-back (bytes_of 4 since) (bytes_of 8 place) head)) in
    let c = number-stands 4 size small (stands_at_lem (frames_end r + 4 + 16 * i + 12) (omega (arith, length-append (bytes_of 4 since) (bytes_of 8 place), length-bytes_of 4 since, length-bytes_of 8 place)) (stands-back (bytes_of 4 since ++ bytes_of 8 place) (bytes_of 4 size) entry)) in
    (omega (arith, span.0, a), b, c)
