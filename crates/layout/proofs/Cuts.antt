-- What the card holds after any byte of a recording's pieces: the opening with some count, index offset and user offset, then a part of what stands behind.
-- Assumes nothing.
use Prim.Native.Nat.{ℕ, zero, suc, ◌+◌, ◌-◌, ◌^◌, ◌≤◌, ◌<◌, min}
use native.Mathlib.Omega.{arith}
use native.Mathlib.Nat.{zero-add, add-zero}
use mathlib.Core.Path.{◌≡◌, refl, ap, sym, ◌∙◌}
use mathlib.Core.Bool.{true}
use mathlib.Core.List.{List, [], ◌∷◌, ◌++◌, flat_map, append_assoc, append-nil}
use lib.ListN.{length, take, drop, length-append, length-take, length-drop, drop_of_length-le, take-append-drop}
use lib.Seq.{take-append-le, take_all}
use lib.Pow.{are_bytes}
use Rattle.number.specs.Number.{bytes_of, number_of}
use Rattle.number.proofs.Bytes.{length-bytes_of, bytes_of-bytes, number_of-bytes_of, number_of-less, bytes_of-number_of}
use Rattle.layout.specs.Recording.{Section, Frame, Recording, count_place, index_place, user_place, front_bytes, table_bytes, frame_bytes, index_bytes, index_length, Legal, frames_start, frames_end, user_start, encode}
use Rattle.layout.specs.Recorder.{Piece, piece}
use Rattle.layout.specs.Storage.{Written, writes_at, writes, stored}
use Rattle.layout.proofs.Lists.{take_min, bytes-append, bytes_take, bytes_drop}
use Rattle.layout.proofs.Stores.{take-append, stored-append, writes-append, length-writes_at, cut-end}
use Rattle.layout.proofs.Encoded.{front_of, encode-parts, length-index, frames-end, user-start}
use Rattle.layout.proofs.Filed.{front-with, cut-count, cut-index, cut-user}
use Rattle.layout.proofs.Trace.{frame_pieces, closings, pieces_of}

-- ── A half-stored number ──

-- what stands where w zeros were, once the first j bytes of n are stored
unfoldable half_bytes : (w j n : ℕ) → List ℕ
half_bytes w j n = take j (bytes_of w n) ++ drop (length (take j (bytes_of w n))) (bytes_of w 0)

-- the number that they stand for
unfoldable half : (w j n : ℕ) → ℕ
half w j n = number_of (half_bytes w j n)

half_length : (w j n : ℕ) → length (half_bytes w j n) ≡ w
unfolding half_bytes
half_length w j n = rw (length-append, length-drop) (omega (arith, length-take j (bytes_of w n), length-bytes_of w n, length-bytes_of w 0))

half-are_bytes : (w j n : ℕ) → are_bytes (half_bytes w j n) ≡ true
unfolding half_bytes
half-are_bytes w j n = bytes-append (take j (bytes_of w n)) _ (bytes_take j (bytes_of w n) (bytes_of-bytes w n)) (bytes_drop (length (take j (bytes_of w n))) (bytes_of w 0) (bytes_of-bytes w 0))

-- they are again the bytes of a number
half-bytes : (w j n : ℕ) → bytes_of w (half w j n) ≡ take j (bytes_of w n) ++ drop (length (take j (bytes_of w n))) (bytes_of w 0)
unfolding half half_bytes
half-bytes w j n = ap (λ (i : ℕ). bytes_of i (half w j n)) (sym (half_length w j n)) ∙ bytes_of-number_of (half_bytes w j n) (half-are_bytes w j n)

half-fits : (w j n : ℕ) → half w j n < 256 ^ w
unfolding half
half-fits w j n = rw (half_length w j n) at (number_of-less (half_bytes w j n) (half-are_bytes w j n))

-- all of it
half-whole : (w j n : ℕ) → w ≤ j → n < 256 ^ w → half w j n ≡ n
unfolding half half_bytes
half-whole w j n h f =
    let l : length (bytes_of w n) ≤ j = omega (arith, length-bytes_of w n) in
    let z : length (bytes_of w 0) ≤ length (bytes_of w n) = omega (arith, length-bytes_of w 0, length-bytes_of w n) in
    rw (take_all j (bytes_of w n) l, drop_of_length-le (bytes_of w 0) z, append-nil) (number_of-bytes_of w n f)

-- nothing of it
half-none : (w n : ℕ) → half w 0 n ≡ 0
unfolding half half_bytes
half-none w n = number_of-bytes_of w 0 (omega (arith, half-fits w 0 n))

-- the first j bytes of a number stored at a field that was zero
stored-count : (j n i u : ℕ) (ss : List Section) (system t : List ℕ) → stored (front_bytes 0 i u ss system ++ t) (take j (writes_at count_place (bytes_of 4 n))) ≡ front_bytes (half 4 j n) i u ss system ++ t
stored-count j n i u ss system t = rw (front-with 0, front-with (half 4 j n), half-bytes) (cut-count j (bytes_of 4 0) (bytes_of 8 i) (bytes_of 8 u) ss system t (bytes_of 4 n) (length-bytes_of 4 0) (length-bytes_of 4 n))

stored-user : (j n c i : ℕ) (ss : List Section) (system t : List ℕ) → stored (front_bytes c i 0 ss system ++ t) (take j (writes_at user_place (bytes_of 8 n))) ≡ front_bytes c i (half 8 j n) ss system ++ t
stored-user j n c i ss system t = rw (front-with c i 0, front-with c i (half 8 j n), half-bytes) (cut-user j (bytes_of 4 c) (bytes_of 8 i) (bytes_of 8 0) ss system t (bytes_of 8 n) (length-bytes_of 4 c) (length-bytes_of 8 i) (length-bytes_of 8 0) (length-bytes_of 8 n))

stored-index : (j n c u : ℕ) (ss : List Section) (system t : List ℕ) → stored (front_bytes c 0 u ss system ++ t) (take j (writes_at index_place (bytes_of 8 n))) ≡ front_bytes c (half 8 j n) u ss system ++ t
stored-index j n c u ss system t = rw (front-with c 0, front-with c (half 8 j n), half-bytes) (cut-index j (bytes_of 4 c) (bytes_of 8 0) (bytes_of 8 u) ss system t (bytes_of 8 n) (length-bytes_of 4 c) (length-bytes_of 8 0) (length-bytes_of 8 n))

-- ── The pieces of a recording, byte by byte ──

-- what stands behind the opening: the frames, the index and an empty user table
unfoldable pub behind : Recording → List ℕ
behind r = flat_map frame_bytes r.frames ++ (index_bytes (frames_start r) r.frames ++ table_bytes [])

-- the opening piece
abbrev pub opening : Recording → List ℕ
opening r = front_bytes 0 0 0 r.sections (table_bytes r.system)

pub length-opening : (r : Recording) → length (opening r) ≡ frames_start r
unfolding frames_start
length-opening r = refl

-- where all but the three fields is written
unfoldable pub body_length : Recording → ℕ
body_length r = frames_start r + length (behind r)

writes_at-append : (p : ℕ) (a b : List ℕ) → writes_at p (a ++ b) ≡ writes_at p a ++ writes_at (p + length a) b
unfolding writes_at
writes_at-append p [] b = rw add-zero
writes_at-append p (x ∷ xs) b =
    let e : p + suc (length xs) ≡ suc p + length xs = omega arith in
    rw e (ap (λ (l : List Written). record { place = p; byte = x } ∷ l) (writes_at-append (suc p) xs b))

-- pieces one behind the other are one piece
writes-frames : (at : ℕ) (fs : List Frame) → writes (frame_pieces at fs) ≡ writes_at at (flat_map frame_bytes fs)
unfolding writes writes_at frame_pieces flat_map
writes-frames at [] = refl
writes-frames at (f ∷ fs) =
    ap (λ (l : List Written). writes_at at (frame_bytes f) ++ l) (writes-frames (at + length (frame_bytes f)) fs)
    ∙ sym (writes_at-append at (frame_bytes f) (flat_map frame_bytes fs))

-- the three fields
unfoldable pub field_writes : Recording → List Written
field_writes r = writes_at count_place (bytes_of 4 (length r.frames)) ++ (writes_at user_place (bytes_of 8 (user_start r)) ++ writes_at index_place (bytes_of 8 (frames_end r)))

pub writes-all : (r : Recording) → writes (pieces_of r 5) ≡ writes_at 0 (opening r ++ behind r) ++ field_writes r
unfolding pieces_of closings writes behind field_writes
writes-all r =
    let o : 0 + length (opening r) ≡ frames_start r = rw zero-add (length-opening r) in
    let e : frames_start r + length (flat_map frame_bytes r.frames) ≡ frames_end r = sym (frames-end r) in
    let u : frames_end r + length (index_bytes (frames_start r) r.frames) ≡ user_start r = rw length-index (sym (user-start r)) in
    rw (writes-append, writes-frames, append-nil, writes_at-append, o, writes_at-append, e, writes_at-append, u) (simp append_assoc)

-- ── A cut ──

length-body : (r : Recording) → length (opening r ++ behind r) ≡ body_length r
unfolding body_length
length-body r = rw (length-append, length-opening)

-- the body of the file, cut behind its opening
cut-body : (r : Recording) (m : ℕ) → frames_start r ≤ m → stored [] (take m (writes_at 0 (opening r ++ behind r))) ≡ opening r ++ take (m - frames_start r) (behind r)
cut-body r m h =
    let o : length (opening r) ≡ frames_start r = length-opening r in
    let l : length (opening r) ≤ m = omega arith in
    rw (cut-end m [] 0 (opening r ++ behind r) refl, take-append, o, take_all m (opening r) l)

-- what is written of the fields after j bytes of them, over an opening of zeros
cut-fields : (r : Recording) (j : ℕ) (t : List ℕ) → stored (opening r ++ t) (take j (field_writes r)) ≡ front_bytes (half 4 j (length r.frames)) (half 8 (j - 4 - 8) (frames_end r)) (half 8 (j - 4) (user_start r)) r.sections (table_bytes r.system) ++ t
unfolding field_writes
cut-fields r j t = rw (take-append, length-writes_at, length-bytes_of, stored-append, stored-count, take-append, length-writes_at, length-bytes_of, stored-append, stored-user, stored-index)

cut-stored : (r : Recording) (m : ℕ) → frames_start r ≤ m → stored [] (take m (writes (pieces_of r 5))) ≡ front_bytes (half 4 (m - body_length r) (length r.frames)) (half 8 (m - body_length r - 4 - 8) (frames_end r)) (half 8 (m - body_length r - 4) (user_start r)) r.sections (table_bytes r.system) ++ take (m - frames_start r) (behind r)
cut-stored r m h =
    rw (writes-all, take-append, length-writes_at, length-body, stored-append, cut-body r m h) (cut-fields r (m - body_length r) _)

-- A cut behind the opening piece: that opening with some count, index offset and user offset, and the first of the bytes behind it. The index offset,
-- which is written last, is zero until all else is there.
pub record CutShape (r : Recording) (m : ℕ) (f : List ℕ) : Type 0 where
  pub count : ℕ
  pub index : ℕ
  pub user : ℕ
  pub shape : f ≡ front_bytes count index user r.sections (table_bytes r.system) ++ take (m - frames_start r) (behind r)
  pub count_fits : count < 256 ^ 4
  pub index_fits : index < 256 ^ 8
  pub user_fits : user < 256 ^ 8
  pub early : m ≤ body_length r + 12 → index ≡ 0
  pub late : body_length r + 12 < m → (count ≡ length r.frames) × (user ≡ user_start r)
  pub whole : body_length r + 20 ≤ m → index ≡ frames_end r

pub cut-shape : (r : Recording) (m : ℕ) → Legal r → frames_start r ≤ m → CutShape r m (stored [] (take m (writes (pieces_of r 5))))
cut-shape r m l h =
    let u = user-start r in
    let few : length r.frames < 256 ^ 4 = omega (arith, l.frames_few) in
    let low : user_start r < 256 ^ 8 = omega (arith, l.user_offset_fits) in
    record {
      count = half 4 (m - body_length r) (length r.frames);
      index = half 8 (m - body_length r - 4 - 8) (frames_end r);
      user = half 8 (m - body_length r - 4) (user_start r);
      shape = cut-stored r m h;
      count_fits = half-fits 4 (m - body_length r) (length r.frames);
      index_fits = half-fits 8 (m - body_length r - 4 - 8) (frames_end r);
      user_fits = half-fits 8 (m - body_length r - 4) (user_start r);
      early = λ e.
          let z : m - body_length r - 4 - 8 ≡ 0 = omega arith in
          rw z (half-none 8 (frames_end r));
      late = λ e. (half-whole 4 (m - body_length r) (length r.frames) (omega arith) few, half-whole 8 (m - body_length r - 4) (user_start r) (omega arith) low);
      whole = λ e. half-whole 8 (m - body_length r - 4 - 8) (frames_end r) (omega arith) (omega arith);
    }

-- the whole file of a recording without user tags
pub encode-whole : (r : Recording) → r.user ≡ [] → encode r ≡ front_bytes (length r.frames) (frames_end r) (user_start r) r.sections (table_bytes r.system) ++ behind r
unfolding front_of behind
encode-whole r e = rw (encode-parts, e)

pub length-behind : (r : Recording) → length (behind r) ≡ length (flat_map frame_bytes r.frames) + index_length (length r.frames) + 4
unfolding behind table_bytes flat_map
length-behind r = simp (length-append, length-index, length-bytes_of) (omega arith)

-- a cut inside the opening piece
pub cut-opening : (r : Recording) (m : ℕ) → m ≤ frames_start r → stored [] (take m (writes (pieces_of r 5))) ≡ take m (opening r)
cut-opening r m h =
    let o = length-opening r in
    let a : m ≤ length (opening r) = omega arith in
    let w : m ≤ length (writes_at 0 (opening r ++ behind r)) = rw (length-writes_at, length-append) (omega arith) in
    rw (writes-all, take-append-le m (writes_at 0 (opening r ++ behind r)) _ w, cut-end m [] 0 (opening r ++ behind r) refl, take-append-le m (opening r) (behind r) a)

-- a cut that has all, and the index offset whole, is the whole file
pub shape-whole : (r : Recording) (m : ℕ) (f : List ℕ) (s : CutShape r m f) → r.user ≡ [] → body_length r + 12 < m → s.index ≡ frames_end r → f ≡ encode r
unfolding body_length
shape-whole r m f s e h i =
    let all : length (behind r) ≤ m - frames_start r = omega arith in
    s.shape ∙ rw ((s.late h).0, (s.late h).1, i, take_all (m - frames_start r) (behind r) all) (sym (encode-whole r e))

-- ── Not all pieces handed out ──

-- the pieces with c of the closing ones, and the others
pieces-split : (r : Recording) (c : ℕ) → writes (pieces_of r 5) ≡ writes (pieces_of r c) ++ writes (drop c (closings r))
unfolding pieces_of closings
pieces-split r c = ap (λ (l : List Piece). writes (piece 0 (opening r) ∷ frame_pieces (frames_start r) r.frames ++ l)) (sym (take-append-drop c (closings r)))
    ∙ rw (← append_assoc (frame_pieces (frames_start r) r.frames)) (writes-append (piece 0 (opening r) ∷ frame_pieces (frames_start r) r.frames ++ take c (closings r)) (drop c (closings r)))

pub length-all : (r : Recording) → length (writes (pieces_of r 5)) ≡ body_length r + 20
unfolding field_writes
length-all r = rw writes-all (simp (length-append, length-writes_at, length-bytes_of) (omega (arith, length-body r, length-append (opening r) (behind r))))

-- the index offset is written last
last-piece : (r : Recording) (c : ℕ) → c < 5 → 8 ≤ length (writes (drop c (closings r)))
unfolding closings writes
last-piece r zero h = simp (length-append, length-writes_at, length-bytes_of) (omega arith)
last-piece r (suc zero) h = simp (length-append, length-writes_at, length-bytes_of) (omega arith)
last-piece r (suc (suc zero)) h = simp (length-append, length-writes_at, length-bytes_of) (omega arith)
last-piece r (suc (suc (suc zero))) h = simp (length-append, length-writes_at, length-bytes_of) (omega arith)
last-piece r (suc (suc (suc (suc zero)))) h = simp (length-append, length-writes_at, length-bytes_of) (omega arith)
last-piece r (suc (suc (suc (suc (suc c))))) h = absurd (omega arith)

pub length-early : (r : Recording) (c : ℕ) → c < 5 → length (writes (pieces_of r c)) ≤ body_length r + 12
length-early r c h = omega (arith, length-all r, last-piece r c h, ap length (pieces-split r c), length-append (writes (pieces_of r c)) (writes (drop c (closings r))))

pub length-pieces : (r : Recording) (c : ℕ) → length (writes (pieces_of r c)) ≡ frames_start r + length (flat_map frame_bytes r.frames) + length (writes (take c (closings r)))
unfolding pieces_of writes
length-pieces r c =
    let w : writes (frame_pieces (frames_start r) r.frames ++ take c (closings r)) ≡ writes (frame_pieces (frames_start r) r.frames) ++ writes (take c (closings r)) = writes-append (frame_pieces (frames_start r) r.frames) (take c (closings r)) in
    rw (length-append, length-writes_at, length-opening, w, length-append, writes-frames, length-writes_at) (omega arith)

-- before the first closing piece
pub length-running : (r : Recording) → length (writes (pieces_of r 0)) ≡ frames_start r + length (flat_map frame_bytes r.frames)
unfolding writes
length-running r = length-pieces r 0 ∙ add-zero (frames_start r + length (flat_map frame_bytes r.frames))

-- a cut of fewer pieces is a cut of all
pub cut-fewer : (r : Recording) (c m : ℕ) → take m (writes (pieces_of r c)) ≡ take (min m (length (writes (pieces_of r c)))) (writes (pieces_of r 5))
cut-fewer r c m = rw (pieces-split r c, take-append-le (min m (length (writes (pieces_of r c)))) (writes (pieces_of r c)) _ (omega arith), take_min)
