-- What the card holds when the pieces of a recording are stored, closing piece by closing piece.
-- Assumes nothing.
use Prim.Native.Nat.{ℕ, ◌+◌}
use native.Mathlib.Omega.{arith}
use mathlib.Core.Path.{◌≡◌, refl, ap, sym, ◌∙◌}
use mathlib.Core.List.{List, [], ◌∷◌, ◌++◌, flat_map, append_assoc, append-nil}
use lib.ListN.{length, take, drop, length-append}
use Rattle.number.specs.Number.{bytes_of}
use Rattle.number.proofs.Bytes.{length-bytes_of}
use Rattle.layout.specs.Recording.{Section, Tag, Frame, Recording, count_place, index_place, user_place, file_mark, revision, definitions_end, definitions_bytes, configurations_bytes, table_bytes, header_bytes, front_bytes, frame_bytes, index_bytes, frames_start, frames_end, user_start, encode}
use Rattle.layout.specs.Recorder.{Piece, piece}
use Rattle.layout.specs.Storage.{writes_at, writes, stored}
use Rattle.layout.proofs.Stores.{stored-append, writes-append, stored-end, cut-middle, stored-pieces}
use Rattle.layout.proofs.Encoded.{length-index}
use Rattle.layout.proofs.Trace.{frame_pieces, closings, pieces_of}

-- ── The front, its three late fields being any bytes ──

unfoldable pub front_with : (count index user : List ℕ) → List Section → (system : List ℕ) → List ℕ
front_with count index user ss system =
    file_mark ++ (revision ∷ []) ++ count ++ index ++ bytes_of 8 (definitions_end ss + length (configurations_bytes ss)) ++ user
    ++ definitions_bytes ss
    ++ configurations_bytes ss
    ++ system

pub front-with : (count index user : ℕ) (ss : List Section) (system : List ℕ) → front_bytes count index user ss system ≡ front_with (bytes_of 4 count) (bytes_of 8 index) (bytes_of 8 user) ss system
unfolding front_bytes header_bytes front_with
front-with count index user ss system = refl

-- a field that is stored, or the first m bytes of it, takes the place of what stood there
module _ (m : ℕ) (count index user : List ℕ) (ss : List Section) (system rest new : List ℕ) where
  pub cut-count : length count ≡ 4 → length new ≡ 4 → stored (front_with count index user ss system ++ rest) (take m (writes_at count_place new)) ≡ front_with (take m new ++ drop (length (take m new)) count) index user ss system ++ rest
  unfolding front_with file_mark
  cut-count p q =
      let place : List ℕ = bytes_of 8 (definitions_end ss + length (configurations_bytes ss)) in
      let before : List ℕ = file_mark ++ (revision ∷ []) in
      let after : List ℕ = index ++ (place ++ (user ++ (definitions_bytes ss ++ (configurations_bytes ss ++ (system ++ rest))))) in
      let split : (c : List ℕ) → front_with c index user ss system ++ rest ≡ before ++ c ++ after = λ c. simp append_assoc in
      ap (λ (f : List ℕ). stored f (take m (writes_at count_place new))) (split count)
      ∙ cut-middle m before count after count_place new refl (omega arith)
      ∙ sym (split (take m new ++ drop (length (take m new)) count))

  pub cut-index : length count ≡ 4 → length index ≡ 8 → length new ≡ 8 → stored (front_with count index user ss system ++ rest) (take m (writes_at index_place new)) ≡ front_with count (take m new ++ drop (length (take m new)) index) user ss system ++ rest
  unfolding front_with file_mark
  cut-index p q r =
      let place : List ℕ = bytes_of 8 (definitions_end ss + length (configurations_bytes ss)) in
      let before : List ℕ = file_mark ++ (revision ∷ []) ++ count in
      let after : List ℕ = place ++ (user ++ (definitions_bytes ss ++ (configurations_bytes ss ++ (system ++ rest)))) in
      let split : (i : List ℕ) → front_with count i user ss system ++ rest ≡ before ++ i ++ after = λ i. simp append_assoc in
      ap (λ (f : List ℕ). stored f (take m (writes_at index_place new))) (split index)
      ∙ cut-middle m before index after index_place new (rw (length-append, p)) (omega arith)
      ∙ sym (split (take m new ++ drop (length (take m new)) index))

  pub cut-user : length count ≡ 4 → length index ≡ 8 → length user ≡ 8 → length new ≡ 8 → stored (front_with count index user ss system ++ rest) (take m (writes_at user_place new)) ≡ front_with count index (take m new ++ drop (length (take m new)) user) ss system ++ rest
  unfolding front_with file_mark
  cut-user p q r s =
      let place : List ℕ = bytes_of 8 (definitions_end ss + length (configurations_bytes ss)) in
      let before : List ℕ = file_mark ++ (revision ∷ []) ++ count ++ index ++ place in
      let after : List ℕ = definitions_bytes ss ++ (configurations_bytes ss ++ (system ++ rest)) in
      let split : (u : List ℕ) → front_with count index u ss system ++ rest ≡ before ++ u ++ after = λ u. simp append_assoc in
      ap (λ (f : List ℕ). stored f (take m (writes_at user_place new))) (split user)
      ∙ cut-middle m before user after user_place new (simp (length-append, p, q, length-bytes_of)) (omega arith)
      ∙ sym (split (take m new ++ drop (length (take m new)) user))

-- ── The frames ──

pub stored-frames : (f : List ℕ) (at : ℕ) (fs : List Frame) → at ≡ length f → stored f (writes (frame_pieces at fs)) ≡ f ++ flat_map frame_bytes fs
unfolding frame_pieces flat_map
stored-frames f at [] e = unfold stored writes in sym (append-nil f)
stored-frames f at (x ∷ xs) e =
    stored-pieces f (piece at (frame_bytes x)) (frame_pieces (at + length (frame_bytes x)) xs)
    ∙ ap (λ (g : List ℕ). stored g (writes (frame_pieces (at + length (frame_bytes x)) xs))) (stored-end f at (frame_bytes x) e)
    ∙ stored-frames (f ++ frame_bytes x) (at + length (frame_bytes x)) xs (rw length-append (omega arith))
    ∙ append_assoc f (frame_bytes x) (flat_map frame_bytes xs)

-- ── The three fields as numbers ──

module _ (count index user new : ℕ) (ss : List Section) (system rest : List ℕ) where
  pub store-count : stored (front_bytes count index user ss system ++ rest) (writes_at count_place (bytes_of 4 new)) ≡ front_bytes new index user ss system ++ rest
  unfolding front_bytes header_bytes front_with bytes_of writes_at
  store-count = cut-count 4 (bytes_of 4 count) (bytes_of 8 index) (bytes_of 8 user) ss system rest (bytes_of 4 new) refl refl

  pub store-index : stored (front_bytes count index user ss system ++ rest) (writes_at index_place (bytes_of 8 new)) ≡ front_bytes count new user ss system ++ rest
  unfolding front_bytes header_bytes front_with bytes_of writes_at
  store-index = cut-index 8 (bytes_of 4 count) (bytes_of 8 index) (bytes_of 8 user) ss system rest (bytes_of 8 new) refl refl refl

  pub store-user : stored (front_bytes count index user ss system ++ rest) (writes_at user_place (bytes_of 8 new)) ≡ front_bytes count index new ss system ++ rest
  unfolding front_bytes header_bytes front_with bytes_of writes_at
  store-user = cut-user 8 (bytes_of 4 count) (bytes_of 8 index) (bytes_of 8 user) ss system rest (bytes_of 8 new) refl refl refl refl

-- ── The pieces of a recording ──

-- the file up to where the frames end, before closing
unfoldable pub open_file : Recording → List ℕ
open_file r = front_bytes 0 0 0 r.sections (table_bytes r.system) ++ flat_map frame_bytes r.frames

pub length-open_file : (r : Recording) → length (open_file r) ≡ frames_end r
unfolding open_file frames_end frames_start
length-open_file r = length-append (front_bytes 0 0 0 r.sections (table_bytes r.system)) (flat_map frame_bytes r.frames)

-- one piece more
pub stored_next : (f g : List ℕ) (p : Piece) (ps : List Piece) → stored f (writes_at p.place p.bytes) ≡ g → stored f (writes (p ∷ ps)) ≡ stored g (writes ps)
stored_next f g p ps e = stored-pieces f p ps ∙ ap (λ (h : List ℕ). stored h (writes ps)) e

-- the opening piece and the frames are that file
pub stored-open : (r : Recording) → stored [] (writes (piece 0 (front_bytes 0 0 0 r.sections (table_bytes r.system)) ∷ frame_pieces (frames_start r) r.frames)) ≡ open_file r
unfolding open_file frames_start
stored-open r =
    let front : List ℕ = front_bytes 0 0 0 r.sections (table_bytes r.system) in
    stored_next [] front (piece 0 front) (frame_pieces (frames_start r) r.frames) (stored-end [] 0 front refl) ∙ stored-frames front (frames_start r) r.frames refl

-- what is left to store when they are
pub stored-closing : (r : Recording) (c : ℕ) → stored [] (writes (pieces_of r c)) ≡ stored (open_file r) (writes (take c (closings r)))
unfolding pieces_of
stored-closing r c =
    let before : List Piece = piece 0 (front_bytes 0 0 0 r.sections (table_bytes r.system)) ∷ frame_pieces (frames_start r) r.frames in
    ap (stored []) (writes-append before (take c (closings r)))
    ∙ stored-append [] (writes before) (writes (take c (closings r)))
    ∙ ap (λ (f : List ℕ). stored f (writes (take c (closings r)))) (stored-open r)

-- all five closing pieces make the whole file
pub stored-closed : (r : Recording) → r.user ≡ [] → stored [] (writes (pieces_of r 5)) ≡ encode r
unfolding closings encode open_file writes stored
stored-closed r u =
    let ss = r.sections in
    let system : List ℕ = table_bytes r.system in
    let frames : List ℕ = flat_map frame_bytes r.frames in
    let index : List ℕ = index_bytes (frames_start r) r.frames in
    let user : List ℕ = table_bytes [] in
    let n = length r.frames in
    let rest : List ℕ = frames ++ (index ++ user) in
    let length_two : user_start r ≡ length (open_file r ++ index) = unfold user_start in rw length-append (omega (arith, length-open_file r, length-index (frames_start r) r.frames)) in
    let regroup : (count at place : ℕ) → front_bytes count at place ss system ++ frames ++ index ++ user ≡ front_bytes count at place ss system ++ rest = λ count at place. simp append_assoc in
    stored-closing r 5
    ∙ stored_next (open_file r) (open_file r ++ index) _ (drop 1 (closings r)) (stored-end (open_file r) (frames_end r) index (sym (length-open_file r)))
    ∙ stored_next (open_file r ++ index) (front_bytes 0 0 0 ss system ++ rest) _ (drop 2 (closings r)) (stored-end (open_file r ++ index) (user_start r) user length_two ∙ regroup 0 0 0)
    ∙ stored_next _ (front_bytes n 0 0 ss system ++ rest) _ (drop 3 (closings r)) (store-count 0 0 0 n ss system rest)
    ∙ stored_next _ (front_bytes n 0 (user_start r) ss system ++ rest) _ (drop 4 (closings r)) (store-user n 0 0 (user_start r) ss system rest)
    ∙ stored_next _ (front_bytes n (frames_end r) (user_start r) ss system ++ rest) _ [] (store-index n 0 (user_start r) (frames_end r) ss system rest)
    ∙ sym (regroup n (frames_end r) (user_start r))
    ∙ ap (λ (ts : List Tag). front_bytes n (frames_end r) (user_start r) ss system ++ frames ++ index ++ table_bytes ts) (sym u)
