-- Where each item of a recording stands in its bytes.
-- Assumes nothing.
use Prim.Native.Nat.{ℕ, zero, suc, ◌+◌, ◌^◌, ◌≤◌, ◌<◌}
use native.Mathlib.Omega.{arith}
use mathlib.Core.Path.{◌≡◌, ap, sym, ◌∙◌}
use mathlib.Core.Bool.{Bool, true, false, not, ◌&&◌}
use mathlib.Core.List.{List, [], ◌∷◌, ◌++◌, flat_map, append_assoc, append-nil}
use lib.ListN.{length, take, drop, get_or, length-append}
use lib.Seq.{drop-drop, take-append_seam, drop-append_seam, split_at}
use lib.Dec.{ltb, leb, eqb}
use lib.Pow.{are_bytes}
use borrow.Author.Tests.{ltb-true, eqb-true, not-false}
use Rattle.number.specs.Number.{bytes_of}
use Rattle.number.proofs.Bytes.{both_true, length-bytes_of}
use Rattle.layout.specs.Recording.{Section, Tag, Frame, Recording, Legal, header_length, header_bytes, short_string, definition_list_bytes, definitions_end, definitions_bytes, configurations_bytes, tag_bytes, table_bytes, front_bytes, sized_bytes, frame_head_bytes, frame_bytes, frames_start, frames_end, user_start, encode, every, legal_frame, longest_section}
use Rattle.layout.specs.Items.{Item, frame_section, section_name, configuration, system_name, system_value, user_name, user_value, no_frame, no_section, no_tag, frame_of, no_such_item, item_bytes, frame_start, system_start, name_start, value_start, item_start}
use Rattle.layout.proofs.Lists.{bytes_drop, bytes_take, flat_map-append}
use Rattle.layout.proofs.Fronts.{length-header, length-definitions, length-definitions_bytes}
use Rattle.layout.proofs.Encoded.{frames-end, user-start, front_of, length-front_of, encode-parts, behind_frames, drop-frames, drop-user, length-encode}

-- ── What stands at a place ──

-- some bytes stand in a file from `at` on, all of them before its end
pub record Stands (f : List ℕ) (at : ℕ) (s : List ℕ) : Type 0 where
  pub rest : List ℕ
  pub stands : drop at f ≡ s ++ rest
  pub inside : at + length s ≤ length f

pub stands-take : {f : List ℕ} {at : ℕ} {s : List ℕ} → Stands f at s → take (length s) (drop at f) ≡ s
stands-take {f} {at} {s} p = rw p.stands (take-append_seam s p.rest)

-- what stands in a file of bytes is bytes
pub stands-bytes : {f : List ℕ} {at : ℕ} {s : List ℕ} → Stands f at s → are_bytes f ≡ true → are_bytes s ≡ true
stands-bytes {f} {at} {s} p h = ap are_bytes (sym (stands-take p)) ∙ bytes_take (length s) (drop at f) (bytes_drop at f h)

pub stands-front : {f : List ℕ} {at : ℕ} (s t : List ℕ) → Stands f at (s ++ t) → Stands f at s
stands-front {f} {at} s t p =
    record { rest = t ++ p.rest; stands = p.stands ∙ append_assoc s t p.rest; inside = omega (arith, length-append s t) }

pub stands-back : {f : List ℕ} {at : ℕ} (s t : List ℕ) → Stands f at (s ++ t) → Stands f (at + length s) t
stands-back {f} {at} s t p =
    record {
      rest = p.rest;
      stands = sym (drop-drop (length s) at f) ∙ ap (drop (length s)) (p.stands ∙ append_assoc s t p.rest) ∙ drop-append_seam s (t ++ p.rest);
      inside = omega (arith, length-append s t);
    }

-- the same place, written otherwise
pub stands_at_lem : {f : List ℕ} {at : ℕ} {s : List ℕ} (to : ℕ) → at ≡ to → Stands f at s → Stands f to s
stands_at_lem {f} {at} {s} to e p = rw e at p

-- one of some encodings in a row stands behind those ahead of it
pub stands_one : {A : Type 0} {f : List ℕ} {at : ℕ} (bytes : A → List ℕ) (xs : List A) (i : ℕ) (d : A) → i < length xs → Stands f at (flat_map bytes xs) → Stands f (at + length (flat_map bytes (take i xs))) (bytes (get_or xs i d))
unfolding flat_map
stands_one {A} {f} {at} bytes xs i d h p =
    let e : flat_map bytes xs ≡ flat_map bytes (take i xs) ++ (bytes (get_or xs i d) ++ flat_map bytes (drop (suc i) xs)) = ap (flat_map bytes) (split_at xs i d h) ∙ flat_map-append bytes (take i xs) (get_or xs i d ∷ drop (suc i) xs) in
    stands-front (bytes (get_or xs i d)) (flat_map bytes (drop (suc i) xs)) (stands-back (flat_map bytes (take i xs)) _ (rw e at p))

-- ── The parts of a recording's file ──

pub frames-stand : (r : Recording) → Stands (encode r) (frames_start r) (flat_map frame_bytes r.frames)
frames-stand r = record { rest = behind_frames r; stands = drop-frames r; inside = omega (arith, length-encode r, user-start r, frames-end r) }

pub user-stands : (r : Recording) → Stands (encode r) (user_start r) (table_bytes r.user)
user-stands r = record { rest = []; stands = drop-user r ∙ sym (append-nil (table_bytes r.user)); inside = omega (arith, length-encode r) }

front-stands : (r : Recording) → Stands (encode r) 0 (front_of r)
front-stands r =
    record {
      rest = flat_map frame_bytes r.frames ++ behind_frames r;
      stands = encode-parts r;
      inside = omega (arith, length-front_of r, length-encode r, user-start r, frames-end r);
    }

-- the header, the definitions, the configurations and the system table, one behind the other
header : Recording → List ℕ
header r = header_bytes (length r.frames) (frames_end r) (definitions_end r.sections + length (configurations_bytes r.sections)) (user_start r)

length-header_of : (r : Recording) → length (header r) ≡ header_length
unfolding header
length-header_of r = length-header _ _ _ _

pub system-stands : (r : Recording) → Stands (encode r) (system_start r) (table_bytes r.system)
unfolding front_of front_bytes system_start header
system-stands r =
    stands_at_lem (system_start r) (simp (length-append, length-header_of) (omega (arith, length-header_of r, length-definitions_bytes r.sections)))
    (stands-back (header r ++ definitions_bytes r.sections ++ configurations_bytes r.sections) (table_bytes r.system) (front-stands r))

before-system : (r : Recording) → Stands (encode r) 0 (header r ++ definitions_bytes r.sections ++ configurations_bytes r.sections)
unfolding front_of front_bytes header
before-system r = stands-front (header r ++ definitions_bytes r.sections ++ configurations_bytes r.sections) (table_bytes r.system) (front-stands r)

pub configurations-stand : (r : Recording) → Stands (encode r) (definitions_end r.sections) (configurations_bytes r.sections)
configurations-stand r =
    stands_at_lem (definitions_end r.sections) (simp length-append (omega (arith, length-header_of r, length-definitions_bytes r.sections)))
    (stands-back (header r ++ definitions_bytes r.sections) (configurations_bytes r.sections) (before-system r))

pub definitions-stand : (r : Recording) → Stands (encode r) header_length (definitions_bytes r.sections)
definitions-stand r =
    stands_at_lem header_length (omega (arith, length-header_of r))
    (stands-back (header r) (definitions_bytes r.sections) (stands-front (header r ++ definitions_bytes r.sections) (configurations_bytes r.sections) (before-system r)))

-- ── The items ──

-- a short string's bytes stand behind its length
string-stands : {f : List ℕ} {at : ℕ} (s : List ℕ) → Stands f at (short_string s) → Stands f (at + 1) s
unfolding short_string
string-stands s p = stands-back (length s ∷ []) s p

-- a section's name, behind the definitions ahead
name-stands : {f : List ℕ} {place : ℕ} (at : ℕ) (ss : List Section) (i : ℕ) → i < length ss → Stands f place (definition_list_bytes at ss) → Stands f (place + length (definition_list_bytes 0 (take i ss))) (short_string (get_or ss i no_section).name)
unfolding definition_list_bytes
name-stands at [] i h p = absurd (omega arith)
name-stands {f} {place} at (s ∷ ss) zero h p =
    stands_at_lem (place + 0) (omega arith) (stands-front (short_string s.name) (bytes_of 8 at) (stands-front (short_string s.name ++ bytes_of 8 at) (definition_list_bytes (at + length s.configuration) ss) p))
name-stands {f} {place} at (s ∷ ss) (suc i) h p =
    let q = name-stands {place = place + length (short_string s.name ++ bytes_of 8 at)} (at + length s.configuration) ss i (omega arith) (stands-back (short_string s.name ++ bytes_of 8 at) (definition_list_bytes (at + length s.configuration) ss) p) in
    stands_at_lem _ (simp (length-append, length-bytes_of) (omega (arith, length-definitions 0 (0 + length s.configuration) (take i ss)))) q

-- the tags of a table
module _ {f : List ℕ} {at : ℕ} (ts : List Tag) (i : ℕ) (h : i < length ts) (p : Stands f at (table_bytes ts)) where
  tag-stands : Stands f (at + 4 + length (flat_map tag_bytes (take i ts))) (tag_bytes (get_or ts i no_tag))
  unfolding table_bytes
  tag-stands = stands_one tag_bytes ts i no_tag h (stands_at_lem (at + 4) (rw length-bytes_of) (stands-back (bytes_of 4 (length ts)) (flat_map tag_bytes ts) p))

  pub tag-name-stands : Stands f (name_start at ts i) (get_or ts i no_tag).name
  unfolding name_start tag_bytes
  tag-name-stands = string-stands (get_or ts i no_tag).name (stands-front (short_string (get_or ts i no_tag).name) (short_string (get_or ts i no_tag).value) tag-stands)

  pub tag-value-stands : Stands f (value_start at ts i) (get_or ts i no_tag).value
  unfolding value_start name_start tag_bytes short_string
  tag-value-stands = stands_at_lem (value_start at ts i) (omega arith) (string-stands (get_or ts i no_tag).value (stands-back (short_string (get_or ts i no_tag).name) (short_string (get_or ts i no_tag).value) tag-stands))

-- a frame, and a section of it
pub frame-stands : (r : Recording) (i : ℕ) → i < length r.frames → Stands (encode r) (frame_start r i) (frame_bytes (frame_of r i))
unfolding frame_start frame_of
frame-stands r i h = stands_one frame_bytes r.frames i no_frame h (frames-stand r)

pub length-head : (t e : ℕ) → length (frame_head_bytes t e) ≡ 16
unfolding frame_head_bytes
length-head t e = simp (length-append, length-bytes_of)

section-stands : {f : List ℕ} {at : ℕ} (x : Frame) (j : ℕ) → j < length x.sections → Stands f at (frame_bytes x) → Stands f (at + 16 + length (flat_map sized_bytes (take j x.sections)) + 4) (get_or x.sections j [])
unfolding frame_bytes sized_bytes
section-stands {f} {at} x j h p =
    let a : Stands f (at + 16) (flat_map sized_bytes x.sections) = stands_at_lem (at + 16) (rw length-head) (stands-back (frame_head_bytes x.time x.exposure) (flat_map sized_bytes x.sections) p) in
    let b = stands_one sized_bytes x.sections j [] h a in
    stands_at_lem _ (rw length-bytes_of) (stands-back (bytes_of 4 (length (get_or x.sections j []))) (get_or x.sections j []) b)

-- each of some that all pass a test passes it
pub every_one : {A : Type 0} (ok : A → Bool) (xs : List A) (i : ℕ) (d : A) → every ok xs ≡ true → i < length xs → ok (get_or xs i d) ≡ true
unfolding every
every_one ok [] i d e h = absurd (omega arith)
every_one ok (x ∷ xs) zero d e h = (both_true (ok x) (every ok xs) e).0
every_one ok (x ∷ xs) (suc i) d e h = every_one ok xs i d (both_true (ok x) (every ok xs) e).1 (omega arith)

pub frame-sections : (k : ℕ) (x : Frame) → legal_frame k x ≡ true → length x.sections ≡ k
unfolding legal_frame
frame-sections k x l =
    let times = leb (suc x.time) (2 ^ 64) && leb (suc x.exposure) (2 ^ 32) in
    let counted = eqb (length x.sections) k in
    eqb-true (length x.sections) k (both_true times counted (both_true (times && counted) (every (λ s. leb (length s) longest_section) x.sections) l).0).1

pub below : (i n : ℕ) → not (ltb i n) ≡ false → i < n
below i n h = ltb-true i n (not-false (ltb i n) h)

-- every item that there is stands where it is said to
pub item-stands : (r : Recording) (item : Item) → Legal r → no_such_item r item ≡ false → Stands (encode r) (item_start r item) (item_bytes r item)
unfolding no_such_item item_start item_bytes definitions_bytes configurations_bytes frame_of
item-stands r (frame_section i j) l h =
    let b = both_true (ltb i (length r.frames)) (ltb j (length r.sections)) (not-false _ h) in
    let a : i < length r.frames = ltb-true i (length r.frames) b.0 in
    let k : length (frame_of r i).sections ≡ length r.sections = frame-sections (length r.sections) (frame_of r i) (every_one (legal_frame (length r.sections)) r.frames i no_frame l.frames_legal a) in
    section-stands (frame_of r i) j (omega (arith, ltb-true j (length r.sections) b.1)) (frame-stands r i a)
item-stands r (section_name i) l h =
    let p : Stands (encode r) (header_length + 1) (definition_list_bytes (definitions_end r.sections) r.sections) = stands-back (length r.sections ∷ []) (definition_list_bytes (definitions_end r.sections) r.sections) (definitions-stand r) in
    string-stands (get_or r.sections i no_section).name (name-stands (definitions_end r.sections) r.sections i (below i _ h) p)
item-stands r (configuration i) l h = stands_one (λ s. s.configuration) r.sections i no_section (below i _ h) (configurations-stand r)
item-stands r (system_name i) l h = tag-name-stands r.system i (below i _ h) (system-stands r)
item-stands r (system_value i) l h = tag-value-stands r.system i (below i _ h) (system-stands r)
item-stands r (user_name i) l h = tag-name-stands r.user i (below i _ h) (user-stands r)
item-stands r (user_value i) l h = tag-value-stands r.user i (below i _ h) (user-stands r)
