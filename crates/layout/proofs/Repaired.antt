-- Repair of any input that it accepts opens and holds exactly the walked frames.
-- Assumes nothing.
use Prim.Native.Nat.{ℕ, zero, suc, ◌+◌, ◌^◌, ◌≤◌, ◌<◌}
use native.Mathlib.Omega.{arith}
use mathlib.Core.Path.{◌≡◌, refl, ap, sym, ◌∙◌}
use mathlib.Core.Bool.{true, not}
use mathlib.Core.List.{List, [], ◌∷◌, ◌++◌, flat_map, append_assoc}
use lib.ListN.{length, take, drop, length-append}
use lib.Seq.{sets, sets-eq, take_at, drop_at}
use lib.Dec.{ltb, eqb}
use lib.Pow.{are_bytes}
use borrow.Author.Tests.{ltb-false, lt-ltb, not-false}
use Rattle.number.specs.Number.{bytes_of}
use Rattle.number.proofs.Bytes.{length-bytes_of}
use Rattle.layout.specs.Recording.{Section, Recording, Legal, count_place, index_place, user_place, most_frames, largest_table, file_mark, revision, every, distinct, tag_names, legal_table, in_order, header_bytes, definitions_bytes, configurations_bytes, table_bytes, front_bytes, frame_bytes, index_bytes, index_length, frames_start, frames_end, user_start, encode}
use Rattle.layout.specs.Reading.{value_or}
use Rattle.layout.specs.Opening.{header_count, index_offset, user_offset, refusal, shown, sections_from, defined_in, read_system, walk_start, walk_of}
use Rattle.layout.specs.Recorder.{too_long}
use Rattle.layout.specs.Repair.{walked, kept_length, kept_count, tail, repair_lines, repair_refusal, Repair, repair_answer, repair, with_fields, repaired}
use Rattle.layout.proofs.Lists.{bytes_drop}
use Rattle.layout.proofs.Walks.{Walked, walk-gives}
use Rattle.layout.proofs.Lines.{FrontPasses, line-pass, line-holds, line_clear, front-pass, front-clear}
use Rattle.layout.proofs.Fronts.{system_at, sections_in, system_in, length_front, FrontGiven, front-given}
use Rattle.layout.proofs.Condition2.{legal-opens, legal-shown}

-- what repair keeps of a file: its sections and system tags, the walked frames, and no user tags
unfoldable pub kept_of : List ℕ → Recording
kept_of f = record { sections = sections_from f (defined_in f); system = value_or [] (read_system f); frames = (walked f).frames; user = [] }

-- ── The order of repair ──

-- what repair hands out where it refuses nothing
unfoldable pub repairing : List ℕ → Repair
repairing f =
    record {
      refused = 0;
      kept = kept_length f;
      count = kept_count f;
      index = kept_length f;
      user = kept_length f + index_length (kept_count f);
      tail = tail f;
    }

answer-is : (n : ℕ) (r : Repair) → (repair_answer n r).refused ≡ 0 → (n ≡ 0) × (repair_answer n r ≡ r)
unfolding repair_answer
answer-is zero r e = (refl, refl)
answer-is (suc n) r e = absurd (omega arith)

pub repair-lines : (f : List ℕ) (room : ℕ)
    → (repair f room).refused ≡ 0
    → FrontPasses f
    × (in_order (walked f).frames ≡ true)
    × (kept_length f + index_length (kept_count f) + largest_table ≤ 2 ^ 40)
    × (repair f room ≡ repairing f)
unfolding repair repairing repair_refusal repair_lines too_long
repair-lines f room a =
    let n = answer-is (repair_refusal f room) _ a in
    let p = front-clear f _ n.0 in
    let q = line_clear 15 _ _ p.1 in
    let r = line_clear 12 _ _ q.1 in
    let s = line_clear 14 _ _ r.1 in
    (p.0, not-false _ r.0, ltb-false _ _ s.0, n.1)

-- ── The header's fields ──

-- bytes put in the place of as many others
sets-at : (before old behind vs : List ℕ) (place : ℕ) → length before ≡ place → length old ≡ length vs → sets (before ++ (old ++ behind)) place vs ≡ before ++ (vs ++ behind)
sets-at before old behind vs place e h =
    let l : place + length vs ≤ length (before ++ (old ++ behind)) = omega (arith, length-append before (old ++ behind), length-append old behind) in
    let d : drop (place + length vs) (before ++ (old ++ behind)) ≡ behind = rw (← append_assoc before old behind) (drop_at (before ++ old) behind (place + length vs) (omega (arith, length-append before old))) in
    sets-eq vs (before ++ (old ++ behind)) place l ∙ rw (take_at before (old ++ behind) place e, d) (append_assoc before vs behind)

numbers-alike : (w n m : ℕ) → length (bytes_of w n) ≡ length (bytes_of w m)
numbers-alike w n m = omega (arith, length-bytes_of w n, length-bytes_of w m)

-- each field set in a header
module _ (c i s u : ℕ) (rest : List ℕ) where
  set-count : (n : ℕ) → sets (header_bytes c i s u ++ rest) count_place (bytes_of 4 n) ≡ header_bytes n i s u ++ rest
  unfolding header_bytes file_mark
  set-count n =
      ap (λ (l : List ℕ). sets l count_place (bytes_of 4 n)) (simp append_assoc)
      ∙ sets-at (file_mark ++ (revision ∷ [])) (bytes_of 4 c) (bytes_of 8 i ++ (bytes_of 8 s ++ (bytes_of 8 u ++ rest))) (bytes_of 4 n) count_place refl (numbers-alike 4 c n)
      ∙ simp append_assoc

  set-index : (n : ℕ) → sets (header_bytes c i s u ++ rest) index_place (bytes_of 8 n) ≡ header_bytes c n s u ++ rest
  unfolding header_bytes file_mark
  set-index n =
      ap (λ (l : List ℕ). sets l index_place (bytes_of 8 n)) (simp append_assoc)
      ∙ sets-at (file_mark ++ (revision ∷ []) ++ bytes_of 4 c) (bytes_of 8 i) (bytes_of 8 s ++ (bytes_of 8 u ++ rest)) (bytes_of 8 n) index_place (simp length-bytes_of) (numbers-alike 8 i n)
      ∙ simp append_assoc

  set-user : (n : ℕ) → sets (header_bytes c i s u ++ rest) user_place (bytes_of 8 n) ≡ header_bytes c i s n ++ rest
  unfolding header_bytes file_mark
  set-user n =
      ap (λ (l : List ℕ). sets l user_place (bytes_of 8 n)) (simp append_assoc)
      ∙ sets-at (file_mark ++ (revision ∷ []) ++ bytes_of 4 c ++ bytes_of 8 i ++ bytes_of 8 s) (bytes_of 8 u) rest (bytes_of 8 n) user_place (simp (length-append, length-bytes_of)) (numbers-alike 8 u n)
      ∙ simp append_assoc

-- setting the three fields leaves everything else of a front, and what follows it
front-split : (c i u : ℕ) (ss : List Section) (system rest : List ℕ) → front_bytes c i u ss system ++ rest ≡ header_bytes c i (system_at ss) u ++ (definitions_bytes ss ++ (configurations_bytes ss ++ (system ++ rest)))
unfolding front_bytes
front-split c i u ss system rest = simp append_assoc

fields-set : (c i u n m k : ℕ) (ss : List Section) (system rest : List ℕ) → with_fields n m k (front_bytes c i u ss system ++ rest) ≡ front_bytes n m k ss system ++ rest
unfolding with_fields
fields-set c i u n m k ss system rest =
    let s : ℕ = system_at ss in
    let t : List ℕ = definitions_bytes ss ++ (configurations_bytes ss ++ (system ++ rest)) in
    rw (front-split c i u ss system rest, set-count c i s u t n, set-index n i s u t m, set-user n m s u t k) (sym (front-split n m k ss system rest))

-- ── What is kept ──

kept-given : (f : List ℕ) → are_bytes f ≡ true → Walked most_frames (length (defined_in f)) (drop (walk_start f) f) (walked f)
unfolding walked walk_of
kept-given f h = walk-gives most_frames (length (defined_in f)) (drop (walk_start f) f) (bytes_drop (walk_start f) f h)

-- where its parts stand
kept-starts : (f : List ℕ) → FrontGiven f → frames_start (kept_of f) ≡ walk_start f
unfolding kept_of frames_start
kept-starts f g = length_front 0 0 0 (sections_in f) (table_bytes (system_in f)) ∙ sym g.start

kept-ends : (f : List ℕ) → FrontGiven f → (walked f).bytes ≡ length (flat_map frame_bytes (walked f).frames) → frames_end (kept_of f) ≡ kept_length f
unfolding kept_of frames_end kept_length
kept-ends f g e = rw (kept-starts f g, e)

pub kept-user : (f : List ℕ)
    → FrontGiven f
    → (walked f).bytes ≡ length (flat_map frame_bytes (walked f).frames)
    → user_start (kept_of f) ≡ kept_length f + index_length (kept_count f)
unfolding kept_of user_start kept_count
kept-user f g e = rw (kept-ends f g e)

no-tags : legal_table [] ≡ true
unfolding legal_table every distinct tag_names
no-tags = refl

kept-legal : (f : List ℕ) → FrontGiven f → Walked most_frames (length (defined_in f)) (drop (walk_start f) f) (walked f) → in_order (walked f).frames ≡ true → kept_length f + index_length (kept_count f) + largest_table ≤ 2 ^ 40 → Legal (kept_of f)
unfolding kept_of
kept-legal f g w o b =
    record {
      at_least_one_section = g.sections.some;
      at_most_eight_sections = g.sections.few;
      sections_legal = g.sections.legal;
      sections_differ = g.sections.differ;
      system_legal = g.table;
      frames_few = w.few;
      frames_legal = rw (← g.defined) w.legal;
      frames_ordered = o;
      user_legal = no-tags;
      user_offset_fits = omega (arith, kept-user f g w.size);
    }

take-parts : (f a t b c : List ℕ) (n m : ℕ) → f ≡ a ++ t → t ≡ b ++ c → length a ≡ n → length b ≡ m → take (n + m) f ≡ a ++ b
take-parts f a t b c n m e d p q =
    ap (take (n + m)) (e ∙ ap (λ (l : List ℕ). a ++ l) d ∙ sym (append_assoc a b c)) ∙ take_at (a ++ b) c (n + m) (omega (arith, length-append a b))

-- what repair leaves of a file is its front and the walked frames
kept-bytes : (f : List ℕ) → FrontGiven f → Walked most_frames (length (defined_in f)) (drop (walk_start f) f) (walked f) → take (kept_length f) f ≡ front_bytes (header_count f) (index_offset f) (user_offset f) (sections_in f) (table_bytes (system_in f)) ++ flat_map frame_bytes (walked f).frames
unfolding kept_length
kept-bytes f g w =
    let front : List ℕ = front_bytes (header_count f) (index_offset f) (user_offset f) (sections_in f) (table_bytes (system_in f)) in
    let starts : length front ≡ walk_start f = length_front (header_count f) (index_offset f) (user_offset f) (sections_in f) (table_bytes (system_in f)) ∙ sym g.start in
    take-parts f front (drop (walk_start f) f) (flat_map frame_bytes (walked f).frames) (drop (walked f).bytes (drop (walk_start f) f)) (walk_start f) (walked f).bytes g.bytes w.front starts (sym w.size)

pub repaired-bytes : (f : List ℕ)
    → FrontGiven f
    → Walked most_frames (length (defined_in f)) (drop (walk_start f) f) (walked f)
    → repaired f (repairing f) ≡ encode (kept_of f)
unfolding repaired repairing encode tail kept_of kept_count
repaired-bytes f g w =
    rw (kept-bytes f g w, fields-set (header_count f) (index_offset f) (user_offset f) (kept_count f) (kept_length f) (kept_length f + index_length (kept_count f)) (sections_in f) (table_bytes (system_in f)) (flat_map frame_bytes (walked f).frames), kept-starts f g, kept-ends f g w.size, kept-user f g w.size)
    (sym (append_assoc (front_bytes (kept_count f) (kept_length f) (kept_length f + index_length (kept_count f)) (sections_in f) (table_bytes (system_in f)) ++ flat_map frame_bytes (walked f).frames) (index_bytes (walk_start f) (walked f).frames) (table_bytes [])))

-- Whatever file repair accepts, the repaired file opens, and shows just what was kept.
pub repair-opens : (f : List ℕ) (room : ℕ)
    → are_bytes f ≡ true
    → (repair f room).refused ≡ 0
    → (refusal (repaired f (repair f room)) ≡ 0)
    × (shown (repaired f (repair f room)) ≡ kept_of f)
repair-opens f room h a =
    let r = repair-lines f room a in
    let g = front-given f h r.0 in
    let w = kept-given f h in
    let l = kept-legal f g w r.1 r.2 in
    rw (r.3, repaired-bytes f g w) (legal-opens (kept_of f) l, legal-shown (kept_of f) l)

-- A file that repair accepts, given room: with less room than the tail it is refused 9.
pub repair-room : (f : List ℕ) (room out : ℕ) → (repair f room).refused ≡ 0 → out < length (tail f) → (repair f out).refused ≡ 9
unfolding repair repair_refusal repair_lines repair_answer
repair-room f room out a o =
    let p = front-clear f _ (answer-is (repair_refusal f room) _ a).0 in
    let q = line_clear 15 _ _ p.1 in
    let r = line_clear 12 _ _ q.1 in
    let s = line_clear 14 _ _ r.1 in
    let z : repair_refusal f out ≡ 9 = front-pass f _ p.0 ∙ line-pass 16 (eqb (refusal f) 0) _ q.0 ∙ line-pass 13 (not (in_order (walked f).frames)) _ r.0 ∙ line-pass 15 (too_long (kept_length f) (kept_count f)) _ s.0 ∙ line-holds 9 (ltb out (length (tail f))) _ (lt-ltb out (length (tail f)) o) in
    rw z
