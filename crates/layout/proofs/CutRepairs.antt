-- What opening and repair make of a cut file.
-- Assumes nothing.
use Prim.Native.Nat.{ℕ, suc, ◌+◌, ◌-◌, ◌^◌, ◌≤◌, ◌<◌}
use native.Mathlib.Omega.{arith}
use mathlib.Core.Path.{◌≡◌, refl, ap, sym, ◌∙◌, subst}
use mathlib.Core.Bool.{Bool, true, false, not, ◌||◌}
use mathlib.Core.Logic.{◌⊎◌, inl, inr}
use mathlib.Core.List.{List, [], ◌++◌, append_assoc, append-nil}
use lib.ListN.{length, take, drop, length-append, length-take, length-drop}
use lib.Seq.{take_all, drop_at, length-take-le}
use lib.Dec.{ltb, eqb}
use borrow.Author.Tests.{ltb-false, eqb-true, eq-eqb, le-ltb, lt-ltb}
use Rattle.layout.specs.Recording.{Tag, Recording, Legal, header_length, longest_configuration, header_bytes, definitions_bytes, configurations_bytes, most_frames, largest_table, table_bytes, front_bytes, index_bytes, index_length, frames_start, encode, file_mark, same, in_order}
use Rattle.layout.specs.Reading.{Parsed, bad, good, table, is_bad, value_or}
use Rattle.layout.specs.Opening.{Line, first_of, index_offset, system_offset, defined_in, last_offset, read_system, walk_start, walk_of, counted, not_fstf, other_revision, bad_sections, bad_system, front_lines, refusal}
use Rattle.layout.specs.Recorder.{too_long}
use Rattle.layout.specs.Repair.{walked, kept_length, kept_count, tail, repair_lines, repair_refusal, repair_answer, repair, repaired}
use Rattle.layout.proofs.Lists.{or-false, or_right, decided, le-or-lt, drop-cut}
use Rattle.layout.proofs.Lines.{FrontPasses, line-pass, line-holds, front-pass, opens-passes}
use Rattle.layout.proofs.Fronts.{system_at, length-header, length_front, HeaderRead, header_read, FrontRead, not-fstf, first-revision, front_read, FrontGiven, table-some}
use Rattle.layout.proofs.Exact.{table-exact}
use Rattle.layout.proofs.Walks.{took, walk-exactly, Walked}
use Rattle.layout.proofs.Encoded.{closed-given, index-given, frames-start, frames-end, user-start, legal-sections}
use Rattle.layout.proofs.Repaired.{kept_of, repairing, kept-user, repaired-bytes}
use Rattle.layout.proofs.Stores.{take-append}
use Rattle.layout.proofs.Cuts.{behind, opening, length-opening, body_length, CutShape, length-behind, shape-whole}
use Rattle.layout.proofs.CutWalks.{table-local, index-none, complete, complete-most, walk-cut}

-- ── What a file that opens has ──

-- more than a header
pub opens-long : (f : List ℕ) → refusal f ≡ 0 → header_length < length f
unfolding not_fstf
opens-long f o = omega (arith, ltb-false (length f) (header_length + 1) (or-false (ltb (length f) (header_length + 1)) _ (opens-passes f o).front.mark).0)

-- an index offset
opens-index : (f : List ℕ) → refusal f ≡ 0 → 1 ≤ index_offset f
opens-index f o = (closed-given f (opens-passes f o).closed).index_some

-- the system table's place is a number of eight bytes
system-fits : (r : Recording) → Legal r → system_at r.sections < 256 ^ 8
system-fits r l = omega (arith, frames-start r, frames-end r, user-start r, l.user_offset_fits)

-- ── A cut in the opening piece ──

-- the header is read, where it is there
opening-header : (r : Recording) (m : ℕ) → Legal r → header_length < m → HeaderRead 0 0 (system_at r.sections) 0 (take m (opening r))
unfolding front_bytes
opening-header r m l n =
    let h : List ℕ = header_bytes 0 0 (system_at r.sections) 0 in
    let t : List ℕ = definitions_bytes r.sections ++ (configurations_bytes r.sections ++ table_bytes r.system) in
    let a : opening r ≡ h ++ t = simp append_assoc in
    let e : take m (opening r) ≡ h ++ take (m - length h) t = rw (a, take-append, take_all m h (omega (arith, length-header 0 0 (system_at r.sections) 0))) in
    rw e (header_read 0 0 (system_at r.sections) 0 (take (m - length h) t) (omega arith) (omega arith) (system-fits r l) (omega arith))

-- It does not open.
pub opening-refused : (r : Recording) (m : ℕ) → Legal r → refusal (take m (opening r)) ≡ 0 → ⊥
opening-refused r m l o =
    let n : header_length < m = omega (arith, opens-long (take m (opening r)) o, length-take m (opening r)) in
    omega (arith, opens-index (take m (opening r)) o, (opening-header r m l n).index)

-- the table that stands in the whole opening is not whole in the cut one
opening-table : (r : Recording) (m : ℕ) → Legal r → m < frames_start r → is_bad (table (drop (system_at r.sections) (take m (opening r)))) ≡ true
unfolding front_bytes
opening-table r m l h = go (table (drop at (take m (opening r)))) refl (drop-cut at m (opening r))
  where
    at : ℕ
    at = system_at r.sections

    before : List ℕ
    before = header_bytes 0 0 at 0 ++ definitions_bytes r.sections ++ configurations_bytes r.sections

    whole : table (drop at (opening r)) ≡ good r.system (length (table_bytes r.system))
    whole =
        let e : length before ≡ at = omega (arith, length-append before (table_bytes r.system), length_front 0 0 0 r.sections (table_bytes r.system)) in
        ap table (drop_at before (table_bytes r.system) at e) ∙ rw append-nil at (table-exact.takes r.system [] l.system_legal)

    go : (v : Parsed (List Tag)) → table (drop at (take m (opening r))) ≡ v → (t : List ℕ) × (drop at (take m (opening r)) ++ t ≡ drop at (opening r)) → is_bad v ≡ true
    go (bad i) e c = refl
    go (good ts n) e (t, c) =
        let w = table-local (drop at (take m (opening r))) t ts n e in
        let a : table (drop at (opening r)) ≡ good ts n = rw c at w.1 in
        let b : n ≡ length (table_bytes r.system) = cc whole in
        absurd (omega (arith, w.0, length-drop at (take m (opening r)), length-take m (opening r), frames-start r, table-some r.system))

opening-system : (r : Recording) (m : ℕ) → Legal r → header_length < m → m < frames_start r → bad_system (take m (opening r)) ≡ true
unfolding bad_system read_system
opening-system r m l n h =
    let f = take m (opening r) in
    let far = ltb (system_offset f) (last_offset 0 (defined_in f)) || ltb (last_offset 0 (defined_in f) + longest_configuration) (system_offset f) in
    or_right far (is_bad (read_system f)) (rw (opening-header r m l n).system (opening-table r m l h))

-- a front with a bad system table is refused 3 or 4
front-three-four : (f : List ℕ) (ls : List Line) → not_fstf f ≡ false → other_revision f ≡ false → bad_system f ≡ true → (first_of (front_lines f ++ ls) ≡ 3) ⊎ (first_of (front_lines f ++ ls) ≡ 4)
unfolding front_lines
front-three-four f ls a b c = go (decided (bad_sections f))
  where
    go : (bad_sections f ≡ true) ⊎ (bad_sections f ≡ false) → (first_of (front_lines f ++ ls) ≡ 3) ⊎ (first_of (front_lines f ++ ls) ≡ 4)
    go (inl d) = inl (line-pass 1 (not_fstf f) _ a ∙ line-pass 2 (other_revision f) _ b ∙ line-holds 3 (bad_sections f) _ d)
    go (inr d) = inr (line-pass 1 (not_fstf f) _ a ∙ line-pass 2 (other_revision f) _ b ∙ line-pass 3 (bad_sections f) _ d ∙ line-holds 4 (bad_system f) _ c)

-- Repair of it answers 1, 3 or 4.
pub opening-repair : (r : Recording) (m out : ℕ) → Legal r → m < frames_start r → ((repair (take m (opening r)) out).refused ≡ 1) ⊎ ((repair (take m (opening r)) out).refused ≡ 3) ⊎ ((repair (take m (opening r)) out).refused ≡ 4)
unfolding repair repair_answer repair_refusal repair_lines front_lines not_fstf
opening-repair r m out l h = go (le-or-lt (header_length + 1) m)
  where
    f : List ℕ
    f = take m (opening r)

    size : length f ≡ m
    size = length-take-le m (opening r) (omega (arith, length-opening r))

    answers : (n : ℕ) → repair_refusal f out ≡ suc n → (repair f out).refused ≡ suc n
    answers n e = rw e

    later : (repair_refusal f out ≡ 3) ⊎ (repair_refusal f out ≡ 4) → ((repair f out).refused ≡ 1) ⊎ ((repair f out).refused ≡ 3) ⊎ ((repair f out).refused ≡ 4)
    later (inl e) = inr (inl (answers 2 e))
    later (inr e) = inr (inr (answers 3 e))

    go : (header_length + 1 ≤ m) ⊎ (m < header_length + 1) → ((repair f out).refused ≡ 1) ⊎ ((repair f out).refused ≡ 3) ⊎ ((repair f out).refused ≡ 4)
    go (inl n) =
        let g = opening-header r m l (omega arith) in
        later (front-three-four f _ (not-fstf f (omega (arith, size)) g.mark) (first-revision f g.version) (opening-system r m l (omega arith) h))
    go (inr n) = inl (answers 0 (line-holds 1 (not_fstf f) _ (ap (λ (b : Bool). b || not (same (take 4 f) file_mark)) (lt-ltb (length f) (header_length + 1) (omega (arith, size))))))

-- an empty file
pub empty-repair : (out : ℕ) → (repair [] out).refused ≡ 1
unfolding repair repair_answer repair_refusal repair_lines front_lines not_fstf first_of
empty-repair out = refl

-- ── What repair accepts ──

-- a file that opens is whole
opens-sixteen : (f : List ℕ) (out : ℕ) → refusal f ≡ 0 → (repair f out).refused ≡ 16
unfolding repair repair_answer repair_refusal repair_lines
opens-sixteen f out o =
    let p : repair_refusal f out ≡ 16 = front-pass f _ (opens-passes f o).front ∙ line-holds 16 (eqb (refusal f) 0) _ (eq-eqb (refusal f) 0 o) in
    rw p

-- a file that does not, whose front passes and of which a legal recording is kept, is repaired
repair-accepts : (f : List ℕ) (out : ℕ) → FrontPasses f → FrontGiven f → Walked most_frames (length (defined_in f)) (drop (walk_start f) f) (walked f) → Legal (kept_of f) → eqb (refusal f) 0 ≡ false → length (tail f) ≤ out → repair f out ≡ repairing f
unfolding repair repairing repair_answer repair_refusal repair_lines first_of too_long kept_of
repair-accepts f out p g w k o room =
    let ordered : not (in_order (walked f).frames) ≡ false = ap not k.frames_ordered in
    let short : ltb (2 ^ 40) (kept_length f + index_length (kept_count f) + largest_table) ≡ false = le-ltb (2 ^ 40) (kept_length f + index_length (kept_count f) + largest_table) (omega (arith, k.user_offset_fits, kept-user f g w.size)) in
    let z : repair_refusal f out ≡ 0 = front-pass f _ p ∙ rw (o, ordered, short, le-ltb out (length (tail f)) room) in
    rw z

-- ── A cut behind the opening piece ──

-- the recording of the first n frames
unfoldable pub first_frames : ℕ → Recording → Recording
first_frames n r = record { sections = r.sections; system = r.system; frames = take n r.frames; user = [] }

-- all of them: the recording itself
all-frames : (r : Recording) (n : ℕ) → r.user ≡ [] → length r.frames ≤ n → r ≡ first_frames n r
unfolding first_frames
all-frames r n e h = rw (take_all n r.frames h, ← e)

-- the file is already whole and repair says 16, or, given room, repair gives the whole one
abbrev pub Recovers : (f whole : List ℕ) → Type 0
Recovers f whole = ((f ≡ whole) × ((out : ℕ) → (repair f out).refused ≡ 16)) ⊎ ((out : ℕ) → length (tail f) ≤ out → ((repair f out).refused ≡ 0) × (repaired f (repair f out) ≡ whole))

module _ (r : Recording) (m : ℕ) (f : List ℕ) (s : CutShape r m f) (l : Legal r) where
  -- the front is read back
  cut-front : FrontRead s.count s.index s.user r.sections r.system (take (m - frames_start r) (behind r)) f
  cut-front = rw s.shape (front_read s.count s.index s.user r.sections r.system (take (m - frames_start r) (behind r)) s.count_fits s.index_fits s.user_fits (legal-sections r l) l.system_legal (system-fits r l))

  cut-given : FrontGiven f
  unfolding value_or
  cut-given =
      let g = cut-front in
      record {
        sections = rw g.sections (legal-sections r l);
        table = rw g.system l.system_legal;
        defined = rw g.sections g.defined;
        start = rw (g.sections, g.system) g.start;
        bytes = rw (g.count, g.index, g.user, g.sections, g.system, g.behind) s.shape;
      }

  -- the walk takes the complete frames
  cut-walk : (walked f ≡ took (take (complete (m - frames_start r) r.frames) r.frames)) × Walked most_frames (length (defined_in f)) (drop (walk_start f) f) (took (take (complete (m - frames_start r) r.frames) r.frames))
  unfolding walked walk_of behind
  cut-walk =
      let g = cut-front in
      rw (g.defined, g.behind) (walk-cut most_frames (length r.sections) (m - frames_start r) r.frames (index_bytes (frames_start r) r.frames ++ table_bytes []) l.frames_few l.frames_legal (index-none (length r.sections) (frames_start r) r.frames (table_bytes []) l.frames_few))

  -- what repair keeps is the recording of those
  cut-kept : kept_of f ≡ first_frames (complete (m - frames_start r) r.frames) r
  unfolding kept_of first_frames took value_or
  cut-kept = rw (cut-front.sections, cut-front.system, cut-walk.0)

  -- once everything but the index offset is there, opening counts all frames
  cut-counted : body_length r + 12 < m → counted f ≡ took r.frames
  unfolding counted walk_of body_length behind
  cut-counted h =
      let g = cut-front in
      let all : length (behind r) ≤ m - frames_start r = omega arith in
      rw (g.count, (s.late h).0, g.defined, g.behind, take_all (m - frames_start r) (behind r) all) (walk-exactly r.frames (length r.sections) (index_bytes (frames_start r) r.frames ++ table_bytes []) l.frames_legal)

  -- A cut file that opens has the index offset whole, and so all of the file.
  pub cut-opens : r.user ≡ [] → refusal f ≡ 0 → (body_length r + 12 < m) × (f ≡ encode r)
  unfolding took
  cut-opens e o = go (le-or-lt m (body_length r + 12))
    where
      go : (m ≤ body_length r + 12) ⊎ (body_length r + 12 < m) → (body_length r + 12 < m) × (f ≡ encode r)
      go (inl h) = absurd (omega (arith, opens-index f o, cut-front.index, s.early h))
      go (inr h) =
          let end : frames_start r + (took r.frames).bytes ≡ index_offset f = rw (cut-front.start ∙ sym (frames-start r), cut-counted h) at (index-given f (opens-passes f o).index).end in
          (h, shape-whole r m f s e h (omega (arith, end, cut-front.index, frames-end r)))

  -- Then it is the file of the complete frames, and repair says 16.
  cut-whole : r.user ≡ [] → refusal f ≡ 0 → (f ≡ encode (first_frames (complete (m - frames_start r) r.frames) r)) × ((out : ℕ) → (repair f out).refused ≡ 16)
  unfolding body_length
  cut-whole e o =
      let w = cut-opens e o in
      let t : take (length r.frames) r.frames ≡ r.frames = take_all (length r.frames) r.frames (omega arith) in
      let n : length r.frames ≤ complete (m - frames_start r) r.frames = complete-most (m - frames_start r) (length r.frames) r.frames (omega arith) (rw t (omega (arith, w.0, length-behind r))) in
      (w.1 ∙ ap encode (all-frames r (complete (m - frames_start r) r.frames) e n), λ out. opens-sixteen f out o)

  -- Repair of one that does not gives, byte for byte, the file of the complete frames.
  cut-repaired : Legal (kept_of f) → eqb (refusal f) 0 ≡ false → (out : ℕ) → length (tail f) ≤ out → ((repair f out).refused ≡ 0) × (repaired f (repair f out) ≡ encode (kept_of f))
  unfolding repairing
  cut-repaired k o out room =
      let w : Walked most_frames (length (defined_in f)) (drop (walk_start f) f) (walked f) = rw cut-walk.0 cut-walk.1 in
      rw (repair-accepts f out cut-front.passes cut-given w k o room) (refl, repaired-bytes f cut-given w)

  -- What repair makes of a cut file.
  pub cut-repairs : r.user ≡ [] → Legal (first_frames (complete (m - frames_start r) r.frames) r) → Recovers f (encode (first_frames (complete (m - frames_start r) r.frames) r))
  cut-repairs e k = go (decided (eqb (refusal f) 0))
    where
      go : (eqb (refusal f) 0 ≡ true) ⊎ (eqb (refusal f) 0 ≡ false) → Recovers f (encode (first_frames (complete (m - frames_start r) r.frames) r))
      go (inl o) = inl (cut-whole e (eqb-true (refusal f) 0 o))
      go (inr o) = inr (rw cut-kept at (cut-repaired (subst Legal (sym cut-kept) k) o))
