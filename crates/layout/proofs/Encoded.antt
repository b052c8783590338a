-- The bytes of a recording: where their parts stand, and what opening reads of them.
-- Assumes nothing.
use Prim.Native.Nat.{ℕ, zero, suc, ◌+◌, ◌*◌, ◌-◌, ◌≤◌}
use native.Mathlib.Omega.{arith}
use mathlib.Core.Path.{◌≡◌, refl, ap, sym, ◌∙◌}
use mathlib.Core.Bool.{true, false, not, ◌||◌}
use mathlib.Core.List.{List, [], ◌∷◌, ◌++◌, flat_map, append_assoc}
use lib.ListN.{length, take, drop, length-append, length-drop, take-append-drop}
use lib.Seq.{take_at, drop_at, drop-drop, drop-append_seam, length-take-le}
use lib.Dec.{ltb, eqb}
use lib.Pow.{are_bytes}
use borrow.Author.Tests.{ltb-false, eqb-true, eqb-false, not-false, le-ltb, eq-eqb, ne_eqb}
use Rattle.number.proofs.Bytes.{length-bytes_of}
use Rattle.layout.specs.Recording.{Frame, Recording, Legal, most_frames, largest_user_offset, table_bytes, front_bytes, frame_bytes, entry_bytes, entries_bytes, index_bytes, index_length, frames_start, frames_end, user_start, encode, same, legal_table, in_order}
use Rattle.layout.specs.Reading.{good, table, value_or, taken}
use Rattle.layout.specs.Opening.{header_count, index_offset, user_offset, defined_in, read_user, walk_start, walk_of, counted, not_closed, bad_index, bad_user, shown}
use Rattle.layout.proofs.Lists.{or-false, not-or, same_refl, same_true, bytes_drop}
use Rattle.layout.proofs.Exact.{table-exact, exactly-gives, exactly-takes}
use Rattle.layout.proofs.Walks.{took, walk-exactly, Walked, walk-gives}
use Rattle.layout.proofs.Lines.{Passes}
use Rattle.layout.proofs.Fronts.{system_at, length_front, LegalSections, FrontRead, front_read, sections_in, system_in, front-given, read-good, table-some}

-- ── Lengths and places ──

pub length-entries : (first at : ℕ) (fs : List Frame) → length (entries_bytes first at fs) ≡ 16 * length fs
unfolding entries_bytes entry_bytes
length-entries first at [] = refl
length-entries first at (f ∷ fs) = simp (length-append, length-bytes_of) (omega (arith, length-entries first (at + length (frame_bytes f)) fs))

pub length-index : (at : ℕ) (fs : List Frame) → length (index_bytes at fs) ≡ index_length (length fs)
unfolding index_bytes
length-index at fs = simp (length-append, length-bytes_of, length-entries)

pub frames-start : (r : Recording) → frames_start r ≡ system_at r.sections + length (table_bytes r.system)
unfolding frames_start
frames-start r = length_front 0 0 0 r.sections (table_bytes r.system)

-- where the frames end, and where the user table starts
pub frames-end : (r : Recording) → frames_end r ≡ frames_start r + length (flat_map frame_bytes r.frames)
unfolding frames_end
frames-end r = refl

pub user-start : (r : Recording) → user_start r ≡ frames_end r + index_length (length r.frames)
unfolding user_start
user-start r = refl

-- the front of a recording's file, and all that follows it
unfoldable pub front_of : Recording → List ℕ
front_of r = front_bytes (length r.frames) (frames_end r) (user_start r) r.sections (table_bytes r.system)

pub length-front_of : (r : Recording) → length (front_of r) ≡ frames_start r
unfolding front_of
length-front_of r = length_front _ _ _ r.sections (table_bytes r.system) ∙ sym (frames-start r)

abbrev pub behind_frames : Recording → List ℕ
behind_frames r = index_bytes (frames_start r) r.frames ++ table_bytes r.user

pub encode-parts : (r : Recording) → encode r ≡ front_of r ++ (flat_map frame_bytes r.frames ++ behind_frames r)
unfolding encode front_of
encode-parts r = simp append_assoc

-- what stands from each place on
pub drop-frames : (r : Recording) → drop (frames_start r) (encode r) ≡ flat_map frame_bytes r.frames ++ behind_frames r
drop-frames r = rw (encode-parts r) (drop_at (front_of r) _ (frames_start r) (length-front_of r))

pub drop-index : (r : Recording) → drop (frames_end r) (encode r) ≡ behind_frames r
drop-index r = rw (frames-end r, ← drop-drop (length (flat_map frame_bytes r.frames)) (frames_start r) (encode r), drop-frames r, drop-append_seam)

pub drop-user : (r : Recording) → drop (user_start r) (encode r) ≡ table_bytes r.user
drop-user r = rw (user-start r, ← drop-drop (index_length (length r.frames)) (frames_end r) (encode r), drop-index r) (drop_at (index_bytes (frames_start r) r.frames) _ _ (length-index (frames_start r) r.frames))

pub length-encode : (r : Recording) → length (encode r) ≡ user_start r + length (table_bytes r.user)
length-encode r = rw (encode-parts r) (simp (length-append, length-front_of, length-index) (omega (arith, frames-end r, user-start r)))

-- ── The lines behind the front ──

-- line 5, in numbers
pub record Closed (f : List ℕ) : Type 0 where
  pub index_some : 1 ≤ index_offset f
  pub user_some : 1 ≤ user_offset f
  pub index_within : index_offset f ≤ length f
  pub user_within : user_offset f ≤ length f
  pub user_fits : user_offset f ≤ largest_user_offset

pub closed-pass : (f : List ℕ) → Closed f → not_closed f ≡ false
unfolding not_closed
closed-pass f c =
    not-or _ _ (not-or _ _ (not-or _ _ (not-or _ _
    (ne_eqb (index_offset f) 0 (λ e. omega (arith, c.index_some)))
    (ne_eqb (user_offset f) 0 (λ e. omega (arith, c.user_some))))
    (le-ltb (length f) (index_offset f) c.index_within))
    (le-ltb (length f) (user_offset f) c.user_within))
    (le-ltb largest_user_offset (user_offset f) c.user_fits)

not-zero : (n : ℕ) → eqb n 0 ≡ false → 1 ≤ n
not-zero zero e = absurd (eqb-false 0 0 e refl)
not-zero (suc n) e = omega arith

pub closed-given : (f : List ℕ) → not_closed f ≡ false → Closed f
unfolding not_closed
closed-given f h =
    let a = eqb (index_offset f) 0 in
    let b = eqb (user_offset f) 0 in
    let c = ltb (length f) (index_offset f) in
    let d = ltb (length f) (user_offset f) in
    let p = or-false (a || b || c || d) (ltb largest_user_offset (user_offset f)) h in
    let q = or-false (a || b || c) d p.0 in
    let s = or-false (a || b) c q.0 in
    let t = or-false a b s.0 in
    record {
      index_some = not-zero (index_offset f) t.0;
      user_some = not-zero (user_offset f) t.1;
      index_within = ltb-false _ _ s.1;
      user_within = ltb-false _ _ q.1;
      user_fits = ltb-false _ _ p.1;
    }

-- line 6, in numbers
pub record Indexed (f : List ℕ) : Type 0 where
  pub few : header_count f ≤ most_frames
  pub all : header_count f ≤ length (counted f).frames
  pub end : walk_start f + (counted f).bytes ≡ index_offset f
  pub ordered : in_order (counted f).frames ≡ true
  pub index : take (user_offset f - index_offset f) (drop (index_offset f) f) ≡ index_bytes (walk_start f) (counted f).frames

pub index-pass : (f : List ℕ) → Indexed f → bad_index f ≡ false
unfolding bad_index
index-pass f x =
    not-or _ _ (not-or _ _ (not-or _ _ (not-or _ _
    (le-ltb most_frames (header_count f) x.few)
    (le-ltb (length (counted f).frames) (header_count f) x.all))
    (ap not (eq-eqb (walk_start f + (counted f).bytes) (index_offset f) x.end)))
    (ap not x.ordered))
    (rw x.index (ap not (same_refl _)))

pub index-given : (f : List ℕ) → bad_index f ≡ false → Indexed f
unfolding bad_index
index-given f h =
    let a = ltb most_frames (header_count f) in
    let b = ltb (length (counted f).frames) (header_count f) in
    let c = eqb (walk_start f + (counted f).bytes) (index_offset f) in
    let d = in_order (counted f).frames in
    let e = same (take (user_offset f - index_offset f) (drop (index_offset f) f)) (index_bytes (walk_start f) (counted f).frames) in
    let p = or-false (a || b || not c || not d) (not e) h in
    let q = or-false (a || b || not c) (not d) p.0 in
    let s = or-false (a || b) (not c) q.0 in
    let t = or-false a b s.0 in
    record {
      few = ltb-false _ _ t.0;
      all = ltb-false _ _ t.1;
      end = eqb-true _ _ (not-false c s.1);
      ordered = not-false d q.1;
      index = same_true _ _ (not-false e p.1);
    }

-- ── What opening reads of a legal recording's bytes ──

pub legal-sections : (r : Recording) → Legal r → LegalSections r.sections
legal-sections r l = record { some = l.at_least_one_section; few = l.at_most_eight_sections; legal = l.sections_legal; differ = l.sections_differ }

pub legal-front : (r : Recording) → Legal r → FrontRead (length r.frames) (frames_end r) (user_start r) r.sections r.system (flat_map frame_bytes r.frames ++ behind_frames r) (encode r)
unfolding front_of
legal-front r l =
    let a = frames-start r in
    let b = frames-end r in
    let c = user-start r in
    rw (encode-parts r) (front_read (length r.frames) (frames_end r) (user_start r) r.sections r.system (flat_map frame_bytes r.frames ++ behind_frames r) (omega (arith, l.frames_few)) (omega (arith, l.user_offset_fits)) (omega (arith, l.user_offset_fits)) (legal-sections r l) l.system_legal (omega (arith, l.user_offset_fits)))

-- the frames that are counted are the recording's
pub legal-counted : (r : Recording) → Legal r → counted (encode r) ≡ took r.frames
unfolding counted walk_of
legal-counted r l =
    let f = legal-front r l in
    rw (f.count, f.defined, f.behind) (walk-exactly r.frames (length r.sections) (behind_frames r) l.frames_legal)

pub legal-user : (r : Recording) → Legal r → read_user (encode r) ≡ good r.user (length (table_bytes r.user))
unfolding read_user
legal-user r l = rw ((legal-front r l).user, drop-user r) (exactly-takes legal_table table_bytes table table-exact r.user l.user_legal)

legal-closed : (r : Recording) → Legal r → Closed (encode r)
legal-closed r l =
    let f = legal-front r l in
    let a = frames-end r in
    let b = user-start r in
    let c = length-encode r in
    record {
      index_some = rw f.index (omega (arith, frames-start r, table-some r.system));
      user_some = rw f.user (omega arith);
      index_within = rw f.index (omega arith);
      user_within = rw f.user (omega arith);
      user_fits = rw f.user l.user_offset_fits;
    }

legal-index : (r : Recording) → Legal r → Indexed (encode r)
unfolding took
legal-index r l =
    let f = legal-front r l in
    let a = legal-counted r l in
    let s : walk_start (encode r) ≡ frames_start r = f.start ∙ sym (frames-start r) in
    record {
      few = rw f.count l.frames_few;
      all = rw (f.count, a) (omega arith);
      end = rw (s, a, f.index) (sym (frames-end r));
      ordered = rw a l.frames_ordered;
      index = rw (s, a, f.index, f.user, drop-index r) (take_at (index_bytes (frames_start r) r.frames) (table_bytes r.user) (user_start r - frames_end r) (omega (arith, length-index (frames_start r) r.frames, user-start r)));
    }

-- no line of opening holds
pub legal-passes : (r : Recording) → Legal r → Passes (encode r)
unfolding bad_user
legal-passes r l = record { front = (legal-front r l).passes; closed = closed-pass (encode r) (legal-closed r l); index = index-pass (encode r) (legal-index r l); user = rw (legal-user r l) }

-- ── What a file is that opens ──

-- the frames that opening goes by
pub counted-walked : (f : List ℕ) → are_bytes f ≡ true → Walked (header_count f) (length (defined_in f)) (drop (walk_start f) f) (counted f)
unfolding counted walk_of
counted-walked f h = walk-gives (header_count f) (length (defined_in f)) (drop (walk_start f) f) (bytes_drop (walk_start f) f h)

-- the user table that it reads
pub user-given : (f : List ℕ) → are_bytes f ≡ true → bad_user f ≡ false → (legal_table (value_or [] (read_user f)) ≡ true) × (drop (user_offset f) f ≡ table_bytes (value_or [] (read_user f)))
unfolding bad_user read_user
user-given f h b = exactly-gives legal_table table_bytes table table-exact (drop (user_offset f) f) (value_or [] (read_user f)) (taken (read_user f)) (bytes_drop (user_offset f) f h) (read-good [] (read_user f) b)

-- the places in a file that opens are those of the recording it shows
pub record Placed (f : List ℕ) : Type 0 where
  pub count : header_count f ≡ length (shown f).frames
  pub start : walk_start f ≡ frames_start (shown f)
  pub index : index_offset f ≡ frames_end (shown f)
  pub user : user_offset f ≡ user_start (shown f)

pub opens-placed : (f : List ℕ) → are_bytes f ≡ true → Passes f → Placed f
unfolding shown
opens-placed f h p =
    let g = front-given f h p.front in
    let w = counted-walked f h in
    let c = closed-given f p.closed in
    let x = index-given f p.index in
    let n : length (take (user_offset f - index_offset f) (drop (index_offset f) f)) ≡ user_offset f - index_offset f = length-take-le (user_offset f - index_offset f) (drop (index_offset f) f) (simp length-drop (omega arith)) in
    let a : walk_start f ≡ frames_start (shown f) = g.start ∙ sym (frames-start (shown f)) in
    let b : index_offset f ≡ frames_end (shown f) = omega (arith, frames-end (shown f), w.size, x.end, a) in
    record {
      count = omega (arith, w.few, x.all);
      start = a;
      index = b;
      user = omega (arith, user-start (shown f), b, n, ap length x.index, length-index (walk_start f) (counted f).frames);
    }

pub opens-bytes : (f : List ℕ) → are_bytes f ≡ true → Passes f → encode (shown f) ≡ f
unfolding shown front_of
opens-bytes f h p =
    let g = front-given f h p.front in
    let w = counted-walked f h in
    let x = index-given f p.index in
    let q = opens-placed f h p in
    let i : ℕ = index_offset f in
    let k : ℕ = user_offset f - index_offset f in
    let e : i + k ≡ user_offset f = omega (arith, q.index, q.user, user-start (shown f)) in
    let t : drop k (drop i f) ≡ table_bytes (value_or [] (read_user f)) = drop-drop k i f ∙ ap (λ (n : ℕ). drop n f) e ∙ (user-given f h p.user).1 in
    let b : drop i f ≡ index_bytes (walk_start f) (counted f).frames ++ table_bytes (value_or [] (read_user f)) = sym (take-append-drop k (drop i f)) ∙ rw (x.index, t) in
    let c : drop (walk_start f) f ≡ flat_map frame_bytes (counted f).frames ++ drop i f = w.front ∙ ap (λ (s : List ℕ). flat_map frame_bytes (counted f).frames ++ s) (drop-drop (counted f).bytes (walk_start f) f ∙ ap (λ (n : ℕ). drop n f) x.end) in
    let d : drop (walk_start f) f ≡ flat_map frame_bytes (shown f).frames ++ behind_frames (shown f) = c ∙ ap (λ (s : List ℕ). flat_map frame_bytes (counted f).frames ++ s) (b ∙ rw q.start) in
    let a : front_of (shown f) ≡ front_bytes (header_count f) (index_offset f) (user_offset f) (sections_in f) (table_bytes (system_in f)) = rw (q.count, q.index, q.user) in
    encode-parts (shown f) ∙ rw (a, ← d) (sym g.bytes)

pub opens-is-legal : (f : List ℕ) → are_bytes f ≡ true → Passes f → Legal (shown f)
unfolding shown
opens-is-legal f h p =
    let g = front-given f h p.front in
    let w = counted-walked f h in
    let x = index-given f p.index in
    let q = opens-placed f h p in
    record {
      at_least_one_section = g.sections.some;
      at_most_eight_sections = g.sections.few;
      sections_legal = g.sections.legal;
      sections_differ = g.sections.differ;
      system_legal = g.table;
      frames_few = omega (arith, w.few, x.few);
      frames_legal = rw g.defined at w.legal;
      frames_ordered = x.ordered;
      user_legal = (user-given f h p.user).0;
      user_offset_fits = rw q.user at (closed-given f p.closed).user_fits;
    }
