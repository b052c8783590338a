-- The frames that are left and the entries that are left, one step of the loop at a time; and the index as a whole.
-- Assumes nothing.
use Prim.Native.Nat.{ℕ, zero, suc, ◌+◌, ◌*◌, ◌-◌, ◌^◌, ◌<◌, ◌≤◌}
use native.Mathlib.Omega.{arith}
use mathlib.Core.Path.{◌≡◌, refl, ap, sym, ◌∙◌}
use mathlib.Core.Bool.{Bool, true, false, not, ◌&&◌, ◌||◌, cond}
use mathlib.Core.List.{List, ◌∷◌, ◌++◌}
use lib.ListN.{length, take, drop, get_or, length-append, length-drop}
use lib.Seq.{drop-drop, take-add, take_all, length-take-le}
use lib.Dec.{ltb, eqb, leb-suc-suc}
use lib.Pow.{are_bytes}
use borrow.Author.Rules.{rules}
use borrow.Author.Tests.{ltb-false, lt-ltb, le-ltb, eq-eqb, ne_eqb, eqb-true, not-true, not-false}
use mir.Syntax.{w8, w64}
use mir.Val.{Fits}
use Rattle.number.specs.Number.{bytes_of, read_at}
use Rattle.number.proofs.Bytes.{length-bytes_of, slice-bytes, both_true}
use Rattle.number.proofs.Laws.{read_is}
use Rattle.layout.specs.Recording.{Frame, frame_bytes, entry_bytes, entries_bytes, index_bytes, first_time, follows, follow, in_order, same}
use Rattle.layout.specs.Reading.{good, frame, Walk, stopped, longer, walk}
use Rattle.layout.proofs.Lists.{bytes_drop, bytes_take, same_true}
use Rattle.parts.proofs.Same.{same-append, same_number}
use Rattle.frames.proofs.Laws.{frame-parts, ended, not-ended, end-behind, time-fits, end-near}
use Rattle.frames.specs.Frames.{frame_end}
use Rattle.times.specs.Times.{since_first}
use Rattle.opening.specs.Opened.{other_entry, noted_length, noted_by, noted_frame, other_walk, other_frames, bad_index_in, bad_index_by}
use Rattle.header.specs.declared.Header.{Header}
use Rattle.std.specs.Prelude.{Option, Some, None}
use Rattle.layout.proofs.Walks.{walk_none, walk-stop, walk-gives}
use Rattle.layout.proofs.Exact.{frame-exact}
use Rattle.layout.proofs.Sizes.{length-entry}
use Rattle.frames.proofs.Walks.{walk-cons, length-index, walk_first, by_first}
use Rattle.times.proofs.Laws.{since-fits}

-- ── An entry ──

-- sixteen bytes are an entry's exactly when its three numbers are read there
entry-numbers : (s : List ℕ) (since offset size : ℕ) → are_bytes s ≡ true → length s ≡ 16 → since < 2 ^ 32 → offset < 2 ^ 64 → size < 2 ^ 32
    → same s (bytes_of 4 since ++ bytes_of 8 offset ++ bytes_of 4 size) ≡
    (eqb (read_at s 0 4) since && eqb (read_at s 4 8) offset && eqb (read_at s 12 4) size)
entry-numbers s since offset size b h p q r =
    let l₄ : length (drop 4 s) ≡ length s - 4 = length-drop 4 s in
    let l₁₂ : length (drop 12 s) ≡ length s - 12 = length-drop 12 s in
    let t₄ : length (take 4 s) ≡ 4 = length-take-le 4 s (omega arith) in
    let t₈ : length (take 8 (drop 4 s)) ≡ 8 = length-take-le 8 (drop 4 s) (omega arith) in
    ap (λ (t : List ℕ). same t (bytes_of 4 since ++ bytes_of 8 offset ++ bytes_of 4 size)) split
    ∙ rw (
      same-append (take 4 s ++ take 8 (drop 4 s)) (take 4 (drop 12 s)) (bytes_of 4 since ++ bytes_of 8 offset) (bytes_of 4 size)
          (omega (
            arith,
            length-append (take 4 s) (take 8 (drop 4 s)),
            length-append (bytes_of 4 since) (bytes_of 8 offset),
            length-bytes_of 4 since,
            length-bytes_of 8 offset,
          )),
      same-append (take 4 s) (take 8 (drop 4 s)) (bytes_of 4 since) (bytes_of 8 offset)
          (omega (arith, length-bytes_of 4 since)),
      same_number 4 s since b (omega arith) p,
      same_number 8 (drop 4 s) offset (bytes_drop 4 s b) (omega arith) q,
      same_number 4 (drop 12 s) size (bytes_drop 12 s b) (omega arith) r,
      read_is s 0 4 (omega arith) (omega arith),
      read_is s 4 8 (omega arith) (omega arith),
      read_is s 12 4 (omega arith) (omega arith),
    )
  where
    split : s ≡ take 4 s ++ take 8 (drop 4 s) ++ take 4 (drop 12 s)
    split = sym (take_all 16 s (omega arith)) ∙ take-add 12 4 s ∙ ap (λ (t : List ℕ). t ++ take 4 (drop 12 s)) (take-add 4 8 s)

-- the part from an entry to the next
abbrev entry_part : List ℕ → (entry : ℕ) → List ℕ
entry_part f entry = take (entry + 16 - entry) (drop entry f)

entry-asked : (f : List ℕ) (entry since offset size : ℕ) → ((i : ℕ) → Fits w8 (get_or f i 0)) → entry + 16 ≤ length f → since < 2 ^ 32
    → Fits w64 offset → size < 2 ^ 32 → other_entry f entry since offset size ≡ not
    (eqb (read_at (entry_part f entry) 0 4) since && eqb (read_at (entry_part f entry) 4 8) offset && eqb (read_at (entry_part f entry) 12 4) size)
unfolding other_entry
entry-asked f entry since offset size b h p q r =
    let e : entry + 16 - entry ≡ 16 = omega arith in
    let l : length (take 16 (drop entry f)) ≡ 16 = length-take-le 16 (drop entry f) (omega (arith, length-drop entry f)) in
    rw e (ap not (entry-numbers (take 16 (drop entry f)) since offset size
    (bytes_take 16 (drop entry f) (bytes_drop entry f (slice-bytes f b))) l p q.fits r))

pub other-since : (f : List ℕ) (entry since offset size a : ℕ) → ((i : ℕ) → Fits w8 (get_or f i 0)) → entry + 16 ≤ length f → since < 2 ^ 32
    → Fits w64 offset → size < 2 ^ 32 → a ≡ read_at (entry_part f entry) 0 4 → (a ≡ since → ⊥) → true ≡ other_entry f entry since offset size
other-since f entry since offset size a b h p q r e u =
    rw (entry-asked f entry since offset size b h p q r, ne_eqb (read_at (entry_part f entry) 0 4) since (λ g. u (e ∙ g)))

pub other_offset : (f : List ℕ) (entry since offset size a c : ℕ) → ((i : ℕ) → Fits w8 (get_or f i 0)) → entry + 16 ≤ length f → since < 2 ^ 32
    → Fits w64 offset → size < 2 ^ 32 → a ≡ read_at (entry_part f entry) 0 4 → a ≡ since → c ≡ read_at (entry_part f entry) 4 8 → (c ≡ offset → ⊥)
    → true ≡ other_entry f entry since offset size
other_offset f entry since offset size a c b h p q r e g i u =
    rw (
      entry-asked f entry since offset size b h p q r,
      eq-eqb (read_at (entry_part f entry) 0 4) since (sym e ∙ g),
      ne_eqb (read_at (entry_part f entry) 4 8) offset (λ k. u (i ∙ k)),
    )

pub other-size : (f : List ℕ) (entry since offset size a c d : ℕ) → ((i : ℕ) → Fits w8 (get_or f i 0)) → entry + 16 ≤ length f → since < 2 ^ 32
    → Fits w64 offset → size < 2 ^ 32 → a ≡ read_at (entry_part f entry) 0 4 → a ≡ since → c ≡ read_at (entry_part f entry) 4 8 → c ≡ offset
    → d ≡ read_at (entry_part f entry) 12 4 → not (eqb d size) ≡ other_entry f entry since offset size
other-size f entry since offset size a c d b h p q r e g i j k =
    rw (
      entry-asked f entry since offset size b h p q r,
      eq-eqb (read_at (entry_part f entry) 0 4) since (sym e ∙ g),
      eq-eqb (read_at (entry_part f entry) 4 8) offset (sym i ∙ j),
      k,
    )

-- ── The frames that are left ──

third-holds : (a b d : Bool) → (a || b || true || d) ≡ true
third-holds true b d = refl
third-holds false true d = refl
third-holds false false d = refl

fourth-holds : (a b c : Bool) → (a || b || c || true) ≡ true
fourth-holds true b c = refl
fourth-holds false true c = refl
fourth-holds false false true = refl
fourth-holds false false false = refl

not-both : (a b : Bool) → not (a && b) ≡ (not a || not b)
not-both true b = refl
not-both false b = refl

-- the entries of a frame and of those behind it
entries-cons : (f : List ℕ) (first at entry left : ℕ) (x : Frame) (fs : List Frame) (n : ℕ) → n ≡ length (frame_bytes x) → entry + 16 ≤ length f
    → not (same (take (16 * suc left) (drop entry f)) (entries_bytes first at (x ∷ fs))) ≡
    (other_entry f entry (since_first first x.time) at n || not (same (take (16 * left) (drop (entry + 16) f)) (entries_bytes first (at + n) fs)))
unfolding other_entry since_first entries_bytes entry_bytes
entries-cons f first at entry left x fs n e h =
    let m : 16 * suc left ≡ 16 + 16 * left = omega arith in
    let t : length (take 16 (drop entry f)) ≡ length (entry_bytes first x.time at (length (frame_bytes x))) =
    length-take-le 16 (drop entry f) (omega (arith, length-drop entry f)) ∙ sym (length-entry first x.time at (length (frame_bytes x))) in
    rw (
      e,
      m,
      take-add 16 (16 * left) (drop entry f),
      drop-drop 16 entry f,
      same-append (take 16 (drop entry f)) (take (16 * left) (drop (entry + 16) f)) (entry_bytes first x.time at (length (frame_bytes x)))
          (entries_bytes first (at + length (frame_bytes x)) fs) t,
    )
    (not-both (same (take 16 (drop entry f)) (entry_bytes first x.time at (length (frame_bytes x))))
    (same (take (16 * left) (drop (entry + 16) f)) (entries_bytes first (at + length (frame_bytes x)) fs)))

-- none is left
frames-none : (f : List ℕ) (k index first left at entry last : ℕ) → left ≤ 0 → other_frames f k index first left at entry last ≡ not (eqb at index)
unfolding other_frames other_walk follow stopped entries_bytes same
frames-none f k index first left at entry last z =
    let l : left ≡ 0 = omega arith in
    let a : at + 0 ≡ at = omega arith in
    rw (l, walk_none, a) (go (eqb at index))
  where
    go : (b : Bool) → (not b || false || false) ≡ not b
    go true = refl
    go false = refl

pub frames-done : (f : List ℕ) (k index first left at entry last : ℕ) (all : Bool) → other_frames f k index first left at entry last ≡ all
    → left ≤ 0 → not (eqb at index) ≡ all
frames-done f k index first left at entry last all q z = sym (frames-none f k index first left at entry last z) ∙ q

frames-fewer : (f : List ℕ) (k index first left at entry last : ℕ) → 0 < left → frame_end f at k ≡ None
    → other_frames f k index first left at entry last ≡ true
unfolding other_frames other_walk stopped
frames-fewer f k index first left at entry last h p = rw (walk-stop left k (drop at f) (rw (not-ended f at k p).1), lt-ltb 0 left h)

-- what is asked of a frame from `at` to `next`, and of the walk behind it
abbrev asked : Walk → List ℕ → (index first left at entry last next time size : ℕ) → Bool
asked w f index first left at entry last next time size =
    ltb (length w.frames) left
    || not (eqb (next + w.bytes) index)
    || (not (follows first last time) || not (follow first time w.frames))
    || (other_entry f entry (since_first first time) at size || not
    (same (take (16 * left) (drop (entry + 16) f)) (entries_bytes first next w.frames)))

walk-longer : (w : Walk) (f : List ℕ) (index first left at entry last : ℕ) (x : Frame) (n : ℕ) → 0 < left → entry + 16 ≤ length f
    → n ≡ length (frame_bytes x) → other_walk (longer x n w) f index first left at entry last ≡ asked w f index first (left - 1) at entry last
    (at + n) x.time n
unfolding other_walk longer follow
walk-longer w f index first zero at entry last x n h l e = absurd (omega arith)
walk-longer w f index first (suc left) at entry last x n h l e =
    let p : suc left - 1 ≡ left = omega arith in
    let q : at + (n + w.bytes) ≡ at + n + w.bytes = omega arith in
    rw (
      p,
      q,
      entries-cons f first at entry left x w.frames n e l,
      not-both (follows first last x.time) (follow first x.time w.frames),
    )
    (ap (λ (b : Bool). b || not (eqb (at + n + w.bytes) index)
    || (not (follows first last x.time) || not (follow first x.time w.frames))
    || (other_entry f entry (since_first first x.time) at n
    || not (same (take (16 * left) (drop (entry + 16) f)) (entries_bytes first (at + n) w.frames)))) (less (length w.frames) left))
  where
    less : (a b : ℕ) → ltb (suc a) (suc b) ≡ ltb a b
    less a b = leb-suc-suc (suc a) b

asked-late : (w : Walk) (f : List ℕ) (index first left at entry last next time size : ℕ) → follows first last time ≡ false
    → asked w f index first left at entry last next time size ≡ true
asked-late w f index first left at entry last next time size e =
    rw e
    (third-holds (ltb (length w.frames) left) (not (eqb (next + w.bytes) index))
    (other_entry f entry (since_first first time) at size || not
    (same (take (16 * left) (drop (entry + 16) f)) (entries_bytes first next w.frames))))

asked-other : (w : Walk) (f : List ℕ) (index first left at entry last next time size : ℕ)
    → other_entry f entry (since_first first time) at size ≡ true → asked w f index first left at entry last next time size ≡ true
asked-other w f index first left at entry last next time size e =
    rw e
    (fourth-holds (ltb (length w.frames) left) (not (eqb (next + w.bytes) index))
    (not (follows first last time) || not (follow first time w.frames)))

asked-right : (w : Walk) (f : List ℕ) (index first left at entry last next time size : ℕ) → follows first last time ≡ true
    → other_entry f entry (since_first first time) at size ≡ false
    → asked w f index first left at entry last next time size ≡ other_walk w f index first left next (entry + 16) time
unfolding other_walk
asked-right w f index first left at entry last next time size e g = rw (e, g)

frames-cons : (f : List ℕ) (k index first left at entry last next t : ℕ) → are_bytes f ≡ true → 0 < left → entry + 16 * left ≤ length f
    → frame_end f at k ≡ Some next → t ≡ read_at f (at + 4) 8 → other_frames f k index first left at entry last ≡ asked
    (walk (left - 1) k (drop next f)) f index first (left - 1) at entry last next t (next - at)
unfolding other_frames
frames-cons f k index first left at entry last next t b h l q v = go (ended f at k next q)
  where
    go : ((x : Frame) × (n : ℕ) × (frame k (drop at f) ≡ good x n) × (at + n ≡ next) × (x.time ≡ read_at f (at + 4) 8)
        × (x.exposure ≡ read_at f (at + 12) 4)) → other_frames f k index first left at entry last ≡ asked
        (walk (left - 1) k (drop next f)) f index first (left - 1) at entry last next t (next - at)
    go (x, n, g, a, c, d) =
        let m : next - at ≡ n = omega arith in
        let z : n ≡ length (frame_bytes x) = ((frame-exact k).gives (drop at f) x n (bytes_drop at f b) g).1 in
        rw (m, ← a, v, ← c, walk-cons f k left at x n h g) (walk-longer
        (walk (left - 1) k (drop (at + n) f)) f index first left at entry last x n h (omega arith) z)

-- the last number of an entry that is the frame's is the frame's length
entry_length : (f : List ℕ) (entry since offset size : ℕ) → ((i : ℕ) → Fits w8 (get_or f i 0)) → entry + 16 ≤ length f → since < 2 ^ 32
    → Fits w64 offset → size < 2 ^ 32 → other_entry f entry since offset size ≡ false → noted_length f entry ≡ size
unfolding noted_length
entry_length f entry since offset size b h p q r o =
    let e : entry + 16 - entry ≡ 16 = omega arith in
    eqb-true (read_at (take 16 (drop entry f)) 12 4) size (third (eqb (read_at (take 16 (drop entry f)) 0 4) since)
    (eqb (read_at (take 16 (drop entry f)) 4 8) offset) (eqb (read_at (take 16 (drop entry f)) 12 4) size)
    (sym (rw e at (entry-asked f entry since offset size b h p q r)) ∙ o))
  where
    third : (x y z : Bool) → not (x && y && z) ≡ false → z ≡ true
    third true true true g = refl
    third true true false g = sym g
    third true false z g = let c : ◌≡◌ {A = ℕ} 0 1 = cc in absurd (omega arith)
    third false y z g = let c : ◌≡◌ {A = ℕ} 0 1 = cc in absurd (omega arith)

pub length-noted : (f : List ℕ) (entry m : ℕ) → m ≡ read_at (entry_part f entry) 12 4 → m ≡ noted_length f entry
unfolding noted_length
length-noted f entry m e =
    let q : entry + 16 - entry ≡ 16 = omega arith in
    rw q at e

-- a frame ends within the file
end-in : (f : List ℕ) (at k next : ℕ) → are_bytes f ≡ true → frame_end f at k ≡ Some next → next ≤ length f
end-in f at k next b q =
    let (x, n, g, a, c, d) = ended f at k next q in
    let z = (frame-exact k).gives (drop at f) x n (bytes_drop at f b) g in
    omega (
      arith,
      length-drop at f,
      (frame-parts k (drop at f) x n g).long,
      z.1,
      ap length z.2,
      length-append (frame_bytes x) (drop n (drop at f)),
    )

module _ (f : List ℕ) (k first at entry last : ℕ) where
  pub noted-none : (r : Option ℕ) → r ≡ frame_end f at k → r ≡ None → None ≡ noted_frame f k first at entry last
  unfolding noted_frame noted_by
  noted-none r p q = rw (sym p ∙ q)

  pub noted-late : (next t : ℕ) (r : Option ℕ) (s : Bool) → r ≡ frame_end f at k → r ≡ Some next → t ≡ read_at f (at + 4) 8 → s ≡ follows first last t
      → s ≡ false → None ≡ noted_frame f k first at entry last
  unfolding noted_frame noted_by
  noted-late next t r s p q a u v = rw (sym p ∙ q, ← a, sym u ∙ v)

  pub noted_other : (next t d : ℕ) (r : Option ℕ) (s o : Bool) → r ≡ frame_end f at k → r ≡ Some next → t ≡ read_at f (at + 4) 8
      → s ≡ follows first last t → s ≡ true → d ≡ since_first first t → o ≡ other_entry f entry d at (next - at) → o ≡ true
      → None ≡ noted_frame f k first at entry last
  unfolding noted_frame noted_by
  noted_other next t d r s o p q a u v w x y = rw (sym p ∙ q, ← a, sym u ∙ v, ← w, sym x ∙ y)

  pub noted-this : (next t d : ℕ) (r : Option ℕ) (s o : Bool) → r ≡ frame_end f at k → r ≡ Some next → t ≡ read_at f (at + 4) 8
      → s ≡ follows first last t → s ≡ true → d ≡ since_first first t → o ≡ other_entry f entry d at (next - at) → o ≡ false
      → Some t ≡ noted_frame f k first at entry last
  unfolding noted_frame noted_by
  noted-this next t d r s o p q a u v w x y = rw (sym p ∙ q, ← a, sym u ∙ v, ← w, sym x ∙ y)

  -- a frame that is the one of its entry
  pub record Noting (t : ℕ) : Type 0 where
    pub next : ℕ
    pub ends : frame_end f at k ≡ Some next
    pub time : read_at f (at + 4) 8 ≡ t
    pub in_time : follows first last (read_at f (at + 4) 8) ≡ true
    pub entered : other_entry f entry (since_first first (read_at f (at + 4) 8)) at (next - at) ≡ false

  noting : (t : ℕ) (r : Option ℕ) → r ≡ noted_frame f k first at entry last → r ≡ Some t → Noting t
  unfolding noted_frame noted_by
  noting t r p q = go (frame_end f at k) refl (sym p ∙ q)
    where
      told : (next : ℕ) (x y : Bool) → frame_end f at k ≡ Some next → follows first last (read_at f (at + 4) 8) ≡ x
          → other_entry f entry (since_first first (read_at f (at + 4) 8)) at (next - at) ≡ y
          → cond (not x || y) None (Some (read_at f (at + 4) 8)) ≡ Some t → Noting t
      told next false y g u v c = let z : ◌≡◌ {A = ℕ} 0 1 = cc in absurd (omega arith)
      told next true true g u v c = let z : ◌≡◌ {A = ℕ} 0 1 = cc in absurd (omega arith)
      told next true false g u v c =
          record { next = next; ends = g; time = cc; in_time = u; entered = v }

      go : (e : Option ℕ) → frame_end f at k ≡ e → noted_by e f first at entry last ≡ Some t → Noting t
      go (Some next) g c = told next (follows first last (read_at f (at + 4) 8))
          (other_entry f entry (since_first first (read_at f (at + 4) 8)) at (next - at)) g refl refl c
      go None g c = let z : ◌≡◌ {A = ℕ} 0 1 = cc in absurd (omega arith)

  -- the length in its entry leads on to the next, which is in the file
  leads-on : (t : ℕ) (n : Noting t) → ((i : ℕ) → Fits w8 (get_or f i 0)) → length f < 2 ^ 64 → k ≤ 8 → entry + 16 ≤ length f
      → (at + noted_length f entry ≡ n.next) × (n.next ≤ length f)
  leads-on t n b s z l =
      let i = end-in f at k n.next (slice-bytes f b) n.ends in
      let j = end-behind f at k n.next (Some n.next) (sym n.ends) refl in
      let e = entry_length f entry (since_first first (read_at f (at + 4) 8)) at (n.next - at) b l
      (since-fits first last (read_at f (at + 4) 8) (since_first first (read_at f (at + 4) 8)) true (sym n.in_time) refl refl)
      (record { fits = omega arith }) (end-near f at k n.next (Some n.next) z (sym n.ends) refl) n.entered in
      (omega arith, i)

module _ (f : List ℕ) (k index first left at entry last : ℕ) where
  -- a frame that is there: its time is late, its entry another, or it is the entry's
  frame-late : (next : ℕ) → are_bytes f ≡ true → 0 < left → entry + 16 * left ≤ length f → frame_end f at k ≡ Some next
      → follows first last (read_at f (at + 4) 8) ≡ false → other_frames f k index first left at entry last ≡ true
  frame-late next b h l q u =
      frames-cons f k index first left at entry last next (read_at f (at + 4) 8) b h l q refl
      ∙ asked-late (walk (left - 1) k (drop next f)) f index first (left - 1) at entry last next (read_at f (at + 4) 8) (next - at) u

  frame-other : (next : ℕ) → are_bytes f ≡ true → 0 < left → entry + 16 * left ≤ length f → frame_end f at k ≡ Some next
      → other_entry f entry (since_first first (read_at f (at + 4) 8)) at (next - at) ≡ true → other_frames f k index first left at entry last ≡ true
  frame-other next b h l q u =
      frames-cons f k index first left at entry last next (read_at f (at + 4) 8) b h l q refl
      ∙ asked-other (walk (left - 1) k (drop next f)) f index first (left - 1) at entry last next (read_at f (at + 4) 8) (next - at) u

  frame-this : (next : ℕ) → are_bytes f ≡ true → 0 < left → entry + 16 * left ≤ length f → frame_end f at k ≡ Some next
      → follows first last (read_at f (at + 4) 8) ≡ true → other_entry f entry (since_first first (read_at f (at + 4) 8)) at (next - at) ≡ false
      → other_frames f k index first left at entry last ≡ other_frames f k index first (left - 1) next (entry + 16) (read_at f (at + 4) 8)
  unfolding other_frames
  frame-this next b h l q u v =
      frames-cons f k index first left at entry last next (read_at f (at + 4) 8) b h l q refl
      ∙ asked-right (walk (left - 1) k (drop next f)) f index first (left - 1) at entry last next (read_at f (at + 4) 8) (next - at) u v

  pub frames-other : (r : Option ℕ) (all : Bool) → other_frames f k index first left at entry last ≡ all → r ≡ noted_frame f k first at entry last
      → r ≡ None → ((i : ℕ) → Fits w8 (get_or f i 0)) → 0 < left → entry + 16 * left ≤ length f → true ≡ all
  unfolding noted_frame noted_by
  frames-other r all i p q b h l = sym (go (frame_end f at k) refl (sym p ∙ q)) ∙ i
    where
      told : (next : ℕ) (x y : Bool) → frame_end f at k ≡ Some next → follows first last (read_at f (at + 4) 8) ≡ x
          → other_entry f entry (since_first first (read_at f (at + 4) 8)) at (next - at) ≡ y
          → cond (not x || y) None (Some (read_at f (at + 4) 8)) ≡ None → other_frames f k index first left at entry last ≡ true
      told next false y g u v c = frame-late next (slice-bytes f b) h l g u
      told next true true g u v c = frame-other next (slice-bytes f b) h l g v
      told next true false g u v c = let z : ◌≡◌ {A = ℕ} 0 1 = cc in absurd (omega arith)

      go : (e : Option ℕ) → frame_end f at k ≡ e → noted_by e f first at entry last ≡ None → other_frames f k index first left at entry last ≡ true
      go (Some next) g c = told next (follows first last (read_at f (at + 4) 8))
          (other_entry f entry (since_first first (read_at f (at + 4) 8)) at (next - at)) g refl refl c
      go None g c = frames-fewer f k index first left at entry last h g

  pub frames-step : (next t m : ℕ) (r : Option ℕ) (all : Bool) → other_frames f k index first left at entry last ≡ all
      → r ≡ noted_frame f k first at entry last → r ≡ Some t → m ≡ noted_length f entry → ((i : ℕ) → Fits w8 (get_or f i 0)) → length f < 2 ^ 64
      → k ≤ 8 → left ≡ next + 1 → entry + 16 * left ≤ length f → other_frames f k index first next (at + m) (entry + 16) t ≡ all
  frames-step next t m r all i p q e b s z h l =
      let n = noting f k first at entry last t r p q in
      let g : at + m ≡ n.next = omega (arith, (leads-on f k first at entry last t n b s z (omega arith)).0) in
      let o : next ≡ left - 1 = omega arith in
      rw (g, o) (ap (λ (x : ℕ). other_frames f k index first (left - 1) n.next (entry + 16) x) (sym n.time)
      ∙ sym (frame-this n.next (slice-bytes f b) (omega arith) l n.ends n.in_time n.entered) ∙ i)

-- the place behind a frame that is the one of its entry
pub next_fits : (f : List ℕ) (k first at entry last t m : ℕ) (r : Option ℕ) → r ≡ noted_frame f k first at entry last → r ≡ Some t
    → m ≡ noted_length f entry → ((i : ℕ) → Fits w8 (get_or f i 0)) → length f < 2 ^ 64 → k ≤ 8 → entry + 16 ≤ length f → Fits w64 (at + m)
next_fits f k first at entry last t m r p q e b s z l =
    let (g, i) = leads-on f k first at entry last t (noting f k first at entry last t r p q) b s z l in
    record { fits = omega arith }

-- ── The index as a whole ──

second_holds : (a c d e : Bool) → (a || true || c || d || e) ≡ true
second_holds true c d e = refl
second_holds false c d e = refl

fifth-holds : (a b c d : Bool) → (a || b || c || d || true) ≡ true
fifth-holds true b c d = refl
fifth-holds false true c d = refl
fifth-holds false false true d = refl
fifth-holds false false false true = refl
fifth-holds false false false false = refl

-- an index that can not be there
index-bad : (w : Walk) (f : List ℕ) (h : Header) (start : ℕ) → length w.frames ≤ h.count
    → (length w.frames ≡ h.count → same (take (h.user - h.index) (drop h.index f)) (index_bytes start w.frames) ≡ true → ⊥)
    → true ≡ bad_index_in w f h start
unfolding bad_index_in
index-bad w f h start few never = sym (go (ltb (length w.frames) h.count) refl)
  where
    other : (b : Bool) → same (take (h.user - h.index) (drop h.index f)) (index_bytes start w.frames) ≡ b → length w.frames ≡ h.count
        → (ltb 1000000 h.count || ltb (length w.frames) h.count || not (eqb (start + w.bytes) h.index) || not (in_order w.frames)
        || not b) ≡ true
    other true e c = absurd (never c e)
    other false e c = fifth-holds (ltb 1000000 h.count) (ltb (length w.frames) h.count) (not (eqb (start + w.bytes) h.index))
        (not (in_order w.frames))

    go : (b : Bool) → ltb (length w.frames) h.count ≡ b → bad_index_in w f h start ≡ true
    go true e = rw e (second_holds (ltb 1000000 h.count) (not (eqb (start + w.bytes) h.index)) (not (in_order w.frames))
        (not (same (take (h.user - h.index) (drop h.index f)) (index_bytes start w.frames))))
    go false e = other (same (take (h.user - h.index) (drop h.index f)) (index_bytes start w.frames)) refl
        (omega (arith, ltb-false (length w.frames) h.count e))

walk-few : (f : List ℕ) (k start most : ℕ) → are_bytes f ≡ true → length (walk most k (drop start f)).frames ≤ most
walk-few f k start most b = (walk-gives most k (drop start f) (bytes_drop start f b)).few

pub index-many : (f : List ℕ) (h : Header) (k start : ℕ) → 1000000 < h.count → true ≡ bad_index_by f h k start
unfolding bad_index_by bad_index_in
index-many f h k start l = rw (lt-ltb 1000000 h.count l)

index-unlike : (f : List ℕ) (h : Header) (k start : ℕ) → are_bytes f ≡ true → h.user ≤ length f → (h.user - h.index ≡ 4 + 16 * h.count → ⊥)
    → true ≡ bad_index_by f h k start
unfolding bad_index_by
index-unlike f h k start b l u = index-bad w f h start (walk-few f k start h.count b) never
  where
    w : Walk
    w = walk h.count k (drop start f)

    never : length w.frames ≡ h.count → same (take (h.user - h.index) (drop h.index f)) (index_bytes start w.frames) ≡ true → ⊥
    never c e =
        let q : take (h.user - h.index) (drop h.index f) ≡ index_bytes start w.frames =
        same_true (take (h.user - h.index) (drop h.index f)) (index_bytes start w.frames) e in
        u (omega (
          arith,
          length-take-le (h.user - h.index) (drop h.index f) (omega (arith, length-drop h.index f)),
          ap length q,
          length-index start w.frames,
        ))

pub index-behind : (f : List ℕ) (h : Header) (k start : ℕ) → ((i : ℕ) → Fits w8 (get_or f i 0)) → h.user ≤ length f → h.user < h.index
    → true ≡ bad_index_by f h k start
index-behind f h k start b l u = index-unlike f h k start (slice-bytes f b) l (λ e. omega arith)

pub index-long : (f : List ℕ) (h : Header) (k start : ℕ) → ((i : ℕ) → Fits w8 (get_or f i 0)) → h.user ≤ length f
    → (h.user - h.index ≡ 4 + 16 * h.count → ⊥) → true ≡ bad_index_by f h k start
index-long f h k start b l u = index-unlike f h k start (slice-bytes f b) l u

-- the number of frames, and then the entries
index-split : (f : List ℕ) (h : Header) (start : ℕ) (fs : List Frame) → are_bytes f ≡ true → h.user ≤ length f
    → h.user - h.index ≡ 4 + 16 * h.count → length fs < 2 ^ 32
    → same (take (h.user - h.index) (drop h.index f)) (index_bytes start fs) ≡
    (eqb (read_at f h.index 4) (length fs) && same (take (16 * h.count) (drop (h.index + 4) f)) (entries_bytes (first_time fs) start fs))
unfolding index_bytes
index-split f h start fs b l e s =
    let i : length (drop h.index f) ≡ length f - h.index = length-drop h.index f in
    let t : length (take 4 (drop h.index f)) ≡ 4 = length-take-le 4 (drop h.index f) (omega arith) in
    rw (
      e,
      take-add 4 (16 * h.count) (drop h.index f),
      drop-drop 4 h.index f,
      same-append (take 4 (drop h.index f)) (take (16 * h.count) (drop (h.index + 4) f)) (bytes_of 4 (length fs))
          (entries_bytes (first_time fs) start fs) (omega (arith, length-bytes_of 4 (length fs))),
      same_number 4 (drop h.index f) (length fs) (bytes_drop h.index f b) (omega arith) s,
      read_is f h.index 4 (omega arith) (omega arith),
    )

pub index-count : (f : List ℕ) (h : Header) (k start n : ℕ) → ((i : ℕ) → Fits w8 (get_or f i 0)) → h.user ≤ length f → h.count ≤ 1000000
    → h.user - h.index ≡ 4 + 16 * h.count → n ≡ read_at f h.index 4 → (n ≡ h.count → ⊥) → true ≡ bad_index_by f h k start
unfolding bad_index_by
index-count f h k start n b l m e p u = index-bad w f h start (walk-few f k start h.count (slice-bytes f b)) never
  where
    w : Walk
    w = walk h.count k (drop start f)

    never : length w.frames ≡ h.count → same (take (h.user - h.index) (drop h.index f)) (index_bytes start w.frames) ≡ true → ⊥
    never c q =
        let s = index-split f h start w.frames (slice-bytes f b) l e (omega arith) in
        let t = both_true (eqb (read_at f h.index 4) (length w.frames))
        (same (take (16 * h.count) (drop (h.index + 4) f)) (entries_bytes (first_time w.frames) start w.frames)) (sym s ∙ q) in
        u (p ∙ eqb-true (read_at f h.index 4) (length w.frames) t.0 ∙ c)

walk-index : (w : Walk) (f : List ℕ) (h : Header) (start first : ℕ) → length w.frames ≤ h.count
    → ((x : Frame) (xs : List Frame) → w.frames ≡ x ∷ xs → x.time ≡ first) → are_bytes f ≡ true → h.user ≤ length f → h.count ≤ 1000000
    → h.user - h.index ≡ 4 + 16 * h.count → read_at f h.index 4 ≡ h.count
    → other_walk w f h.index first h.count start (h.index + 4) first ≡ bad_index_in w f h start
unfolding bad_index_in other_walk
walk-index w f h start first few firsts b l m e p = go (ltb (length w.frames) h.count) refl
  where
    go : (t : Bool) → ltb (length w.frames) h.count ≡ t
        → other_walk w f h.index first h.count start (h.index + 4) first ≡ bad_index_in w f h start
    go true q = rw (le-ltb 1000000 h.count m, q)
    go false q =
        let c : length w.frames ≡ h.count = omega (arith, ltb-false (length w.frames) h.count q) in
        let s = index-split f h start w.frames b l e (omega arith) in
        let v = by_first w.frames first start firsts in
        rw (le-ltb 1000000 h.count m, q, s, eq-eqb (read_at f h.index 4) (length w.frames) (p ∙ sym c), v.0, v.1)

pub index-frames : (f : List ℕ) (h : Header) (k start n first : ℕ) (r : Bool) → ((i : ℕ) → Fits w8 (get_or f i 0)) → h.user ≤ length f
    → h.count ≤ 1000000 → h.user - h.index ≡ 4 + 16 * h.count → n ≡ read_at f h.index 4 → n ≡ h.count → first ≡ read_at f (start + 4) 8
    → r ≡ other_frames f k h.index first h.count start (h.index + 4) first → r ≡ bad_index_by f h k start
unfolding bad_index_by other_frames
index-frames f h k start n first r b l m e p q g i =
    i
    ∙ walk-index (walk h.count k (drop start f)) f h start first (walk-few f k start h.count (slice-bytes f b))
    (λ x xs v. walk_first f k start h.count x xs v ∙ sym g) (slice-bytes f b) l m e (sym p ∙ q)

pub ruleset laws = (
  rules,
  not-true,
  not-false,
  length-noted,
  other-since,
  other_offset,
  other-size,
  end-behind,
  time-fits,
  end-near,
  since-fits,
  noted-none,
  noted-late,
  noted_other,
  noted-this,
  frames-done,
  frames-other,
  next_fits,
  frames-step,
  index-many,
  index-behind,
  index-long,
  index-count,
  index-frames,
)
