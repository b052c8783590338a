-- The calls that record a legal recording without user tags: what they are lent fits, each is accepted, and together they are given that recording.
-- Assumes nothing.
use Prim.Native.Nat.{ℕ, ◌+◌, ◌^◌, ◌≤◌}
use native.Mathlib.Omega.{arith}
use native.Mathlib.Nat.{add-zero}
use mathlib.Core.Path.{◌≡◌, refl, ap, sym, ◌∙◌, subst, subst₂}
use mathlib.Core.Bool.{Bool, true, false, not, ◌&&◌, ◌||◌}
use mathlib.Core.List.{List, [], ◌∷◌, ◌++◌, map, flat_map, append_assoc, append-nil}
use lib.ListN.{length, length-append}
use lib.Seq.{length-sets}
use lib.Dec.{leb, ltb, eqb, eqb-suc-zero}
use lib.Pow.{are_bytes}
use borrow.Author.Tests.{lt-ltb, lt-leb, le-leb, le-ltb, eq-eqb}
use Rattle.number.specs.Number.{bytes_of}
use Rattle.number.proofs.Bytes.{both_true, and-true, bytes_of-bytes}
use Rattle.layout.specs.Recording.{Recording, Section, Frame, Legal, most_sections, most_frames, largest_table, longest_section, short_string, definition_list_bytes, definitions_bytes, configurations_bytes, table_bytes, sized_bytes, frame_head_bytes, frame_bytes, index_length, first_time, frames_start, frames_end, encode, within, every, distinct, legal_section_name, section_names, legal_section, legal_table, legal_frame, follows, follow, in_order}
use Rattle.layout.specs.Reading.{good, exactly, times, sized, table, is_bad, value_or}
use Rattle.layout.specs.Opening.{first_of}
use Rattle.layout.specs.Recorder.{closed, is_fresh, is_running, broken_state, no_room, set_up_list, sections_of, bad_set_up, first_piece, begin_lines, begin, frame_piece, bad_shape, too_long, bad_clock, add_lines, add}
use Rattle.layout.specs.Storage.{Call, begins, adds, closes, Session, fresh_state, started, called, session, file_of, given, given_by, nothing_given, call_fits}
use Rattle.layout.proofs.Lists.{not-or, cond-true, every-weaker, bytes-append, bytes-split}
use Rattle.layout.proofs.Exact.{set_up_section_bytes, set_up_section_fits, set_up_list-exact, table-exact, sized-exact, times-exact, exactly-takes, section_name-short, frame-legal}
use Rattle.layout.proofs.Lines.{line-pass}
use Rattle.layout.proofs.Orders.{no_lines}
use Rattle.layout.proofs.Fronts.{section-name, section-short}
use Rattle.layout.proofs.Encoded.{frames-end, user-start, length-encode}
use Rattle.layout.proofs.Places.{stands-bytes, frames-stand, system-stands, definitions-stand, configurations-stand}
use Rattle.layout.proofs.Answers.{goes_on, goes_on_lem, is-accepted}
use Rattle.layout.proofs.Closing.{five-file}
use Rattle.layout.proofs.Trace.{stage_of, last_time, Runs, begin_step, beginning, begins-are, begin-runs, add_step, frame_given, with_frame, adds-are, add-runs, length-noted, end_more}
use Rattle.layout.proofs.Moments.{given-append, session-append, with_frames, one_more}

-- a set-up list
unfoldable pub set_up_bytes : List Section → List ℕ
set_up_bytes ss = length ss ∷ flat_map set_up_section_bytes ss

-- the call that adds a frame, its sections in file form
unfoldable pub add_of : (room : ℕ) → Frame → Call
add_of room f = adds f.time f.exposure (flat_map sized_bytes f.sections) room

-- one call to begin, one for each frame, and five to close, each with that room
unfoldable pub calls_of : Recording → (room : ℕ) → List Call
calls_of r room =
    begins (set_up_bytes r.sections) (table_bytes r.system) room
    ∷ map (add_of room) r.frames
    ++ (closes room ∷ closes room ∷ closes room ∷ closes room ∷ closes room ∷ [])

-- ── What they are lent ──

-- the set-up list of sections whose definitions and configurations are bytes
set-up-bytes : (at : ℕ) (ss : List Section) → are_bytes (definition_list_bytes at ss) ≡ true → are_bytes (configurations_bytes ss) ≡ true → are_bytes (flat_map set_up_section_bytes ss) ≡ true
unfolding definition_list_bytes configurations_bytes flat_map set_up_section_bytes
set-up-bytes at [] p q = refl
set-up-bytes at (s ∷ ss) p q =
    let a = bytes-split (short_string s.name ++ bytes_of 8 at) (definition_list_bytes (at + length s.configuration) ss) p in
    let b = bytes-split (short_string s.name) (bytes_of 8 at) a.0 in
    let c = bytes-split s.configuration (configurations_bytes ss) q in
    let n = bytes_of 2 (length s.configuration) in
    bytes-append (set_up_section_bytes s) (flat_map set_up_section_bytes ss)
    (bytes-append (short_string s.name ++ n) s.configuration (bytes-append (short_string s.name) n b.0 (bytes_of-bytes 2 (length s.configuration))) c.0)
    (set-up-bytes (at + length s.configuration) ss a.1 c.1)

-- the calls of legal frames whose bytes are bytes
frames-fit : (k room : ℕ) (fs : List Frame) → every (legal_frame k) fs ≡ true → are_bytes (flat_map frame_bytes fs) ≡ true → (rest : List Call) → every call_fits rest ≡ true → every call_fits (map (add_of room) fs ++ rest) ≡ true
unfolding every flat_map frame_bytes add_of call_fits
frames-fit k room [] l h rest e = e
frames-fit k room (f ∷ fs) l h rest e =
    let b = both_true (legal_frame k f) (every (legal_frame k) fs) l in
    let a = bytes-split (frame_bytes f) (flat_map frame_bytes fs) h in
    let c = bytes-split (frame_head_bytes f.time f.exposure) (flat_map sized_bytes f.sections) a.0 in
    let t = (frame-legal k f).1 b.0 in
    let fit = and-true (ltb f.time (2 ^ 64) && ltb f.exposure (2 ^ 32)) (are_bytes (flat_map sized_bytes f.sections)) (and-true (ltb f.time (2 ^ 64)) (ltb f.exposure (2 ^ 32)) (lt-ltb f.time (2 ^ 64) t.0) (lt-ltb f.exposure (2 ^ 32) t.1)) c.1 in
    and-true (call_fits (add_of room f)) (every call_fits (map (add_of room) fs ++ rest)) fit (frames-fit k room fs b.1 a.1 rest e)

-- what the call to begin is lent, of a recording whose file is bytes
pub lent-bytes : (r : Recording) → are_bytes (encode r) ≡ true → (are_bytes (set_up_bytes r.sections) ≡ true) × (are_bytes (table_bytes r.system) ≡ true)
unfolding set_up_bytes definitions_bytes
lent-bytes r h =
    let d = both_true (ltb (length r.sections) 256) (are_bytes (definition_list_bytes _ r.sections)) (stands-bytes (definitions-stand r) h) in
    (and-true (ltb (length r.sections) 256) (are_bytes (flat_map set_up_section_bytes r.sections)) d.0 (set-up-bytes _ r.sections d.1 (stands-bytes (configurations-stand r) h)), stands-bytes (system-stands r) h)

pub calls-fit : (r : Recording) (room : ℕ) → Legal r → are_bytes (encode r) ≡ true → every call_fits (calls_of r room) ≡ true
unfolding calls_of call_fits every
calls-fit r room l h =
    let b = lent-bytes r h in
    and-true (are_bytes (set_up_bytes r.sections) && are_bytes (table_bytes r.system)) _ (and-true (are_bytes (set_up_bytes r.sections)) (are_bytes (table_bytes r.system)) b.0 b.1) (frames-fit (length r.sections) room r.frames l.frames_legal (stands-bytes (frames-stand r) h) _ refl)

-- ── To begin ──

section-fits : (s : Section) → legal_section s ≡ true → set_up_section_fits s ≡ true
unfolding set_up_section_fits
section-fits s h = and-true (leb (length s.name) 255) (leb (length s.configuration) 65535) (section_name-short s.name (section-name s h)) (le-leb (length s.configuration) 65535 (section-short s h))

names-legal : (ss : List Section) → every legal_section ss ≡ true → every legal_section_name (section_names ss) ≡ true
unfolding every section_names
names-legal [] h = refl
names-legal (s ∷ ss) h =
    let b = both_true (legal_section s) (every legal_section ss) h in
    and-true (legal_section_name s.name) (every legal_section_name (section_names ss)) (section-name s b.0) (names-legal ss b.1)

-- the set-up list is read back
set-up-read : (r : Recording) → Legal r → exactly set_up_list (set_up_bytes r.sections) ≡ good r.sections (length (set_up_bytes r.sections))
unfolding set_up_bytes
set-up-read r l =
    exactly-takes _ (λ ss. length ss ∷ flat_map set_up_section_bytes ss) set_up_list set_up_list-exact r.sections
    (and-true (leb (length r.sections) 255) (every set_up_section_fits r.sections) (le-leb (length r.sections) 255 (omega (arith, l.at_most_eight_sections))) (every-weaker legal_section set_up_section_fits section-fits r.sections l.sections_legal))

-- its count and names keep the definitions rule
set-up-good : (r : Recording) → Legal r → bad_set_up r.sections ≡ false
unfolding bad_set_up
set-up-good r l =
    let k = within 1 most_sections (length r.sections) in
    let n = every legal_section_name (section_names r.sections) in
    not-or (not k || not n) (not (distinct (section_names r.sections)))
    (not-or (not k) (not n)
    (ap not (and-true (leb 1 (length r.sections)) (leb (length r.sections) most_sections) (le-leb 1 (length r.sections) l.at_least_one_section) (le-leb (length r.sections) most_sections l.at_most_eight_sections)))
    (ap not (names-legal r.sections l.sections_legal)))
    (ap not l.sections_differ)

-- what is recorded before the first frame
unfoldable pub bare : Recording → Recording
bare r = record { sections = r.sections; system = r.system; frames = []; user = [] }

-- the call to begin gives it
begun-is : (r : Recording) → Legal r → beginning (set_up_bytes r.sections) (table_bytes r.system) ≡ bare r
unfolding sections_of value_or bare
begun-is r l = rw (set-up-read r l, exactly-takes legal_table table_bytes table table-exact r.system l.system_legal)

-- no line of the call to begin holds
begin-clear : (r : Recording) (notes : List ℕ) (room : ℕ) → Legal r → 4 ≤ length notes → frames_start r ≤ room → first_of (begin_lines fresh_state (set_up_bytes r.sections) (table_bytes r.system) notes room) ≡ 0
unfolding begin_lines is_fresh first_piece frames_start bare
begin-clear r notes room l n o =
    let set_up = set_up_bytes r.sections in
    let system = table_bytes r.system in
    let ss : sections_of set_up ≡ r.sections = ap (λ (x : Recording). x.sections) (begun-is r l) in
    let fits : length (first_piece set_up system) ≤ room = rw ss o in
    line-pass 12 false _ refl
    ∙ line-pass 10 (is_bad (exactly set_up_list set_up)) _ (rw (set-up-read r l))
    ∙ line-pass 3 (bad_set_up (sections_of set_up)) _ (rw ss (set-up-good r l))
    ∙ line-pass 4 (is_bad (exactly table system)) _ (rw (exactly-takes legal_table table_bytes table table-exact r.system l.system_legal))
    ∙ line-pass 9 (no_room room (length (first_piece set_up system)) || no_room (length notes) 4) _ (not-or (no_room room (length (first_piece set_up system))) (no_room (length notes) 4) (le-ltb room (length (first_piece set_up system)) fits) (le-ltb (length notes) 4 n))
    ∙ no_lines

-- the call to begin is accepted
pub begin-goes : (r : Recording) (notes : List ℕ) (room : ℕ) → Legal r → are_bytes (encode r) ≡ true → 4 ≤ length notes → frames_start r ≤ room → Runs (called (started notes) (begins (set_up_bytes r.sections) (table_bytes r.system) room)) (bare r) 0 × (given_by (started notes) (begins (set_up_bytes r.sections) (table_bytes r.system) room) nothing_given ≡ bare r) × (length (called (started notes) (begins (set_up_bytes r.sections) (table_bytes r.system) room)).notes ≡ length notes)
unfolding called given_by begin started
begin-goes r notes room l h n o =
    let set_up = set_up_bytes r.sections in
    let system = table_bytes r.system in
    let z = begin-clear r notes room l n o in
    let b = lent-bytes r h in
    let step = begin_step set_up system notes in
    let e = goes_on_lem (started notes) (first_of (begin_lines fresh_state set_up system notes room)) step refl z in
    let runs = begin-runs (started notes) set_up system refl (begins-are fresh_state set_up system notes room b.0 b.1 z).1 in (
      subst₂ (λ (s : Session) (x : Recording). Runs s x 0) (sym e) (begun-is r l) runs,
      cond-true _ (beginning set_up system) nothing_given (is-accepted fresh_state notes (first_of (begin_lines fresh_state set_up system notes room)) step refl z) ∙ begun-is r l,
      ap (λ (s : Session). length s.notes) e ∙ rw length-sets,
    )

-- ── To add ──

follow-next : (first last : ℕ) (fs : List Frame) (g : Frame) (gs : List Frame) → follow first last (fs ++ (g ∷ gs)) ≡ true → follows first (last_time last fs) g.time ≡ true
unfolding follow last_time
follow-next first last [] g gs h = (both_true (follows first last g.time) (follow first g.time gs) h).0
follow-next first last (x ∷ xs) g gs h = follow-next first x.time xs g gs (both_true (follows first last x.time) (follow first x.time (xs ++ (g ∷ gs))) h).1

-- frames in order: no frame's time breaks the rule behind those ahead of it
order-next : (fs : List Frame) (g : Frame) (gs : List Frame) → in_order (fs ++ (g ∷ gs)) ≡ true → not (eqb (length fs) 0) && not (follows (first_time fs) (last_time 0 fs) g.time) ≡ false
unfolding in_order first_time last_time
order-next [] g gs h = refl
order-next (x ∷ xs) g gs h = rw eqb-suc-zero (ap not (follow-next x.time x.time xs g gs h))

-- the sections of a legal frame are read back
sections-read : (k : ℕ) (f : Frame) → legal_frame k f ≡ true → exactly (times k sized) (flat_map sized_bytes f.sections) ≡ good f.sections (length (flat_map sized_bytes f.sections))
sections-read k f h =
    let t = (frame-legal k f).1 h in
    let small : List ℕ → Bool = λ s. leb (length s) longest_section in
    exactly-takes _ (flat_map sized_bytes) (times k sized) (times-exact small sized_bytes sized k sized-exact) f.sections (and-true (eqb (length f.sections) k) (every small f.sections) (eq-eqb (length f.sections) k t.2) t.3)

-- a recording that runs, and frames that can still be added to it
record CanAdd (ss : Session) (r : Recording) (gs : List Frame) (room : ℕ) : Type 0 where
  runs : Runs ss r 0
  legal : every (legal_frame (length r.sections)) gs ≡ true
  bytes : are_bytes (flat_map frame_bytes gs) ≡ true
  few : length r.frames + length gs ≤ most_frames
  short : frames_end r + length (flat_map frame_bytes gs) + index_length (length r.frames + length gs) + largest_table ≤ 2 ^ 40
  ordered : in_order (r.frames ++ gs) ≡ true
  notes_enough : index_length (length r.frames + length gs) ≤ length ss.notes
  roomy : length (flat_map frame_bytes gs) ≤ room

module _ (ss : Session) (r : Recording) (g : Frame) (gs : List Frame) (room : ℕ) (c : CanAdd ss r (g ∷ gs) room) where
  size : length (flat_map frame_bytes (g ∷ gs)) ≡ length (frame_bytes g) + length (flat_map frame_bytes gs)
  unfolding flat_map
  size = length-append (frame_bytes g) (flat_map frame_bytes gs)

  legal-one : (legal_frame (length r.sections) g ≡ true) × (every (legal_frame (length r.sections)) gs ≡ true)
  unfolding every
  legal-one = both_true (legal_frame (length r.sections) g) (every (legal_frame (length r.sections)) gs) c.legal

  bytes_one : (are_bytes (frame_bytes g) ≡ true) × (are_bytes (flat_map frame_bytes gs) ≡ true)
  unfolding flat_map
  bytes_one = bytes-split (frame_bytes g) (flat_map frame_bytes gs) c.bytes

  given-one : frame_given ss.state g.time g.exposure (flat_map sized_bytes g.sections) ≡ g
  unfolding value_or
  given-one = rw (c.runs.sections_are, sections-read (length r.sections) g legal-one.0)

  -- no line holds,
  add-clear : first_of (add_lines ss.state g.time g.exposure (flat_map sized_bytes g.sections) ss.notes room) ≡ 0
  unfolding add_lines is_running stage_of bad_shape too_long bad_clock frame_piece frame_bytes
  add-clear =
      let st = ss.state in
      let secs = flat_map sized_bytes g.sections in
      let n = st.frames in
      let more = length (frame_piece g.time g.exposure secs) in
      let k : n ≡ length r.frames = c.runs.frames_are in
      let e : st.end ≡ frames_end r = c.runs.end_is in
      let z : more ≡ length (frame_bytes g) = refl in
      let stage : not (is_running st.stage) ≡ false = rw c.runs.stage_is in
      let shape : is_bad (exactly (times st.sections sized) secs) ≡ false = rw (c.runs.sections_are, sections-read (length r.sections) g legal-one.0) in
      let few : leb most_frames n ≡ false = lt-leb most_frames n (omega (arith, c.few)) in
      let long : too_long (st.end + more) (n + 1) ≡ false = le-ltb (2 ^ 40) (st.end + more + index_length (n + 1) + largest_table) (omega (arith, c.short, size)) in
      let clock : bad_clock st g.time ≡ false = rw (k, c.runs.first_is, c.runs.last_is) (order-next r.frames g gs c.ordered) in
      let out : no_room room more ≡ false = le-ltb room more (omega (arith, c.roomy, size)) in
      let kept : no_room (length ss.notes) (index_length (n + 1)) ≡ false = le-ltb (length ss.notes) (index_length (n + 1)) (omega (arith, c.notes_enough)) in
      line-pass 12 (not (is_running st.stage) || broken_state st) _ (not-or (not (is_running st.stage)) (broken_state st) stage c.runs.state_holds)
      ∙ line-pass 14 (is_bad (exactly (times st.sections sized) secs)) _ shape
      ∙ line-pass 15 (leb most_frames n || too_long (st.end + more) (n + 1)) _ (not-or (leb most_frames n) (too_long (st.end + more) (n + 1)) few long)
      ∙ line-pass 13 (bad_clock st g.time) _ clock
      ∙ line-pass 9 (no_room room more || no_room (length ss.notes) (index_length (n + 1))) _ (not-or (no_room room more) (no_room (length ss.notes) (index_length (n + 1))) out kept)
      ∙ no_lines

  -- so the frame is added
  add_goes : (called ss (add_of room g) ≡ goes_on ss (add_step ss.state g.time g.exposure (flat_map sized_bytes g.sections) ss.notes)) × Runs (called ss (add_of room g)) (with_frame r g) 0 × (given_by ss (add_of room g) r ≡ with_frame r g)
  unfolding add_of called given_by add frame_bytes
  add_goes =
      let st = ss.state in
      let secs = flat_map sized_bytes g.sections in
      let lines = first_of (add_lines st g.time g.exposure secs ss.notes room) in
      let step = add_step st g.time g.exposure secs ss.notes in
      let e = goes_on_lem ss lines step refl add-clear in
      let t = (frame-legal (length r.sections) g).1 legal-one.0 in
      let b = bytes-split (frame_head_bytes g.time g.exposure) secs bytes_one.0 in
      let a = (adds-are st g.time g.exposure secs ss.notes room t.0 t.1 b.1 add-clear).1 in (
        e,
        subst₂ (λ (s : Session) (f : Frame). Runs s (with_frame r f) 0) (sym e) given-one (add-runs ss r g.time g.exposure secs c.runs a),
        cond-true _ (with_frame r (frame_given st g.time g.exposure secs)) r (is-accepted st ss.notes lines step refl add-clear) ∙ ap (with_frame r) given-one,
      )

  -- and the others can still be added
  add-more : CanAdd (called ss (add_of room g)) (with_frame r g) gs room
  add-more =
      let n : length (r.frames ++ (g ∷ [])) ≡ length r.frames + 1 = length-append r.frames (g ∷ []) in
      let e = end_more r g in
      record {
        runs = add_goes.1;
        legal = legal-one.1;
        bytes = bytes_one.1;
        few = omega (arith, c.few);
        short = omega (arith, c.short, size);
        ordered = rw append_assoc c.ordered;
        notes_enough = rw (add_goes.0, length-noted) (omega (arith, c.notes_enough));
        roomy = omega (arith, c.roomy, size);
      }

-- frames that can be added are added by their calls
adds-go : (ss : Session) (r : Recording) (gs : List Frame) (room : ℕ) → CanAdd ss r gs room → Runs (session ss (map (add_of room) gs)) (with_frames r gs) 0 × (given ss (map (add_of room) gs) r ≡ with_frames r gs)
unfolding session given with_frames
adds-go ss r [] room c = rw append-nil (c.runs, refl)
adds-go ss r (g ∷ gs) room c =
    let i = adds-go (called ss (add_of room g)) (with_frame r g) gs room (add-more ss r g gs room c) in (
      subst (λ (x : Recording). Runs (session (called ss (add_of room g)) (map (add_of room) gs)) x 0) (one_more r g gs) i.0,
      ap (given (called ss (add_of room g)) (map (add_of room) gs)) (add_goes ss r g gs room c).2 ∙ i.1 ∙ one_more r g gs,
    )

-- ── All of them ──

-- all the frames of r, added to what it is without them
bare-with : (r : Recording) → r.user ≡ [] → with_frames (bare r) r.frames ≡ r
unfolding with_frames bare
bare-with r e = rw (← e)

module _ (r : Recording) (notes : List ℕ) (room : ℕ) (l : Legal r) (u : r.user ≡ []) (h : are_bytes (encode r) ≡ true) (n : index_length (length r.frames) ≤ length notes) (o : length (encode r) ≤ room) where
  -- after the call to begin
  first : Session
  first = called (started notes) (begins (set_up_bytes r.sections) (table_bytes r.system) room)

  -- every frame can be added
  can-add : CanAdd first (bare r) r.frames room
  unfolding first bare
  can-add =
      let b = begin-goes r notes room l h (omega arith) (omega (arith, length-encode r, user-start r, frames-end r)) in
      let e : frames_end (bare r) ≡ frames_start r = unfold frames_end frames_start flat_map in add-zero (frames_start r) in
      record {
        runs = b.0;
        legal = l.frames_legal;
        bytes = stands-bytes (frames-stand r) h;
        few = omega (arith, l.frames_few);
        short = omega (arith, e, l.user_offset_fits, user-start r, frames-end r);
        ordered = l.frames_ordered;
        notes_enough = rw b.2 (omega arith);
        roomy = omega (arith, length-encode r, user-start r, frames-end r);
      }

  -- all frames are added, and nothing else is given
  added-all : Runs (session first (map (add_of room) r.frames)) r 0 × (given first (map (add_of room) r.frames) (bare r) ≡ r)
  added-all =
      let a = adds-go first (bare r) r.frames room can-add in
      (subst (λ (x : Recording). Runs (session first (map (add_of room) r.frames)) x 0) (bare-with r u) a.0, a.1 ∙ bare-with r u)

  -- the calls end in a closed recording, were given r, and its file is r's bytes
  pub calls-record : ((session (started notes) (calls_of r room)).state.stage ≡ closed) × (given (started notes) (calls_of r room) nothing_given ≡ r) × (file_of (session (started notes) (calls_of r room)) ≡ encode r)
  unfolding calls_of session given given_by first
  calls-record =
      let five : List Call = closes room ∷ closes room ∷ closes room ∷ closes room ∷ closes room ∷ [] in
      let all = session first (map (add_of room) r.frames) in
      let s : session (started notes) (calls_of r room) ≡ session all five = session-append first (map (add_of room) r.frames) five in
      let f = five-file all r room added-all.0 (omega (arith, (definitions-stand r).inside)) (omega (arith, length-encode r, user-start r)) in
      let b = begin-goes r notes room l h (omega arith) (omega (arith, length-encode r, user-start r, frames-end r)) in (
        ap (λ (x : Session). x.state.stage) s ∙ f.0,
        ap (given first (map (add_of room) r.frames ++ five)) b.1 ∙ given-append first (map (add_of room) r.frames) five (bare r) ∙ added-all.1,
        ap file_of s ∙ f.1,
      )
