-- What a chain of accepted calls has handed out: exactly the pieces of a legal recording, the state's numbers being that recording's.
-- Assumes nothing.
use Prim.Native.Nat.{ℕ, zero, suc, ◌+◌, ◌*◌, ◌-◌, ◌^◌, ◌≤◌, ◌<◌}
use native.Mathlib.Omega.{arith}
use native.Mathlib.Nat.{add-zero}
use mathlib.Core.Path.{◌≡◌, refl, ap, sym, ◌∙◌, subst, subst₂}
use mathlib.Core.Bool.{Bool, true, false, not, ◌&&◌, ◌||◌, cond}
use mathlib.Core.Logic.{◌⊎◌, inl, inr}
use mathlib.Core.List.{List, [], ◌∷◌, ◌++◌, flat_map, append_assoc, append-nil}
use lib.ListN.{length, take, drop, get_or, replicate, length-append, length-drop}
use lib.Seq.{take-suc, sets, sets-eq, length-sets, take_at, drop_at, take-add, take-append-add, length-take-le}
use lib.Dec.{leb, ltb, eqb, eqb-suc-zero}
use lib.Pow.{are_bytes}
use borrow.Author.Tests.{not-false, ltb-true, ltb-false, leb-true, leb-false, le-leb}
use Rattle.number.specs.Number.{bytes_of, rank}
use Rattle.layout.specs.Recording.{Recording, Section, Frame, Legal, most_sections, most_frames, largest_table, legal_frame, longest_section, longest_span, sized_bytes, frame_head_bytes, within, distinct, section_names, tag_names, legal_section_name, legal_section, legal_table, every, count_place, index_place, user_place, front_bytes, table_bytes, frame_bytes, entry_bytes, entries_bytes, index_bytes, index_length, first_time, follows, follow, in_order, frames_start, frames_end, user_start}
use Rattle.layout.specs.Reading.{exactly, times, sized, table, value_or, is_bad}
use Rattle.layout.specs.Opening.{first_of}
use Rattle.layout.specs.Recorder.{Stage, running, closing, closed, State, Step, Piece, piece, broken_state, is_fresh, is_running, takes_close, answer, no_room, set_up_list, sections_of, bad_set_up, first_piece, piece_number, begun, begin, begin_lines, frame_piece, bad_shape, too_long, bad_clock, first_after, added, noted, add, add_lines, closing_pieces, closing_piece, stage_after, close_lines, closed_by, close}
use Rattle.layout.specs.Storage.{Call, begins, adds, closes, Session, fresh_state, started, session, called, passed_on, accepted, given, given_by, nothing_given, call_fits}
use Rattle.number.proofs.Bytes.{both_true, and-true, length-bytes_of}
use Rattle.layout.proofs.Lists.{or-false, decided, cond-true, cond-false, every_append, flat_map-append, cond_same}
use Rattle.layout.proofs.Exact.{set_up_section_fits, set_up_list-exact, table-exact, sized-exact, times-exact, exactly-gives}
use Rattle.layout.proofs.Sizes.{length-entry, front-most}
use Rattle.layout.proofs.Lines.{line_clear}
use Rattle.layout.proofs.Fronts.{read-good}
use Rattle.layout.proofs.Answers.{goes_on, answered, Sound, broken-none, none-broken}

unfoldable pub frame_pieces : (at : ℕ) → List Frame → List Piece
frame_pieces at [] = []
frame_pieces at (f ∷ fs) = piece at (frame_bytes f) ∷ frame_pieces (at + length (frame_bytes f)) fs

unfoldable pub closings : Recording → List Piece
closings r =
    piece (frames_end r) (index_bytes (frames_start r) r.frames)
    ∷ piece (user_start r) (table_bytes [])
    ∷ piece count_place (bytes_of 4 (length r.frames))
    ∷ piece user_place (bytes_of 8 (user_start r))
    ∷ piece index_place (bytes_of 8 (frames_end r))
    ∷ []

-- the opening piece, a piece for each frame, and the first c of the five closing pieces
unfoldable pub pieces_of : Recording → (c : ℕ) → List Piece
pieces_of r c = piece 0 (front_bytes 0 0 0 r.sections (table_bytes r.system)) ∷ frame_pieces (frames_start r) r.frames ++ take c (closings r)

-- the stage after c closing pieces
unfoldable pub stage_of : (c : ℕ) → Stage
stage_of c = cond (eqb c 0) running (cond (ltb c 5) (closing c) closed)

unfoldable pub last_time : ℕ → List Frame → ℕ
last_time t [] = t
last_time t (f ∷ fs) = last_time f.time fs

-- the session has recorded r, and handed out c of its closing pieces
pub record Runs (ss : Session) (r : Recording) (c : ℕ) : Type 0 where
  pub legal : Legal r
  pub no_user_tags : r.user ≡ []
  pub pieces_are : ss.pieces ≡ pieces_of r c
  pub stage_is : ss.state.stage ≡ stage_of c
  pub at_most_five : c ≤ 5
  pub sections_are : ss.state.sections ≡ length r.sections
  pub frames_are : ss.state.frames ≡ length r.frames
  pub first_is : ss.state.first ≡ first_time r.frames
  pub last_is : ss.state.last ≡ last_time 0 r.frames
  pub end_is : ss.state.end ≡ frames_end r
  pub state_holds : broken_state ss.state ≡ false
  pub notes_long : index_length (length r.frames) ≤ length ss.notes
  pub notes_are : take (index_length (length r.frames)) ss.notes ≡ index_bytes (frames_start r) r.frames

-- ── One frame more ──

pub frame_pieces-more : (at : ℕ) (fs : List Frame) (f : Frame)
    → frame_pieces at (fs ++ (f ∷ [])) ≡ frame_pieces at fs ++ (piece (at + length (flat_map frame_bytes fs)) (frame_bytes f) ∷ [])
unfolding frame_pieces flat_map
frame_pieces-more at [] f = rw add-zero
frame_pieces-more at (x ∷ xs) f =
    let e : at + length (frame_bytes x ++ flat_map frame_bytes xs) ≡ at + length (frame_bytes x) + length (flat_map frame_bytes xs) = rw length-append (omega arith) in
    rw e (ap (λ (l : List Piece). piece at (frame_bytes x) ∷ l) (frame_pieces-more (at + length (frame_bytes x)) xs f))

pub entries-more : (first at : ℕ) (fs : List Frame) (f : Frame)
    → entries_bytes first at (fs ++ (f ∷ [])) ≡ entries_bytes first at fs ++ entry_bytes first f.time (at + length (flat_map frame_bytes fs)) (length (frame_bytes f))
unfolding entries_bytes flat_map
entries-more first at [] f = rw (add-zero, append-nil)
entries-more first at (x ∷ xs) f =
    let e : at + length (frame_bytes x ++ flat_map frame_bytes xs) ≡ at + length (frame_bytes x) + length (flat_map frame_bytes xs) = rw length-append (omega arith) in
    rw (e, entries-more first (at + length (frame_bytes x)) xs f, append_assoc)

pub first_time-more : (fs : List Frame) (f : Frame) → first_time (fs ++ (f ∷ [])) ≡ cond (eqb (length fs) 0) f.time (first_time fs)
unfolding first_time
first_time-more [] f = refl
first_time-more (x ∷ xs) f = rw eqb-suc-zero

pub last_time-more : (t : ℕ) (fs : List Frame) (f : Frame) → last_time t (fs ++ (f ∷ [])) ≡ f.time
unfolding last_time
last_time-more t [] f = refl
last_time-more t (x ∷ xs) f = last_time-more x.time xs f

entries-first : (at : ℕ) (fs : List Frame) (f : Frame) → entries_bytes (first_time (fs ++ (f ∷ []))) at fs ≡ entries_bytes (first_time fs) at fs
entries-first at [] f = unfold entries_bytes in refl
entries-first at (x ∷ xs) f = unfold first_time in refl

-- the index of one frame more, the entries ahead being the same
pub index-more : (at : ℕ) (fs : List Frame) (f : Frame)
    → index_bytes at (fs ++ (f ∷ [])) ≡ bytes_of 4 (length fs + 1) ++ entries_bytes (first_time fs) at fs ++ entry_bytes (first_time (fs ++ (f ∷ []))) f.time (at + length (flat_map frame_bytes fs)) (length (frame_bytes f))
unfolding index_bytes
index-more at fs f =
    let n : length (fs ++ (f ∷ [])) ≡ length fs + 1 = length-append fs (f ∷ []) in
    rw (n, entries-more (first_time (fs ++ (f ∷ []))) at fs f, entries-first at fs f, append_assoc)

follow-more : (first last : ℕ) (fs : List Frame) (f : Frame) → follow first last fs ≡ true → follows first (last_time last fs) f.time ≡ true → follow first last (fs ++ (f ∷ [])) ≡ true
unfolding follow last_time
follow-more first last [] f h k = and-true (follows first last f.time) true k refl
follow-more first last (x ∷ xs) f h k =
    let b = both_true (follows first last x.time) (follow first x.time xs) h in
    and-true (follows first last x.time) (follow first x.time (xs ++ (f ∷ []))) b.0 (follow-more first x.time xs f b.1 k)

-- a frame whose time breaks no rule keeps the frames in order
order-more : (fs : List Frame) (f : Frame) → in_order fs ≡ true → not (eqb (length fs) 0) && not (follows (first_time fs) (last_time 0 fs) f.time) ≡ false → in_order (fs ++ (f ∷ [])) ≡ true
unfolding in_order first_time last_time
order-more [] f h k = unfold follow in refl
order-more (x ∷ xs) f h k =
    follow-more x.time x.time xs f h (not-false (follows x.time (last_time x.time xs) f.time) (rw (eqb-suc-zero (length xs)) at k))

-- The notes with one entry more: the number in front is replaced, the entries ahead stay, the new entry stands behind them.
notes-more : (notes old new entries entry : List ℕ) (q : ℕ) → take (4 + q) notes ≡ old ++ entries → length old ≡ 4 → length new ≡ 4 → 4 + q + length entry ≤ length notes → take (4 + q + length entry) (sets (sets notes 0 new) (4 + q) entry) ≡ new ++ entries ++ entry
notes-more notes old new entries entry q e p r h =
    let later : List ℕ = drop 4 notes in
    let l : length (take 4 notes) ≡ 4 = length-take-le 4 notes (omega arith) in
    let kept : take q later ≡ entries = sym (drop_at (take 4 notes) (take q later) 4 l) ∙ ap (λ (s : List ℕ). drop 4 s) (sym (take-add 4 q notes) ∙ e) ∙ drop_at old entries 4 p in
    let z : 0 + length new ≡ 4 = omega arith in
    let counted : sets notes 0 new ≡ new ++ later = sets-eq new notes 0 (omega arith) ∙ ap (λ (k : ℕ). new ++ drop k notes) z in
    let front : take (4 + q) (new ++ later) ≡ new ++ entries = ap (λ (k : ℕ). take (k + q) (new ++ later)) (sym r) ∙ take-append-add new later q ∙ ap (λ (s : List ℕ). new ++ s) kept in
    let room : 4 + q + length entry ≤ length (new ++ later) = rw (length-append, length-drop) (omega arith) in
    let whole : sets (new ++ later) (4 + q) entry ≡ new ++ entries ++ entry ++ drop (4 + q + length entry) (new ++ later) = sets-eq entry (new ++ later) (4 + q) room ∙ ap (λ (s : List ℕ). s ++ entry ++ drop (4 + q + length entry) (new ++ later)) front in
    let n : length (new ++ entries) ≡ 4 + q = ap length (sym front) ∙ length-take-le (4 + q) (new ++ later) (omega arith) in
    rw (counted, whole) (take_at (new ++ entries ++ entry) (drop (4 + q + length entry) (new ++ later)) (4 + q + length entry) (length-append (new ++ entries) entry ∙ ap (λ (k : ℕ). k + length entry) n))

-- ── The stages ──

true-not-false : true ≡ false → ⊥
true-not-false e = let z : ◌≡◌ {A = ℕ} 0 1 = cc in omega arith

pub not-fresh : (c : ℕ) → is_fresh (stage_of c) ≡ false
unfolding stage_of is_fresh
not-fresh c = go (eqb c 0) (ltb c 5)
  where
    go : (a b : Bool) → is_fresh (cond a running (cond b (closing c) closed)) ≡ false
    go true b = refl
    go false true = refl
    go false false = refl

pub running_none : (c : ℕ) → is_running (stage_of c) ≡ true → c ≡ 0
unfolding stage_of is_running
running_none zero h = refl
running_none (suc c) h = go (ltb (suc c) 5) (rw (eqb-suc-zero c) at h)
  where
    go : (b : Bool) → is_running (cond b (closing (suc c)) closed) ≡ true → suc c ≡ 0
    go true e = let z : ◌≡◌ {A = ℕ} 0 1 = cc in absurd (omega arith)
    go false e = let z : ◌≡◌ {A = ℕ} 0 1 = cc in absurd (omega arith)

-- before the last of the five pieces: which one is next, that a close call takes it, and the stage after it
pub at_piece : (c : ℕ)
    → c ≤ 4
    → (piece_number (stage_of c) ≡ c)
    × (takes_close (stage_of c) ≡ true)
    × (stage_after c ≡ stage_of (suc c))
    × (piece_number (stage_of (suc c)) ≤ 4)
unfolding stage_of piece_number takes_close stage_after
at_piece zero l = (refl, refl, refl, omega arith)
at_piece (suc zero) l = (refl, refl, refl, omega arith)
at_piece (suc (suc zero)) l = (refl, refl, refl, omega arith)
at_piece (suc (suc (suc zero))) l = (refl, refl, refl, omega arith)
at_piece (suc (suc (suc (suc zero)))) l = (refl, refl, refl, omega arith)
at_piece (suc (suc (suc (suc (suc c))))) l = absurd (omega arith)

-- a close call takes no stage after the last
closes-more : (c : ℕ) → c ≤ 5 → takes_close (stage_of c) ≡ true → c ≤ 4
unfolding stage_of takes_close
closes-more c l h = go (decided (ltb c 5))
  where
    go : (ltb c 5 ≡ true) ⊎ (ltb c 5 ≡ false) → c ≤ 4
    go (inl t) = omega (arith, ltb-true c 5 t)
    go (inr t) =
        let five : c ≡ 5 = omega (arith, ltb-false c 5 t) in
        absurd (true-not-false (sym h ∙ ap (λ (n : ℕ). takes_close (stage_of n)) five))

-- only after all five closing pieces is the stage closed
pub all-five : (c : ℕ) → c ≤ 5 → stage_of c ≡ closed → c ≡ 5
unfolding takes_close
all-five c l e = go (decided (ltb c 5))
  where
    go : (ltb c 5 ≡ true) ⊎ (ltb c 5 ≡ false) → c ≡ 5
    go (inl t) =
        let four : c ≤ 4 = omega (arith, ltb-true c 5 t) in
        absurd (true-not-false (sym (at_piece c four).1 ∙ ap takes_close e))
    go (inr t) = omega (arith, ltb-false c 5 t)

-- ── The calls ──

-- still fresh, or recording what it was given
abbrev pub Reached : Session → Recording → Type 0
Reached ss r = ((ss.state ≡ fresh_state) × (ss.pieces ≡ [])) ⊎ ((c : ℕ) × Runs ss r c)

-- an answer that is accepted has to be followed, a refused one changes nothing
reach : (ss : Session) (r more : Recording) (n : ℕ) (step : Step) → step.refused ≡ 0 → Reached ss r → (n ≡ 0 → Reached (goes_on ss step) more) → Reached (passed_on ss (answer n ss.state ss.notes step)) (cond (accepted (answer n ss.state ss.notes step)) more r)
reach ss r more n step e h k = go (answered ss n step e)
  where
    go : ((n ≡ 0) × (passed_on ss (answer n ss.state ss.notes step) ≡ goes_on ss step) × (accepted (answer n ss.state ss.notes step) ≡ true)) ⊎ ((passed_on ss (answer n ss.state ss.notes step) ≡ ss) × (accepted (answer n ss.state ss.notes step) ≡ false)) → Reached (passed_on ss (answer n ss.state ss.notes step)) (cond (accepted (answer n ss.state ss.notes step)) more r)
    go (inl t) = subst₂ Reached (sym t.1) (sym (cond-true _ more r t.2)) (k t.0)
    go (inr t) = subst₂ Reached (sym t.0) (sym (cond-false _ more r t.1)) h

abbrev pub begin_step : (set_up system notes : List ℕ) → Step
begin_step set_up system notes = record { refused = 0; state = begun set_up system; piece = piece 0 (first_piece set_up system); notes = sets notes 0 (replicate 4 0) }

abbrev pub beginning : (set_up system : List ℕ) → Recording
beginning set_up system = record { sections = sections_of set_up; system = value_or [] (exactly table system); frames = []; user = [] }

-- sections of a set-up list whose names are legal
sections-legal : (ss : List Section) → every legal_section_name (section_names ss) ≡ true → every set_up_section_fits ss ≡ true → every legal_section ss ≡ true
unfolding every section_names legal_section set_up_section_fits
sections-legal [] h k = refl
sections-legal (s ∷ ss) h k =
    let a = both_true (legal_section_name s.name) (every legal_section_name (section_names ss)) h in
    let b = both_true (set_up_section_fits s) (every set_up_section_fits ss) k in
    let c = both_true (leb (length s.name) 255) (leb (length s.configuration) 65535) b.0 in
    and-true (legal_section s) (every legal_section ss) (and-true (legal_section_name s.name) (leb (length s.configuration) 65535) a.0 c.1) (sections-legal ss a.1 b.1)

-- what the calls' arguments say where a beginning is accepted
pub record Begins (set_up system notes : List ℕ) : Type 0 where
  one_section : 1 ≤ length (sections_of set_up)
  eight_sections : length (sections_of set_up) ≤ most_sections
  legal_sections : every legal_section (sections_of set_up) ≡ true
  other_names : distinct (section_names (sections_of set_up)) ≡ true
  legal_system : legal_table (value_or [] (exactly table system)) ≡ true
  system_bytes : system ≡ table_bytes (value_or [] (exactly table system))
  notes_four : 4 ≤ length notes

begins-with : (set_up system notes : List ℕ) → are_bytes set_up ≡ true → are_bytes system ≡ true → is_bad (exactly set_up_list set_up) ≡ false → bad_set_up (sections_of set_up) ≡ false → is_bad (exactly table system) ≡ false → 4 ≤ length notes → Begins set_up system notes
unfolding bad_set_up sections_of
begins-with set_up system notes p q h k l m =
    let ss = value_or [] (exactly set_up_list set_up) in
    let w = read-good [] (exactly set_up_list set_up) h in
    let f = exactly-gives _ _ set_up_list set_up_list-exact set_up ss _ p w in
    let g = both_true (leb (length ss) 255) (every set_up_section_fits ss) f.0 in
    let t = read-good [] (exactly table system) l in
    let u = exactly-gives legal_table table_bytes table table-exact system (value_or [] (exactly table system)) _ q t in
    let a = not (within 1 most_sections (length ss)) in
    let b = not (every legal_section_name (section_names ss)) in
    let x = or-false (a || b) (not (distinct (section_names ss))) k in
    let y = or-false a b x.0 in
    let z = both_true (leb 1 (length ss)) (leb (length ss) most_sections) (not-false (within 1 most_sections (length ss)) y.0) in
    record {
      one_section = leb-true 1 (length ss) z.0;
      eight_sections = leb-true (length ss) most_sections z.1;
      legal_sections = sections-legal ss (not-false (every legal_section_name (section_names ss)) y.1) g.1;
      other_names = not-false (distinct (section_names ss)) x.1;
      legal_system = u.0;
      system_bytes = u.1;
      notes_four = m;
    }

pub begins-are : (st : State) (set_up system notes : List ℕ) (room : ℕ)
    → are_bytes set_up ≡ true
    → are_bytes system ≡ true
    → first_of (begin_lines st set_up system notes room) ≡ 0
    → (is_fresh st.stage ≡ true)
    × Begins set_up system notes
unfolding begin_lines
begins-are st set_up system notes room p q h =
    let a = line_clear 11 _ _ h in
    let b = line_clear 9 _ _ a.1 in
    let c = line_clear 2 _ _ b.1 in
    let d = line_clear 3 _ _ c.1 in
    let e = line_clear 8 _ _ d.1 in
    (not-false (is_fresh st.stage) a.0, begins-with set_up system notes p q b.0 c.0 d.0 (ltb-false (length notes) 4 (or-false (no_room room (length (first_piece set_up system))) (no_room (length notes) 4) e.0).1))

pub begin-runs : (ss : Session) (set_up system : List ℕ)
    → ss.pieces ≡ []
    → Begins set_up system ss.notes
    → Runs (goes_on ss (begin_step set_up system ss.notes)) (beginning set_up system) 0
unfolding begun first_piece piece_number follows stage_of first_time last_time pieces_of frame_pieces index_bytes entries_bytes bytes_of every in_order legal_table distinct tag_names
begin-runs ss set_up system e b =
    let r = beginning set_up system in
    let front : length (first_piece set_up system) ≡ frames_start r = unfold frames_start in ap (λ (s : List ℕ). length (front_bytes 0 0 0 (sections_of set_up) s)) b.system_bytes in
    let most : frames_start r ≤ 2000000 = unfold frames_start in front-most 0 0 0 (sections_of set_up) r.system b.eight_sections b.legal_sections b.legal_system in
    let end : frames_end r ≡ frames_start r = unfold frames_end flat_map in add-zero (frames_start r) in
    let user : user_start r ≡ frames_end r + 4 = unfold user_start in refl in
    record {
      legal =
          record {
            at_least_one_section = b.one_section;
            at_most_eight_sections = b.eight_sections;
            sections_legal = b.legal_sections;
            sections_differ = b.other_names;
            system_legal = b.legal_system;
            frames_few = omega arith;
            frames_legal = refl;
            frames_ordered = refl;
            user_legal = refl;
            user_offset_fits = omega arith;
          };
      no_user_tags = refl;
      pieces_are =
          ap (λ (l : List Piece). l ++ (piece 0 (first_piece set_up system) ∷ [])) e
          ∙ ap (λ (s : List ℕ). piece 0 (front_bytes 0 0 0 (sections_of set_up) s) ∷ []) b.system_bytes;
      stage_is = refl;
      at_most_five = omega arith;
      sections_are = refl;
      frames_are = refl;
      first_is = refl;
      last_is = refl;
      end_is = front ∙ sym end;
      state_holds =
          none-broken (begun set_up system)
          (record {
            some_sections = and-true (leb 1 (length (sections_of set_up))) (leb (length (sections_of set_up)) most_sections) (le-leb 1 (length (sections_of set_up)) b.one_section) (le-leb (length (sections_of set_up)) most_sections b.eight_sections);
            few_frames = omega arith;
            few_pieces = omega arith;
            in_time = refl;
            short = omega arith;
          });
      notes_long = rw (length-sets ss.notes 0 (replicate 4 0)) b.notes_four;
      notes_are = ap (λ (l : List ℕ). take 4 l) (sets-eq (replicate 4 0) ss.notes 0 b.notes_four);
    }

-- ── To add ──

abbrev pub add_step : State → (time exposure : ℕ) → (sections notes : List ℕ) → Step
add_step st time exposure sections notes = record { refused = 0; state = added st time exposure sections; piece = piece st.end (frame_piece time exposure sections); notes = noted st time exposure sections notes }

abbrev pub frame_given : State → (time exposure : ℕ) → (sections : List ℕ) → Frame
frame_given st time exposure sections = record { time = time; exposure = exposure; sections = value_or [] (exactly (times st.sections sized) sections) }

abbrev pub with_frame : Recording → Frame → Recording
with_frame r f = record { sections = r.sections; system = r.system; frames = r.frames ++ (f ∷ []); user = r.user }

-- what the state and the arguments say where a frame is accepted
pub record Adds (st : State) (time exposure : ℕ) (sections notes : List ℕ) : Type 0 where
  sound : Sound st
  frame_legal : legal_frame st.sections (frame_given st time exposure sections) ≡ true
  bytes_are : frame_piece time exposure sections ≡ frame_bytes (frame_given st time exposure sections)
  few_more : st.frames < most_frames
  short_more : st.end + length (frame_piece time exposure sections) + index_length (st.frames + 1) + largest_table ≤ 2 ^ 40
  clock_holds : bad_clock st time ≡ false
  notes_enough : index_length (st.frames + 1) ≤ length notes

-- a frame whose shape is right is legal but for its time, and its piece is its bytes
frame-given : (st : State) (time exposure : ℕ) (sections : List ℕ) → time < 2 ^ 64 → exposure < 2 ^ 32 → are_bytes sections ≡ true → bad_shape st sections ≡ false → (legal_frame st.sections (frame_given st time exposure sections) ≡ true) × (frame_piece time exposure sections ≡ frame_bytes (frame_given st time exposure sections))
unfolding bad_shape legal_frame frame_piece frame_bytes
frame-given st time exposure sections p q h k =
    let small : List ℕ → Bool = λ s. leb (length s) longest_section in
    let ss = value_or [] (exactly (times st.sections sized) sections) in
    let w = read-good [] (exactly (times st.sections sized) sections) k in
    let g = exactly-gives (λ xs. eqb (length xs) st.sections && every small xs) (flat_map sized_bytes) (times st.sections sized) (times-exact small sized_bytes sized st.sections sized-exact) sections ss _ h w in
    let b = both_true (eqb (length ss) st.sections) (every small ss) g.0 in
    let t = leb (suc time) (2 ^ 64) in
    let e = leb (suc exposure) (2 ^ 32) in
    let n = eqb (length ss) st.sections in
    (and-true (t && e && n) (every small ss) (and-true (t && e) n (and-true t e (le-leb (suc time) (2 ^ 64) p) (le-leb (suc exposure) (2 ^ 32) q)) b.0) b.1, ap (λ (l : List ℕ). frame_head_bytes time exposure ++ l) g.1)

pub adds-are : (st : State) (time exposure : ℕ) (sections notes : List ℕ) (room : ℕ)
    → time < 2 ^ 64
    → exposure < 2 ^ 32
    → are_bytes sections ≡ true
    → first_of (add_lines st time exposure sections notes room) ≡ 0
    → (is_running st.stage ≡ true)
    × Adds st time exposure sections notes
unfolding add_lines too_long
adds-are st time exposure sections notes room p q h k =
    let a = line_clear 11 _ _ k in
    let b = line_clear 13 _ _ a.1 in
    let c = line_clear 14 _ _ b.1 in
    let d = line_clear 12 _ _ c.1 in
    let e = line_clear 8 _ _ d.1 in
    let size = length (frame_piece time exposure sections) in
    let u = or-false (not (is_running st.stage)) (broken_state st) a.0 in
    let w = or-false (leb most_frames st.frames) (too_long (st.end + size) (st.frames + 1)) c.0 in
    let x = or-false (no_room room size) (no_room (length notes) (index_length (st.frames + 1))) e.0 in
    let given = frame-given st time exposure sections p q h b.0 in (
      not-false (is_running st.stage) u.0,
      record {
        sound = broken-none st u.1;
        frame_legal = given.0;
        bytes_are = given.1;
        few_more = leb-false most_frames st.frames w.0;
        short_more = ltb-false (2 ^ 40) (st.end + size + index_length (st.frames + 1) + largest_table) w.1;
        clock_holds = d.0;
        notes_enough = ltb-false (length notes) (index_length (st.frames + 1)) x.1;
      },
    )

pub end_more : (r : Recording) (f : Frame) → frames_end (with_frame r f) ≡ frames_end r + length (frame_bytes f)
unfolding frames_end frames_start flat_map
end_more r f = rw (flat_map-append, length-append, append-nil) (omega arith)

pieces_more : (r : Recording) (f : Frame) → pieces_of (with_frame r f) 0 ≡ pieces_of r 0 ++ (piece (frames_end r) (frame_bytes f) ∷ [])
unfolding pieces_of frames_end frames_start
pieces_more r f =
    let opening : Piece = piece 0 (front_bytes 0 0 0 r.sections (table_bytes r.system)) in
    let p : Piece = piece (frames_end r) (frame_bytes f) in
    ap (λ (l : List Piece). opening ∷ l) (append-nil _ ∙ frame_pieces-more (frames_start r) r.frames f ∙ ap (λ (l : List Piece). l ++ (p ∷ [])) (sym (append-nil (frame_pieces (frames_start r) r.frames))))

-- the last time of one frame more keeps the time rule with the first
time-more : (n first last time : ℕ) → follows first first last ≡ true → not (eqb n 0) && not (follows first last time) ≡ false → follows (cond (eqb n 0) time first) (cond (eqb n 0) time first) time ≡ true
unfolding follows
time-more n first last time h k = go (eqb n 0) k
  where
    go : (b : Bool) → not b && not (follows first last time) ≡ false → follows (cond b time first) (cond b time first) time ≡ true
    go true e = and-true (leb (rank time) (rank time)) (leb (rank time - rank time) longest_span) (le-leb (rank time) (rank time) (omega arith)) (le-leb (rank time - rank time) longest_span (omega arith))
    go false e =
        let x = both_true (leb (rank last) (rank time)) (leb (rank time - rank first) longest_span) (not-false (follows first last time) e) in
        let y = both_true (leb (rank first) (rank last)) (leb (rank last - rank first) longest_span) h in
        let p : rank last ≤ rank time = leb-true (rank last) (rank time) x.0 in
        let q : rank first ≤ rank last = leb-true (rank first) (rank last) y.0 in
        and-true (leb (rank first) (rank time)) (leb (rank time - rank first) longest_span) (le-leb (rank first) (rank time) (omega arith)) x.1

-- the notes of one frame more hold its index
index-noted : (notes : List ℕ) (at : ℕ) (fs : List Frame) (f : Frame) → take (index_length (length fs)) notes ≡ index_bytes at fs → index_length (length fs + 1) ≤ length notes → take (index_length (length fs + 1)) (sets (sets notes 0 (bytes_of 4 (length fs + 1))) (16 * (length fs + 1) - 12) (entry_bytes (first_time (fs ++ (f ∷ []))) f.time (at + length (flat_map frame_bytes fs)) (length (frame_bytes f)))) ≡ index_bytes at (fs ++ (f ∷ []))
index-noted notes at fs f e h =
    let n = length fs in
    let entry : List ℕ = entry_bytes (first_time (fs ++ (f ∷ []))) f.time (at + length (flat_map frame_bytes fs)) (length (frame_bytes f)) in
    let l : length entry ≡ 16 = length-entry (first_time (fs ++ (f ∷ []))) f.time (at + length (flat_map frame_bytes fs)) (length (frame_bytes f)) in
    let place : 16 * (n + 1) - 12 ≡ 4 + 16 * n = omega arith in
    let size : index_length (n + 1) ≡ 4 + 16 * n + length entry = omega arith in
    let m = notes-more notes (bytes_of 4 n) (bytes_of 4 (n + 1)) (entries_bytes (first_time fs) at fs) entry (16 * n) (unfold index_bytes in e) (length-bytes_of 4 n) (length-bytes_of 4 (n + 1)) (omega arith) in
    rw (place, size) (m ∙ sym (index-more at fs f))

pub length-noted : (st : State) (time exposure : ℕ) (sections notes : List ℕ) → length (noted st time exposure sections notes) ≡ length notes
unfolding noted
length-noted st time exposure sections notes = rw (length-sets, length-sets)

-- the notes after a frame, in the recording's own terms
noted-is : (st : State) (time exposure : ℕ) (sections notes : List ℕ) (r : Recording) (f : Frame) → st.frames ≡ length r.frames → first_after st time ≡ first_time (r.frames ++ (f ∷ [])) → time ≡ f.time → st.end ≡ frames_end r → frame_piece time exposure sections ≡ frame_bytes f → noted st time exposure sections notes ≡ sets (sets notes 0 (bytes_of 4 (length r.frames + 1))) (16 * (length r.frames + 1) - 12) (entry_bytes (first_time (r.frames ++ (f ∷ []))) f.time (frames_start r + length (flat_map frame_bytes r.frames)) (length (frame_bytes f)))
unfolding noted frames_end
noted-is st time exposure sections notes r f n g t e b = cc

pub add-runs : (ss : Session) (r : Recording) (time exposure : ℕ) (sections : List ℕ)
    → Runs ss r 0
    → Adds ss.state time exposure sections ss.notes
    → Runs (goes_on ss (add_step ss.state time exposure sections ss.notes)) (with_frame r (frame_given ss.state time exposure sections)) 0
unfolding added first_after piece_number stage_of bad_clock every
add-runs ss r time exposure sections h a =
    let st = ss.state in
    let f = frame_given st time exposure sections in
    let fs = r.frames in
    let frames : st.frames + 1 ≡ length (fs ++ (f ∷ [])) = rw length-append (omega arith) in
    let start : frames_start (with_frame r f) ≡ frames_start r = unfold frames_start in refl in
    let first : first_after st time ≡ first_time (fs ++ (f ∷ [])) = rw (h.frames_are, h.first_is) (sym (first_time-more fs f)) in
    let size : length (frame_piece time exposure sections) ≡ length (frame_bytes f) = ap length a.bytes_are in
    let end : st.end + length (frame_piece time exposure sections) ≡ frames_end (with_frame r f) = omega (arith, end_more r f) in
    let user : user_start (with_frame r f) ≡ frames_end (with_frame r f) + index_length (length (fs ++ (f ∷ []))) = unfold user_start in refl in
    record {
      legal =
          record {
            at_least_one_section = h.legal.at_least_one_section;
            at_most_eight_sections = h.legal.at_most_eight_sections;
            sections_legal = h.legal.sections_legal;
            sections_differ = h.legal.sections_differ;
            system_legal = h.legal.system_legal;
            frames_few = omega arith;
            frames_legal =
                rw every_append
                (and-true (every (legal_frame (length r.sections)) fs) (every (legal_frame (length r.sections)) (f ∷ [])) h.legal.frames_legal
                (and-true (legal_frame (length r.sections) f) true (subst (λ (k : ℕ). legal_frame k f ≡ true) h.sections_are a.frame_legal) refl));
            frames_ordered = order-more fs f h.legal.frames_ordered (rw (h.frames_are, h.first_is, h.last_is) at a.clock_holds);
            user_legal = h.legal.user_legal;
            user_offset_fits = omega arith;
          };
      no_user_tags = h.no_user_tags;
      pieces_are = cc (pieces_more r f);
      stage_is = refl;
      at_most_five = omega arith;
      sections_are = h.sections_are;
      frames_are = frames;
      first_is = first;
      last_is = sym (last_time-more 0 fs f);
      end_is = end;
      state_holds =
          none-broken (added st time exposure sections)
          (record {
            some_sections = a.sound.some_sections;
            few_frames = omega arith;
            few_pieces = omega arith;
            in_time = time-more st.frames st.first st.last time a.sound.in_time a.clock_holds;
            short = a.short_more;
          });
      notes_long = rw (length-noted st time exposure sections ss.notes) (omega arith);
      notes_are = rw (noted-is st time exposure sections ss.notes r f h.frames_are first refl h.end_is a.bytes_are, length-append fs (f ∷ []), start) (index-noted ss.notes (frames_start r) fs f h.notes_are (omega arith));
    }

-- ── To close ──

abbrev pub close_step : State → (notes : List ℕ) → Step
close_step st notes = record { refused = 0; state = closed_by st; piece = closing_piece st notes; notes = notes }

pub pieces-close : (r : Recording) (c : ℕ) → c ≤ 4 → pieces_of r (suc c) ≡ pieces_of r c ++ (get_or (closings r) c (piece 0 []) ∷ [])
unfolding pieces_of closings
pieces-close r c l = rw (take-suc (closings r) c (piece 0 []) (omega arith), append_assoc)

closings-are : (st : State) (notes : List ℕ) (r : Recording) → st.end ≡ frames_end r → st.frames ≡ length r.frames → take (index_length (length r.frames)) notes ≡ index_bytes (frames_start r) r.frames → closing_pieces st notes ≡ closings r
unfolding closing_pieces closings user_start
closings-are st notes r e n h = rw (e, n, h)

-- the next piece is the recording's
pub closing-is : (ss : Session) (r : Recording) (c : ℕ)
    → c ≤ 4
    → Runs ss r c
    → closing_piece ss.state ss.notes ≡ get_or (closings r) c (piece 0 [])
unfolding closing_piece
closing-is ss r c l h =
    ap (λ (ps : List Piece). get_or ps (piece_number ss.state.stage) (piece 0 [])) (closings-are ss.state ss.notes r h.end_is h.frames_are h.notes_are)
    ∙ ap (λ (n : ℕ). get_or (closings r) n (piece 0 [])) (ap piece_number h.stage_is ∙ (at_piece c l).0)

pub close-runs : (ss : Session) (r : Recording) (c : ℕ) → c ≤ 4 → Runs ss r c → Runs (goes_on ss (close_step ss.state ss.notes)) r (suc c)
unfolding closed_by
close-runs ss r c l h =
    let st = ss.state in
    let s = broken-none st h.state_holds in
    let stage : stage_after (piece_number st.stage) ≡ stage_of (suc c) = ap (λ (x : Stage). stage_after (piece_number x)) h.stage_is ∙ ap stage_after (at_piece c l).0 ∙ (at_piece c l).2 in
    let last : closing_piece st ss.notes ≡ get_or (closings r) c (piece 0 []) = closing-is ss r c l h in
    record {
      legal = h.legal;
      no_user_tags = h.no_user_tags;
      pieces_are = cc (pieces-close r c l);
      stage_is = stage;
      at_most_five = omega arith;
      sections_are = h.sections_are;
      frames_are = h.frames_are;
      first_is = h.first_is;
      last_is = h.last_is;
      end_is = h.end_is;
      state_holds =
          none-broken (closed_by st)
          (record {
            some_sections = s.some_sections;
            few_frames = s.few_frames;
            few_pieces = rw stage (at_piece c l).3;
            in_time = s.in_time;
            short = s.short;
          });
      notes_long = h.notes_long;
      notes_are = h.notes_are;
    }

-- ── One call ──

reached-begins : (ss : Session) (r : Recording) (set_up system : List ℕ) (room : ℕ) → call_fits (begins set_up system room) ≡ true → Reached ss r → Reached (called ss (begins set_up system room)) (given_by ss (begins set_up system room) r)
unfolding called given_by begin call_fits is_fresh
reached-begins ss r set_up system room f h = reach ss r (beginning set_up system) _ (begin_step set_up system ss.notes) refl h (λ z. go z h)
  where
    after : is_fresh ss.state.stage ≡ true → Begins set_up system ss.notes → Reached ss r → Reached (goes_on ss (begin_step set_up system ss.notes)) (beginning set_up system)
    after e b (inl t) = inr (0, begin-runs ss set_up system t.1 b)
    after e b (inr t) = absurd (true-not-false (sym e ∙ ap is_fresh t.1.stage_is ∙ not-fresh t.0))

    go : first_of (begin_lines ss.state set_up system ss.notes room) ≡ 0 → Reached ss r → Reached (goes_on ss (begin_step set_up system ss.notes)) (beginning set_up system)
    go z k =
        let b = both_true (are_bytes set_up) (are_bytes system) f in
        let d = begins-are ss.state set_up system ss.notes room b.0 b.1 z in
        after d.0 d.1 k

reached-adds : (ss : Session) (r : Recording) (time exposure : ℕ) (sections : List ℕ) (room : ℕ) → call_fits (adds time exposure sections room) ≡ true → Reached ss r → Reached (called ss (adds time exposure sections room)) (given_by ss (adds time exposure sections room) r)
unfolding called given_by add call_fits is_running
reached-adds ss r time exposure sections room f h = reach ss r (with_frame r (frame_given ss.state time exposure sections)) _ (add_step ss.state time exposure sections ss.notes) refl h (λ z. go z h)
  where
    after : is_running ss.state.stage ≡ true → Adds ss.state time exposure sections ss.notes → Reached ss r → Reached (goes_on ss (add_step ss.state time exposure sections ss.notes)) (with_frame r (frame_given ss.state time exposure sections))
    after e a (inl t) = absurd (true-not-false (sym e ∙ ap (λ (s : State). is_running s.stage) t.0))
    after e a (inr t) = inr (0, add-runs ss r time exposure sections (subst (λ (c : ℕ). Runs ss r c) (running_none t.0 (sym (ap is_running t.1.stage_is) ∙ e)) t.1) a)

    go : first_of (add_lines ss.state time exposure sections ss.notes room) ≡ 0 → Reached ss r → Reached (goes_on ss (add_step ss.state time exposure sections ss.notes)) (with_frame r (frame_given ss.state time exposure sections))
    go z k =
        let b = both_true (ltb time (2 ^ 64) && ltb exposure (2 ^ 32)) (are_bytes sections) f in
        let c = both_true (ltb time (2 ^ 64)) (ltb exposure (2 ^ 32)) b.0 in
        let d = adds-are ss.state time exposure sections ss.notes room (ltb-true time (2 ^ 64) c.0) (ltb-true exposure (2 ^ 32) c.1) b.1 z in
        after d.0 d.1 k

reached-closes : (ss : Session) (r : Recording) (room : ℕ) → Reached ss r → Reached (called ss (closes room)) (given_by ss (closes room) r)
unfolding called given_by close close_lines takes_close
reached-closes ss r room h = subst (Reached (passed_on ss (close ss.state ss.notes room))) (cond_same (accepted (close ss.state ss.notes room)) r) (reach ss r r _ (close_step ss.state ss.notes) refl h (λ z. go z h))
  where
    after : takes_close ss.state.stage ≡ true → Reached ss r → Reached (goes_on ss (close_step ss.state ss.notes)) r
    after e (inl t) = absurd (true-not-false (sym e ∙ ap (λ (s : State). takes_close s.stage) t.0))
    after e (inr t) = inr (suc t.0, close-runs ss r t.0 (closes-more t.0 t.1.at_most_five (sym (ap takes_close t.1.stage_is) ∙ e)) t.1)

    go : first_of (close_lines ss.state ss.notes room) ≡ 0 → Reached ss r → Reached (goes_on ss (close_step ss.state ss.notes)) r
    go z k = after (not-false (takes_close ss.state.stage) (or-false (not (takes_close ss.state.stage)) (broken_state ss.state) (line_clear 11 _ _ z).0).0) k

pub reached-call : (ss : Session) (r : Recording) (c : Call) → call_fits c ≡ true → Reached ss r → Reached (called ss c) (given_by ss c r)
reached-call ss r (begins set_up system room) f h = reached-begins ss r set_up system room f h
reached-call ss r (adds time exposure sections room) f h = reached-adds ss r time exposure sections room f h
reached-call ss r (closes room) f h = reached-closes ss r room h

-- any calls
pub reached : (ss : Session) (r : Recording) (calls : List Call)
    → every call_fits calls ≡ true
    → Reached ss r
    → Reached (session ss calls) (given ss calls r)
unfolding session given every
reached ss r [] f h = h
reached ss r (c ∷ cs) f h =
    let b = both_true (call_fits c) (every call_fits cs) f in
    reached (called ss c) (given_by ss c r) cs b.1 (reached-call ss r c b.0 h)

-- Whatever the calls were, the session is still fresh and nothing was handed out, or it has recorded what it was given.
pub traced : (notes : List ℕ) (calls : List Call)
    → every call_fits calls ≡ true
    → (((session (started notes) calls).state ≡ fresh_state) × ((session (started notes) calls).pieces ≡ []))
    ⊎ ((c : ℕ) × Runs (session (started notes) calls) (given (started notes) calls nothing_given) c)
unfolding started
traced notes calls h = reached (started notes) nothing_given calls h (inl (refl, refl))
