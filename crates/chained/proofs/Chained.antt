-- The code's calls in a row are the session of the definitions' calls: the same state, the same notes and the same pieces. So conditions 2 and 3
-- hold of what the code itself hands out. Assumes nothing.
use Prim.Native.Nat.{ℕ, zero, suc, ◌^◌, ◌≤◌}
use mathlib.Core.Path.{◌≡◌, refl, ap, sym, ◌∙◌, subst}
use mathlib.Core.Bool.{true, ◌&&◌}
use mathlib.Core.List.{List, [], ◌∷◌, ◌++◌, map}
use lib.ListN.{length}
use lib.Dec.{ltb}
use lib.Pow.{are_bytes}
use borrow.Author.Tests.{lt-ltb}
use mir.Syntax.{w64}
use mir.Val.{of_z}
use mir.Facts.{Fits-of_z}
use Rattle.number.proofs.Bytes.{and-true}
use Rattle.layout.specs.Recording.{Legal, encode, every, index_length}
use Rattle.layout.specs.Opening.{refusal, shown}
use Rattle.layout.specs.Recorder as layout
use Rattle.layout.specs.Recorder.{State, Step, filled}
use Rattle.layout.specs.Storage.{Session, started_from, piece_of, passed_on, called, session, given, nothing_given, call_fits, file_of, cut_file}
use Rattle.layout.proofs.Fresh.{recorded-from, LastCompleteFrom, at_call_from, cut-recovers-from, cut-shows-whole-from}
use Rattle.layout.proofs.CutRepairs.{Recovers}
use Rattle.layout.proofs.Condition3.{closed_there}
use Rattle.stages.specs.Stages.{stage_of}
use Rattle.stages.specs.declared.Stage.TheVariants.{Fresh, Closed}
use Rattle.limits.specs.Limits.{state_in}
use Rattle.recorder.specs.Recorded.{numbers_of, state_of, answered, taken_of, made_of, made_begun, begin_of, add_of, close_of}
use Rattle.chained.specs.Chains.{LentCall, begins, adds, closes, Chain, pieces_in, after, chained, chain, recording, file_made, file_cut, call_of, Typed, AllTyped}
use Rattle.recorder.specs.declared.Recorder.{Recorder}
use Rattle.recorder.proofs.Bridge.{Held, begin-state, add-state, close-state, begin-held, add-held, close-held, piece-there}

-- ── One call ──

-- a chain and a session hold the same
pub record Same (ch : Chain) (ss : Session) : Type 0 where
  pub held : Held ch.recorder
  pub same_state : state_of ch.recorder ≡ ss.state
  pub same_notes : ch.notes ≡ ss.notes
  pub same_pieces : ch.pieces ≡ ss.pieces

pieces-there : (at : ℕ) (self : Recorder) (out : List ℕ) (step : Step)
    → pieces_in (made_of at self out step).taken.piece (made_of at self out step).out ≡ piece_of step step.refused
unfolding made_of taken_of answered pieces_in piece_of
pieces-there at self out step = go step.refused
  where
    go : (n : ℕ) → pieces_in (answered n at self step).piece (filled out step.piece.bytes) ≡ piece_of step n
    go zero = ap (λ (b : List ℕ). layout.piece step.piece.place b ∷ []) (piece-there out step.piece.bytes)
    go (suc n) = refl

after_same : (ch : Chain) (ss : Session) (at : ℕ) (out : List ℕ) (step : Step) → Same ch ss → Held (made_of at ch.recorder out step).taken.state
    → state_of (made_of at ch.recorder out step).taken.state ≡ step.state → Same (after ch (made_of at ch.recorder out step)) (passed_on ss step)
unfolding after passed_on made_of
after_same ch ss at out step s h e =
    record {
      held = h;
      same_state = e;
      same_notes = refl;
      same_pieces = rw s.same_pieces (ap (λ (l : List layout.Piece). ss.pieces ++ l) (pieces-there at ch.recorder out step));
    }

call_same : (ch : Chain) (ss : Session) (c : LentCall) → Typed c → Same ch ss → Same (chained ch c) (called ss (call_of c))
unfolding chained called call_of Typed begin_of made_begun add_of close_of
call_same ch ss (begins set_up system out) t s =
    let r = ch.recorder in
    let e : layout.begin (state_of r) set_up system ch.notes (length out) ≡ layout.begin ss.state set_up system ss.notes (length out) =
    rw (s.same_state, s.same_notes) in
    subst (λ (x : Step). Same (after ch (begin_of r set_up system ch.notes out)) (passed_on ss x)) e
    (after_same ch ss _ out _ s (begin-held r set_up system ch.notes out s.held) (begin-state r set_up system ch.notes out))
call_same ch ss (adds time exposure sections out) t s =
    let r = ch.recorder in
    let e : layout.add (state_of r) (of_z w64 time) exposure sections ch.notes (length out) ≡ layout.add ss.state
    (of_z w64 time) exposure sections ss.notes (length out) = rw (s.same_state, s.same_notes) in
    subst (λ (x : Step). Same (after ch (add_of r time exposure sections ch.notes out)) (passed_on ss x)) e
    (after_same ch ss _ out _ s (add-held r time exposure sections ch.notes out s.held t.0)
    (add-state r time exposure sections ch.notes out s.held t.0))
call_same ch ss (closes out) t s =
    let r = ch.recorder in
    let e : layout.close (state_of r) ch.notes (length out) ≡ layout.close ss.state ss.notes (length out) = rw (s.same_state, s.same_notes) in
    subst (λ (x : Step). Same (after ch (close_of r ch.notes out)) (passed_on ss x)) e
    (after_same ch ss _ out _ s (close-held r ch.notes out s.held) (close-state r ch.notes out s.held))

-- ── Any calls ──

pub chain_same : (ch : Chain) (ss : Session) (calls : List LentCall) → AllTyped calls → Same ch ss
    → Same (chain ch calls) (session ss (map call_of calls))
unfolding chain session AllTyped
chain_same ch ss [] t s = s
chain_same ch ss (c ∷ cs) t s = chain_same (chained ch c) (called ss (call_of c)) cs t.1 (call_same ch ss c t.0 s)

typed-fits : (c : LentCall) → Typed c → call_fits (call_of c) ≡ true
unfolding Typed call_of call_fits
typed-fits (begins set_up system out) t = and-true (are_bytes set_up) (are_bytes system) t.0 t.1
typed-fits (adds time exposure sections out) t =
    let a = ltb (of_z w64 time) (2 ^ 64) in
    let b = ltb exposure (2 ^ 32) in
    and-true (a && b) (are_bytes sections) (and-true a b (lt-ltb (of_z w64 time) (2 ^ 64) (Fits-of_z t.0).fits)
    (lt-ltb exposure (2 ^ 32) t.1)) t.2
typed-fits (closes out) t = refl

pub calls-fit : (calls : List LentCall) → AllTyped calls → every call_fits (map call_of calls) ≡ true
unfolding AllTyped every
calls-fit [] t = refl
calls-fit (c ∷ cs) t = and-true (call_fits (call_of c)) (every call_fits (map call_of cs)) (typed-fits c t.0) (calls-fit cs t.1)

-- ── A recording of ours, from a fresh recorder whatever its numbers ──

module _ (r : Recorder) (notes : List ℕ) (calls : List LentCall) (held : Held r) (fresh : r.stage ≡ Fresh) (typed : AllTyped calls) where
  -- the definitions' session of the same calls
  abbrev ours : Session
  ours = session (started_from (state_of r) notes) (map call_of calls)

  pub chain-session : (state_of (recording r notes calls).recorder ≡ ours.state) × ((recording r notes calls).notes ≡ ours.notes)
      × ((recording r notes calls).pieces ≡ ours.pieces)
  unfolding recording
  chain-session =
      let s = chain_same (record { recorder = r; notes = notes; pieces = [] }) (started_from (state_of r) notes) calls typed
      (record { held = held; same_state = refl; same_notes = refl; same_pieces = refl }) in
      (s.same_state, s.same_notes, s.same_pieces)

  begun : (state_of r).stage ≡ layout.fresh
  unfolding state_of state_in numbers_of stage_of
  begun = ap stage_of fresh

  closed-so : (recording r notes calls).recorder.stage ≡ Closed → ours.state.stage ≡ layout.closed
  unfolding state_of state_in numbers_of stage_of
  closed-so c = sym (ap (λ (st : State). st.stage) chain-session.0) ∙ ap stage_of c

  made-is : file_made (recording r notes calls) ≡ file_of ours
  unfolding file_made file_of
  made-is = rw chain-session.2

  cut-is : (m : ℕ) → file_cut m (recording r notes calls) ≡ cut_file m ours
  unfolding file_cut cut_file
  cut-is m = rw chain-session.2

  -- Condition 2: once the recorder is closed, what it handed out makes the bytes of what it was given, a legal recording, and opens again to it.
  pub chain-recorded : (recording r notes calls).recorder.stage ≡ Closed
      → Legal (given (started_from (state_of r) notes) (map call_of calls) nothing_given)
      × (file_made (recording r notes calls) ≡ encode (given (started_from (state_of r) notes) (map call_of calls) nothing_given))
      × (refusal (file_made (recording r notes calls)) ≡ 0)
      × (shown (file_made (recording r notes calls)) ≡ given (started_from (state_of r) notes) (map call_of calls) nothing_given)
  chain-recorded c = rw made-is (recorded-from (state_of r) notes (map call_of calls) begun (calls-fit calls typed) (closed-so c))

  -- Condition 3: a recording cut after any byte, its opening piece complete, is the file that closing right after the last complete frame would have
  -- given, and repair says so; or repair gives that file, byte for byte.
  pub chain-recovers : (m : ℕ) (opening : layout.Piece) (others : List layout.Piece)
      → (recording r notes calls).pieces ≡ opening ∷ others
      → length opening.bytes ≤ m
      → (q : ℕ)
      × LastCompleteFrom (state_of r) notes (map call_of calls) m q
      × ((room : ℕ)
      → 8 ≤ room
      → index_length (at_call_from (state_of r) notes (map call_of calls) q).state.frames ≤ room
      → ((closed_there room (at_call_from (state_of r) notes (map call_of calls) q)).state.stage ≡ layout.closed)
      × Recovers (file_cut m (recording r notes calls)) (file_of (closed_there room (at_call_from (state_of r) notes (map call_of calls) q))))
  chain-recovers m opening others p l =
      rw (cut-is m) (cut-recovers-from (state_of r) notes (map call_of calls) m opening others begun (calls-fit calls typed)
      (sym chain-session.2 ∙ p) l)

  -- and opening a cut file never shows anything but the whole recording
  pub chain-shows-whole : (m : ℕ)
      → refusal (file_cut m (recording r notes calls)) ≡ 0
      → (file_cut m (recording r notes calls) ≡ file_made (recording r notes calls))
      × (shown (file_cut m (recording r notes calls)) ≡ given (started_from (state_of r) notes) (map call_of calls) nothing_given)
  chain-shows-whole m o =
      let w = cut-shows-whole-from (state_of r) notes (map call_of calls) m begun (calls-fit calls typed) (rw (cut-is m) at o) in
      (cut-is m ∙ w.1 ∙ sym made-is, rw (cut-is m) w.2)
