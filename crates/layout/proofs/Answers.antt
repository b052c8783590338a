-- What a recorder's answer does to a session, and what a state that breaks no limit keeps.
-- Assumes nothing.
use Prim.Native.Nat.{ℕ, zero, suc, ◌+◌, ◌^◌, ◌≤◌}
use native.Mathlib.Omega.{arith}
use mathlib.Core.Path.{◌≡◌, refl, ap}
use mathlib.Core.Bool.{true, false, not, ◌||◌}
use mathlib.Core.Logic.{◌⊎◌, inl, inr}
use mathlib.Core.List.{List, [], ◌∷◌, ◌++◌, append-nil}
use lib.Dec.{ltb, eqb-suc-zero}
use borrow.Author.Tests.{not-false, ltb-false, le-ltb, eq-eqb}
use Rattle.layout.specs.Recording.{most_sections, most_frames, largest_table, within, follows, index_length}
use Rattle.layout.specs.Recorder.{State, Piece, Step, answer, piece_number, too_long, broken_state}
use Rattle.layout.specs.Storage.{Session, piece_of, passed_on, accepted}
use Rattle.layout.proofs.Lists.{or-false, not-or}

-- ── An answer ──

-- the session after an accepted step
abbrev pub goes_on : Session → Step → Session
goes_on ss step = record { state = step.state; notes = step.notes; pieces = ss.pieces ++ (step.piece ∷ []) }

-- where no line holds, the call is accepted
pub goes_on_lem : (ss : Session) (n : ℕ) (step : Step) → step.refused ≡ 0 → n ≡ 0 → passed_on ss (answer n ss.state ss.notes step) ≡ goes_on ss step
unfolding passed_on piece_of answer
goes_on_lem ss zero step e h = ap {B = Session} (λ (n : ℕ). record { state = step.state; notes = step.notes; pieces = ss.pieces ++ piece_of step n }) e
goes_on_lem ss (suc n) step e h = absurd (omega arith)

-- and so says its answer
pub is-accepted : (st : State) (notes : List ℕ) (n : ℕ) (step : Step) → step.refused ≡ 0 → n ≡ 0 → accepted (answer n st notes step) ≡ true
unfolding answer accepted
is-accepted st notes zero step e h = eq-eqb step.refused 0 e
is-accepted st notes (suc n) step e h = absurd (omega arith)

-- A call is accepted, and the session goes on by its step, or it is refused, and the session is as it was.
pub answered : (ss : Session) (n : ℕ) (step : Step) → step.refused ≡ 0 → ((n ≡ 0) × (passed_on ss (answer n ss.state ss.notes step) ≡ goes_on ss step) × (accepted (answer n ss.state ss.notes step) ≡ true)) ⊎ ((passed_on ss (answer n ss.state ss.notes step) ≡ ss) × (accepted (answer n ss.state ss.notes step) ≡ false))
unfolding passed_on piece_of answer accepted
answered ss zero step e = inl (refl, goes_on_lem ss zero step e refl, is-accepted ss.state ss.notes zero step e refl)
answered ss (suc n) step e = inr (ap {B = Session} (λ (l : List Piece). record { state = ss.state; notes = ss.notes; pieces = l }) (append-nil ss.pieces), eqb-suc-zero n)

-- ── The state's numbers ──

-- what a state that breaks no limit keeps
pub record Sound (st : State) : Type 0 where
  pub some_sections : within 1 most_sections st.sections ≡ true
  pub few_frames : st.frames ≤ most_frames
  pub few_pieces : piece_number st.stage ≤ 4
  pub in_time : follows st.first st.first st.last ≡ true
  pub short : st.end + index_length st.frames + largest_table ≤ 2 ^ 40

pub broken-none : (st : State) → broken_state st ≡ false → Sound st
unfolding broken_state too_long
broken-none st h =
    let a = not (within 1 most_sections st.sections) in
    let b = ltb most_frames st.frames in
    let c = ltb 4 (piece_number st.stage) in
    let d = not (follows st.first st.first st.last) in
    let e = too_long st.end st.frames in
    let p = or-false (a || b || c || d) e h in
    let q = or-false (a || b || c) d p.0 in
    let r = or-false (a || b) c q.0 in
    let s = or-false a b r.0 in
    record {
      some_sections = not-false (within 1 most_sections st.sections) s.0;
      few_frames = ltb-false most_frames st.frames s.1;
      few_pieces = ltb-false 4 (piece_number st.stage) r.1;
      in_time = not-false (follows st.first st.first st.last) q.1;
      short = ltb-false (2 ^ 40) (st.end + index_length st.frames + largest_table) p.1;
    }

pub none-broken : (st : State) → Sound st → broken_state st ≡ false
unfolding broken_state too_long
none-broken st s =
    let a = not (within 1 most_sections st.sections) in
    let b = ltb most_frames st.frames in
    let c = ltb 4 (piece_number st.stage) in
    let d = not (follows st.first st.first st.last) in
    let e = too_long st.end st.frames in
    not-or (a || b || c || d) e
    (not-or (a || b || c) d
    (not-or (a || b) c
    (not-or a b (ap not s.some_sections) (le-ltb most_frames st.frames s.few_frames))
    (le-ltb 4 (piece_number st.stage) s.few_pieces))
    (ap not s.in_time))
    (le-ltb (2 ^ 40) (st.end + index_length st.frames + largest_table) s.short)
