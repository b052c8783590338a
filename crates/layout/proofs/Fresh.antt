-- "A recording of ours starts from a fresh state": any state whose stage is fresh, whatever its numbers. A session from it goes as the one from the fresh
-- state with zeros, and so every claim about recordings and cuts holds of it. Assumes nothing.
use Prim.Native.Nat.{ℕ, zero, suc, ◌≤◌, ◌<◌}
use native.Mathlib.Omega.{arith}
use mathlib.Core.Path.{◌≡◌, refl, ap, sym, ◌∙◌}
use mathlib.Core.Bool.{true, false, not, ◌||◌}
use mathlib.Core.Logic.{◌⊎◌, inl, inr}
use mathlib.Core.List.{List, [], ◌∷◌}
use lib.ListN.{length, take}
use lib.Pow.{are_bytes}
use Rattle.layout.specs.Recording.{Recording, Legal, every, index_length, encode}
use Rattle.layout.specs.Opening.{first_of, refusal, shown}
use Rattle.layout.specs.Recorder.{Stage, fresh, running, closed, is_fresh, is_running, takes_close, State, Step, Piece, answer, broken_state, begin_lines, begin, add_lines, add, close_lines, close}
use Rattle.layout.specs.Repair.{repair, repaired, tail}
use Rattle.layout.specs.Storage.{Call, begins, adds, closes, Session, fresh_state, started, started_from, piece_of, passed_on, called, session, accepted, given_by, given, nothing_given, call_fits, writes, stored, file_of, cut_file}
use Rattle.layout.proofs.Lines.{line-holds}
use Rattle.layout.proofs.Calls.{calls_of}
use Rattle.layout.proofs.Recorded.{recorded, recordable}
use Rattle.layout.proofs.CutRepairs.{Recovers}
use Rattle.layout.proofs.Condition3.{ours, our_cut, at_call, closed_there, LastComplete, Shows, cut-recovers, cut_holds, cut-room, cut-early, cut-nothing, cut-shows-whole}

-- ── One call ──

-- the two sessions are the same, or both are still as they started
Alike : State → List ℕ → Session → Session → Type 0
Alike st notes a b = (a ≡ b) ⊎ ((a ≡ started_from st notes) × (b ≡ started notes))

-- the same number for both: both go on alike, or both are refused
answers-alike : (st : State) (notes : List ℕ) (m n : ℕ) (step : Step) → m ≡ n → Alike st notes (passed_on (started_from st notes) (answer m st notes step)) (passed_on (started notes) (answer n fresh_state notes step))
unfolding Alike passed_on piece_of answer started
answers-alike st notes zero n step e = inl (rw (← e))
answers-alike st notes (suc m) n step e = inr (refl, rw (← e))

-- a call that fresh does not take
refused-alike : (st : State) (notes : List ℕ) (m n : ℕ) (step other : Step) → m ≡ 12 → n ≡ 12 → Alike st notes (passed_on (started_from st notes) (answer m st notes step)) (passed_on (started notes) (answer n fresh_state notes other))
unfolding Alike passed_on piece_of answer started
refused-alike st notes m n step other p q = rw (p, q) (inr (refl, refl))

accepts-alike : (st : State) (notes : List ℕ) (m n : ℕ) (step : Step) → m ≡ n → accepted (answer m st notes step) ≡ accepted (answer n fresh_state notes step)
unfolding accepted answer
accepts-alike st notes zero n step e = rw (← e)
accepts-alike st notes (suc m) n step e = rw (← e)

accepts-none : (st : State) (notes : List ℕ) (m : ℕ) (step : Step) → m ≡ 12 → accepted (answer m st notes step) ≡ false
unfolding accepted answer
accepts-none st notes m step e = rw e

-- the numbers of a fresh state are not looked at to begin
begin-lines : (st : State) (set_up system notes : List ℕ) (room : ℕ) → st.stage ≡ fresh → first_of (begin_lines st set_up system notes room) ≡ first_of (begin_lines fresh_state set_up system notes room)
unfolding begin_lines
begin-lines st set_up system notes room e = rw e

-- fresh takes no frame and no close call
add-lines : (st : State) (time exposure : ℕ) (sections notes : List ℕ) (room : ℕ) → st.stage ≡ fresh → first_of (add_lines st time exposure sections notes room) ≡ 12
unfolding add_lines is_running
add-lines st time exposure sections notes room e = line-holds 12 (not (is_running st.stage) || broken_state st) _ (rw e)

close-lines : (st : State) (notes : List ℕ) (room : ℕ) → st.stage ≡ fresh → first_of (close_lines st notes room) ≡ 12
unfolding close_lines takes_close
close-lines st notes room e = line-holds 12 (not (takes_close st.stage) || broken_state st) _ (rw e)

call-alike : (st : State) (notes : List ℕ) (c : Call) → st.stage ≡ fresh → Alike st notes (called (started_from st notes) c) (called (started notes) c)
unfolding called begin add close started
call-alike st notes (begins set_up system room) e = answers-alike st notes _ _ _ (begin-lines st set_up system notes room e)
call-alike st notes (adds time exposure sections room) e = refused-alike st notes _ _ _ _ (add-lines st time exposure sections notes room e) (add-lines fresh_state time exposure sections notes room refl)
call-alike st notes (closes room) e = refused-alike st notes _ _ _ _ (close-lines st notes room e) (close-lines fresh_state notes room refl)

given-alike : (st : State) (notes : List ℕ) (c : Call) (r : Recording) → st.stage ≡ fresh → given_by (started_from st notes) c r ≡ given_by (started notes) c r
unfolding given_by begin add started
given-alike st notes (begins set_up system room) r e = rw (accepts-alike st notes _ _ _ (begin-lines st set_up system notes room e))
given-alike st notes (adds time exposure sections room) r e = rw (accepts-none st notes _ _ (add-lines st time exposure sections notes room e), accepts-none fresh_state notes _ _ (add-lines fresh_state time exposure sections notes room refl))
given-alike st notes (closes room) r e = refl

-- ── Any calls ──

sessions-alike : (st : State) (notes : List ℕ) (calls : List Call) → st.stage ≡ fresh → Alike st notes (session (started_from st notes) calls) (session (started notes) calls)
unfolding session Alike
sessions-alike st notes [] e = inr (refl, refl)
sessions-alike st notes (c ∷ cs) e = go (call-alike st notes c e) (sessions-alike st notes cs e)
  where
    go : Alike st notes (called (started_from st notes) c) (called (started notes) c) → Alike st notes (session (started_from st notes) cs) (session (started notes) cs) → Alike st notes (session (called (started_from st notes) c) cs) (session (called (started notes) c) cs)
    go (inl s) i = inl (ap (λ (ss : Session). session ss cs) s)
    go (inr (a, b)) i = rw (a, b) i

-- Whatever a fresh state's numbers are, the calls are given the same,
pub fresh-given : (st : State) (notes : List ℕ) (calls : List Call) (r : Recording)
    → st.stage ≡ fresh
    → given (started_from st notes) calls r ≡ given (started notes) calls r
unfolding given Alike
fresh-given st notes [] r e = refl
fresh-given st notes (c ∷ cs) r e = go (call-alike st notes c e) (λ (x : Recording). fresh-given st notes cs x e)
  where
    go : Alike st notes (called (started_from st notes) c) (called (started notes) c) → ((x : Recording) → given (started_from st notes) cs x ≡ given (started notes) cs x) → given (called (started_from st notes) c) cs (given_by (started_from st notes) c r) ≡ given (called (started notes) c) cs (given_by (started notes) c r)
    go (inl s) i = rw (s, given-alike st notes c r e)
    go (inr (a, b)) i = rw (a, b, given-alike st notes c r e) (i (given_by (started notes) c r))

-- hand out the same pieces, leave the same notes and the same stage, and from the accepted call to begin on the same state.
pub fresh_start : (st : State) (notes : List ℕ) (calls : List Call)
    → st.stage ≡ fresh
    → ((session (started_from st notes) calls).pieces ≡ (session (started notes) calls).pieces)
    × ((session (started_from st notes) calls).notes ≡ (session (started notes) calls).notes)
    × ((session (started_from st notes) calls).state.stage ≡ (session (started notes) calls).state.stage)
    × (((session (started notes) calls).state.stage ≡ fresh → ⊥) → (session (started_from st notes) calls).state ≡ (session (started notes) calls).state)
unfolding Alike started
fresh_start st notes calls e = go (sessions-alike st notes calls e)
  where
    go : Alike st notes (session (started_from st notes) calls) (session (started notes) calls) → ((session (started_from st notes) calls).pieces ≡ (session (started notes) calls).pieces) × ((session (started_from st notes) calls).notes ≡ (session (started notes) calls).notes) × ((session (started_from st notes) calls).state.stage ≡ (session (started notes) calls).state.stage) × (((session (started notes) calls).state.stage ≡ fresh → ⊥) → (session (started_from st notes) calls).state ≡ (session (started notes) calls).state)
    go (inl s) = rw s (refl, refl, refl, λ d. refl)
    go (inr (a, b)) = rw (a, b) (refl, refl, e, λ d. absurd (d refl))

-- past fresh, the two sessions are the same
fresh-past : (st : State) (notes : List ℕ) (calls : List Call) → st.stage ≡ fresh → ((session (started notes) calls).state.stage ≡ fresh → ⊥) → session (started_from st notes) calls ≡ session (started notes) calls
unfolding Alike started
fresh-past st notes calls e d = go (sessions-alike st notes calls e)
  where
    go : Alike st notes (session (started_from st notes) calls) (session (started notes) calls) → session (started_from st notes) calls ≡ session (started notes) calls
    go (inl s) = s
    go (inr (a, b)) = absurd (d (ap (λ (ss : Session). ss.state.stage) b))

running-past : (s : Stage) → s ≡ running → s ≡ fresh → ⊥
unfolding is_fresh
running-past s r f = let z : false ≡ true = ap is_fresh (sym r ∙ f) in let y : ◌≡◌ {A = ℕ} 0 1 = cc in omega arith

closed-past : (s : Stage) → s ≡ closed → s ≡ fresh → ⊥
unfolding is_fresh
closed-past s r f = let z : false ≡ true = ap is_fresh (sym r ∙ f) in let y : ◌≡◌ {A = ℕ} 0 1 = cc in omega arith

-- ── What is recorded ──

-- `recorded`, from any fresh state
pub recorded-from : (st : State) (notes : List ℕ) (calls : List Call)
    → st.stage ≡ fresh
    → every call_fits calls ≡ true
    → (session (started_from st notes) calls).state.stage ≡ closed
    → Legal (given (started_from st notes) calls nothing_given)
    × (file_of (session (started_from st notes) calls) ≡ encode (given (started_from st notes) calls nothing_given))
    × (refusal (file_of (session (started_from st notes) calls)) ≡ 0)
    × (shown (file_of (session (started_from st notes) calls)) ≡ given (started_from st notes) calls nothing_given)
recorded-from st notes calls e h c =
    let z : (session (started notes) calls).state.stage ≡ closed = sym (fresh_start st notes calls e).2 ∙ c in
    rw (fresh-past st notes calls e (closed-past _ z), fresh-given st notes calls nothing_given e) (recorded notes calls h z)

-- `recordable`, from any fresh state
pub recordable-from : (st : State) (r : Recording) (notes : List ℕ) (room : ℕ)
    → st.stage ≡ fresh
    → Legal r
    → r.user ≡ []
    → are_bytes (encode r) ≡ true
    → index_length (length r.frames) ≤ length notes
    → length (encode r) ≤ room
    → (every call_fits (calls_of r room) ≡ true)
    × ((session (started_from st notes) (calls_of r room)).state.stage ≡ closed)
    × (given (started_from st notes) (calls_of r room) nothing_given ≡ r)
    × (file_of (session (started_from st notes) (calls_of r room)) ≡ encode r)
recordable-from st r notes room e l u h n o =
    let c = recordable r notes room l u h n o in
    rw (fresh-past st notes (calls_of r room) e (closed-past _ c.1), fresh-given st notes (calls_of r room) nothing_given e) c

-- ── Cuts ──

-- the recording as it was after the first q calls
unfoldable pub at_call_from : (st : State) (notes : List ℕ) (calls : List Call) → ℕ → Session
at_call_from st notes calls q = session (started_from st notes) (take q calls)

-- the file, cut after m bytes
abbrev pub cut_from : (st : State) (notes : List ℕ) (calls : List Call) (m : ℕ) → List ℕ
cut_from st notes calls m = cut_file m (session (started_from st notes) calls)

-- the moment right after the last complete frame, as in Condition3
pub record LastCompleteFrom (st : State) (notes : List ℕ) (calls : List Call) (m q : ℕ) : Type 0 where
  pub is_running : (at_call_from st notes calls q).state.stage ≡ running
  pub in_the_cut : length (writes (at_call_from st notes calls q).pieces) ≤ m
  pub is_last : (q' : ℕ)
      → (at_call_from st notes calls q').state.stage ≡ running
      → length (writes (at_call_from st notes calls q').pieces) ≤ m
      → (at_call_from st notes calls q').state.frames ≤ (at_call_from st notes calls q).state.frames

-- at a moment where it runs, the recording is the one from the zeros
running-same : (st : State) (notes : List ℕ) (calls : List Call) (q : ℕ) → st.stage ≡ fresh → (at_call notes calls q).state.stage ≡ running → at_call_from st notes calls q ≡ at_call notes calls q
unfolding at_call at_call_from
running-same st notes calls q e r = fresh-past st notes (take q calls) e (running-past _ r)

same-stage : (st : State) (notes : List ℕ) (calls : List Call) (q : ℕ) → st.stage ≡ fresh → (at_call_from st notes calls q).state.stage ≡ (at_call notes calls q).state.stage
unfolding at_call at_call_from
same-stage st notes calls q e = (fresh_start st notes (take q calls) e).2

same-pieces : (st : State) (notes : List ℕ) (calls : List Call) (q : ℕ) → st.stage ≡ fresh → (at_call_from st notes calls q).pieces ≡ (at_call notes calls q).pieces
unfolding at_call at_call_from
same-pieces st notes calls q e = (fresh_start st notes (take q calls) e).0

same-cut : (st : State) (notes : List ℕ) (calls : List Call) (m : ℕ) → st.stage ≡ fresh → cut_from st notes calls m ≡ our_cut notes calls m
unfolding cut_file
same-cut st notes calls m e = ap (λ (ps : List Piece). stored [] (take m (writes ps))) (fresh_start st notes calls e).0

module _ (st : State) (notes : List ℕ) (calls : List Call) (m q : ℕ) (e : st.stage ≡ fresh) where
  last-from : LastComplete notes calls m q → LastCompleteFrom st notes calls m q
  last-from l =
      let s = running-same st notes calls q e l.is_running in
      record {
        is_running = same-stage st notes calls q e ∙ l.is_running;
        in_the_cut = rw s l.in_the_cut;
        is_last = λ p r k.
            let n : (at_call notes calls p).state.stage ≡ running = sym (same-stage st notes calls p e) ∙ r in
            let t = running-same st notes calls p e n in
            rw (s, t) (l.is_last p n (rw t at k));
      }

  from_last : LastCompleteFrom st notes calls m q → LastComplete notes calls m q
  from_last l =
      let n : (at_call notes calls q).state.stage ≡ running = sym (same-stage st notes calls q e) ∙ l.is_running in
      let s = running-same st notes calls q e n in
      record {
        is_running = n;
        in_the_cut = rw s at l.in_the_cut;
        is_last = λ p r k.
            let t = running-same st notes calls p e r in
            rw (s, t) at (l.is_last p (rw t r) (rw t k));
      }

-- `cut-recovers`, from any fresh state
pub cut-recovers-from : (st : State) (notes : List ℕ) (calls : List Call) (m : ℕ) (opening : Piece) (others : List Piece)
    → st.stage ≡ fresh
    → every call_fits calls ≡ true
    → (session (started_from st notes) calls).pieces ≡ opening ∷ others
    → length opening.bytes ≤ m
    → (q : ℕ)
    × LastCompleteFrom st notes calls m q
    × ((room : ℕ)
    → 8 ≤ room
    → index_length (at_call_from st notes calls q).state.frames ≤ room
    → ((closed_there room (at_call_from st notes calls q)).state.stage ≡ closed)
    × Recovers (cut_from st notes calls m) (file_of (closed_there room (at_call_from st notes calls q))))
cut-recovers-from st notes calls m opening others e h p l =
    let c = cut-recovers notes calls m opening others h (sym (fresh_start st notes calls e).0 ∙ p) l in
    let s = running-same st notes calls c.0 e c.1.is_running in
    (c.0, last-from st notes calls m c.0 e c.1, λ room a b. rw (s, same-cut st notes calls m e) (c.2 room a (rw s at b)))

-- `cut_holds`, from any fresh state
pub cut-holds-from : (st : State) (notes : List ℕ) (calls : List Call) (m q : ℕ) (opening : Piece) (others : List Piece)
    → st.stage ≡ fresh
    → every call_fits calls ≡ true
    → (session (started_from st notes) calls).pieces ≡ opening ∷ others
    → length opening.bytes ≤ m
    → LastCompleteFrom st notes calls m q
    → Shows (cut_from st notes calls m) (given (started_from st notes) (take q calls) nothing_given)
    ⊎ ((out : ℕ)
    → length (tail (cut_from st notes calls m)) ≤ out
    → Shows (repaired (cut_from st notes calls m) (repair (cut_from st notes calls m) out)) (given (started_from st notes) (take q calls) nothing_given))
cut-holds-from st notes calls m q opening others e h p l last =
    rw (same-cut st notes calls m e, fresh-given st notes (take q calls) nothing_given e)
    (cut_holds notes calls m q opening others h (sym (fresh_start st notes calls e).0 ∙ p) l (from_last st notes calls m q e last))

-- `cut-room`, `cut-early`, `cut-nothing` and `cut-shows-whole`, from any fresh state
pub cut-room-from : (st : State) (notes : List ℕ) (calls : List Call) (m out : ℕ) (opening : Piece) (others : List Piece)
    → st.stage ≡ fresh
    → every call_fits calls ≡ true
    → (session (started_from st notes) calls).pieces ≡ opening ∷ others
    → length opening.bytes ≤ m
    → (refusal (cut_from st notes calls m) ≡ 0 → ⊥)
    → out < length (tail (cut_from st notes calls m))
    → (repair (cut_from st notes calls m) out).refused ≡ 9
cut-room-from st notes calls m out opening others e h p l n o =
    let s = same-cut st notes calls m e in
    rw s (cut-room notes calls m out opening others h (sym (fresh_start st notes calls e).0 ∙ p) l (rw s at n) (rw s at o))

pub cut-early-from : (st : State) (notes : List ℕ) (calls : List Call) (m out : ℕ) (opening : Piece) (others : List Piece)
    → st.stage ≡ fresh
    → every call_fits calls ≡ true
    → (session (started_from st notes) calls).pieces ≡ opening ∷ others
    → m < length opening.bytes
    → ((repair (cut_from st notes calls m) out).refused ≡ 1)
    ⊎ ((repair (cut_from st notes calls m) out).refused ≡ 3)
    ⊎ ((repair (cut_from st notes calls m) out).refused ≡ 4)
cut-early-from st notes calls m out opening others e h p l =
    rw (same-cut st notes calls m e) (cut-early notes calls m out opening others h (sym (fresh_start st notes calls e).0 ∙ p) l)

pub cut-nothing-from : (st : State) (notes : List ℕ) (calls : List Call) (m out : ℕ)
    → st.stage ≡ fresh
    → (session (started_from st notes) calls).pieces ≡ []
    → (repair (cut_from st notes calls m) out).refused ≡ 1
cut-nothing-from st notes calls m out e p = rw (same-cut st notes calls m e) (cut-nothing notes calls m out (sym (fresh_start st notes calls e).0 ∙ p))

pub cut-shows-whole-from : (st : State) (notes : List ℕ) (calls : List Call) (m : ℕ)
    → st.stage ≡ fresh
    → every call_fits calls ≡ true
    → refusal (cut_from st notes calls m) ≡ 0
    → ((session (started_from st notes) calls).state.stage ≡ closed)
    × (cut_from st notes calls m ≡ file_of (session (started_from st notes) calls))
    × (shown (cut_from st notes calls m) ≡ given (started_from st notes) calls nothing_given)
cut-shows-whole-from st notes calls m e h o =
    let s = same-cut st notes calls m e in
    let w = cut-shows-whole notes calls m h (rw s at o) in
    let f : file_of (session (started_from st notes) calls) ≡ file_of (ours notes calls) = unfold file_of in ap (λ (ps : List Piece). stored [] (writes ps)) (fresh_start st notes calls e).0 in
    ((fresh_start st notes calls e).2 ∙ w.0, s ∙ w.1 ∙ sym f, rw (s, fresh-given st notes calls nothing_given e) w.2)
