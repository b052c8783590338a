-- The moments of a recording: what it had been given after the first of its calls, and where it had a given number of frames.
-- Assumes nothing.
use Prim.Native.Nat.{ℕ, suc, ◌+◌, ◌≤◌, ◌<◌}
use native.Mathlib.Omega.{arith}
use native.Mathlib.Nat.{eq-or-lt_of_le}
use mathlib.Core.Path.{◌≡◌, refl, ap, sym, ◌∙◌, subst, subst₂}
use mathlib.Core.Bool.{Bool, true, false, not, cond}
use mathlib.Core.Logic.{◌⊎◌, inl, inr}
use mathlib.Core.List.{List, [], ◌∷◌, ◌++◌, append_assoc, append-nil}
use lib.ListN.{length, take, length-append}
use lib.Dec.{ltb}
use borrow.Author.Tests.{not-false}
use Rattle.layout.specs.Recording.{Recording, Frame}
use Rattle.layout.specs.Recorder.{Stage, fresh, running, closing, closed, Step, is_fresh, is_running, takes_close, piece_number, stage_after, broken_state, answer, begin_lines, add_lines, close_lines, begin, add, close, begun, added, closed_by}
use Rattle.layout.specs.Storage.{Call, begins, adds, closes, Session, called, session, given_by, given, passed_on, accepted}
use Rattle.layout.proofs.Lists.{or-false, cond-true, cond-false, cond_same}
use Rattle.layout.proofs.Lines.{line_clear}
use Rattle.layout.proofs.Answers.{goes_on, answered}
use Rattle.layout.proofs.Trace.{begin_step, add_step, close_step, frame_given, with_frame}

-- ── Calls in a row ──

pub given-append : (ss : Session) (cs ds : List Call) (r : Recording) → given ss (cs ++ ds) r ≡ given (session ss cs) ds (given ss cs r)
unfolding session given
given-append ss [] ds r = refl
given-append ss (c ∷ cs) ds r = given-append (called ss c) cs ds (given_by ss c r)

pub session-append : (ss : Session) (cs ds : List Call) → session ss (cs ++ ds) ≡ session (session ss cs) ds
unfolding session
session-append ss [] ds = refl
session-append ss (c ∷ cs) ds = session-append (called ss c) cs ds

-- ── One call ──

-- r with more frames
unfoldable pub with_frames : Recording → List Frame → Recording
with_frames r fs = record { sections = r.sections; system = r.system; frames = r.frames ++ fs; user = r.user }

-- what a call can do: it is refused, begins the recording, adds a frame, or hands out a closing piece
pub data Happened (ss : Session) (r : Recording) (after : Session) (more : Recording) : Type 0 where
  was_refused : after ≡ ss → more ≡ r → Happened ss r after more
  has_begun : is_fresh ss.state.stage ≡ true → after.state.stage ≡ running → more.frames ≡ [] → Happened ss r after more
  has_grown : is_running ss.state.stage ≡ true → after.state.stage ≡ running → (f : Frame) → more ≡ with_frame r f → Happened ss r after more
  is_ending : takes_close ss.state.stage ≡ true → is_fresh after.state.stage ≡ false → is_running after.state.stage ≡ false → more ≡ r → Happened ss r after more

ending : (p : ℕ) → (is_fresh (stage_after p) ≡ false) × (is_running (stage_after p) ≡ false)
unfolding stage_after is_fresh is_running
ending p = go (ltb p 4)
  where
    go : (b : Bool) → (is_fresh (cond b (closing (p + 1)) closed) ≡ false) × (is_running (cond b (closing (p + 1)) closed) ≡ false)
    go true = (refl, refl)
    go false = (refl, refl)

-- an accepted call does what its step does, a refused one nothing
by-step : (ss : Session) (r more : Recording) (n : ℕ) (step : Step) → step.refused ≡ 0 → (n ≡ 0 → Happened ss r (goes_on ss step) more) → Happened ss r (passed_on ss (answer n ss.state ss.notes step)) (cond (accepted (answer n ss.state ss.notes step)) more r)
by-step ss r more n step e k = go (answered ss n step e)
  where
    go : ((n ≡ 0) × (passed_on ss (answer n ss.state ss.notes step) ≡ goes_on ss step) × (accepted (answer n ss.state ss.notes step) ≡ true)) ⊎ ((passed_on ss (answer n ss.state ss.notes step) ≡ ss) × (accepted (answer n ss.state ss.notes step) ≡ false)) → Happened ss r (passed_on ss (answer n ss.state ss.notes step)) (cond (accepted (answer n ss.state ss.notes step)) more r)
    go (inl t) = subst₂ (Happened ss r) (sym t.1) (sym (cond-true _ more r t.2)) (k t.0)
    go (inr t) = was_refused t.0 (cond-false _ more r t.1)

pub happened : (ss : Session) (c : Call) (r : Recording) → Happened ss r (called ss c) (given_by ss c r)
unfolding called given_by begin add close begun added closed_by begin_lines add_lines close_lines
happened ss (begins set_up system room) r =
    by-step ss r _ _ (begin_step set_up system ss.notes) refl λ z.
    has_begun (not-false (is_fresh ss.state.stage) (line_clear 11 (not (is_fresh ss.state.stage)) _ z).0) refl refl
happened ss (adds time exposure sections room) r =
    by-step ss r _ _ (add_step ss.state time exposure sections ss.notes) refl λ z.
    has_grown (not-false (is_running ss.state.stage) (or-false (not (is_running ss.state.stage)) (broken_state ss.state) (line_clear 11 _ _ z).0).0) refl (frame_given ss.state time exposure sections) refl
happened ss (closes room) r =
    subst (Happened ss r (passed_on ss (close ss.state ss.notes room))) (cond_same (accepted (close ss.state ss.notes room)) r)
    (by-step ss r r _ (close_step ss.state ss.notes) refl λ z.
    is_ending (not-false (takes_close ss.state.stage) (or-false (not (takes_close ss.state.stage)) (broken_state ss.state) (line_clear 11 _ _ z).0).0) (ending (piece_number ss.state.stage)).0 (ending (piece_number ss.state.stage)).1 refl)

-- ── All that comes later ──

never : {A : Type 0} (b : Bool) → b ≡ true → b ≡ false → A
never b p q = let z : ◌≡◌ {A = ℕ} 0 1 = cc in absurd (omega arith)

runs-not-fresh : (s : Stage) → is_running s ≡ true → is_fresh s ≡ false
unfolding is_running is_fresh
runs-not-fresh fresh h = never true refl (sym h)
runs-not-fresh running h = refl
runs-not-fresh (closing p) h = refl
runs-not-fresh closed h = refl

closes-not-fresh : (s : Stage) → takes_close s ≡ true → is_fresh s ≡ false
unfolding takes_close is_fresh
closes-not-fresh fresh h = never true refl (sym h)
closes-not-fresh running h = refl
closes-not-fresh (closing p) h = refl
closes-not-fresh closed h = refl

pub one_more : (r : Recording) (f : Frame) (fs : List Frame) → with_frames (with_frame r f) fs ≡ with_frames r (f ∷ fs)
unfolding with_frames
one_more r f fs = rw append_assoc

-- once begun, a recording is only given more frames
pub only-frames : (ss : Session) (calls : List Call) (r : Recording) → is_fresh ss.state.stage ≡ false → (fs : List Frame) × (given ss calls r ≡ with_frames r fs)
unfolding given with_frames is_fresh
only-frames ss [] r h = ([], rw append-nil)
only-frames ss (c ∷ cs) r h = go (happened ss c r) (only-frames (called ss c) cs (given_by ss c r))
  where
    go : Happened ss r (called ss c) (given_by ss c r) → (is_fresh (called ss c).state.stage ≡ false → (fs : List Frame) × (given (called ss c) cs (given_by ss c r) ≡ with_frames (given_by ss c r) fs)) → (fs : List Frame) × (given ss (c ∷ cs) r ≡ with_frames r fs)
    go (was_refused e g) more =
        let m = more (rw e h) in
        (m.0, m.1 ∙ ap (λ (x : Recording). with_frames x m.0) g)
    go (has_begun b e g) more = never (is_fresh ss.state.stage) b h
    go (has_grown b e f g) more =
        let m = more (rw e) in
        (f ∷ m.0, m.1 ∙ ap (λ (x : Recording). with_frames x m.0) g ∙ one_more r f m.0)
    go (is_ending b e n g) more =
        let m = more e in
        (m.0, m.1 ∙ ap (λ (x : Recording). with_frames x m.0) g)

-- once closing, nothing more
nothing-more : (ss : Session) (calls : List Call) (r : Recording) → is_fresh ss.state.stage ≡ false → is_running ss.state.stage ≡ false → given ss calls r ≡ r
unfolding given
nothing-more ss [] r h n = refl
nothing-more ss (c ∷ cs) r h n = go (happened ss c r) (nothing-more (called ss c) cs (given_by ss c r))
  where
    go : Happened ss r (called ss c) (given_by ss c r) → (is_fresh (called ss c).state.stage ≡ false → is_running (called ss c).state.stage ≡ false → given (called ss c) cs (given_by ss c r) ≡ given_by ss c r) → given (called ss c) cs (given_by ss c r) ≡ r
    go (was_refused e g) more = more (rw e h) (rw e n) ∙ g
    go (has_begun b e g) more = never (is_fresh ss.state.stage) b h
    go (has_grown b e f g) more = never (is_running ss.state.stage) b n
    go (is_ending b e k g) more = more e k ∙ g

-- ── Where there were n frames ──

-- a running recording that ends with n frames or more had n once, running still
pub ran-with : (ss : Session) (calls : List Call) (r : Recording) (n : ℕ) → is_running ss.state.stage ≡ true → length r.frames ≤ n → n ≤ length (given ss calls r).frames → (q : ℕ) × (is_running (session ss (take q calls)).state.stage ≡ true) × (length (given ss (take q calls) r).frames ≡ n)
unfolding session given
ran-with ss [] r n h l m = (0, h, omega arith)
ran-with ss (c ∷ cs) r n h l m = now (eq-or-lt_of_le l) (λ a b. ran-with (called ss c) cs (given_by ss c r) n a b m)
  where
    Had : Session → List Call → Recording → Type 0
    Had tt ds t = (q : ℕ) × (is_running (session tt (take q ds)).state.stage ≡ true) × (length (given tt (take q ds) t).frames ≡ n)

    later : Had (called ss c) cs (given_by ss c r) → Had ss (c ∷ cs) r
    later (q, a, b) = (suc q, a, b)

    go : length r.frames < n → Happened ss r (called ss c) (given_by ss c r) → (is_running (called ss c).state.stage ≡ true → length (given_by ss c r).frames ≤ n → Had (called ss c) cs (given_by ss c r)) → Had ss (c ∷ cs) r
    go k (was_refused e g) more = later (more (rw e h) (rw g l))
    go k (has_begun b e g) more = never (is_fresh ss.state.stage) b (runs-not-fresh ss.state.stage h)
    go k (has_grown b e f g) more = later (more (unfold is_running in rw e) (rw (g, length-append) (omega arith)))
    go k (is_ending b e d g) more = absurd (omega (arith, ap (λ (x : Recording). length x.frames) (nothing-more (called ss c) cs (given_by ss c r) e d ∙ g)))

    now : (length r.frames ≡ n) ⊎ (length r.frames < n) → (is_running (called ss c).state.stage ≡ true → length (given_by ss c r).frames ≤ n → Had (called ss c) cs (given_by ss c r)) → Had ss (c ∷ cs) r
    now (inl e) more = (0, h, e)
    now (inr k) more = go k (happened ss c r) more

-- a recording that was begun had any number of frames, up to those it has, while it was running
pub had : (ss : Session) (calls : List Call) (r : Recording) (n : ℕ) → is_fresh ss.state.stage ≡ true → is_fresh (session ss calls).state.stage ≡ false → n ≤ length (given ss calls r).frames → (q : ℕ) × (is_running (session ss (take q calls)).state.stage ≡ true) × (length (given ss (take q calls) r).frames ≡ n)
unfolding session given
had ss [] r n h k m = never (is_fresh ss.state.stage) h k
had ss (c ∷ cs) r n h k m = go (happened ss c r) (λ a. had (called ss c) cs (given_by ss c r) n a k m)
  where
    Had : Session → List Call → Recording → Type 0
    Had tt ds t = (q : ℕ) × (is_running (session tt (take q ds)).state.stage ≡ true) × (length (given tt (take q ds) t).frames ≡ n)

    later : Had (called ss c) cs (given_by ss c r) → Had ss (c ∷ cs) r
    later (q, a, b) = (suc q, a, b)

    go : Happened ss r (called ss c) (given_by ss c r) → (is_fresh (called ss c).state.stage ≡ true → Had (called ss c) cs (given_by ss c r)) → Had ss (c ∷ cs) r
    go (was_refused e g) more = later (more (rw e h))
    go (has_begun b e g) more = later (ran-with (called ss c) cs (given_by ss c r) n (unfold is_running in rw e) (rw g (omega arith)) m)
    go (has_grown b e f g) more = never (is_fresh ss.state.stage) h (runs-not-fresh ss.state.stage b)
    go (is_ending b e d g) more = never (is_fresh ss.state.stage) h (closes-not-fresh ss.state.stage b)
