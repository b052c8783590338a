-- Condition 3: a recording cut after any byte.
-- Assumes nothing.
use Prim.Native.Nat.{ℕ, ◌+◌, ◌-◌, ◌≤◌, ◌<◌, min}
use native.Mathlib.Omega.{arith}
use mathlib.Core.Path.{◌≡◌, refl, ap, sym, ◌∙◌, subst, subst₂}
use mathlib.Core.Bool.{true, false}
use mathlib.Core.Logic.{◌⊎◌, inl, inr}
use mathlib.Core.List.{List, [], ◌∷◌, flat_map, nil≢cons, head-eq_of_cons-eq}
use lib.ListN.{length, take, drop, length-append, take-append-drop}
use lib.Seq.{take_at, take-nil}
use Rattle.layout.specs.Recording.{Recording, Frame, Legal, every, index_length, frames_start, frame_bytes, encode}
use Rattle.layout.specs.Opening.{refusal, shown}
use Rattle.layout.specs.Recorder.{Stage, fresh, running, closing, closed, is_fresh, is_running, Piece}
use Rattle.layout.specs.Repair.{repair, repaired, tail}
use Rattle.layout.specs.Storage.{Call, closes, Session, fresh_state, started, session, given, nothing_given, writes, stored, file_of, cut_file, call_fits}
use Rattle.layout.proofs.Lists.{le-or-lt, every_take, flat_map-take}
use Rattle.layout.proofs.Trace.{pieces_of, stage_of, Runs, not-fresh, running_none, traced}
use Rattle.layout.proofs.Condition2.{legal-opens, legal-shown}
use Rattle.layout.proofs.Repaired.{repair-room}
use Rattle.layout.proofs.Closing.{closed-file, five-file}
use Rattle.layout.proofs.Recorded.{recorded}
use Rattle.layout.proofs.Cuts.{cut-shape, body_length, cut-opening, cut-fewer, length-pieces, length-running, length-early}
use Rattle.layout.proofs.CutWalks.{complete, complete-few, complete-within, complete-most}
use Rattle.layout.proofs.CutRepairs.{first_frames, Recovers, opens-long, opening-refused, opening-repair, empty-repair, cut-opens, cut-repairs}
use Rattle.layout.proofs.Moments.{given-append, with_frames, only-frames, had}

-- a recording of ours: the session of these calls from a fresh state; what it was given; and its file, cut after m bytes
abbrev pub ours : (notes : List ℕ) (calls : List Call) → Session
ours notes calls = session (started notes) calls

abbrev pub our_given : (notes : List ℕ) (calls : List Call) → Recording
our_given notes calls = given (started notes) calls nothing_given

abbrev pub our_cut : (notes : List ℕ) (calls : List Call) (m : ℕ) → List ℕ
our_cut notes calls m = cut_file m (ours notes calls)

-- the recording as it was after the first q calls
unfoldable pub at_call : (notes : List ℕ) (calls : List Call) → ℕ → Session
at_call notes calls q = session (started notes) (take q calls)

-- a recording closed right there, by the recorder's own five calls, each with that room
unfoldable pub closed_there : (room : ℕ) → Session → Session
closed_there room ss = session ss (closes room ∷ closes room ∷ closes room ∷ closes room ∷ closes room ∷ [])

-- The moment right after the last complete frame: the recording was running, all it had handed out is in the cut, and no later such moment has more frames.
pub record LastComplete (notes : List ℕ) (calls : List Call) (m q : ℕ) : Type 0 where
  pub is_running : (at_call notes calls q).state.stage ≡ running
  pub in_the_cut : length (writes (at_call notes calls q).pieces) ≤ m
  pub is_last : (q' : ℕ)
      → (at_call notes calls q').state.stage ≡ running
      → length (writes (at_call notes calls q').pieces) ≤ m
      → (at_call notes calls q').state.frames ≤ (at_call notes calls q).state.frames

-- the file opens and shows that recording
abbrev pub Shows : List ℕ → Recording → Type 0
Shows f r = (refusal f ≡ 0) × (shown f ≡ r)

-- ── Moments ──

-- what the recording had been given after the first q calls
unfoldable given_at : (notes : List ℕ) (calls : List Call) → ℕ → Recording
given_at notes calls q = given (started notes) (take q calls) nothing_given

is-running : (s : Stage) → is_running s ≡ true → s ≡ running
unfolding is_running
is-running fresh h = let z : ◌≡◌ {A = ℕ} 0 1 = cc in absurd (omega arith)
is-running running h = refl
is-running (closing p) h = let z : ◌≡◌ {A = ℕ} 0 1 = cc in absurd (omega arith)
is-running closed h = let z : ◌≡◌ {A = ℕ} 0 1 = cc in absurd (omega arith)

-- the first frames of a recording with more frames
first-of-more : (r : Recording) (fs : List Frame) → r.user ≡ [] → first_frames (length r.frames) (with_frames r fs) ≡ r
unfolding first_frames with_frames
first-of-more r fs e = rw (take_at r.frames fs (length r.frames) refl, ← e)

-- a moment of a recording: what it had been given is the first frames of all that it was given
record Moment (notes : List ℕ) (calls : List Call) (q : ℕ) : Type 0 where
  runs : Runs (at_call notes calls q) (given_at notes calls q) 0
  first : given_at notes calls q ≡ first_frames (length (given_at notes calls q).frames) (given (started notes) calls nothing_given)
  few : length (given_at notes calls q).frames ≤ length (given (started notes) calls nothing_given).frames

moment-of : (notes : List ℕ) (calls : List Call) (q : ℕ) → Runs (at_call notes calls q) (given_at notes calls q) 0 → (fs : List Frame) → given (started notes) calls nothing_given ≡ with_frames (given_at notes calls q) fs → Moment notes calls q
unfolding with_frames
moment-of notes calls q r fs e =
    record {
      runs = r;
      first = sym (ap (first_frames (length (given_at notes calls q).frames)) e ∙ first-of-more (given_at notes calls q) fs r.no_user_tags);
      few = omega (arith, ap (λ (x : Recording). length x.frames) e, length-append (given_at notes calls q).frames fs);
    }

moment : (notes : List ℕ) (calls : List Call) (q : ℕ) → every call_fits calls ≡ true → is_running (at_call notes calls q).state.stage ≡ true → Moment notes calls q
unfolding at_call given_at is_running
moment notes calls q h n = go (traced notes (take q calls) (every_take call_fits q calls h))
  where
    go : (((session (started notes) (take q calls)).state ≡ fresh_state) × ((session (started notes) (take q calls)).pieces ≡ [])) ⊎ ((c : ℕ) × Runs (session (started notes) (take q calls)) (given (started notes) (take q calls) nothing_given) c) → Moment notes calls q
    go (inl f) =
        let e : is_running (session (started notes) (take q calls)).state.stage ≡ false = rw f.0 in
        let z : ◌≡◌ {A = ℕ} 0 1 = cc in
        absurd (omega arith)
    go (inr (c, t)) =
        let z : c ≡ 0 = running_none c (sym (ap is_running t.stage_is) ∙ n) in
        let k : is_fresh (session (started notes) (take q calls)).state.stage ≡ false = ap is_fresh t.stage_is ∙ not-fresh c in
        let x = only-frames (session (started notes) (take q calls)) (drop q calls) (given (started notes) (take q calls) nothing_given) k in
        moment-of notes calls q (rw z at t) x.0 (ap (λ (l : List Call). given (started notes) l nothing_given) (sym (take-append-drop q calls)) ∙ given-append (started notes) (take q calls) (drop q calls) nothing_given ∙ x.1)

first-bytes : (n : ℕ) (r : Recording) → length (writes (pieces_of (first_frames n r) 0)) ≡ frames_start r + length (flat_map frame_bytes (take n r.frames))
unfolding first_frames frames_start
first-bytes n r = length-running (first_frames n r)

-- the bytes that were handed out until then
moment-bytes : (notes : List ℕ) (calls : List Call) (q : ℕ) → Moment notes calls q → length (writes (at_call notes calls q).pieces) ≡ frames_start (given (started notes) calls nothing_given) + length (flat_map frame_bytes (take (length (given_at notes calls q).frames) (given (started notes) calls nothing_given).frames))
moment-bytes notes calls q t = ap (λ (ps : List Piece). length (writes ps)) t.runs.pieces_are ∙ ap (λ (r : Recording). length (writes (pieces_of r 0))) t.first ∙ first-bytes (length (given_at notes calls q).frames) (given (started notes) calls nothing_given)

-- ── The cut ──

first_piece_lem : (r : Recording) (c : ℕ) (p : Piece) (ps : List Piece) → pieces_of r c ≡ p ∷ ps → length p.bytes ≡ frames_start r
unfolding pieces_of frames_start
first_piece_lem r c p ps e = ap (λ (x : Piece). length x.bytes) (sym (head-eq_of_cons-eq e))

module _ (notes : List ℕ) (calls : List Call) (m c : ℕ) (h : every call_fits calls ≡ true) (t : Runs (session (started notes) calls) (given (started notes) calls nothing_given) c) where
  -- all that it was given
  unfoldable all : Recording
  all = given (started notes) calls nothing_given

  -- how much of the cut was handed out
  unfoldable cut_at : ℕ
  cut_at = min m (length (writes (pieces_of all c)))

  -- the number of complete frames
  unfoldable frame_count : ℕ
  frame_count = complete (cut_at - frames_start all) all.frames

  -- the cut file is a cut of all pieces of the recording
  cut-file : cut_file m (session (started notes) calls) ≡ stored [] (take cut_at (writes (pieces_of all 5)))
  unfolding cut_file cut_at all
  cut-file = ap (λ (ps : List Piece). stored [] (take m (writes ps))) t.pieces_are ∙ ap (stored []) (cut-fewer all c m)

  begun : frames_start all ≤ m → frames_start all ≤ cut_at
  unfolding cut_at
  begun o = omega (arith, length-pieces all c)

  -- the moment right after the last complete frame
  last-running : (q : ℕ) × (is_running (at_call notes calls q).state.stage ≡ true) × (length (given_at notes calls q).frames ≡ frame_count)
  unfolding at_call given_at frame_count all started is_fresh
  last-running = had (started notes) calls nothing_given frame_count refl (ap is_fresh t.stage_is ∙ not-fresh c) (complete-few (cut_at - frames_start all) all.frames)

  -- frames that fit the cut are complete
  in_cut : (i : ℕ) → i ≤ length all.frames → frames_start all + length (flat_map frame_bytes (take i all.frames)) ≤ m → i ≤ frame_count
  unfolding frame_count cut_at
  in_cut i k l =
      let f = flat_map-take frame_bytes i all.frames in
      complete-most (cut_at - frames_start all) i all.frames k (omega (arith, length-pieces all c))

  last-complete : frames_start all ≤ m → (q : ℕ) → Moment notes calls q → is_running (at_call notes calls q).state.stage ≡ true → length (given_at notes calls q).frames ≡ frame_count → LastComplete notes calls m q
  unfolding frame_count cut_at all is_running
  last-complete o q d n e =
      record {
        is_running = is-running (at_call notes calls q).state.stage n;
        in_the_cut =
            let b = moment-bytes notes calls q d in
            let w = complete-within (cut_at - frames_start all) all.frames in
            let k = begun o in
            rw (b, e) (omega arith);
        is_last = λ p r l.
            let x : Moment notes calls p = moment notes calls p h (ap is_running r) in
            let b = moment-bytes notes calls p x in
            omega (arith, in_cut (length (given_at notes calls p).frames) x.few (omega arith), x.runs.frames_are, d.runs.frames_are, e);
      }

  -- the cut file, and what repair makes of it
  recovers : frames_start all ≤ m → (q : ℕ) → Moment notes calls q → length (given_at notes calls q).frames ≡ frame_count → Recovers (cut_file m (session (started notes) calls)) (encode (given_at notes calls q))
  unfolding frame_count all
  recovers o q d e =
      let g : given_at notes calls q ≡ first_frames frame_count all = d.first ∙ ap (λ (n : ℕ). first_frames n all) e in
      let s = cut-shape all cut_at t.legal (begun o) in
      subst₂ Recovers (sym cut-file) (ap encode (sym g)) (cut-repairs all cut_at _ s t.legal t.no_user_tags (subst Legal g d.runs.legal))

  -- there is such a moment, and closing there ends in the file that repair gives
  recovered : frames_start (given (started notes) calls nothing_given) ≤ m → (q : ℕ) × LastComplete notes calls m q × ((room : ℕ) → 8 ≤ room → index_length (at_call notes calls q).state.frames ≤ room → ((closed_there room (at_call notes calls q)).state.stage ≡ closed) × Recovers (cut_file m (session (started notes) calls)) (file_of (closed_there room (at_call notes calls q))))
  unfolding all closed_there
  recovered o = at last-running.0 last-running.1 last-running.2
    where
      at : (q : ℕ) → is_running (at_call notes calls q).state.stage ≡ true → length (given_at notes calls q).frames ≡ frame_count → (q : ℕ) × LastComplete notes calls m q × ((room : ℕ) → 8 ≤ room → index_length (at_call notes calls q).state.frames ≤ room → ((closed_there room (at_call notes calls q)).state.stage ≡ closed) × Recovers (cut_file m (session (started notes) calls)) (file_of (closed_there room (at_call notes calls q))))
      at q n e =
          let d : Moment notes calls q = moment notes calls q h n in (
            q,
            last-complete o q d n e,
            λ room a b.
                let z = five-file (at_call notes calls q) (given_at notes calls q) room d.runs a (omega (arith, d.runs.frames_are)) in
                (z.0, subst (Recovers (cut_file m (session (started notes) calls))) (sym z.1) (recovers o q d e)),
          )

  -- a cut that opens is the whole file of a closed recording
  whole : refusal (cut_file m (session (started notes) calls)) ≡ 0 → ((session (started notes) calls).state.stage ≡ closed) × (cut_file m (session (started notes) calls) ≡ file_of (session (started notes) calls))
  unfolding all cut_at stage_of
  whole o = go (le-or-lt (frames_start all) cut_at)
    where
      opens : refusal (stored [] (take cut_at (writes (pieces_of all 5)))) ≡ 0
      opens = ap refusal (sym cut-file) ∙ o

      closing-pieces : body_length all + 12 < cut_at → c ≡ 5
      closing-pieces b = five (le-or-lt 5 c)
        where
          five : (5 ≤ c) ⊎ (c < 5) → c ≡ 5
          five (inl k) = omega (arith, t.at_most_five)
          five (inr k) = absurd (omega (arith, length-early all c k))

      go : (frames_start all ≤ cut_at) ⊎ (cut_at < frames_start all) → ((session (started notes) calls).state.stage ≡ closed) × (cut_file m (session (started notes) calls) ≡ file_of (session (started notes) calls))
      go (inl k) =
          let w = cut-opens all cut_at _ (cut-shape all cut_at t.legal k) t.legal t.no_user_tags opens in
          let z : (session (started notes) calls).state.stage ≡ closed = t.stage_is ∙ ap stage_of (closing-pieces w.0) in
          (z, cut-file ∙ w.1 ∙ sym (closed-file (session (started notes) calls) all c t z))
      go (inr k) = absurd (opening-refused all cut_at t.legal (ap refusal (sym (cut-opening all cut_at (omega arith))) ∙ opens))

  -- a cut inside the opening piece
  early : (out : ℕ) → m < frames_start (given (started notes) calls nothing_given) → ((repair (cut_file m (session (started notes) calls)) out).refused ≡ 1) ⊎ ((repair (cut_file m (session (started notes) calls)) out).refused ≡ 3) ⊎ ((repair (cut_file m (session (started notes) calls)) out).refused ≡ 4)
  unfolding all cut_at
  early out o = rw (cut-file, cut-opening all cut_at (omega arith)) (opening-repair all cut_at out t.legal (omega arith))

-- where no piece was handed out, the file is empty
cut-none : (notes : List ℕ) (calls : List Call) (m : ℕ) → (session (started notes) calls).pieces ≡ [] → cut_file m (session (started notes) calls) ≡ []
unfolding cut_file writes stored
cut-none notes calls m e = ap (λ (ps : List Piece). stored [] (take m (writes ps))) e ∙ rw take-nil

-- a cut file that opens is the whole file of a closed recording
opens-whole : (notes : List ℕ) (calls : List Call) (m : ℕ) → every call_fits calls ≡ true → refusal (cut_file m (session (started notes) calls)) ≡ 0 → ((session (started notes) calls).state.stage ≡ closed) × (cut_file m (session (started notes) calls) ≡ file_of (session (started notes) calls))
opens-whole notes calls m h o = go (traced notes calls h)
  where
    go : (((session (started notes) calls).state ≡ fresh_state) × ((session (started notes) calls).pieces ≡ [])) ⊎ ((k : ℕ) × Runs (session (started notes) calls) (given (started notes) calls nothing_given) k) → ((session (started notes) calls).state.stage ≡ closed) × (cut_file m (session (started notes) calls) ≡ file_of (session (started notes) calls))
    go (inl f) = absurd (omega (arith, opens-long [] (ap refusal (sym (cut-none notes calls m f.1)) ∙ o)))
    go (inr (k, t)) = whole notes calls m k h t o

-- Cut after any byte m of all that was handed out, the opening piece being complete: there is such a moment, closing there ends in a closed recording,
-- and the cut file is already that closed file and repair says 16, or, given room, repair gives that file byte for byte.
-- Premises: what the calls were lent are bytes and numbers of their types; the room of the five close calls holds each piece.
pub cut-recovers : (notes : List ℕ) (calls : List Call) (m : ℕ) (opening : Piece) (others : List Piece)
    → every call_fits calls ≡ true
    → (ours notes calls).pieces ≡ opening ∷ others
    → length opening.bytes ≤ m
    → (q : ℕ)
    × LastComplete notes calls m q
    × ((room : ℕ)
    → 8 ≤ room
    → index_length (at_call notes calls q).state.frames ≤ room
    → ((closed_there room (at_call notes calls q)).state.stage ≡ closed)
    × Recovers (our_cut notes calls m) (file_of (closed_there room (at_call notes calls q))))
cut-recovers notes calls m opening others h p c = go (traced notes calls h)
  where
    go : (((session (started notes) calls).state ≡ fresh_state) × ((session (started notes) calls).pieces ≡ [])) ⊎ ((k : ℕ) × Runs (session (started notes) calls) (given (started notes) calls nothing_given) k) → (q : ℕ) × LastComplete notes calls m q × ((room : ℕ) → 8 ≤ room → index_length (at_call notes calls q).state.frames ≤ room → ((closed_there room (at_call notes calls q)).state.stage ≡ closed) × Recovers (cut_file m (session (started notes) calls)) (file_of (closed_there room (at_call notes calls q))))
    go (inl f) = absurd (nil≢cons (sym f.1 ∙ p))
    go (inr (k, t)) = recovered notes calls m k h t (omega (arith, first_piece_lem (given (started notes) calls nothing_given) k opening others (sym t.pieces_are ∙ p)))

-- ── What the recovered file holds ──

-- all moments right after the last complete frame had been given the same
last-same : (notes : List ℕ) (calls : List Call) (m q q' : ℕ) → every call_fits calls ≡ true → LastComplete notes calls m q → LastComplete notes calls m q' → given_at notes calls q ≡ given_at notes calls q'
unfolding is_running
last-same notes calls m q q' h a b =
    let d = moment notes calls q h (ap is_running a.is_running) in
    let e = moment notes calls q' h (ap is_running b.is_running) in
    let n : length (given_at notes calls q).frames ≡ length (given_at notes calls q').frames = omega (arith, a.is_last q' b.is_running b.in_the_cut, b.is_last q a.is_running a.in_the_cut, d.runs.frames_are, e.runs.frames_are) in
    d.first ∙ ap (λ (k : ℕ). first_frames k (given (started notes) calls nothing_given)) n ∙ sym e.first

-- closed there, the file opens and shows that
closed-shows : (notes : List ℕ) (calls : List Call) (m q room : ℕ) → every call_fits calls ≡ true → LastComplete notes calls m q → 8 ≤ room → index_length (at_call notes calls q).state.frames ≤ room → Shows (file_of (closed_there room (at_call notes calls q))) (given_at notes calls q)
unfolding closed_there is_running
closed-shows notes calls m q room h a k i =
    let d = moment notes calls q h (ap is_running a.is_running) in
    let z = five-file (at_call notes calls q) (given_at notes calls q) room d.runs k (omega (arith, d.runs.frames_are)) in
    rw z.1 (legal-opens (given_at notes calls q) d.runs.legal, legal-shown (given_at notes calls q) d.runs.legal)

recovered-shows : (f whole : List ℕ) (r : Recording) → Recovers f whole → Shows whole r → Shows f r ⊎ ((out : ℕ) → length (tail f) ≤ out → Shows (repaired f (repair f out)) r)
recovered-shows f whole r (inl (e, w)) s = inl (rw e s)
recovered-shows f whole r (inr k) s = inr (λ out o. rw (k out o).1 s)

recovered-room : (f whole : List ℕ) (out : ℕ) → Recovers f whole → refusal whole ≡ 0 → (refusal f ≡ 0 → ⊥) → out < length (tail f) → (repair f out).refused ≡ 9
recovered-room f whole out (inl (e, w)) s n o = absurd (n (ap refusal e ∙ s))
recovered-room f whole out (inr k) s n o = repair-room f (length (tail f)) out (k (length (tail f)) (omega arith)).0 o

-- What the recovered file holds: for the moment right after the last complete frame, either the cut file opens and shows, or, given room, the repaired file
-- opens and shows, exactly what the calls up to that moment gave: every frame accepted by then, and nothing else.
pub cut_holds : (notes : List ℕ) (calls : List Call) (m q : ℕ) (opening : Piece) (others : List Piece)
    → every call_fits calls ≡ true
    → (ours notes calls).pieces ≡ opening ∷ others
    → length opening.bytes ≤ m
    → LastComplete notes calls m q
    → Shows (our_cut notes calls m) (our_given notes (take q calls))
    ⊎ ((out : ℕ)
    → length (tail (our_cut notes calls m)) ≤ out
    → Shows (repaired (our_cut notes calls m) (repair (our_cut notes calls m) out)) (our_given notes (take q calls)))
unfolding given_at
cut_holds notes calls m q opening others h p l last =
    let c = cut-recovers notes calls m opening others h p l in
    let room = 8 + index_length (at_call notes calls c.0).state.frames in
    let s = closed-shows notes calls m c.0 room h c.1 (omega arith) (omega arith) in
    recovered-shows (cut_file m (session (started notes) calls)) (file_of (closed_there room (at_call notes calls c.0))) (given (started notes) (take q calls) nothing_given) (c.2 room (omega arith) (omega arith)).1 (rw (last-same notes calls m c.0 q h c.1 last) at s)

-- Too little room for the tail: a cut file that does not open is then refused 9 by repair.
pub cut-room : (notes : List ℕ) (calls : List Call) (m out : ℕ) (opening : Piece) (others : List Piece)
    → every call_fits calls ≡ true
    → (ours notes calls).pieces ≡ opening ∷ others
    → length opening.bytes ≤ m
    → (refusal (our_cut notes calls m) ≡ 0 → ⊥)
    → out < length (tail (our_cut notes calls m))
    → (repair (our_cut notes calls m) out).refused ≡ 9
cut-room notes calls m out opening others h p l n o =
    let c = cut-recovers notes calls m opening others h p l in
    let room = 8 + index_length (at_call notes calls c.0).state.frames in
    let s = closed-shows notes calls m c.0 room h c.1 (omega arith) (omega arith) in
    recovered-room (cut_file m (session (started notes) calls)) (file_of (closed_there room (at_call notes calls c.0))) out (c.2 room (omega arith) (omega arith)).1 s.0 n o

-- Cut before the opening piece is complete, there is nothing to recover: repair answers 1, 3 or 4, whatever the room.
pub cut-early : (notes : List ℕ) (calls : List Call) (m out : ℕ) (opening : Piece) (others : List Piece)
    → every call_fits calls ≡ true
    → (ours notes calls).pieces ≡ opening ∷ others
    → m < length opening.bytes
    → ((repair (our_cut notes calls m) out).refused ≡ 1)
    ⊎ ((repair (our_cut notes calls m) out).refused ≡ 3)
    ⊎ ((repair (our_cut notes calls m) out).refused ≡ 4)
cut-early notes calls m out opening others h p l = go (traced notes calls h)
  where
    go : (((session (started notes) calls).state ≡ fresh_state) × ((session (started notes) calls).pieces ≡ [])) ⊎ ((k : ℕ) × Runs (session (started notes) calls) (given (started notes) calls nothing_given) k) → ((repair (cut_file m (session (started notes) calls)) out).refused ≡ 1) ⊎ ((repair (cut_file m (session (started notes) calls)) out).refused ≡ 3) ⊎ ((repair (cut_file m (session (started notes) calls)) out).refused ≡ 4)
    go (inl f) = absurd (nil≢cons (sym f.1 ∙ p))
    go (inr (k, t)) = early notes calls m k h t out (omega (arith, first_piece_lem (given (started notes) calls nothing_given) k opening others (sym t.pieces_are ∙ p)))

-- So too where no piece was handed out at all: the file is empty, and repair answers 1.
pub cut-nothing : (notes : List ℕ) (calls : List Call) (m out : ℕ) → (ours notes calls).pieces ≡ [] → (repair (our_cut notes calls m) out).refused ≡ 1
cut-nothing notes calls m out e = rw (cut-none notes calls m e) (empty-repair out)

-- Opening a cut file, wherever it was cut, never shows anything but the whole recording: if it opens, the recording was closed, the file is the whole one,
-- and it shows all that the calls were given.
pub cut-shows-whole : (notes : List ℕ) (calls : List Call) (m : ℕ)
    → every call_fits calls ≡ true
    → refusal (our_cut notes calls m) ≡ 0
    → ((ours notes calls).state.stage ≡ closed)
    × (our_cut notes calls m ≡ file_of (ours notes calls))
    × (shown (our_cut notes calls m) ≡ our_given notes calls)
cut-shows-whole notes calls m h o =
    let w = opens-whole notes calls m h o in
    (w.0, w.1, ap shown w.1 ∙ (recorded notes calls h w.0).3)
