-- What a frame call leaves to be shown: the frame in the output and its entry in the notes.
-- Assumes nothing.
use Rattle.std.specs.Prelude.{Result, Ok, Err, ⊤}
use Prim.Native.Nat.{ℕ, ◌+◌, ◌≤◌}
use native.Mathlib.Omega.{arith}
use mathlib.Core.Path.{◌≡◌, refl, ap, sym, ◌∙◌}
use mathlib.Core.List.{List}
use lib.ListN.{length}
use lib.IntN.{ℤ}
use mir.Syntax.{w64}
use mir.Val.{Fits, of_z, to_z}
use Rattle.layout.specs.Recording.{entry_bytes}
use Rattle.layout.specs.Opening.{first_of}
use Rattle.layout.specs.Recorder as layout
use Rattle.layout.specs.Recorder.{State, frame_piece, first_after, filled, added, noted, add_lines}
use Rattle.layout.proofs.Outputs.{filled_is}
use Rattle.times.specs.Times.{since_first}
use Rattle.writing.specs.Writing.{noted_at, lent, frame_added}
use Rattle.writing.proofs.Laws.{frame-length, added_is}
use Rattle.refusal.specs.Refusal.{unless}
use Rattle.refusal.specs.declared.Refusal.{Refusal}
use Rattle.stages.specs.Stages.{to_stage, full_with}
use Rattle.stages.specs.declared.Stage.TheVariants.{Running}
use Rattle.beginning.proofs.Pieces.{unless-ok}
use Rattle.limits.specs.Limits.{state_in, add_refusal}
use Rattle.limits.specs.declared.Numbers.{Numbers}
use Rattle.limits.proofs.Adding.{Addable, addable}
use Rattle.recorder.specs.Recorded.{numbers_of, state_of, recorder_of, refused_with, made, given, made_of, add_of}
use Rattle.recorder.specs.declared.Recorder.{Recorder}
use Rattle.recorder.specs.declared.Taken.{Taken}
use Rattle.recorder.proofs.Answers.{state-is, refused-made, accepted-made}

add-order : (st : State) (t e : ℕ) (s notes : List ℕ) (room : ℕ) → add_refusal st t s (length notes) room ≡ first_of (add_lines st t e s notes room)
unfolding add_refusal add_lines full_with
add-order st t e s notes room = rw (frame-length t e s)

-- ── What a frame call asks ──

pub refused-add : (r : Recorder) (m : Numbers) (time x : ℤ) (s notes out : List ℕ) (e t : ℕ) (l : Result ⊤ Refusal) (n : Refusal) (k : Taken)
    → k ≡ refused_with r n → t ≡ of_z w64 x → x ≡ time → m ≡ numbers_of r → l ≡ unless (add_refusal (state_in m) t s (length notes) (length out)) 0 tt → l ≡ Err n
    → made k notes out ≡ add_of r time e s notes out
unfolding add_of layout.add
refused-add r m time x s notes out e t l n k w p q a f h =
    let i : t ≡ of_z w64 time = p ∙ ap (of_z w64) q in
    rw (w, ← i) (refused-made r (state_of r) notes out n _ 0 _ l
    (f ∙ ap (λ (j : ℕ). unless j 0 tt) (rw (state-is r m a) (add-order (state_of r) t e s notes (length out)))) h)

-- what is known where nothing is refused
module _ (r : Recorder) (m : Numbers) (t : ℕ) (s : List ℕ) (notes room : ℕ) (l : Result ⊤ Refusal) (u : ⊤) (a : m ≡ numbers_of r)
    (e : l ≡ unless (add_refusal (state_in m) t s notes room) 0 tt) (h : l ≡ Ok u) where
  none : add_refusal (state_of r) t s notes room ≡ 0
  none = rw (state-is r m a) at (unless-ok (add_refusal (state_in m) t s notes room) 0 tt u (sym e ∙ h))

  accepted : Addable (numbers_of r) s notes room
  unfolding state_of
  accepted = addable (numbers_of r) t s notes room none

  pub frames-more : Fits w64 (r.frames + 1)
  unfolding numbers_of
  frames-more = let a = accepted in record { fits = omega arith }

  pub end_more : Fits w64 (r.end + (16 + length s))
  unfolding numbers_of
  end_more = let a = accepted in record { fits = omega arith }

-- an accepted frame call, each part said in other words
added-by : (r : Recorder) (first last : ℤ) (s notes out u v : List ℕ) (e t : ℕ) (len : ℕ)
    → add_refusal (state_of r) t s (length notes) (length out) ≡ 0 → first ≡ to_z w64 (first_after (state_of r) t)
    → last ≡ to_z w64 t → len ≡ length (frame_piece t e s) → u ≡ noted (state_of r) t e s notes → v ≡ filled out (frame_piece t e s)
    → made (record {
      state = record {
        stage = Running;
        sections = r.sections;
        frames = r.frames + 1;
        first = first;
        last = last;
        end = r.end + len;
      };
      piece = given r.end len;
    }) u v ≡ made_of 0 r out (layout.add (state_of r) t e s notes (length out))
unfolding layout.add added state_of state_in numbers_of recorder_of to_stage
added-by r first last s notes out u v e t len g a b c d f =
    rw (a, b, c, d, f)
    (accepted-made r (state_of r) notes out (first_of (add_lines (state_of r) t e s notes (length out))) 0
    (record {
      refused = 0;
      state = added (state_of r) t e s;
      piece = layout.piece r.end (frame_piece t e s);
      notes = noted (state_of r) t e s notes;
    })
    (sym (add-order (state_of r) t e s notes (length out)) ∙ g) refl)

noted-by : (r : Recorder) (t e d : ℕ) (s notes : List ℕ) → d ≡ since_first (first_after (state_of r) t) t
    → noted_at notes (r.frames + 1) d r.end (16 + length s) ≡ noted (state_of r) t e s notes
unfolding noted_at noted entry_bytes since_first state_of state_in numbers_of
noted-by r t e d s notes h = rw (h, frame-length t e s)

pub added-made : (r : Recorder) (m : Numbers) (time x z : ℤ) (s notes out u v : List ℕ) (e t : ℕ) (l : Result ⊤ Refusal) (w : ⊤) (f : ℕ)
    → t ≡ of_z w64 x → x ≡ time → m ≡ numbers_of r → l ≡ unless (add_refusal (state_in m) t s (length notes) (length out)) 0 tt → l ≡ Ok w
    → f ≡ first_after (state_of r) t → z ≡ to_z w64 f → to_z w64 (of_z w64 z) ≡ z → lent u v ≡ frame_added (r.frames + 1) f t e r.end s notes out
    → made (record {
      state = record {
        stage = Running;
        sections = r.sections;
        frames = r.frames + 1;
        first = to_z w64 (of_z w64 z);
        last = to_z w64 (of_z w64 time);
        end = r.end + (16 + length s);
      };
      piece = given r.end (16 + length s);
    }) u v ≡ add_of r time e s notes
    out
unfolding add_of numbers_of
added-made r m time x z s notes out u v e t l w f p q c g h i j k o =
    let a = accepted r m t s (length notes) (length out) l w c g h in
    let n = none r m t s (length notes) (length out) l w c g h in
    let i' : t ≡ of_z w64 time = p ∙ ap (of_z w64) q in
    let b : length (frame_piece t e s) ≤ length out = rw (frame-length t e s) a.fits in
    let (d, y) = added_is s notes out u v (r.frames + 1) f t e r.end o (omega arith) (omega (arith, a.fewer)) a.notes_fit a.fits in
    added-by r (to_z w64 (of_z w64 z)) (to_z w64 (of_z w64 time)) s notes out u v e t (16 + length s) n (k ∙ j ∙ ap (to_z w64) i)
    (ap (to_z w64) (sym i')) (sym (frame-length t e s))
    (d ∙ noted-by r t e (since_first f t) s notes (ap (λ (x : ℕ). since_first x t) i)) (y ∙ filled_is out (frame_piece t e s) b)
    ∙ ap (λ (x : ℕ). made_of 0 r out (layout.add (state_of r) x e s notes (length out))) i'

pub ruleset addings = (refused-add, frames-more, end_more, added-made)
