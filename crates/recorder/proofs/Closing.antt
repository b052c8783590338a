-- What closing leaves to be shown: its pieces in the output.
-- Assumes nothing.
use Rattle.std.specs.Prelude.{Result, Ok, Err, ⊤}
use Prim.Native.Nat.{ℕ, zero, suc, ◌+◌, ◌≤◌}
use native.Mathlib.Omega.{arith}
use mathlib.Core.Path.{◌≡◌, refl, ap, sym, ◌∙◌}
use mathlib.Core.List.{List, []}
use lib.ListN.{length, take, get_or}
use lib.Seq.{sets, length-take-le}
use mir.Syntax.{w64}
use mir.Val.{Fits, of_z, to_z}
use Rattle.number.specs.Number.{bytes_of, write_at}
use Rattle.number.proofs.Bytes.{length-bytes_of}
use Rattle.layout.specs.Recording.{index_length}
use Rattle.layout.specs.Opening.{first_of}
use Rattle.layout.specs.Recorder as layout
use Rattle.layout.specs.Recorder.{State, piece, piece_number, close_lines, closing_pieces, closing_piece, filled, closed_by, stage_after}
use Rattle.layout.proofs.Outputs.{filled_is, write-is}
use Rattle.parts.specs.Parts.{copied}
use Rattle.parts.proofs.Laws.{copied-there}
use Rattle.beginning.proofs.Pieces.{unless-ok}
use Rattle.refusal.specs.Refusal.{unless}
use Rattle.refusal.specs.declared.Refusal.{Refusal}
use Rattle.stages.specs.Stages.{stage_of, to_stage, closing_number}
use Rattle.stages.specs.declared.Stage.{Stage}
use Rattle.stages.specs.declared.Number.{Number}
use Rattle.limits.specs.Limits.{state_in, index_within}
use Rattle.limits.specs.declared.Numbers.{Numbers}
use Rattle.limits.proofs.Sound.{numbers-sound, index-sound}
use Rattle.limits.proofs.Closing.{Closable, closable, empty-table}
use Rattle.recorder.specs.Recorded.{numbers_of, state_of, recorder_of, refused_with, made, given, close_of}
use Rattle.recorder.specs.declared.Recorder.{Recorder}
use Rattle.recorder.specs.declared.Taken.{Taken}
use Rattle.recorder.proofs.Answers.{state-is, refused-made, accepted-made}

-- what a close call asked of the recorder's numbers answered
module _ (r : Recorder) (m : Numbers) (notes : List ℕ) (room : ℕ) (l : Result ⊤ Refusal) (a : m ≡ numbers_of r)
    (e : l ≡ unless (first_of (close_lines (state_in m) notes room)) 0 tt) where
  asked : l ≡ unless (first_of (close_lines (state_of r) notes room)) 0 tt
  asked = rw (state-is r m a) at e

  -- what is known where nothing is refused
  module _ (u : ⊤) (h : l ≡ Ok u) where
    none : first_of (close_lines (state_of r) notes room) ≡ 0
    none = unless-ok (first_of (close_lines (state_of r) notes room)) 0 tt u (sym asked ∙ h)

    closes : Closable (numbers_of r) notes room
    unfolding state_of
    closes = closable (numbers_of r) notes room none

    -- the index of a recorder that closes
    module _ (i : ℕ) (f : i ≡ index_within r.frames) where
      index-there : i ≡ index_length r.frames
      unfolding numbers_of
      index-there = index-sound (numbers_of r) i closes.whole f

      pub user-fits : Fits w64 (r.end + i)
      unfolding numbers_of
      user-fits =
          let j = index-there in
          let s = numbers-sound (numbers_of r) closes.whole in
          record { fits = omega arith }

pub refused-close : (r : Recorder) (m : Numbers) (notes out : List ℕ) (l : Result ⊤ Refusal) (n : Refusal) (k : Taken) → k ≡ refused_with r n → m ≡ numbers_of r
    → l ≡ unless (first_of (close_lines (state_in m) notes (length out))) 0 tt → l ≡ Err n
    → made k notes out ≡ close_of r notes out
unfolding close_of layout.close
refused-close r m notes out l n k w a e h = rw w (refused-made r (state_of r) notes out n _ 0 _ l (asked r m notes (length out) l a e) h)

-- the closing piece, at its number
piece-at : (st : State) (notes : List ℕ) (p : ℕ) → (p ≡ 0 → ⊥) → p ≤ 4
    → let k = closing_number p st.frames st.end (st.end + index_length st.frames) in get_or (closing_pieces st notes) p (piece 0 []) ≡ piece
    k.place (bytes_of k.width k.value)
unfolding closing_pieces closing_number
piece-at st notes zero h l = absurd (h refl)
piece-at st notes (suc zero) h l = ap (piece (st.end + index_length st.frames)) empty-table
piece-at st notes (suc (suc zero)) h l = refl
piece-at st notes (suc (suc (suc zero))) h l = refl
piece-at st notes (suc (suc (suc (suc zero)))) h l = refl
piece-at st notes (suc (suc (suc (suc (suc p))))) h l = absurd (omega arith)

module _ (r : Recorder) (m : Numbers) (notes out : List ℕ) (l : Result ⊤ Refusal) (u : ⊤) (a : m ≡ numbers_of r)
    (e : l ≡ unless (first_of (close_lines (state_in m) notes (length out))) 0 tt) (h : l ≡ Ok u) where
  abbrev able : Closable (numbers_of r) notes (length out)
  able = closes r m notes (length out) l a e u h

  module _ (p : ℕ) (s : Stage) (q : p ≡ piece_number (stage_of r.stage)) (t : s ≡ to_stage (stage_after p)) where
    -- an accepted close call, its piece said in other words
    closed-made : (x : List ℕ) (at len : ℕ) (k : layout.Piece) → closing_piece (state_of r) notes ≡ k → at ≡ k.place → len ≡ length k.bytes
        → x ≡ sets out 0 k.bytes → made (record {
          state = record {
            stage = s;
            sections = r.sections;
            frames = r.frames;
            first = to_z w64 (of_z w64 r.first);
            last = to_z w64 (of_z w64 r.last);
            end = r.end;
          };
          piece = given at len;
        }) notes x ≡ close_of r notes out
    unfolding close_of layout.close closed_by recorder_of state_of state_in numbers_of
    closed-made x at len k f b d y =
        let g : s ≡ to_stage (stage_after (piece_number (stage_of r.stage))) = t ∙ ap (λ (x : ℕ). to_stage (stage_after x)) q in
        let c : length k.bytes ≤ length out = rw f at able.fits in
        let z : x ≡ filled out k.bytes = y ∙ filled_is out k.bytes c in
        rw (b, d, z, ← f, g) (accepted-made r (state_of r) notes out (first_of (close_lines (state_of r) notes (length out))) 0
        (record { refused = 0; state = closed_by (state_of r); piece = closing_piece (state_of r) notes; notes = notes })
        (none r m notes (length out) l a e u h) refl)

    module _ (i : ℕ) (o : i ≡ index_within r.frames) where
      index-is : i ≡ index_length r.frames
      index-is = index-there r m notes (length out) l a e u h i o

      pub closed-index : (x : List ℕ) → p ≡ 0 → x ≡ copied notes 0 out 0 i
          → made (record {
            state = record {
              stage = s;
              sections = r.sections;
              frames = r.frames;
              first = to_z w64 (of_z w64 r.first);
              last = to_z w64 (of_z w64 r.last);
              end = r.end;
            };
            piece = given r.end i;
          }) notes x ≡ close_of r notes out
      unfolding closing_piece closing_pieces state_of state_in numbers_of
      closed-index x z g =
          let y : piece_number (stage_of r.stage) ≡ 0 = sym q ∙ z in
          let k : closing_piece (state_of r) notes ≡ piece r.end (take (index_length r.frames) notes) = rw y in
          let b : length (take (index_length r.frames) notes) ≡ index_length r.frames = length-take-le (index_length r.frames) notes (able.notes_fit y) in
          let v : index_length r.frames ≤ length out = rw (k, b) at able.fits in
          let w : x ≡ sets out 0 (take (index_length r.frames) notes) =
          g ∙ rw index-is (copied-there notes out 0 0 (index_length r.frames) (omega (arith, able.notes_fit y)) (omega arith)) in
          closed-made x r.end i (piece r.end (take (index_length r.frames) notes)) k refl (index-is ∙ sym b) w

      pub closed-number : (x : List ℕ) (k : Number) → (p ≡ 0 → ⊥) → k ≡ closing_number p r.frames r.end (r.end + i)
          → x ≡ write_at out 0 k.width k.value → made (record {
            state = record {
              stage = s;
              sections = r.sections;
              frames = r.frames;
              first = to_z w64 (of_z w64 r.first);
              last = to_z w64 (of_z w64 r.last);
              end = r.end;
            };
            piece = given k.place k.width;
          }) notes x ≡ close_of r notes out
      unfolding closing_piece state_of state_in numbers_of
      closed-number x k z g w =
          let v : k ≡ closing_number p r.frames r.end (r.end + index_length r.frames) =
          g ∙ ap (λ (j : ℕ). closing_number p r.frames r.end (r.end + j)) index-is in
          let d : p ≤ 4 = omega (arith, (numbers-sound (numbers_of r) able.whole).a_piece) in
          let b : closing_piece (state_of r) notes ≡ piece k.place (bytes_of k.width k.value) = rw (← q, v) (piece-at (state_of r) notes p z d) in
          let c : length (bytes_of k.width k.value) ≡ k.width = length-bytes_of k.width k.value in
          let f : k.width ≤ length out = rw (b, c) at able.fits in
          closed-made x k.place k.width (piece k.place (bytes_of k.width k.value)) b refl (sym c) (w ∙ write-is out 0 k.width k.value (omega arith))

pub ruleset closings = (refused-close, user-fits, closed-index, closed-number)
