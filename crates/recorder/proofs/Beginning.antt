-- What a begin call leaves to be shown: its stage, and what it makes of the first piece.
-- Assumes nothing.
use Rattle.std.specs.Prelude.{Result, Ok, Err}
use Prim.Native.Nat.{ℕ, zero, suc}
use native.Mathlib.Omega.{arith}
use mathlib.Core.Path.{◌≡◌, refl, ap, sym, ◌∙◌}
use mathlib.Core.Bool.{Bool, true, false}
use mathlib.Core.List.{List}
use lib.ListN.{length, replicate}
use lib.Seq.{sets}
use lib.IntN.{pos}
use Rattle.number.specs.Number.{bytes_of, write_at}
use Rattle.layout.specs.Opening.{first_of}
use Rattle.layout.specs.Recorder as layout
use Rattle.layout.specs.Recorder.{is_fresh, begin_lines, begin_place, begun, first_piece, sections_of, filled}
use Rattle.layout.proofs.Lines.{line-pass, line-holds}
use Rattle.layout.proofs.Outputs.{write-is}
use Rattle.refusal.specs.Refusal.{placed}
use Rattle.refusal.specs.declared.Refusal.{Refusal}
use Rattle.refusal.specs.declared.Refusal.TheVariants as refused
use Rattle.beginning.specs.Pieces as beginning
use Rattle.beginning.specs.Pieces.{piece_refusal, piece_by, written, first_piece_of}
use Rattle.beginning.specs.declared.FirstPiece.{FirstPiece}
use Rattle.beginning.proofs.Pieces.{writable}
use Rattle.stages.specs.Stages.{stage_of, to_stage}
use Rattle.limits.specs.Limits.{state_in}
use Rattle.recorder.specs.Recorded.{numbers_of, state_of, recorder_of, refused_with, made, given, made_begun, begin_of}
use Rattle.recorder.specs.declared.Recorder.{Recorder}
use Rattle.recorder.specs.declared.Taken.{Taken}
use Rattle.stages.specs.declared.Stage.TheVariants.{Running}
use Rattle.recorder.proofs.Answers.{refused-begun, accepted-made}

-- four zeros
zeros : bytes_of 4 0 ≡ replicate 4 0
unfolding bytes_of
zeros = refl

-- 12 "the recorder's stage does not take this call"
pub begin-stage : (r : Recorder) (s system notes out : List ℕ) (t : Bool) (k : Taken) → k ≡ refused_with r refused.Stage
    → t ≡ is_fresh (stage_of r.stage) → t ≡ false → made k notes out ≡ begin_of r s system notes out
unfolding begin_of layout.begin begin_lines begin_place state_of state_in numbers_of
begin-stage r s system notes out t k w e h =
    let n : first_of (begin_lines (state_of r) s system notes (length out)) ≡ 12 = line-holds 12 _ _ (rw (sym e ∙ h)) in
    rw (w, n) (refused-begun r (state_of r) s system notes out 11 _)

-- the stage takes the call: the lines behind 12 are those of the first piece
module _ (r : Recorder) (s system notes out : List ℕ) (t : Bool) (te : t ≡ is_fresh (stage_of r.stage)) (th : t ≡ true) where
  behind : first_of (begin_lines (state_of r) s system notes (length out)) ≡ piece_refusal s system (length notes) (length out)
  unfolding begin_lines piece_refusal state_of state_in numbers_of
  behind = line-pass 12 _ _ (rw (sym te ∙ th))

  -- what the first piece answers, by its number
  module _ (p : Result FirstPiece Refusal) (v : List ℕ) (e : beginning.made p v ≡ first_piece_of s system (length notes) out) where
    answers : p ≡ (first_piece_of s system (length notes) out).answer
    answers = ap (λ (m : beginning.Made). m.answer) e

    leaves : v ≡ (first_piece_of s system (length notes) out).out
    leaves = ap (λ (m : beginning.Made). m.out) e

    pub begin-refused : (m : Refusal) (k : Taken) → k ≡ refused_with r m → p ≡ Err m → made k notes v ≡ begin_of r s system notes out
    unfolding begin_of layout.begin first_piece_of piece_by
    begin-refused m k w f = rw w (go (piece_refusal s system (length notes) (length out)) refl)
      where
        go : (n : ℕ) → piece_refusal s system (length notes) (length out) ≡ n
            → made (refused_with r m) notes v ≡ begin_of r s system notes out
        go zero k =
            let z : written _ _ ≡ Err m = sym (answers ∙ ap (λ (n : ℕ). (piece_by n s system out).answer) k) ∙ f in
            let w : ◌≡◌ {A = ℕ} 0 1 = cc in
            absurd (omega arith)
        go (suc n) k =
            let a : ◌≡◌ {A = Result FirstPiece Refusal} (Err (placed (suc n) (begin_place (suc n) s system))) (Err m) =
            sym (answers ∙ ap (λ (n : ℕ). (piece_by n s system out).answer) k) ∙ f in
            let c : m ≡ placed (suc n) (begin_place (suc n) s system) = cc in
            let b : v ≡ out = leaves ∙ ap (λ (n : ℕ). (piece_by n s system out).out) k in
            rw (b, c, behind, k) (refused-begun r (state_of r) s system notes out n _)

    pub begun-made : (o : FirstPiece) (u : List ℕ) → p ≡ Ok o → u ≡ write_at notes 0 4 0
        → made (record {
          state = record { stage = Running; sections = o.sections; frames = 0; first = pos 0; last = pos 0; end = o.length };
          piece = given 0 o.length;
        }) u v ≡ begin_of r s system notes out
    unfolding begin_of made_begun layout.begin begun recorder_of to_stage first_piece_of piece_by
    begun-made o u f w = go (piece_refusal s system (length notes) (length out)) refl
      where
        go : (n : ℕ) → piece_refusal s system (length notes) (length out) ≡ n
            → made (record {
              state = record { stage = Running; sections = o.sections; frames = 0; first = pos 0; last = pos 0; end = o.length };
              piece = given 0 o.length;
            }) u v ≡ begin_of r s system notes out
        go zero k =
            let a : written (length (sections_of s)) (length (first_piece s system)) ≡ Ok o =
            sym (answers ∙ ap (λ (n : ℕ). (piece_by n s system out).answer) k) ∙ f in
            let i : ◌≡◌ {A = FirstPiece} (record { sections = length (sections_of s); length = length (first_piece s system) }) o = cc in
            let b : v ≡ filled out (first_piece s system) = leaves ∙ ap (λ (n : ℕ). (piece_by n s system out).out) k in
            let c : o.sections ≡ length (sections_of s) = sym (ap (λ (f : FirstPiece). f.sections) i) in
            let d : o.length ≡ length (first_piece s system) = sym (ap (λ (f : FirstPiece). f.length) i) in
            let g : u ≡ sets notes 0 (replicate 4 0) = w ∙ write-is notes 0 4 0 (writable s system (length notes) (length out) k).notes_fit
            ∙ ap (sets notes 0) zeros in
            rw (b, c, d, g)
            (accepted-made r (state_of r) notes out _ _
            (record {
              refused = 0;
              state = begun s system;
              piece = layout.piece 0 (first_piece s system);
              notes = sets notes 0 (replicate 4 0);
            })
            (behind ∙ k) refl)
        go (suc n) k =
            let z : Err (placed (suc n) (begin_place (suc n) s system)) ≡ Ok o =
            sym (answers ∙ ap (λ (n : ℕ). (piece_by n s system out).answer) k) ∙ f in
            let w : ◌≡◌ {A = ℕ} 0 1 = cc in
            absurd (omega arith)

pub ruleset beginnings = (begin-stage, begin-refused, begun-made)
