-- The limits of 12: what a sound state gives.
-- Assumes nothing.
use Prim.Native.Nat.{ℕ, ◌+◌, ◌*◌, ◌^◌, ◌≤◌}
use native.Mathlib.Omega.{arith}
use mathlib.Core.Path.{◌≡◌}
use mathlib.Core.Bool.{false, not, ◌||◌}
use lib.Dec.{leb, ltb}
use borrow.Author.Tests.{leb-true, ltb-false, not-false}
use Rattle.number.proofs.Bytes.{both_true}
use Rattle.layout.specs.Recording.{within, follows}
use Rattle.layout.specs.Recorder.{broken_state, too_long, piece_number}
use Rattle.layout.proofs.Lists.{or-false}
use Rattle.stages.specs.Stages.{stage_of, state_with}
use Rattle.stages.specs.declared.Stage.{Stage}

-- what is known of the numbers of a state that is not broken
pub record Sound (stage : Stage) (sections frames end : ℕ) : Type 0 where
  pub some_sections : 1 ≤ sections
  pub few_sections : sections ≤ 8
  pub few_frames : frames ≤ 1000000
  pub a_piece : piece_number (stage_of stage) ≤ 4
  pub end_fits : end + 4 + 16 * frames ≤ 1099511115772

pub sound : (stage : Stage) (sections frames first last end : ℕ) → broken_state (state_with stage sections frames first last end) ≡ false
    → Sound stage sections frames end
unfolding broken_state too_long
sound stage sections frames first last end h =
    let s₁ = not (within 1 8 sections) in
    let s₂ = ltb 1000000 frames in
    let s₃ = ltb 4 (piece_number (stage_of stage)) in
    let s₄ = not (follows first first last) in
    let a = or-false (s₁ || s₂ || s₃ || s₄) (too_long end frames) h in
    let b = or-false (s₁ || s₂ || s₃) s₄ a.0 in
    let c = or-false (s₁ || s₂) s₃ b.0 in
    let d = or-false s₁ s₂ c.0 in
    let s = both_true (leb 1 sections) (leb sections 8) (not-false (within 1 8 sections) d.0) in
    record {
      some_sections = leb-true 1 sections s.0;
      few_sections = leb-true sections 8 s.1;
      few_frames = ltb-false 1000000 frames d.1;
      a_piece = ltb-false 4 (piece_number (stage_of stage)) c.1;
      end_fits = omega (arith, ltb-false (2 ^ 40) (end + (4 + 16 * frames) + 512004) a.1);
    }
