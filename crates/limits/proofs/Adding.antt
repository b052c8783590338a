-- What a frame call refuses: its shape, and what is known where nothing is refused.
-- Assumes nothing.
use Rattle.std.specs.Prelude.{Option, Some, None}
use Prim.Native.Nat.{ℕ, ◌+◌, ◌*◌, ◌^◌, ◌<◌, ◌≤◌}
use native.Mathlib.Omega.{arith}
use mathlib.Core.Path.{◌≡◌, refl}
use mathlib.Core.Bool.{Bool, true, false, not, ◌||◌}
use mathlib.Core.List.{List}
use lib.ListN.{length}
use lib.Dec.{leb, ltb, eqb}
use borrow.Author.Tests.{leb-false, ltb-false, eqb-true, eqb-false}
use mir.Syntax.{w64}
use mir.Val.{Fits}
use Rattle.std.specs.Option.{option_eq}
use Rattle.layout.specs.Recording.{index_length}
use Rattle.layout.specs.Reading.{times, sized}
use Rattle.layout.specs.Recorder.{broken_state, too_long, is_running, bad_shape, bad_clock}
use Rattle.layout.proofs.Lists.{or-false}
use Rattle.layout.proofs.Lines.{line_clear}
use Rattle.parts.proofs.Exactly.{ends-broken, ends-exact, ends-other}
use Rattle.frames.specs.Frames.{sections_at}
use Rattle.stages.specs.Stages.{stage_of, full_with}
use Rattle.limits.specs.Limits.{state_in, add_refusal}
use Rattle.limits.specs.declared.Numbers.{Numbers}
use Rattle.limits.proofs.Sound.{numbers-sound}

-- ── 14 ──

-- the sections end where the bytes do
pub shape-is : (r : Numbers) (s : List ℕ) (p : Option ℕ) → p ≡ sections_at s 0 r.sections
    → not (option_eq eqb p (Some (length s))) ≡ bad_shape (state_in r) s
unfolding bad_shape state_in sections_at
shape-is r s None e = ends-broken (times r.sections sized) s None e refl
shape-is r s (Some q) e = go (eqb q (length s)) refl
  where
    go : (b : Bool) → eqb q (length s) ≡ b → not (eqb q (length s)) ≡ bad_shape (state_in r) s
    go true h = rw h (ends-exact (times r.sections sized) s (Some q) q e refl (eqb-true q (length s) h))
    go false h = rw h (ends-other (times r.sections sized) s (Some q) q e refl (eqb-false q (length s) h))

-- ── Where nothing is refused ──

pub record Addable (r : Numbers) (s : List ℕ) (notes room : ℕ) : Type 0 where
  pub fewer : r.frames < 1000000
  pub end_fits : r.end + (16 + length s) + (4 + 16 * (r.frames + 1)) ≤ 1099511115772
  pub fits : 16 + length s ≤ room
  pub notes_fit : 4 + 16 * (r.frames + 1) ≤ notes

pub addable : (r : Numbers) (time : ℕ) (s : List ℕ) (notes room : ℕ) → add_refusal (state_in r) time s notes room ≡ 0 → Addable r s notes room
unfolding add_refusal full_with too_long state_in
addable r time s notes room h =
    let a = line_clear 11 (not (is_running (stage_of r.stage)) || broken_state (state_in r)) _ h in
    let b = line_clear 13 (bad_shape (state_in r) s) _ a.1 in
    let c = line_clear 14 (full_with r.end r.frames (16 + length s)) _ b.1 in
    let d = line_clear 12 (bad_clock (state_in r) time) _ c.1 in
    let f = line_clear 8 (ltb room (16 + length s) || ltb notes (index_length (r.frames + 1))) _ d.1 in
    let g = or-false (ltb room (16 + length s)) (ltb notes (index_length (r.frames + 1))) f.0 in
    let i = or-false (leb 1000000 r.frames) (too_long (r.end + (16 + length s)) (r.frames + 1)) c.0 in
    record {
      fewer = leb-false 1000000 r.frames i.0;
      end_fits = omega (arith, ltb-false (2 ^ 40) (r.end + (16 + length s) + (4 + 16 * (r.frames + 1)) + 512004) i.1);
      fits = ltb-false room (16 + length s) g.0;
      notes_fit = ltb-false notes (index_length (r.frames + 1)) g.1;
    }

-- no sum wraps
pub more-fits : (r : Numbers) → broken_state (state_in r) ≡ false → Fits w64 (r.frames + 1)
more-fits r h = let s = numbers-sound r h in record { fits = omega arith }

pub more-entries-fit : (r : Numbers) → broken_state (state_in r) ≡ false → Fits w64 (16 * (r.frames + 1))
more-entries-fit r h = let s = numbers-sound r h in record { fits = omega arith }

pub more-index-fits : (r : Numbers) → broken_state (state_in r) ≡ false → Fits w64 (4 + 16 * (r.frames + 1))
more-index-fits r h = let s = numbers-sound r h in record { fits = omega arith }

pub ruleset addings = (shape-is, more-fits, more-entries-fit, more-index-fits)
