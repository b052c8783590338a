-- What the numbers of a sound state give, and the length of an index.
-- Assumes nothing.
use Prim.Native.Nat.{ℕ, ◌+◌, ◌*◌, ◌<◌, ◌≤◌}
use native.Mathlib.Omega.{arith}
use mathlib.Core.Path.{◌≡◌, sym, ◌∙◌}
use mathlib.Core.Bool.{Bool, false}
use borrow.Author.Tests.{le-leb, lt-leb}
use Rattle.number.proofs.Bools.{tested}
use Rattle.layout.specs.Recording.{index_length}
use Rattle.layout.specs.Recorder.{broken_state}
use Rattle.stages.specs.Stages.{state_with}
use Rattle.stages.proofs.Limits.{Sound, sound}
use Rattle.limits.specs.Limits.{state_in, index_within}
use Rattle.limits.specs.declared.Numbers.{Numbers}

pub broken-is : (r : Numbers) (b : Bool) → b ≡ broken_state (state_with r.stage r.sections r.frames r.first r.last r.end)
    → b ≡ broken_state (state_in r)
unfolding state_in
broken-is r b e = e

pub numbers-sound : (r : Numbers) → broken_state (state_in r) ≡ false → Sound r.stage r.sections r.frames r.end
unfolding state_in
numbers-sound r h = sound r.stage r.sections r.frames r.first r.last r.end h

-- ── The length of an index ──

pub index-over : (frames : ℕ) → 1000000 < frames → 0 ≡ index_within frames
unfolding index_within
index-over frames h = rw (lt-leb frames 1000000 h)

pub index_is : (frames : ℕ) → frames ≤ 1000000 → 4 + 16 * frames ≡ index_within frames
unfolding index_within
index_is frames h = rw (le-leb frames 1000000 h)

-- a sound state has an index
pub index-sound : (r : Numbers) (i : ℕ) → broken_state (state_in r) ≡ false → i ≡ index_within r.frames → i ≡ index_length r.frames
index-sound r i h e = e ∙ sym (index_is r.frames (omega (arith, (numbers-sound r h).few_frames)))

pub ruleset soundness = (broken-is, index-over, index_is, tested)
