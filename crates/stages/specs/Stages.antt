-- The stages and the closing pieces as the code holds them.
use Rattle.std.specs.Prelude.{ℕ, ◌+◌, Bool, cond, ◌||◌, leb, eqb, ltb}
use Rattle.layout.specs.Recorder as layout
use Rattle.layout.specs.Recorder.{State, too_long}
use Rattle.layout.specs.Recording.{most_frames, count_place, user_place, index_place}
use Rattle.stages.specs.declared.Number.{Number}
use Rattle.stages.specs.declared.Stage.{Stage}
use Rattle.stages.specs.declared.Stage.TheVariants.{Fresh, Running, Closing, Closed}

-- ── The state ──

unfoldable pub stage_of : Stage → layout.Stage
stage_of Fresh = layout.fresh
stage_of Running = layout.running
stage_of (Closing p) = layout.closing p
stage_of Closed = layout.closed

unfoldable pub to_stage : layout.Stage → Stage
to_stage layout.fresh = Fresh
to_stage layout.running = Running
to_stage (layout.closing p) = Closing p
to_stage layout.closed = Closed

-- a state by its numbers, its times as patterns
abbrev pub state_with : Stage → (sections frames first last end : ℕ) → State
state_with stage sections frames first last end =
    record {
      stage = stage_of stage;
      sections = sections;
      frames = frames;
      first = first;
      last = last;
      end = end;
    }

-- 15, a frame of so many bytes being added
unfoldable pub full_with : (end frames size : ℕ) → Bool
full_with end frames size = leb most_frames frames || too_long (end + size) (frames + 1)

-- ── The closing pieces ──

-- pieces 1 to 4, each one number
unfoldable pub closing_number : (piece frames index user : ℕ) → Number
closing_number p frames index user =
    cond (eqb p 1) (record { place = user; width = 4; value = 0 })
    (cond (eqb p 2) (record { place = count_place; width = 4; value = frames })
    (cond (eqb p 3) (record { place = user_place; width = 8; value = user })
    (record { place = index_place; width = 8; value = index })))

-- the number of bytes of a piece, the index having so many
unfoldable pub closing_length : (piece index : ℕ) → ℕ
closing_length p index = cond (eqb p 0) index (cond (ltb p 3) 4 8)
