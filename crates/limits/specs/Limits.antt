-- The recorder's state by its numbers, and the orders of its calls over them.
use Rattle.std.specs.Prelude.{ℕ, ◌+◌, not, cond, ◌||◌, List, [], ◌∷◌, length, leb}
use Rattle.layout.specs.Recorder as layout
use Rattle.layout.specs.Opening.{line, first_of}
use Rattle.layout.specs.Recorder.{State, broken_state, bad_shape, bad_clock, no_room}
use Rattle.layout.specs.Recording.{most_frames, index_length}
use Rattle.stages.specs.Stages.{state_with, full_with}
use Rattle.limits.specs.declared.Numbers.{Numbers}

unfoldable pub state_in : Numbers → State
state_in n = state_with n.stage n.sections n.frames n.first n.last n.end

-- the bytes of an index; 0 where it would have more entries than a recording may have
unfoldable pub index_within : ℕ → ℕ
index_within frames = cond (leb frames most_frames) (index_length frames) 0

-- the layout's order of a frame call, a frame being 16 bytes and its sections; `notes` and `room` are the lengths of what is lent
unfoldable pub add_refusal : State → (time : ℕ) → (sections : List ℕ) → (notes room : ℕ) → ℕ
add_refusal st time sections notes room =
    first_of
    (line 12 (not (layout.is_running st.stage) || broken_state st)
    ∷ line 14 (bad_shape st sections)
    ∷ line 15 (full_with st.end st.frames (16 + length sections))
    ∷ line 13 (bad_clock st time)
    ∷ line 9 (no_room room (16 + length sections) || no_room notes (index_length (st.frames + 1)))
    ∷ [])
