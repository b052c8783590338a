-- A section and a frame at a place, by the layout's readers.
use Rattle.std.specs.Prelude.{ℕ, ◌+◌, List, drop, Option, Some, None}
use Rattle.layout.specs.Recording.{Frame}
use Rattle.layout.specs.Reading.{Parsed, bad, good, times, sized, frame}
use Rattle.parts.specs.Parts.{end_of}
use Rattle.frames.specs.declared.FrameAt.{FrameAt}

unfoldable pub sized_at : List ℕ → (at : ℕ) → Option ℕ
sized_at f at = end_of at (sized (drop at f))

unfoldable pub sections_at : List ℕ → (at sections : ℕ) → Option ℕ
sections_at f at sections = end_of at (times sections sized (drop at f))

-- where the whole frame at a place ends
unfoldable pub frame_end : List ℕ → (at sections : ℕ) → Option ℕ
frame_end f at sections = end_of at (frame sections (drop at f))

-- the whole frame at a place: where it ends, and its two numbers
unfoldable pub whole_frame : (at : ℕ) → Parsed Frame → Option FrameAt
whole_frame at (bad m) = None
whole_frame at (good f n) = Some (record { next = at + n; time = f.time; exposure = f.exposure })

unfoldable pub frame_at : List ℕ → (at sections : ℕ) → Option FrameAt
frame_at f at sections = whole_frame at (frame sections (drop at f))
