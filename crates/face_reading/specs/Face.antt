-- The flat answers of reading, by cases on the answers of the calls behind them; and what flat arguments ask for.
use Rattle.std.specs.Prelude.{ℕ, cond, List, pos, eqb, Result, Ok, Err}
use Rattle.opening.specs.declared.Held.{Held}
use Rattle.items.specs.Items.{held_frame, held_found}
use Rattle.items.specs.declared.Item.{Item}
use Rattle.items.specs.declared.Item.TheVariants as item
use Rattle.items.specs.declared.Found.{Found}
use Rattle.items.specs.declared.FrameRead.{FrameRead}
use Rattle.refusal.specs.Refusal.{number_of, place_of}
use Rattle.refusal.specs.declared.Refusal.{Refusal}
use Rattle.face_opening.specs.declared.FstfOpened.{FstfOpened}
use Rattle.face_reading.specs.declared.FstfFrame.{FstfFrame}
use Rattle.face_reading.specs.declared.FstfPart.{FstfPart}

-- the numbers that opening gave, or any others
abbrev pub held_asked : FstfOpened → Held
held_asked o =
    record {
      frames = o.frames;
      sections = o.sections;
      system_tags = o.system_tags;
      user_tags = o.user_tags;
      system = o.system;
      start = o.start;
      index = o.index;
      user = o.user;
    }

-- a frame, and below a part, that was refused: its number and its place
abbrev pub frame_not : (number place : ℕ) → FstfFrame
frame_not n place = record { refused = n; place = place; start = 0; length = 0; time = pos 0; exposure = 0 }

abbrev pub frame_flat : Result FrameRead Refusal → FstfFrame
frame_flat (Ok x) = record { refused = 0; place = 0; start = x.place; length = x.length; time = x.time; exposure = x.exposure }
frame_flat (Err n) = frame_not (number_of n) (place_of n)

-- opening's refusal, or the frame by opening's numbers
abbrev pub frame_held : List ℕ → FstfOpened → ℕ → FstfFrame
frame_held f o i = cond (eqb o.refused 0) (frame_flat (held_frame f (held_asked o) i)) (frame_not o.refused o.place)

abbrev pub part_not : (number place : ℕ) → FstfPart
part_not n place = record { refused = n; place = place; start = 0; length = 0 }

abbrev pub part_flat : Result Found Refusal → FstfPart
part_flat (Ok x) = record { refused = 0; place = 0; start = x.start; length = x.len }
part_flat (Err n) = part_not (number_of n) (place_of n)

-- opening's refusal, or the item by opening's numbers
abbrev pub part_held : List ℕ → FstfOpened → Item → FstfPart
part_held f o item = cond (eqb o.refused 0) (part_flat (held_found f (held_asked o) item)) (part_not o.refused o.place)

-- the item of a kind; any other kind asks for a section of a frame that no file has
abbrev pub item_asked : (kind i j : ℕ) → Item
item_asked kind i j =
    cond (eqb kind 0) (item.Section i j)
    (cond (eqb kind 1) (item.SectionName i)
    (cond (eqb kind 2) (item.Configuration i)
    (cond (eqb kind 3) (item.SystemName i)
    (cond (eqb kind 4) (item.SystemValue i)
    (cond (eqb kind 5) (item.UserName i)
    (cond (eqb kind 6) (item.UserValue i) (item.Section 18446744073709551615 j)))))))
