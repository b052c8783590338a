-- The flat answer of opening, by cases on the answer of the call behind it.
use Rattle.std.specs.Prelude.{ℕ, Result, Ok, Err}
use Rattle.opening.specs.declared.Held.{Held}
use Rattle.refusal.specs.Refusal.{number_of, place_of}
use Rattle.refusal.specs.declared.Refusal.{Refusal}
use Rattle.face_opening.specs.declared.FstfOpened.{FstfOpened}

-- an opening that was refused: its number and its place
abbrev pub opened_not : (number place : ℕ) → FstfOpened
opened_not n place =
    record { refused = n; place = place; frames = 0; sections = 0; system_tags = 0; user_tags = 0; system = 0; start = 0; index = 0; user = 0 }

abbrev pub opened_flat : Result Held Refusal → FstfOpened
opened_flat (Ok h) =
    record {
      refused = 0;
      place = 0;
      frames = h.frames;
      sections = h.sections;
      system_tags = h.system_tags;
      user_tags = h.user_tags;
      system = h.system;
      start = h.start;
      index = h.index;
      user = h.user;
    }
opened_flat (Err n) = opened_not (number_of n) (place_of n)
