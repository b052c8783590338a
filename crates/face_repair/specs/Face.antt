-- The flat answer of repair, by cases on the answer of the call behind it.
use Rattle.std.specs.Prelude.{ℕ, List, Result, Ok, Err}
use Rattle.refusal.specs.Refusal.{number_of, place_of}
use Rattle.refusal.specs.declared.Refusal.{Refusal}
use Rattle.repair.specs.declared.Repaired.{Repaired}
use Rattle.repair.specs.Repaired as repairing
use Rattle.face_repair.specs.declared.FstfRepaired.{FstfRepaired}

-- a repair that was refused: its number and its place
abbrev pub repaired_not : Refusal → FstfRepaired
repaired_not r = record { refused = number_of r; place = place_of r; kept = 0; count = 0; index = 0; user = 0; tail = 0 }

abbrev pub repaired_flat : Result Repaired Refusal → FstfRepaired
repaired_flat (Ok r) = record { refused = 0; place = 0; kept = r.kept; count = r.count; index = r.index; user = r.user; tail = r.tail }
repaired_flat (Err r) = repaired_not r

-- an answer, and what the call leaves in the lent output
pub record Mended : Type 0 where
  pub answer : FstfRepaired
  pub out : List ℕ

abbrev pub repaired : FstfRepaired → List ℕ → Mended
repaired r out = record { answer = r; out = out }

unfoldable pub made_flat : repairing.Made → Mended
made_flat m = repaired (repaired_flat m.answer) m.out
