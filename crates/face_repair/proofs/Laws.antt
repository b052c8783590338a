-- What the functions of this crate leave to be shown, as laws about the definitions.
-- Assumes nothing.
use Prim.Native.Nat.{ℕ}
use mathlib.Core.Path.{◌≡◌, ap, ◌∙◌}
use mathlib.Core.List.{List}
use borrow.Author.Rules.{rules}
use Rattle.std.specs.Prelude.{Result}
use Rattle.refusal.specs.declared.Refusal.{Refusal}
use Rattle.repair.specs.Repaired as repairing
use Rattle.repair.specs.declared.Repaired.{Repaired}
use Rattle.face_repair.specs.Face.{repaired_flat, repaired, made_flat}
use Rattle.face_repair.specs.declared.FstfRepaired.{FstfRepaired}

pub repair-face : (f out out' : List ℕ) (o : Result Repaired Refusal) (r : FstfRepaired) → repairing.made o out' ≡ repairing.repair_of f out
    → r ≡ repaired_flat o → repaired r out' ≡ made_flat (repairing.repair_of f out)
unfolding made_flat
repair-face f out out' o r e h = ap (λ (x : FstfRepaired). repaired x out') h ∙ ap made_flat e

pub ruleset laws = (rules, repair-face)
