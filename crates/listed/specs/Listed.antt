-- Document 01's refusals: each case but `Other`.
use Rattle.std.specs.Prelude.{◌≡◌, Bool, true, false, Result, Err}
use Rattle.refusal.specs.declared.Refusal.{Refusal}
use Rattle.refusal.specs.declared.Refusal.TheVariants.{Other}

-- whether a refusal is one of document 01's
abbrev pub is_listed : Refusal → Bool
is_listed (Other n p) = false
is_listed r = true

-- an answer that is refused, if at all, with one of these
abbrev pub OnlyListed : {A : Type 0} → Result A Refusal → Type 0
OnlyListed a = (r : Refusal) → a ≡ Err r → is_listed r ≡ true
