-- A set-up list as this crate's functions walk it, and what it and a system table are refused with.
use Rattle.std.specs.Prelude.{ℕ, zero, suc, ◌+◌, List, [], ◌∷◌, drop, Result, Ok, Err, ⊤}
use Rattle.layout.specs.Opening.{line, first_of}
use Rattle.layout.specs.Recorder as layout
use Rattle.layout.specs.Recording.{Section}
use Rattle.layout.specs.Reading.{Parsed, bad, good}
use Rattle.parts.specs.Parts.{broken_at}
use Rattle.parts.specs.declared.Fault.{Fault}
use Rattle.refusal.specs.Refusal.{unless}
use Rattle.refusal.specs.declared.Refusal.{Refusal}

-- the sections that stand one behind the other, at most n and up to the first that is broken
unfoldable pub rows : ℕ → List ℕ → List Section
rows zero s = []
rows (suc n) s = elim (layout.set_up_section s) [ bad i ↦ [] | good x m ↦ x ∷ rows n (drop m s) ]

-- ── Where a list runs out ──

-- a section that was read from `at` on: where it ends, or its fault
unfoldable pub section_at : (at : ℕ) → Parsed Section → Result ℕ Fault
section_at at (bad m) = Err (broken_at (at + m))
section_at at (good x n) = Ok (at + n)

-- where a reader stops: at its fault, or behind what it read
unfoldable pub stop_of : {A : Type 0} → Parsed A → ℕ
stop_of (bad m) = m
stop_of (good a n) = n

-- ── What they are refused with ──

-- 10 and 3, of the order of a begin call
unfoldable pub list_refusal : (set_up : List ℕ) → ℕ
list_refusal set_up = first_of (line 10 (layout.bad_set_up_list set_up) ∷ line 3 (layout.bad_set_up (layout.sections_of set_up)) ∷ [])

-- the number with its place; no system table has a part in it
unfoldable pub list_refused : (set_up : List ℕ) → Result ⊤ Refusal
list_refused set_up = unless (list_refusal set_up) (layout.begin_place (list_refusal set_up) set_up []) tt

-- 4
unfoldable pub system_refusal : (system : List ℕ) → ℕ
system_refusal system = first_of (line 4 (layout.bad_system_given system) ∷ [])

unfoldable pub system_refused : (system : List ℕ) → Result ⊤ Refusal
system_refused system = unless (system_refusal system) (layout.begin_place (system_refusal system) [] system) tt
