-- The numbers that a call's lines have are document 01's, so the first that holds is at most 17; and only five of them have a place beside them.
-- Assumes nothing.
use Prim.Native.Nat.{ℕ, ◌≤◌}
use native.Mathlib.Omega.{arith}
use mathlib.Core.Path.{◌≡◌, refl}
use mathlib.Core.Bool.{Bool, true, false}
use mathlib.Core.List.{List, [], ◌∷◌, ◌++◌}
use lib.Dec.{ltb}
use borrow.Author.Tests.{ltb-true}
use Rattle.number.proofs.Bytes.{both_true}
use Rattle.layout.specs.Recording.{every}
use Rattle.layout.specs.Opening.{Line, line, first_of, front_lines, opening_lines, opening_place, refusal, shown}
use Rattle.layout.specs.Items.{no_such_item, no_such_frame, item_refusal, frame_refusal}
use Rattle.layout.specs.Recorder.{State, begin_place, begin_lines, add_lines, close_lines}
use Rattle.layout.specs.Repair.{repair_lines, repair_refusal}
use Rattle.layout.specs.Saving.{look_place, look_lines, look_refusal, table_lines, commit_place, commit_lines, commit_refusal}
use Rattle.layout.specs.OldSheets.{old_sheet_place, convert_lines, convert_refusal}
use Rattle.setup.specs.SetUp.{list_refusal, system_refusal}
use Rattle.beginning.specs.Pieces.{piece_refusal}
use Rattle.limits.specs.Limits.{add_refusal}
use Rattle.items.specs.declared.Item.{Item}
use Rattle.reading.specs.Read.{item_of}

-- ── The numbers of lines ──

-- a line whose number is one of document 01's
is_numbered : Line → Bool
is_numbered l = ltb l.number 18

first-within : (ls : List Line) → every is_numbered ls ≡ true → first_of ls ≤ 17
unfolding first_of every is_numbered
first-within [] e = omega arith
first-within (l ∷ ls) e = go l.number l.holds e (first-within ls)
  where
    go : (n : ℕ) (b : Bool) → every is_numbered (line n b ∷ ls) ≡ true → (every is_numbered ls ≡ true → first_of ls ≤ 17) → first_of (line n b ∷ ls) ≤ 17
    go n true q i = let l = ltb-true n 18 (both_true (ltb n 18) (every is_numbered ls) q).0 in omega arith
    go n false q i = i (both_true (ltb n 18) (every is_numbered ls) q).1

pub opening-within : (f : List ℕ) → refusal f ≤ 17
unfolding refusal opening_lines front_lines every is_numbered
opening-within f = first-within (opening_lines f) refl

pub item-within : (f : List ℕ) (it : Item) → item_refusal f (item_of it) ≤ 17
unfolding item_refusal opening_lines front_lines every is_numbered
item-within f it = first-within (opening_lines f ++ (line 8 (no_such_item (shown f) (item_of it)) ∷ [])) refl

pub frame-within : (f : List ℕ) (i : ℕ) → frame_refusal f i ≤ 17
unfolding frame_refusal opening_lines front_lines every is_numbered
frame-within f i = first-within (opening_lines f ++ (line 8 (no_such_frame (shown f) i) ∷ [])) refl

pub repair-within : (f : List ℕ) (room : ℕ) → repair_refusal f room ≤ 17
unfolding repair_refusal repair_lines front_lines every is_numbered
repair-within f room = first-within (repair_lines f room) refl

pub look-within : (f s : List ℕ) → look_refusal f s ≤ 17
unfolding look_refusal look_lines opening_lines front_lines every is_numbered
look-within f s = first-within (look_lines f s) refl

pub commit-within : (f s : List ℕ) (room : ℕ) → commit_refusal f s room ≤ 17
unfolding commit_refusal commit_lines look_lines table_lines opening_lines front_lines every is_numbered
commit-within f s room = first-within (commit_lines f s room) refl

pub convert-within : (f s : List ℕ) (room : ℕ) → convert_refusal f s room ≤ 17
unfolding convert_refusal convert_lines opening_lines front_lines every is_numbered
convert-within f s room = first-within (convert_lines f s room) refl

pub begin-within : (st : State) (setup system notes : List ℕ) (room : ℕ) → first_of (begin_lines st setup system notes room) ≤ 17
unfolding begin_lines every is_numbered
begin-within st setup system notes room = first-within (begin_lines st setup system notes room) refl

pub add-within : (st : State) (time exposure : ℕ) (sections notes : List ℕ) (room : ℕ) → first_of (add_lines st time exposure sections notes room) ≤ 17
unfolding add_lines every is_numbered
add-within st time exposure sections notes room = first-within (add_lines st time exposure sections notes room) refl

pub close-within : (st : State) (notes : List ℕ) (room : ℕ) → first_of (close_lines st notes room) ≤ 17
unfolding close_lines every is_numbered
close-within st notes room = first-within (close_lines st notes room) refl

pub front-within : (f : List ℕ) → first_of (front_lines f) ≤ 17
unfolding front_lines every is_numbered
front-within f = first-within (front_lines f) refl

pub list-within : (setup : List ℕ) → list_refusal setup ≤ 17
unfolding list_refusal every is_numbered
list-within setup = first-within _ refl

pub system-within : (system : List ℕ) → system_refusal system ≤ 17
unfolding system_refusal every is_numbered
system-within system = first-within _ refl

pub piece-within : (setup system : List ℕ) (notes room : ℕ) → piece_refusal setup system notes room ≤ 17
unfolding piece_refusal every is_numbered
piece-within setup system notes room = first-within _ refl

pub frame-call-within : (st : State) (time : ℕ) (sections : List ℕ) (notes room : ℕ) → add_refusal st time sections notes room ≤ 17
unfolding add_refusal every is_numbered
frame-call-within st time sections notes room = first-within _ refl

-- ── The places of refusals ──

-- places of numbers, of which only 3, 4, 7, 10 and 11 have one
abbrev pub Bare : (ℕ → ℕ) → Type 0
Bare p = (p 0 ≡ 0) × (p 1 ≡ 0) × (p 2 ≡ 0) × (p 5 ≡ 0) × (p 6 ≡ 0) × (p 8 ≡ 0) × (p 9 ≡ 0) × (p 12 ≡ 0) × (p 13 ≡ 0) × (p 14 ≡ 0) × (p 15 ≡ 0) × (p 16 ≡ 0) × (p 17 ≡ 0)

-- the places that go with a call's numbers
pub opening-bare : (f : List ℕ) → Bare (λ n. opening_place n f)
unfolding opening_place
opening-bare f = (refl, refl, refl, refl, refl, refl, refl, refl, refl, refl, refl, refl, refl)

pub look-bare : (f s : List ℕ) → Bare (λ n. look_place n f s)
unfolding look_place opening_place
look-bare f s = (refl, refl, refl, refl, refl, refl, refl, refl, refl, refl, refl, refl, refl)

pub commit-bare : (f s : List ℕ) → Bare (λ n. commit_place n f s)
unfolding commit_place look_place opening_place
commit-bare f s = (refl, refl, refl, refl, refl, refl, refl, refl, refl, refl, refl, refl, refl)

pub convert-bare : (f s : List ℕ) → Bare (λ n. old_sheet_place n f s)
unfolding old_sheet_place opening_place
convert-bare f s = (refl, refl, refl, refl, refl, refl, refl, refl, refl, refl, refl, refl, refl)

pub begin-bare : (setup system : List ℕ) → Bare (λ n. begin_place n setup system)
unfolding begin_place
begin-bare setup system = (refl, refl, refl, refl, refl, refl, refl, refl, refl, refl, refl, refl, refl)

pub none-bare : Bare (λ n. 0)
none-bare = (refl, refl, refl, refl, refl, refl, refl, refl, refl, refl, refl, refl, refl)
