-- Refusals: document 01's numbers, and the place that some of them carry.
use Rattle.std.specs.Prelude.{ℕ, zero, suc, List, [], ◌∷◌, get_or, Result, Ok, Err}
use Rattle.refusal.specs.declared.Refusal.{Refusal}
use Rattle.refusal.specs.declared.Refusal.TheVariants.{NotFstf, Revision, Sections, SystemTable, NotClosed, Index, UserTable, NoSuchItem, NoRoom, Sheet, Conflict, Stage, Clock, FrameShape, Full, Whole, TableFull, Other}

-- document 01's number
abbrev pub number_of : Refusal → ℕ
number_of NotFstf = 1
number_of Revision = 2
number_of (Sections p) = 3
number_of (SystemTable p) = 4
number_of NotClosed = 5
number_of Index = 6
number_of (UserTable p) = 7
number_of NoSuchItem = 8
number_of NoRoom = 9
number_of (Sheet p) = 10
number_of (Conflict p) = 11
number_of Stage = 12
number_of Clock = 13
number_of FrameShape = 14
number_of Full = 15
number_of Whole = 16
number_of TableFull = 17
number_of (Other n p) = n

-- 3, 4, 7 and 10 carry the position of the first fault, 11 the change's number; the others of document 01's carry none, which is 0
abbrev pub place_of : Refusal → ℕ
place_of (Sections p) = p
place_of (SystemTable p) = p
place_of (UserTable p) = p
place_of (Sheet p) = p
place_of (Conflict p) = p
place_of (Other n p) = p
place_of r = 0

-- one that carries no place: beside a place it is another
abbrev pub beside : Refusal → (number place : ℕ) → Refusal
beside r n zero = r
beside r n (suc p) = Other n (suc p)

-- all of them in the order of their numbers, ahead of them 0, which is no number of document 01's
abbrev pub in_order : (place : ℕ) → List Refusal
in_order p =
    Other 0 p ∷ beside NotFstf 1 p ∷ beside Revision 2 p ∷ Sections p ∷ SystemTable p ∷ beside NotClosed 5 p ∷ beside Index 6 p ∷ UserTable p
    ∷ beside NoSuchItem 8 p ∷ beside NoRoom 9 p ∷ Sheet p ∷ Conflict p ∷ beside Stage 12 p ∷ beside Clock 13 p ∷ beside FrameShape 14 p
    ∷ beside Full 15 p ∷ beside Whole 16 p ∷ beside TableFull 17 p ∷ []

-- the refusal of a number and a place: it has both
abbrev pub placed : (number place : ℕ) → Refusal
placed n p = get_or (in_order p) n (Other n p)

-- what a call answers that is refused with a number, 0 for none
unfoldable pub unless : {A : Type 0} → (refused place : ℕ) → A → Result A Refusal
unless zero p x = Ok x
unless (suc n) p x = Err (placed (suc n) p)
