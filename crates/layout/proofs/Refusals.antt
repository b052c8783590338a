-- "No lent byte changes and the recorder's state comes back equal": what each refused call leaves, and that it answers nothing but its number and its place.
-- Assumes nothing.
use Prim.Native.Nat.{ℕ, zero, suc}
use native.Mathlib.Omega.{arith}
use mathlib.Core.Path.{◌≡◌, refl, ap}
use mathlib.Core.Bool.{Bool}
use mathlib.Core.List.{List, []}
use lib.ListN.{length}
use Rattle.layout.specs.Recording.{Tag}
use Rattle.layout.specs.Opening.{first_of}
use Rattle.layout.specs.Recorder.{State, piece, Step, filled, answer, begin_lines, begin, add_lines, add, close_lines, close}
use Rattle.layout.specs.Repair.{Repair, repair_refusal, repair_answer, repair}
use Rattle.layout.specs.Saving.{look_refusal, look_place, look_answer, look, commit_refusal, commit_place, commit_answer, commit}
use Rattle.layout.specs.OldSheets.{old_sheet_place, convert_refusal, convert_answer, convert}

-- an output into which nothing is filled
pub filled_none : (out : List ℕ) → filled out [] ≡ out
unfolding filled
filled_none out = refl

-- ── The recorder ──

-- what a refused call of the recorder leaves: the state, the notes and the output as they were given, and no piece
pub record Untouched (step : Step) (st : State) (notes out : List ℕ) : Type 0 where
  pub same_state : step.state ≡ st
  pub same_notes : step.notes ≡ notes
  pub same_output : filled out step.piece.bytes ≡ out
  pub no_piece : step.piece ≡ piece 0 []

-- the number is the order's
answer-number : (m : ℕ) (st : State) (notes : List ℕ) (step : Step) → step.refused ≡ 0 → (answer m st notes step).refused ≡ m
unfolding answer
answer-number zero st notes step e = e
answer-number (suc m) st notes step e = refl

answer-untouched : (m n : ℕ) (st : State) (notes out : List ℕ) (step : Step) → step.refused ≡ 0 → (answer m st notes step).refused ≡ suc n → Untouched (answer m st notes step) st notes out
unfolding answer
answer-untouched zero n st notes out step e h = absurd (omega (arith, e, h))
answer-untouched (suc m) n st notes out step e h = record { same_state = refl; same_notes = refl; same_output = filled_none out; no_piece = refl }

-- To begin, to add and to close answer the number of their order,
pub begin-number : (st : State) (set_up system notes : List ℕ) (room : ℕ)
    → (begin st set_up system notes room).refused ≡ first_of (begin_lines st set_up system notes room)
unfolding begin
begin-number st set_up system notes room = answer-number _ st notes _ refl

pub add-number : (st : State) (time exposure : ℕ) (sections notes : List ℕ) (room : ℕ)
    → (add st time exposure sections notes room).refused ≡ first_of (add_lines st time exposure sections notes room)
unfolding add
add-number st time exposure sections notes room = answer-number _ st notes _ refl

pub close-number : (st : State) (notes : List ℕ) (room : ℕ) → (close st notes room).refused ≡ first_of (close_lines st notes room)
unfolding close
close-number st notes room = answer-number _ st notes _ refl

-- and refused, whatever the number, they leave all as it was.
pub begin-refused : (st : State) (set_up system notes out : List ℕ) (n : ℕ)
    → (begin st set_up system notes (length out)).refused ≡ suc n
    → Untouched (begin st set_up system notes (length out)) st notes out
unfolding begin
begin-refused st set_up system notes out n h = answer-untouched _ n st notes out _ refl h

pub add-refused : (st : State) (time exposure : ℕ) (sections notes out : List ℕ) (n : ℕ)
    → (add st time exposure sections notes (length out)).refused ≡ suc n
    → Untouched (add st time exposure sections notes (length out)) st notes out
unfolding add
add-refused st time exposure sections notes out n h = answer-untouched _ n st notes out _ refl h

pub close-refused : (st : State) (notes out : List ℕ) (n : ℕ)
    → (close st notes (length out)).refused ≡ suc n
    → Untouched (close st notes (length out)) st notes out
unfolding close
close-refused st notes out n h = answer-untouched _ n st notes out _ refl h

-- ── Repair ──

-- Repair answers the number of its order;
pub repair-number : (f : List ℕ) (room : ℕ) → (repair f room).refused ≡ repair_refusal f room
unfolding repair repair_answer
repair-number f room = go (repair_refusal f room) _ refl
  where
    go : (m : ℕ) (r : Repair) → r.refused ≡ 0 → (repair_answer m r).refused ≡ m
    go zero r e = e
    go (suc m) r e = refl

-- refused, it names no kept length and no header field, has no tail, and leaves the output as it was.
pub repair-refused : (f out : List ℕ) (n : ℕ)
    → (repair f (length out)).refused ≡ suc n
    → (repair f (length out) ≡ record { refused = suc n; kept = 0; count = 0; index = 0; user = 0; tail = [] })
    × (filled out (repair f (length out)).tail ≡ out)
unfolding repair repair_answer
repair-refused f out n h = go (repair_refusal f (length out)) _ refl h
  where
    go : (m : ℕ) (r : Repair) → r.refused ≡ 0 → (repair_answer m r).refused ≡ suc n → (repair_answer m r ≡ record { refused = suc n; kept = 0; count = 0; index = 0; user = 0; tail = [] }) × (filled out (repair_answer m r).tail ≡ out)
    go zero r e k = absurd (omega (arith, e, k))
    go (suc m) r e k = (ap {B = Repair} (λ (i : ℕ). record { refused = i; kept = 0; count = 0; index = 0; user = 0; tail = [] }) k, filled_none out)

-- ── To look and to commit ──

-- Look answers the number of its order;
pub look-number : (f sheet : List ℕ) → (look f sheet).refused ≡ look_refusal f sheet
unfolding look look_answer
look-number f sheet = go (look_refusal f sheet) _ _
  where
    go : (m place : ℕ) (bs : List Bool) → (look_answer m place bs).refused ≡ m
    go zero place bs = refl
    go (suc m) place bs = refl

-- refused, it shows no change, and carries the place that goes with its number.
pub look-refused : (f sheet : List ℕ) (n : ℕ)
    → (look f sheet).refused ≡ suc n
    → ((look f sheet).conflicting ≡ [])
    × ((look f sheet).place ≡ look_place (suc n) f sheet)
unfolding look look_answer
look-refused f sheet n h = go (look_refusal f sheet) _ h
  where
    go : (m : ℕ) (bs : List Bool) → (look_answer m (look_place m f sheet) bs).refused ≡ suc n → ((look_answer m (look_place m f sheet) bs).conflicting ≡ []) × ((look_answer m (look_place m f sheet) bs).place ≡ look_place (suc n) f sheet)
    go zero bs k = absurd (omega (arith, k))
    go (suc m) bs k = (refl, ap (λ (i : ℕ). look_place i f sheet) k)

-- A commit answers the number of its order;
pub commit-number : (f sheet : List ℕ) (room : ℕ) → (commit f sheet room).refused ≡ commit_refusal f sheet room
unfolding commit commit_answer
commit-number f sheet room = go (commit_refusal f sheet room) _ _
  where
    go : (m place : ℕ) (ts : List Tag) → (commit_answer m place ts).refused ≡ m
    go zero place ts = refl
    go (suc m) place ts = refl

-- refused, it carries the place that goes with its number,
pub commit-place : (f sheet : List ℕ) (room n : ℕ) → (commit f sheet room).refused ≡ suc n → (commit f sheet room).place ≡ commit_place (suc n) f sheet
unfolding commit commit_answer
commit-place f sheet room n h = go (commit_refusal f sheet room) _ h
  where
    go : (m : ℕ) (ts : List Tag) → (commit_answer m (commit_place m f sheet) ts).refused ≡ suc n → (commit_answer m (commit_place m f sheet) ts).place ≡ commit_place (suc n) f sheet
    go zero ts k = absurd (omega (arith, k))
    go (suc m) ts k = ap (λ (i : ℕ). commit_place i f sheet) k

-- has no table, and leaves the output as it was.
pub commit-refused : (f sheet out : List ℕ) (n : ℕ)
    → (commit f sheet (length out)).refused ≡ suc n
    → ((commit f sheet (length out)).table ≡ [])
    × (filled out (commit f sheet (length out)).table ≡ out)
unfolding commit commit_answer
commit-refused f sheet out n h = go (commit_refusal f sheet (length out)) _ _ h
  where
    go : (m place : ℕ) (ts : List Tag) → (commit_answer m place ts).refused ≡ suc n → ((commit_answer m place ts).table ≡ []) × (filled out (commit_answer m place ts).table ≡ out)
    go zero place ts k = absurd (omega (arith, k))
    go (suc m) place ts k = (refl, filled_none out)

-- ── The converter ──

-- The converter answers the number of its order;
pub convert_number : (f sheet : List ℕ) (room : ℕ) → (convert f sheet room).refused ≡ convert_refusal f sheet room
unfolding convert convert_answer
convert_number f sheet room = go (convert_refusal f sheet room) _ _
  where
    go : (m place : ℕ) (bytes : List ℕ) → (convert_answer m place bytes).refused ≡ m
    go zero place bytes = refl
    go (suc m) place bytes = refl

-- refused, it carries the place that goes with its number,
pub convert-place : (f sheet : List ℕ) (room n : ℕ) → (convert f sheet room).refused ≡ suc n → (convert f sheet room).place ≡ old_sheet_place (suc n) f sheet
unfolding convert convert_answer
convert-place f sheet room n h = go (convert_refusal f sheet room) _ h
  where
    go : (m : ℕ) (bytes : List ℕ)
        → (convert_answer m (old_sheet_place m f sheet) bytes).refused ≡ suc n
        → (convert_answer m (old_sheet_place m f sheet) bytes).place ≡ old_sheet_place (suc n) f sheet
    go zero bytes k = absurd (omega (arith, k))
    go (suc m) bytes k = ap (λ (i : ℕ). old_sheet_place i f sheet) k

-- has no sheet, and leaves the output as it was.
pub convert-refused : (f sheet out : List ℕ) (n : ℕ)
    → (convert f sheet (length out)).refused ≡ suc n
    → ((convert f sheet (length out)).sheet ≡ [])
    × (filled out (convert f sheet (length out)).sheet ≡ out)
unfolding convert convert_answer
convert-refused f sheet out n h = go (convert_refusal f sheet (length out)) _ _ h
  where
    go : (m place : ℕ) (bytes : List ℕ)
        → (convert_answer m place bytes).refused ≡ suc n
        → ((convert_answer m place bytes).sheet ≡ [])
        × (filled out (convert_answer m place bytes).sheet ≡ out)
    go zero place bytes k = absurd (omega (arith, k))
    go (suc m) place bytes k = (refl, filled_none out)
