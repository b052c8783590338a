-- What a call is refused with is one of document 01's refusals: a law for each call, over the definition that its contract cites. A call that hands on a
-- refusal that it was lent hands on one of document 01's where it was lent one.
-- Assumes nothing.
use Prim.Native.Nat.{ℕ, zero, suc, ◌≤◌}
use mathlib.Core.Path.{◌≡◌, refl}
use mathlib.Core.Bool.{Bool, true, false}
use mathlib.Core.List.{List, []}
use lib.Dec.{ltb}
use lib.ListN.{length}
use Rattle.std.specs.Prelude.{ℤ, ◌+◌, cond, map, drop, Option, Some, None, Result, Ok, Err, ⊤}
use Rattle.std.specs.Int.{w64}
use Rattle.std.proofs.Common.{of_z}
use Rattle.parts.specs.declared.Fault.{Fault}
use Rattle.layout.specs.Recording.{Tag, most_tags, table_bytes}
use Rattle.layout.specs.Reading.{Parsed, bad, good, exactly, tag, table}
use Rattle.layout.specs.Opening.{first_of, front_lines, opening_place, refusal}
use Rattle.layout.specs.Items.{item_refusal, item_part, frame_refusal, frame_shown}
use Rattle.layout.specs.Browser.{number_of_tag, browse, tag_at, tag_named}
use Rattle.layout.specs.Browser as browsed
use Rattle.layout.specs.Cursor.{stands_at, first_tag, next_tag}
use Rattle.layout.specs.Cursor as at_tag
use Rattle.layout.specs.Recorder.{State, Step, no_room, begin_place, begin_lines, add_lines, close_lines, answer, begin, add, close}
use Rattle.layout.specs.Repair.{Repair, repair_refusal, repair_answer, repair}
use Rattle.layout.specs.Saving.{user_tags, changes_of, conflicts, new_table, look_place, look_refusal, look_answer, look, commit_place, commit_refusal, commit_answer, commit}
use Rattle.layout.specs.OldSheets.{converted, old_sheet_place, convert_refusal, convert_answer, convert}
use Rattle.refusal.specs.declared.Refusal.{Refusal}
use Rattle.refusal.specs.declared.Refusal.TheVariants.{NoRoom, TableFull}
use Rattle.refusal.specs.Refusal.{unless}
use Rattle.setup.specs.SetUp.{list_refusal, list_refused, system_refusal, system_refused}
use Rattle.beginning.specs.declared.FirstPiece.{FirstPiece}
use Rattle.beginning.specs.Pieces.{piece_refusal, piece_by, first_piece_of, refusal_of}
use Rattle.front.specs.declared.FrontHeld.{FrontHeld}
use Rattle.front.specs.Front.{front_held, front_of, front_refusal}
use Rattle.opening.specs.declared.Held.{Held}
use Rattle.opening.specs.Opened.{held_of, open_of, open_refusal}
use Rattle.items.specs.declared.Item.{Item}
use Rattle.items.specs.Items.{or_no_such, held_item, held_found, held_frame}
use Rattle.reading.specs.Read.{item_of, find_of, found_as, refused, refusal_in, frame_read_of, read_as}
use Rattle.limits.specs.declared.Numbers.{Numbers}
use Rattle.limits.specs.Limits.{state_in, add_refusal}
use Rattle.recorder.specs.declared.Recorder.{Recorder}
use Rattle.recorder.specs.Recorded.{state_of, answered, taken_of, made_of, made_begun, begin_of, add_of, close_of}
use Rattle.repair.specs.Repaired.{answer_of, repair_of}
use Rattle.repair.specs.Repaired as repairing
use Rattle.apply.specs.Applied.{applying, applied_to}
use Rattle.sheet.specs.Sheet.{sheet_up_to, sheet_of}
use Rattle.saving.specs.Answers.{asked_by, asked_of, looked, look_of, committed_as, commit_of}
use Rattle.converting.specs.Answers.{converted_as, convert_of}
use Rattle.browser.specs.Browsing.{browsed_as}
use Rattle.cursor.specs.declared.Cursor.{Cursor}
use Rattle.cursor.specs.Cursors.{cursor_as, next_as}
use Rattle.listed.specs.Listed.{is_listed, OnlyListed}
use Rattle.listed.proofs.Listed.{lists, only-listed, numbered-listed, refused-listed, may_be, there-listed, handed-listed}
use Rattle.listed.proofs.Numbers.{Bare, opening-bare, look-bare, commit-bare, convert-bare, begin-bare, none-bare, front-within, opening-within, item-within, frame-within, repair-within, look-within, commit-within, convert-within, begin-within, add-within, close-within, list-within, system-within, piece-within, frame-call-within}

-- ── Opening and reading ──

-- what is refused by opening's lines, those behind them among them
opened-listed : {A : Type 0} (f : List ℕ) (n : ℕ) → n ≤ 17 → (x : A) → OnlyListed (unless n (opening_place n f) x)
opened-listed f n h x = refused-listed (λ m. opening_place m f) (opening-bare f) n h x

pub front-listed : (f : List ℕ) → OnlyListed (front_of f)
unfolding front_of
front-listed f = opened-listed f (first_of (front_lines f)) (front-within f) (front_held f)

pub front-refusal-listed : (a : Result FrontHeld Refusal) → OnlyListed a → (r : Refusal) → front_refusal a ≡ Some r → is_listed r ≡ true
front-refusal-listed = handed-listed front_refusal (λ h. refl) (λ q. refl)

pub open-listed : (f : List ℕ) → OnlyListed (open_of f)
unfolding open_of
open-listed f = opened-listed f (refusal f) (opening-within f) (held_of f)

pub open-refusal-listed : (a : Result Held Refusal) → OnlyListed a → (r : Refusal) → open_refusal a ≡ Some r → is_listed r ≡ true
open-refusal-listed = handed-listed open_refusal (λ h. refl) (λ q. refl)

pub part-listed : (f : List ℕ) (it : Item) → OnlyListed (find_of f it)
unfolding find_of
part-listed f it = opened-listed f (item_refusal f (item_of it)) (item-within f it) (found_as (item_part f (item_of it)))

pub refusal-listed : (f : List ℕ) (it : Item) (r : Refusal) → refusal_in f (item_of it) ≡ Some r → is_listed r ≡ true
unfolding refused
refusal-listed f it =
    there-listed (refusal_in f (item_of it))
    (numbered-listed (λ m. opening_place m f) (opening-bare f) (λ m. may_be (refused m (opening_place m f))) refl (λ k. refl) (item_refusal f (item_of it))
    (item-within f it))

pub frame-listed : (f : List ℕ) (i : ℕ) → OnlyListed (frame_read_of f i)
unfolding frame_read_of
frame-listed f i = opened-listed f (frame_refusal f i) (frame-within f i) (read_as (frame_shown f i))

-- over an opening that went ahead, which a caller may have made up
no-such-listed : {A : Type 0} (found : Option A) → OnlyListed (or_no_such found)
no-such-listed None = only-listed _ refl
no-such-listed (Some x) = only-listed _ refl

pub held-part-listed : (f : List ℕ) (h : Held) (it : Item) → OnlyListed (held_found f h it)
unfolding held_found
held-part-listed f h it = no-such-listed (held_item f h it)

pub held-frame-listed : (f : List ℕ) (h : Held) (i : ℕ) → OnlyListed (held_frame f h i)
unfolding held_frame
held-frame-listed f h i = no-such-listed _

-- ── Recording ──

pub list-listed : (setup : List ℕ) → OnlyListed (list_refused setup)
unfolding list_refused
list-listed setup = refused-listed (λ n. begin_place n setup []) (begin-bare setup []) (list_refusal setup) (list-within setup) tt

pub system-listed : (system : List ℕ) → OnlyListed (system_refused system)
unfolding system_refused
system-listed system = refused-listed (λ n. begin_place n [] system) (begin-bare [] system) (system_refusal system) (system-within system) tt

pub piece-listed : (setup system : List ℕ) (notes : ℕ) (out : List ℕ) → OnlyListed (first_piece_of setup system notes out).answer
unfolding first_piece_of piece_by
piece-listed setup system notes out =
    numbered-listed (λ n. begin_place n setup system) (begin-bare setup system) (λ n. (piece_by n setup system out).answer) refl (λ k. refl)
    (piece_refusal setup system notes (length out)) (piece-within setup system notes (length out))

pub piece-refusal-listed : (a : Result FirstPiece Refusal) → OnlyListed a → (r : Refusal) → refusal_of a ≡ Some r → is_listed r ≡ true
unfolding refusal_of
piece-refusal-listed = handed-listed refusal_of (λ p. refl) (λ q. refl)

pub add-refusal-listed : (n : Numbers) (time : ℕ) (sections : List ℕ) (notes room : ℕ)
    → OnlyListed {A = ⊤} (unless (add_refusal (state_in n) time sections notes room) 0 tt)
add-refusal-listed n time sections notes room =
    refused-listed (λ m. 0) none-bare (add_refusal (state_in n) time sections notes room) (frame-call-within (state_in n) time sections notes room) tt

pub close-refusal-listed : (n : Numbers) (notes : List ℕ) (room : ℕ) → OnlyListed {A = ⊤} (unless (first_of (close_lines (state_in n) notes room)) 0 tt)
close-refusal-listed n notes room =
    refused-listed (λ m. 0) none-bare (first_of (close_lines (state_in n) notes room)) (close-within (state_in n) notes room) tt

-- a step of the recorder's, whose own number is 0
pub step-refused : (n : ℕ) (st : State) (notes : List ℕ) (step : Step) → step.refused ≡ 0 → (answer n st notes step).refused ≡ n
unfolding answer
step-refused zero st notes step e = e
step-refused (suc k) st notes step e = refl

answered-listed : (p : ℕ → ℕ) → Bare p → (n : ℕ) → n ≤ 17 → (self : Recorder) (step : Step) → OnlyListed (answered n (p n) self step).piece
unfolding answered
answered-listed p b n h self step = numbered-listed p b (λ m. (answered m (p m) self step).piece) refl (λ k. refl) n h

step-listed : (p : ℕ → ℕ) → Bare p → (self : Recorder) (notes : List ℕ) (n : ℕ) → n ≤ 17 → (step : Step) → step.refused ≡ 0
    → OnlyListed (taken_of (p (answer n (state_of self) notes step).refused) self (answer n (state_of self) notes step)).piece
unfolding taken_of
step-listed p b self notes n h step e = rw (step-refused n (state_of self) notes step e) (answered-listed p b n h self _)

pub begin-listed : (self : Recorder) (setup system notes out : List ℕ) → OnlyListed (begin_of self setup system notes out).taken.piece
unfolding begin_of made_begun made_of begin
begin-listed self setup system notes out =
    step-listed (λ n. begin_place n setup system) (begin-bare setup system) self notes
    (first_of (begin_lines (state_of self) setup system notes (length out))) (begin-within (state_of self) setup system notes (length out)) _ refl

pub add-listed : (self : Recorder) (time : ℤ) (exposure : ℕ) (sections notes out : List ℕ)
    → OnlyListed (add_of self time exposure sections notes out).taken.piece
unfolding add_of made_of add
add-listed self time exposure sections notes out =
    step-listed (λ n. 0) none-bare self notes (first_of (add_lines (state_of self) (of_z w64 time) exposure sections notes (length out)))
    (add-within (state_of self) (of_z w64 time) exposure sections notes (length out)) _ refl

pub close-listed : (self : Recorder) (notes out : List ℕ) → OnlyListed (close_of self notes out).taken.piece
unfolding close_of made_of close
close-listed self notes out =
    step-listed (λ n. 0) none-bare self notes (first_of (close_lines (state_of self) notes (length out))) (close-within (state_of self) notes (length out)) _ refl

-- ── Repair ──

pub repair-refused : (n : ℕ) (r : Repair) → r.refused ≡ 0 → (repair_answer n r).refused ≡ n
unfolding repair_answer
repair-refused zero r e = e
repair-refused (suc k) r e = refl

pub repair-listed : (f out : List ℕ) → OnlyListed (repair_of f out).answer
unfolding repair_of repairing.made_of answer_of repair
repair-listed f out = go (repair_refusal f (length out)) (repair-within f (length out)) _ refl
  where
    go : (n : ℕ) → n ≤ 17 → (q : Repair) → q.refused ≡ 0 → OnlyListed (answer_of (repair_answer n q).refused (opening_place n f) (repair_answer n q))
    go n h q e = rw (repair-refused n q e) (opened-listed f n h _)

-- ── Tags ──

pub asked-listed : (most : ℕ) (f sheet : List ℕ) → OnlyListed (asked_of most f sheet)
unfolding asked_of asked_by
asked-listed most f sheet = go (sheet_of (exactly (sheet_up_to most) sheet))
  where
    opens : (s : Result ℕ Fault) → lists (asked_by 0 f s) ≡ true
    opens (Ok k) = refl
    opens (Err p) = refl

    go : (s : Result ℕ Fault) → OnlyListed (asked_by (refusal f) f s)
    go s = numbered-listed (λ n. opening_place n f) (opening-bare f) (λ n. asked_by n f s) (opens s) (λ k. refl) (refusal f) (opening-within f)

pub look-listed : (f s : List ℕ) → OnlyListed (look_of f s)
unfolding look_of look look_answer unless
look-listed f s =
    numbered-listed (λ n. look_place n f s) (look-bare f s)
    (λ n. let a = look_answer n (look_place n f s) (map (conflicts (user_tags f)) (changes_of s)) in unless a.refused a.place (looked a)) refl (λ k. refl) (look_refusal f s) (look-within f s)

pub applied-listed : (ts : List Tag) (out : List ℕ) → OnlyListed (applied_to ts out).answer
unfolding applied_to
applied-listed ts out = go (ltb most_tags (length ts)) (no_room (length out) (length (table_bytes ts))) _ _
  where
    go : (full short : Bool) (n : ℕ) (after : List ℕ)
        → OnlyListed (cond full (applying (Err TableFull) out) (cond short (applying (Err NoRoom) out) (applying (Ok n) after))).answer
    go true short n after = only-listed _ refl
    go false true n after = only-listed _ refl
    go false false n after = only-listed _ refl

pub commit-listed : (f s out : List ℕ) → OnlyListed (commit_of f s out).answer
unfolding commit_of committed_as commit commit_answer unless
commit-listed f s out =
    numbered-listed (λ n. commit_place n f s) (commit-bare f s)
    (λ n. let a = commit_answer n (commit_place n f s) (new_table f s) in unless a.refused a.place (length a.table)) refl (λ k. refl)
    (commit_refusal f s (length out)) (commit-within f s (length out))

pub convert-listed : (f s out : List ℕ) → OnlyListed (convert_of f s out).answer
unfolding convert_of converted_as convert convert_answer unless
convert-listed f s out =
    numbered-listed (λ n. old_sheet_place n f s) (convert-bare f s)
    (λ n. let a = convert_answer n (old_sheet_place n f s) (converted f s) in unless a.refused a.place (length a.sheet)) refl (λ k. refl)
    (convert_refusal f s (length out)) (convert-within f s (length out))

-- the tag with a number, or the end; or 7
tag-listed : (bytes : List ℕ) (number : List Tag → ℕ)
    → OnlyListed (browsed_as (elim (exactly table bytes) [ bad m ↦ browsed.refused 7 m | good ts n ↦ cond (ltb (number ts) (length ts)) (tag_at ts (number ts)) browsed.end ]))
unfolding browsed_as tag_at
tag-listed bytes number = go (exactly table bytes)
  where
    there : (b : Bool) (ts : List Tag) → OnlyListed (browsed_as (cond b (tag_at ts (number ts)) browsed.end))
    there true ts = only-listed _ refl
    there false ts = only-listed _ refl

    go : (p : Parsed (List Tag))
        → OnlyListed (browsed_as (elim p [ bad m ↦ browsed.refused 7 m | good ts n ↦ cond (ltb (number ts) (length ts)) (tag_at ts (number ts)) browsed.end ]))
    go (bad m) = only-listed _ refl
    go (good ts n) = there (ltb (number ts) (length ts)) ts

pub browsed-listed : (bytes : List ℕ) (next : ℕ) → OnlyListed (browsed_as (browse bytes next))
unfolding browse
browsed-listed bytes next = tag-listed bytes (λ ts. next)

pub named-listed : (bytes name : List ℕ) → OnlyListed (browsed_as (tag_named bytes name))
unfolding tag_named
named-listed bytes name = tag-listed bytes (number_of_tag name)

-- a cursor that stands somewhere is not refused
stands-listed : (bytes : List ℕ) (place count : ℕ) → OnlyListed (cursor_as (stands_at bytes place count))
unfolding cursor_as stands_at
stands-listed bytes place zero = only-listed _ refl
stands-listed bytes place (suc left) = go (tag (drop place bytes))
  where
    go : (p : Parsed Tag)
        → OnlyListed (cursor_as (elim p [ bad m ↦ at_tag.end | good t n ↦ at_tag.at (record { start = place + 1; len = length t.name }) (record { start = place + 1 + length t.name + 1; len = length t.value }) left ]))
    go (bad m) = only-listed _ refl
    go (good t n) = only-listed _ refl

pub first-tag-listed : (bytes : List ℕ) → OnlyListed (cursor_as (first_tag bytes))
unfolding first_tag cursor_as
first-tag-listed bytes = go (exactly table bytes)
  where
    go : (p : Parsed (List Tag)) → OnlyListed (cursor_as (elim p [ bad m ↦ at_tag.refused 7 m | good ts n ↦ stands_at bytes 4 (length ts) ]))
    go (bad m) = only-listed _ refl
    go (good ts n) = stands-listed bytes 4 (length ts)

-- a cursor that is refused is handed on
pub next-tag-listed : (bytes : List ℕ) (cursor : Result (Option Cursor) Refusal) → OnlyListed cursor → OnlyListed (next_as bytes cursor)
unfolding next_as next_tag
next-tag-listed bytes (Ok (Some c)) l = stands-listed bytes (c.tag.value + c.tag.value_length) c.left
next-tag-listed bytes (Ok None) l = only-listed _ refl
next-tag-listed bytes (Err q) l = l
