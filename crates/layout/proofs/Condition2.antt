-- Condition 2: a file opens exactly when it is one the layout describes, and what is reported is what the layout defines.
-- Assumes nothing.
use Prim.Native.Nat.{ℕ, suc, ◌+◌, ◌≤◌}
use mathlib.Core.Path.{◌≡◌, ◌∙◌}
use mathlib.Core.Bool.{true, false}
use mathlib.Core.Logic.{◌↔◌}
use mathlib.Core.List.{List, []}
use lib.ListN.{length, take, drop}
use lib.Pow.{are_bytes}
use Rattle.layout.specs.Recording.{Recording, Legal, encode, frame_bytes}
use Rattle.layout.specs.Reading.{value_or}
use Rattle.layout.specs.Opening.{first_of, opening_lines, refusal, shown}
use Rattle.layout.specs.Items.{Item, no_such_item, no_such_frame, item_bytes, item_refusal, item_part, frame_refusal, frame_shown, frame_answer, frame_of, part_of}
use Rattle.layout.proofs.Walks.{took}
use Rattle.layout.proofs.Lines.{line-pass, line-holds, lines-first, opening-pass, passes-opens, opens-passes}
use Rattle.layout.proofs.Encoded.{legal-front, legal-counted, legal-user, legal-passes, opens-is-legal, opens-bytes}
use Rattle.layout.proofs.Places.{stands-take, item-stands, frame-stands, below}

-- The bytes of a legal recording open,
pub legal-opens : (r : Recording) → Legal r → refusal (encode r) ≡ 0
legal-opens r l = passes-opens (encode r) (legal-passes r l)

-- and show that recording: every section with its name and configuration, every tag, every frame.
pub legal-shown : (r : Recording) → Legal r → shown (encode r) ≡ r
unfolding shown took value_or
legal-shown r l =
    let f = legal-front r l in
    rw (f.sections, f.system, legal-counted r l, legal-user r l)

-- A file that opens shows a legal recording, and is that recording's bytes to the last one. (That the elements of the list are bytes, below 256, is what
-- makes the list a file.)
pub opens-legal : (f : List ℕ) → are_bytes f ≡ true → refusal f ≡ 0 → Legal (shown f) × (encode (shown f) ≡ f)
opens-legal f h o = (opens-is-legal f h (opens-passes f o), opens-bytes f h (opens-passes f o))

-- Condition 2: a file is not refused exactly when it is the encoding of a legal recording.
pub opens-exactly : (f : List ℕ) → are_bytes f ≡ true → (refusal f ≡ 0) ↔ ((r : Recording) × Legal r × (encode r ≡ f))
opens-exactly f h = (λ o. (shown f, (opens-legal f h o).0, (opens-legal f h o).1), λ e. rw (← e.2) (legal-opens e.0 e.1))

-- ── Reading an item ──

-- "Reading item i runs what opening runs": where opening is refused, reading is refused with the same number, and hands back the empty part at the start.
pub item-passes : (f : List ℕ) (item : Item) (n : ℕ)
    → refusal f ≡ suc n
    → (item_refusal f item ≡ suc n)
    × (item_part f item ≡ record { start = 0; len = 0 })
unfolding item_refusal item_part part_of refusal
item-passes f item n e =
    let h : item_refusal f item ≡ suc n = lines-first (opening_lines f) _ n e in
    (h, rw h)

-- "then 8": of a file that opens, reading an item that there is not is refused 8, and hands back the empty part at the start;
pub item_refused : (r : Recording) (item : Item)
    → Legal r
    → no_such_item r item ≡ true
    → (item_refusal (encode r) item ≡ 8)
    × (item_part (encode r) item ≡ record { start = 0; len = 0 })
unfolding item_refusal item_part part_of
item_refused r item l h =
    let e : item_refusal (encode r) item ≡ 8 = opening-pass (encode r) _ (legal-passes r l) ∙ line-holds 8 _ [] (rw (legal-shown r l) h) in
    (e, rw e)

-- no line holds where there is such an item
item-accepted : (r : Recording) (item : Item) → Legal r → no_such_item r item ≡ false → item_refusal (encode r) item ≡ 0
unfolding item_refusal first_of
item-accepted r item l h = opening-pass (encode r) _ (legal-passes r l) ∙ line-pass 8 (no_such_item (shown (encode r)) item) [] (rw (legal-shown r l) h)

-- an item that there is is not refused, and what is handed back is the part of the file that holds its bytes,
pub item-read : (r : Recording) (item : Item)
    → Legal r
    → no_such_item r item ≡ false
    → (item_refusal (encode r) item ≡ 0)
    × (take (item_part (encode r) item).len (drop (item_part (encode r) item).start (encode r)) ≡ item_bytes r item)
unfolding item_part part_of
item-read r item l h =
    let e : item_refusal (encode r) item ≡ 0 = item-accepted r item l h in
    (e, rw (e, legal-shown r l) (stands-take (item-stands r item l h)))

-- which is as long as those bytes, and lies inside the file.
pub item-inside : (r : Recording) (item : Item)
    → Legal r
    → no_such_item r item ≡ false
    → ((item_part (encode r) item).len ≡ length (item_bytes r item))
    × ((item_part (encode r) item).start + (item_part (encode r) item).len ≤ length (encode r))
unfolding item_part part_of
item-inside r item l h =
    let e : item_refusal (encode r) item ≡ 0 = item-accepted r item l h in
    (rw (e, legal-shown r l), rw (e, legal-shown r l) (item-stands r item l h).inside)

-- ── Reading a frame ──

-- The same of frames: the number of opening,
pub frame-passes : (f : List ℕ) (i n : ℕ)
    → refusal f ≡ suc n
    → (frame_refusal f i ≡ suc n)
    × (frame_shown f i ≡ record { place = 0; len = 0; time = 0; exposure = 0 })
unfolding frame_refusal frame_shown frame_answer refusal
frame-passes f i n e =
    let h : frame_refusal f i ≡ suc n = lines-first (opening_lines f) _ n e in
    (h, rw h)

-- then 8;
pub frame_refused : (r : Recording) (i : ℕ)
    → Legal r
    → no_such_frame r i ≡ true
    → (frame_refusal (encode r) i ≡ 8)
    × (frame_shown (encode r) i ≡ record { place = 0; len = 0; time = 0; exposure = 0 })
unfolding frame_refusal frame_shown frame_answer
frame_refused r i l h =
    let e : frame_refusal (encode r) i ≡ 8 = opening-pass (encode r) _ (legal-passes r l) ∙ line-holds 8 _ [] (rw (legal-shown r l) h) in
    (e, rw e)

-- no line holds where there is such a frame
frame-accepted : (r : Recording) (i : ℕ) → Legal r → no_such_frame r i ≡ false → frame_refusal (encode r) i ≡ 0
unfolding frame_refusal first_of
frame-accepted r i l h = opening-pass (encode r) _ (legal-passes r l) ∙ line-pass 8 (no_such_frame (shown (encode r)) i) [] (rw (legal-shown r l) h)

-- a frame's place and length are where its bytes stand, and its time and exposure are its own;
pub frame-read : (r : Recording) (i : ℕ)
    → Legal r
    → no_such_frame r i ≡ false
    → (frame_refusal (encode r) i ≡ 0)
    × (take (frame_shown (encode r) i).len (drop (frame_shown (encode r) i).place (encode r)) ≡ frame_bytes (frame_of r i))
    × ((frame_shown (encode r) i).time ≡ (frame_of r i).time)
    × ((frame_shown (encode r) i).exposure ≡ (frame_of r i).exposure)
unfolding frame_shown frame_answer no_such_frame
frame-read r i l h =
    let e : frame_refusal (encode r) i ≡ 0 = frame-accepted r i l h in
    (e, rw (e, legal-shown r l) (stands-take (frame-stands r i (below i (length r.frames) h))), rw (e, legal-shown r l), rw (e, legal-shown r l))

-- the length is that of all its bytes, which lie inside the file.
pub frame-inside : (r : Recording) (i : ℕ)
    → Legal r
    → no_such_frame r i ≡ false
    → ((frame_shown (encode r) i).len ≡ length (frame_bytes (frame_of r i)))
    × ((frame_shown (encode r) i).place + (frame_shown (encode r) i).len ≤ length (encode r))
unfolding frame_shown frame_answer no_such_frame
frame-inside r i l h =
    let e : frame_refusal (encode r) i ≡ 0 = frame-accepted r i l h in
    (rw (e, legal-shown r l), rw (e, legal-shown r l) (frame-stands r i (below i (length r.frames) h)).inside)
