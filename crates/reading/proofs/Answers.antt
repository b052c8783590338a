-- What the calls answer: the number of the first line that holds, or the item.
-- Assumes nothing.
use Prim.Native.Nat.{ℕ, zero, suc, ◌+◌, ◌-◌, ◌^◌, ◌<◌, ◌≤◌}
use native.Mathlib.Omega.{arith}
use native.Mathlib.Nat.{add-sub_cancel_left}
use mathlib.Core.Path.{◌≡◌, refl, ap, sym, ◌∙◌}
use mathlib.Core.Bool.{Bool, true, false}
use mathlib.Core.Logic.{◌⊎◌, inl, inr}
use mathlib.Core.List.{List, [], ◌∷◌, ◌++◌}
use lib.ListN.{length, take, drop}
use borrow.Author.Rules.{rules}
use borrow.Author.Tests.{lt-ltb, le-ltb}
use mir.Syntax.{w64}
use mir.Val.{Fits, to_z}
use Rattle.layout.specs.Recording.{Frame, frame_bytes}
use Rattle.layout.specs.Opening.{line, first_of, opening_lines, refusal, opening_place, shown}
use Rattle.layout.specs.Items.{no_such_item, no_such_frame, item_start, item_bytes, part_of, item_refusal, item_part, frame_refusal, frame_shown, frame_answer, frame_start, frame_of}
use Rattle.layout.specs.Items as items
use Rattle.layout.proofs.Lists.{le-or-lt}
use Rattle.layout.proofs.Lines.{line-pass, line-holds, lines-first, opening-pass, opens-passes}
use Rattle.layout.proofs.Places.{item-stands}
use Rattle.std.specs.Prelude.{Some, None, Result, Ok, Err}
use Rattle.opening.specs.Opened.{held_of, open_of}
use Rattle.frames.specs.Frames.{frame_at, whole_frame}
use Rattle.opening.specs.declared.Held.{Held}
use Rattle.opening.proofs.Lines.{open-opens, open-refuses}
use Rattle.refusal.specs.Refusal.{placed, unless}
use Rattle.refusal.specs.declared.Refusal.{Refusal}
use Rattle.refusal.specs.declared.Refusal.TheVariants.{NoSuchItem}
use Rattle.reading.specs.Read.{item_of, found_in, found_as, find_of, refused, refusal_in, read_as, frame_read_of}
use Rattle.items.specs.Items.{or_no_such, frame_place, frame_from, held_frame, held_found}
use Rattle.reading.specs.Read as read
use Rattle.items.specs.declared.Item.{Item}
use Rattle.items.specs.declared.Found.{Found}
use Rattle.items.specs.declared.FrameRead.{FrameRead}
use Rattle.items.proofs.Bytes.{Bytes}
use Rattle.reading.proofs.Opened.{legal, here, frame_here}
use Rattle.items.proofs.Laws.{place-past}
use Rattle.reading.proofs.Held.{held-frames, held-sections, held-index, shown-place, shown-item}
use Rattle.items.proofs.Frames.{frame-nowhere, frame-there}

-- ── What opening's answer says ──

refused-with : (f : List ℕ) (r : Result Held Refusal) (n : Refusal) → r ≡ open_of f → r ≡ Err n
    → (k : ℕ) × (refusal f ≡ suc k) × (n ≡ placed (suc k) (opening_place (suc k) f))
refused-with f r n e g =
    let (k, p, m) = open-refuses f n (sym e ∙ g) in
    (k, m, p)

-- then 8: opening's number goes ahead of it
eight-refused : (f : List ℕ) (b : Bool) (k : ℕ) → refusal f ≡ suc k → first_of (opening_lines f ++ (line 8 b ∷ [])) ≡ suc k
unfolding refusal
eight-refused f b k e = lines-first (opening_lines f) (line 8 b ∷ []) k e

eight-holds : (f : List ℕ) (b : Bool) → refusal f ≡ 0 → b ≡ true → first_of (opening_lines f ++ (line 8 b ∷ [])) ≡ 8
eight-holds f b o e = opening-pass f (line 8 b ∷ []) (opens-passes f o) ∙ line-holds 8 b [] e

eight-passed : (f : List ℕ) (b : Bool) → refusal f ≡ 0 → b ≡ false → first_of (opening_lines f ++ (line 8 b ∷ [])) ≡ 0
unfolding first_of
eight-passed f b o e = opening-pass f (line 8 b ∷ []) (opens-passes f o) ∙ line-pass 8 b [] e

-- ── Finding an item ──

pub find-refused : (f : List ℕ) (r : Result Held Refusal) (n : Refusal) (it : Item) → r ≡ open_of f → r ≡ Err n → Err n ≡ find_of f it
unfolding find_of unless item_refusal
find-refused f r n it e g =
    let (k, p, m) = refused-with f r n e g in
    let u : find_of f it ≡ Err (placed (suc k) (opening_place (suc k) f)) = rw (eight-refused f (no_such_item (shown f) (item_of it)) k p) in
    ap Err m ∙ sym u

-- an item of a file that opens
pub found-item : (f : List ℕ) (it : items.Item) → refusal f ≡ 0
    → or_no_such (found_in (shown f) it) ≡ unless (item_refusal f it) (opening_place (item_refusal f it) f) (found_as (item_part f it))
unfolding found_in unless item_refusal item_part part_of opening_place
found-item f it o = go (no_such_item (shown f) it) refl
  where
    go : (b : Bool) → no_such_item (shown f) it ≡ b
        → or_no_such (found_in (shown f) it) ≡ unless (item_refusal f it) (opening_place (item_refusal f it) f) (found_as (item_part f it))
    go true e = rw (eight-holds f (no_such_item (shown f) it) o e, e)
    go false e = rw (eight-passed f (no_such_item (shown f) it) o e, e)

pub find-opened : (f : List ℕ) (r : Result Held Refusal) (h : Held) (it : Item) (x : Result Found Refusal) → r ≡ open_of f → r ≡ Ok h
    → x ≡ held_found f h it → Bytes f → x ≡ find_of f it
unfolding find_of
find-opened f r h it x e g u b =
    let (o, i) = open-opens f h (sym e ∙ g) in
    u ∙ shown-item f b o h i it ∙ found-item f (item_of it) o

module _ (f : List ℕ) (it : Item) (r : Result Found Refusal) (e : r ≡ find_of f it) where
  pub none-refused : (x : Found) → r ≡ Ok x → None ≡ refusal_in f (item_of it)
  unfolding find_of unless refused opening_place
  none-refused x q = go (item_refusal f (item_of it)) (sym e ∙ q)
    where
      go : (m : ℕ) → unless m (opening_place m f) (found_as (item_part f (item_of it))) ≡ Ok x → None ≡ refused m (opening_place m f)
      go zero g = refl
      go (suc k) g = let z : ◌≡◌ {A = ℕ} 0 1 = cc in absurd (omega arith)

  pub refused-so : (n : Refusal) → r ≡ Err n → Some n ≡ refusal_in f (item_of it)
  unfolding find_of unless refused opening_place
  refused-so n q = go (item_refusal f (item_of it)) (sym e ∙ q)
    where
      go : (m : ℕ) → unless m (opening_place m f) (found_as (item_part f (item_of it))) ≡ Err n → Some n ≡ refused m (opening_place m f)
      go zero g = let z : ◌≡◌ {A = ℕ} 0 1 = cc in absurd (omega arith)
      go (suc k) g = cc

-- ── The part ──

-- a refused item's part is empty, at the start
part_none : (f : List ℕ) (it : Item) (n : Refusal) → find_of f it ≡ Err n → item_part f (item_of it) ≡ record { start = 0; len = 0 }
unfolding find_of unless item_part part_of
part_none f it n e = go (item_refusal f (item_of it)) refl e
  where
    go : (m : ℕ) → item_refusal f (item_of it) ≡ m → unless m (opening_place m f) (found_as (item_part f (item_of it))) ≡ Err n
        → item_part f (item_of it) ≡ record { start = 0; len = 0 }
    go zero p u = let z : ◌≡◌ {A = ℕ} 0 1 = cc in absurd (omega arith)
    go (suc k) p u = rw p

-- an item that is found has its part, within the file
part-some : (f : List ℕ) (it : Item) (x : Found) → find_of f it ≡ Ok x → found_as (item_part f (item_of it)) ≡ x
unfolding find_of unless
part-some f it x e = go (item_refusal f (item_of it)) e
  where
    go : (m : ℕ) → unless m (opening_place m f) (found_as (item_part f (item_of it))) ≡ Ok x → found_as (item_part f (item_of it)) ≡ x
    go zero u = cc
    go (suc k) u = let z : ◌≡◌ {A = ℕ} 0 1 = cc in absurd (omega arith)

module _ (f : List ℕ) (it : Item) (x : Found) where
  found-ends : Bytes f → find_of f it ≡ Ok x → x.start + x.len ≤ length f
  unfolding find_of unless item_refusal item_part part_of opening_place
  found-ends b e = go (refusal f) refl (no_such_item (shown f) (item_of it)) refl
    where
      go : (m : ℕ) → refusal f ≡ m → (c : Bool) → no_such_item (shown f) (item_of it) ≡ c → x.start + x.len ≤ length f
      go (suc k) p c q =
          let u : find_of f it ≡ Err (placed (suc k) (opening_place (suc k) f)) = rw (eight-refused f (no_such_item (shown f) (item_of it)) k p) in
          let z : ◌≡◌ {A = ℕ} 0 1 = cc in
          absurd (omega arith)
      go zero p true q =
          let u : find_of f it ≡ Err NoSuchItem = rw (eight-holds f (no_such_item (shown f) (item_of it)) p q) in
          let z : ◌≡◌ {A = ℕ} 0 1 = cc in
          absurd (omega arith)
      go zero p false q =
          let g : Ok x ≡ Ok (record { start = item_start (shown f) (item_of it); len = length (item_bytes (shown f) (item_of it)) }) =
          sym e ∙ rw (eight-passed f (no_such_item (shown f) (item_of it)) p q) in
          let i : ◌≡◌ {A = Found} x (record { start = item_start (shown f) (item_of it); len = length (item_bytes (shown f) (item_of it)) }) = cc in
          let s = ap (λ (y : Found). y.start) i in
          let l = ap (λ (y : Found). y.len) i in
          omega (arith, (here f b p (item-stands (shown f) (item_of it) (legal f b p) q)).inside)

  pub end_fits_lem : (r : Result Found Refusal) → r ≡ find_of f it → r ≡ Ok x → Bytes f → length f < 2 ^ 64 → Fits w64 (x.start + x.len)
  end_fits_lem r e g b h = let l = found-ends b (sym e ∙ g) in record { fits = omega arith }

  pub end-within : (r : Result Found Refusal) → r ≡ find_of f it → r ≡ Ok x → Bytes f → x.start + x.len ≤ length f
  end-within r e g b = found-ends b (sym e ∙ g)

pub part-refused : (block offset : ℕ) (f : List ℕ) (it : Item) (n : Refusal) (r : Result Found Refusal) → r ≡ find_of f it → r ≡ Err n
    → record { block = block; offset = offset; bytes = [] } ≡ read.part_of (record { block = block; offset = offset; bytes = f })
    (item_part f (item_of it))
unfolding read.part_of
part-refused block offset f it n r e g =
    let z : 0 + offset ≡ offset = omega arith in
    rw (part_none f it n (sym e ∙ g), z)

pub part-found : (block offset : ℕ) (f : List ℕ) (it : Item) (x : Found) (r : Result Found Refusal) → r ≡ find_of f it → r ≡ Ok x
    → record { block = block; offset = x.start + offset; bytes = take (x.start + x.len - x.start) (drop x.start f) } ≡ read.part_of
    (record { block = block; offset = offset; bytes = f }) (item_part f (item_of it))
unfolding read.part_of
part-found block offset f it x r e g = go x (part-some f it x (sym e ∙ g))
  where
    go : (y : Found) → found_as (item_part f (item_of it)) ≡ y
        → record { block = block; offset = y.start + offset; bytes = take (y.start + y.len - y.start) (drop y.start f) } ≡ read.part_of
        (record { block = block; offset = offset; bytes = f }) (item_part f (item_of it))
    go y p = rw (← p, add-sub_cancel_left)

-- ── Frames ──

pub frame_refused : (f : List ℕ) (r : Result Held Refusal) (n : Refusal) (i : ℕ) → r ≡ open_of f → r ≡ Err n → Err n ≡ frame_read_of f i
unfolding frame_read_of unless frame_refusal
frame_refused f r n i e g =
    let (k, p, m) = refused-with f r n e g in
    let u : frame_read_of f i ≡ Err (placed (suc k) (opening_place (suc k) f)) = rw (eight-refused f (no_such_frame (shown f) i) k p) in
    ap Err m ∙ sym u

-- of a file that opens it is the frame shown
pub shown-frame : (f : List ℕ) (h : Held) (i : ℕ) → Bytes f → refusal f ≡ 0 → h ≡ held_of f → held_frame f h i ≡ frame_read_of f i
unfolding held_frame frame_read_of unless frame_refusal frame_shown frame_answer no_such_frame frame_at whole_frame frame_from opening_place
shown-frame f h i b o e = go (le-or-lt (length (shown f).frames) i)
  where
    go : (length (shown f).frames ≤ i) ⊎ (i < length (shown f).frames) → held_frame f h i ≡ frame_read_of f i
    go (inl l) =
        let u : frame_read_of f i ≡ Err NoSuchItem =
        rw (eight-holds f (no_such_frame (shown f) i) o (rw (le-ltb i (length (shown f).frames) l))) in
        ap or_no_such (sym (frame-nowhere f h.sections None (frame_place f h.frames h.index i)
        (place-past f h.frames h.index i (omega (arith, held-frames f b o h e))) refl)) ∙ sym u
    go (inr l) =
        let x : Frame = frame_of (shown f) i in
        let p : frame_place f h.frames h.index i ≡ Some (frame_start (shown f) i) =
        shown-place f b o h.frames h.index i (held-frames f b o h e) (held-index f b o h e) (omega (arith, held-frames f b o h e)) in
        let y : FrameRead = record {
          place = frame_start (shown f) i;
          length = length (frame_bytes x);
          time = to_z w64 x.time;
          exposure = x.exposure;
        } in
        let u : frame_read_of f i ≡ Ok y = rw (eight-passed f (no_such_frame (shown f) i) o (rw (lt-ltb i (length (shown f).frames) l))) in
        let a : frame_start (shown f) i + length (frame_bytes x) - frame_start (shown f) i ≡ length (frame_bytes x) = omega arith in
        let w : frame_from (frame_start (shown f) i) (frame_at f (frame_start (shown f) i) (length (shown f).sections)) ≡ Some y =
        rw (frame_here f b o i l, a) in
        let v : frame_from (frame_start (shown f) i) (frame_at f (frame_start (shown f) i) h.sections) ≡ Some y = rw (held-sections f b o h e) w in
        ap or_no_such (frame-there f h.sections _ _ (sym p) (frame_start (shown f) i) refl ∙ v) ∙ sym u

pub frame_opened : (f : List ℕ) (r : Result Held Refusal) (h : Held) (i : ℕ) (x : Result FrameRead Refusal) → r ≡ open_of f → r ≡ Ok h
    → x ≡ held_frame f h i → Bytes f → x ≡ frame_read_of f i
frame_opened f r h i x e g u b = let (o, j) = open-opens f h (sym e ∙ g) in u ∙ shown-frame f h i b o j

pub ruleset laws = (
  rules,
  end_fits_lem,
  end-within,
  part-refused,
  part-found,
  frame_refused,
  frame_opened,
  find-refused,
  find-opened,
  none-refused,
  refused-so,
)
