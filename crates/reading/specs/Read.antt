-- What reading answers, by the layout's items and frames.
use Rattle.std.specs.Prelude.{ℕ, zero, suc, ◌+◌, cond, List, length, take, drop, Option, Some, None, Result}
use Rattle.std.specs.Int.{w64}
use Rattle.std.proofs.Common.{to_z}
use Rattle.std.specs.Borrow.{Bor}
use Rattle.layout.specs.Recording.{Recording}
use Rattle.layout.specs.Opening.{opening_place}
use Rattle.layout.specs.Items.{no_such_item, item_start, item_bytes, Part, item_refusal, item_part, FrameShown, frame_refusal, frame_shown}
use Rattle.layout.specs.Items as items
use Rattle.refusal.specs.Refusal.{placed, unless}
use Rattle.refusal.specs.declared.Refusal.{Refusal}
use Rattle.items.specs.declared.Item.{Item}
use Rattle.items.specs.declared.Item.TheVariants as item
use Rattle.items.specs.declared.FrameRead.{FrameRead}
use Rattle.items.specs.Items.{found_at}
use Rattle.items.specs.declared.Found.{Found}

-- the layout's item that is asked for
unfoldable pub item_of : Item → items.Item
item_of (item.Section i j) = items.frame_section i j
item_of (item.SectionName i) = items.section_name i
item_of (item.Configuration i) = items.configuration i
item_of (item.SystemName i) = items.system_name i
item_of (item.SystemValue i) = items.system_value i
item_of (item.UserName i) = items.user_name i
item_of (item.UserValue i) = items.user_value i

-- where the bytes of an item of a recording stand, if there is the item
unfoldable pub found_in : Recording → items.Item → Option Found
found_in r item = cond (no_such_item r item) None (found_at (item_start r item) (length (item_bytes r item)))

-- the layout's part, as it is found
abbrev pub found_as : Part → Found
found_as p = record { start = p.start; len = p.len }

unfoldable pub find_of : List ℕ → Item → Result Found Refusal
find_of f item =
    unless (item_refusal f (item_of item)) (opening_place (item_refusal f (item_of item)) f) (found_as (item_part f (item_of item)))

-- the refusal of a number, nothing for 0
unfoldable pub refused : (number place : ℕ) → Option Refusal
refused zero q = None
refused (suc n) q = Some (placed (suc n) q)

-- what is refused, with opening's place: 8 has none
abbrev pub refusal_in : List ℕ → items.Item → Option Refusal
refusal_in f it = refused (item_refusal f it) (opening_place (item_refusal f it) f)

-- ── Parts of a lent file ──

-- where a slice lies, a block and an offset in it, and its bytes
pub record Lies : Type 0 where
  pub block : ℕ
  pub offset : ℕ
  pub bytes : List ℕ

abbrev pub lies : Bor (List ℕ) → Lies
lies s = record { block = s.ref_ptr.0; offset = s.ref_ptr.1; bytes = s.now }

-- the part of a slice, not a copy: it lies in the same block
unfoldable pub part_of : Lies → Part → Lies
part_of s p = record { block = s.block; offset = p.start + s.offset; bytes = take p.len (drop p.start s.bytes) }

-- ── Frames ──

-- the layout's frame, as it is read: its time is the Int64 of a pattern
abbrev pub read_as : FrameShown → FrameRead
read_as s = record { place = s.place; length = s.len; time = to_z w64 s.time; exposure = s.exposure }

unfoldable pub frame_read_of : List ℕ → ℕ → Result FrameRead Refusal
frame_read_of f i = unless (frame_refusal f i) (opening_place (frame_refusal f i) f) (read_as (frame_shown f i))
