-- What the functions of this crate leave to be shown, as laws about the definitions.
-- Assumes nothing.
use Rattle.std.specs.Prelude.{Option, Some, None, Ok, Err}
use Rattle.parts.specs.declared.Fault.{Fault}
use Rattle.refusal.specs.declared.Refusal.TheVariants.{UserTable}
use Rattle.tables.specs.declared.TagPlace.{TagPlace}
use Prim.Native.Nat.{ℕ, zero, suc, ◌+◌, ◌-◌, ◌<◌, ◌≤◌}
use native.Mathlib.Omega.{arith}
use mathlib.Core.Path.{◌≡◌, refl, sym, ◌∙◌}
use mathlib.Core.List.{List, []}
use lib.ListN.{length, take, drop, drop_of_length-le}
use borrow.Author.Rules.{rules}
use Rattle.layout.specs.Reading.{bad, exactly, onward, only, fault_at, placed, ◌then◌, number, string, string_fault, tag_name, tag, table}
use Rattle.layout.specs.Cursor.{stands_at, first_tag, next_tag}
use Rattle.layout.proofs.Cursors.{stands-none, stands-bad, stands-tag}
use Rattle.refusal.specs.declared.Refusal.{Refusal}
use Rattle.tables.specs.Tables.{tag_place_of, tags_of}
use Rattle.tables.proofs.Laws.{tag-parts, tag-broken, tag-fits-1, tag-fits-2, tag-fits-3}
use Rattle.tables.proofs.Alone.{tags-parts, tags-none}
use Rattle.strings.proofs.Laws.{part_length}
use Rattle.cursor.specs.Cursors.{cursor_at, cursor_as, next_as}
use Rattle.cursor.specs.declared.Cursor.{Cursor}

-- ── At a place ──

pub stands-end : (s : List ℕ) (p count : ℕ) → count ≡ 0 → Ok None ≡ cursor_as (stands_at s p count)
unfolding cursor_as
stands-end s p count e = rw (e, stands-none s p)

pub stands-broken : (s : List ℕ) (p count : ℕ) (r : Option TagPlace) → (count ≡ 0 → ⊥) → r ≡ tag_place_of (tag (drop p s)) → r ≡ None
    → Ok None ≡ cursor_as (stands_at s p count)
unfolding cursor_as
stands-broken s p zero r h e f = absurd (h refl)
stands-broken s p (suc left) r h e f = let (m, g) = tag-broken (tag (drop p s)) (sym e ∙ f) in rw (stands-bad s p left m g)

pub stands-whole : (s : List ℕ) (p count : ℕ) (t : TagPlace) → Some t ≡ tag_place_of (tag (drop p s)) → (count ≡ 0 → ⊥)
    → Ok (Some (cursor_at (p + 1) t.name (p + 1 + t.name + 1) t.value (count - 1))) ≡ cursor_as (stands_at s p count)
unfolding cursor_as
stands-whole s p zero t e h = absurd (h refl)
stands-whole s p (suc left) t e h =
    let (l, w) = tag-parts s p t (sym e) in
    let a : length (take t.name (drop (p + 1) s)) ≡ t.name = part_length s p t.name (omega arith) in
    let b : length (take t.value (drop (p + 1 + t.name + 1) s)) ≡ t.value = part_length s (p + 1 + t.name) t.value l in
    let c : suc left - 1 ≡ left = omega arith in
    rw (c, stands-tag s p left _ _ w, a, b)

-- ── The first tag ──

pub first-refused : (s : List ℕ) (f : Fault) → Err f ≡ tags_of (exactly table s) → Err (UserTable f.place) ≡ cursor_as (first_tag s)
unfolding first_tag cursor_as
first-refused s f e = rw (tags-none (exactly table s) f (sym e), first_tag)

pub first-is : (s : List ℕ) (n : ℕ) (c : Option Cursor) → Ok n ≡ tags_of (exactly table s) → Ok c ≡ cursor_as (stands_at s 4 n)
    → Ok c ≡ cursor_as (first_tag s)
unfolding first_tag
first-is s n c f g =
    let (ts, m, p, q) = tags-parts (exactly table s) n (sym f) in
    rw (p, first_tag, q) g

-- ── The next tag ──

-- past the end there is no tag
no-tag : tag [] ≡ bad 0
unfolding tag tag_name placed fault_at string_fault only string ◌then◌ onward number
no-tag = refl

past_end : (s : List ℕ) (p left : ℕ) → length s < p → Ok None ≡ cursor_as (stands_at s p left)
unfolding cursor_as
past_end s p zero h = rw (stands-none s p)
past_end s p (suc left) h = rw (stands-bad s p left 0 (rw (drop_of_length-le s {i = p} (omega arith)) no-tag))

pub value-past : (s : List ℕ) (v l left : ℕ) → length s < v → Ok None ≡ cursor_as (stands_at s (v + l) left)
value-past s v l left h = past_end s (v + l) left (omega arith)

pub value-cut : (s : List ℕ) (v l left : ℕ) → v ≤ length s → length s - v < l → Ok None ≡ cursor_as (stands_at s (v + l) left)
value-cut s v l left h k = past_end s (v + l) left (omega arith)

pub next-tag : (s : List ℕ) (c : Cursor) (r : Option Cursor) → Ok r ≡ cursor_as (stands_at s (c.tag.value + c.tag.value_length) c.left)
    → Ok r ≡ next_as s (Ok (Some c))
unfolding next_as next_tag
next-tag s c r e = e

pub next-end : (s : List ℕ) → Ok None ≡ next_as s (Ok None)
unfolding next_as
next-end s = refl

pub next-refused : (s : List ℕ) (r : Refusal) → Err r ≡ next_as s (Err r)
unfolding next_as
next-refused s r = refl

pub ruleset laws = (
  rules,
  tag-fits-1,
  tag-fits-2,
  tag-fits-3,
  stands-end,
  stands-broken,
  stands-whole,
  first-refused,
  first-is,
  value-past,
  value-cut,
  next-tag,
  next-end,
  next-refused,
)
