-- The calls of this crate, one after another, are the browser's: the cursor of `first_tag`, given to `next_tag` k times, shows what the browser
-- gives for number k. Assumes nothing.
use Rattle.std.specs.Prelude.{Option, Result}
use Rattle.refusal.specs.declared.Refusal.{Refusal}
use Prim.Native.Nat.{ℕ, zero, suc}
use mathlib.Core.Path.{◌≡◌, refl, ap, ◌∙◌}
use mathlib.Core.List.{List}
use Rattle.layout.specs.Browser.{browse}
use Rattle.layout.specs.Cursor.{first_tag, next_tag}
use Rattle.layout.specs.Cursor as layout
use Rattle.layout.proofs.Cursors.{shows, moved, cursor-browses}
use Rattle.cursor.specs.Cursors.{cursor_as, next_as}
use Rattle.cursor.specs.declared.Cursor.{Cursor}

-- `next_tag` called k times
unfoldable pub called : (s : List ℕ) → (k : ℕ) → Result (Option Cursor) Refusal → Result (Option Cursor) Refusal
called s zero c = c
called s (suc k) c = called s k (next_as s c)

next-is : (s : List ℕ) (c : layout.Cursor) → next_as s (cursor_as c) ≡ cursor_as (next_tag s c)
unfolding next_as cursor_as next_tag
next-is s (layout.at name value left) = refl
next-is s layout.end = refl
next-is s (layout.refused n p) = refl

called_is : (s : List ℕ) (k : ℕ) (c : layout.Cursor) → called s k (cursor_as c) ≡ cursor_as (moved s k c)
unfolding called moved
called_is s zero c = refl
called_is s (suc k) c = ap (called s k) (next-is s c) ∙ called_is s k (next_tag s c)

pub cursor-moves : (s : List ℕ) (k : ℕ) → (c : layout.Cursor) × (called s k (cursor_as (first_tag s)) ≡ cursor_as c) × (shows c ≡ browse s k)
cursor-moves s k = (moved s k (first_tag s), called_is s k (first_tag s), cursor-browses s k)
