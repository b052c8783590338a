-- What the functions of this crate leave to be shown, as laws about the definitions.
-- Assumes nothing.
use Rattle.std.specs.Prelude.{Option, Some, Result, Ok}
use Rattle.refusal.specs.declared.Refusal.{Refusal}
use Rattle.tables.specs.declared.TagFound.{TagFound}
use Rattle.apply.specs.Applied.{applying}
use Rattle.saving.specs.declared.Looked.{Looked}
use Rattle.cursor.specs.declared.Cursor.{Cursor}
use Rattle.cursor.specs.Cursors.{cursor_at}
use Prim.Native.Nat.{ℕ}
use mathlib.Core.Path.{◌≡◌, refl, ap, ◌∙◌}
use mathlib.Core.Bool.{cond}
use mathlib.Core.List.{List}
use lib.Dec.{eqb}
use borrow.Author.Rules.{rules}
use Rattle.layout.specs.Browser as layout
use Rattle.layout.specs.Cursor.{first_tag}
use Rattle.layout.proofs.Lists.{asks, asks-not}
use Rattle.saving.specs.Answers as saving
use Rattle.converting.specs.Answers as converting
use Rattle.browser.specs.Browsing.{browsed_as}
use Rattle.cursor.specs.Cursors.{cursor_as, next_as}
use Rattle.face_tags.specs.Face.{looked_flat, committed_flat, kept, outcome_flat, converted_flat, conversion_flat, tag_flat, cursor_not, cursor_flat, cursor_asked, cursor_next}
use Rattle.face_tags.specs.declared.FstfLooked.{FstfLooked}
use Rattle.face_tags.specs.declared.FstfCommitted.{FstfCommitted}
use Rattle.face_tags.specs.declared.FstfConverted.{FstfConverted}
use Rattle.face_tags.specs.declared.FstfTag.{FstfTag}
use Rattle.face_tags.specs.declared.FstfCursor.{FstfCursor}

-- ── To look and to commit ──

pub look-face : (f s : List ℕ) (o : Result Looked Refusal) (r : FstfLooked) → o ≡ saving.look_of f s → r ≡ looked_flat o → r ≡ looked_flat (saving.look_of f s)
look-face f s o r e h = h ∙ ap looked_flat e

pub commit-face : (f s out out' : List ℕ) (o : Result ℕ Refusal) (r : FstfCommitted) → applying o out' ≡ saving.commit_of f s out → r ≡ committed_flat o
    → kept r out' ≡ outcome_flat (saving.commit_of f s out)
unfolding outcome_flat
commit-face f s out out' o r e h = ap (λ (x : FstfCommitted). kept x out') h ∙ ap outcome_flat e

-- ── To convert ──

pub convert-face : (f s out out' : List ℕ) (o : Result ℕ Refusal) (r : FstfConverted) → applying o out' ≡ converting.convert_of f s out → r ≡ converted_flat o
    → kept r out' ≡ conversion_flat (converting.convert_of f s out)
unfolding conversion_flat
convert-face f s out out' o r e h = ap (λ (x : FstfConverted). kept x out') h ∙ ap conversion_flat e

-- ── Tags ──

pub tag-face : (b : layout.Browsed) (o : Result (Option TagFound) Refusal) (r : FstfTag) → o ≡ browsed_as b → r ≡ tag_flat o → r ≡ tag_flat (browsed_as b)
tag-face b o r h k = k ∙ ap tag_flat h

-- ── One tag after another ──

pub cursor-asked : (c : FstfCursor) → cursor_at c.name c.name_length c.value c.value_length c.left ≡ cursor_asked c
unfolding cursor_asked
cursor-asked c = refl

pub first-face : (s : List ℕ) (o : Result (Option Cursor) Refusal) (r : FstfCursor) → o ≡ cursor_as (first_tag s) → r ≡ cursor_flat o → r ≡ cursor_flat (cursor_as (first_tag s))
first-face s o r h k = k ∙ ap cursor_flat h

-- the end, or the next tag, of a cursor that is not refused
after_tag : List ℕ → FstfCursor → FstfCursor
after_tag s c = cond (eqb c.found 0) (cursor_not 0 0) (cursor_flat (next_as s (Ok (Some (cursor_asked c)))))

pub next-passed : (s : List ℕ) (c r : FstfCursor) → (c.refused ≡ 0 → ⊥) → r ≡ cursor_not c.refused c.place → r ≡ cursor_next s c
unfolding cursor_next after_tag
next-passed s c r e h = asks-not c.refused 0 (after_tag s c) (cursor_not c.refused c.place) r e h

pub next-ended : (s : List ℕ) (c r : FstfCursor) → c.refused ≡ 0 → c.found ≡ 0 → r ≡ cursor_not 0 0 → r ≡ cursor_next s c
unfolding cursor_next after_tag
next-ended s c r e f h =
    asks c.refused 0 (after_tag s c) (cursor_not c.refused c.place) r e
    (asks c.found 0 (cursor_not 0 0) (cursor_flat (next_as s (Ok (Some (cursor_asked c))))) r f h)

pub next-face : (s : List ℕ) (c : FstfCursor) (a : Cursor) (o : Result (Option Cursor) Refusal) (r : FstfCursor) → c.refused ≡ 0 → (c.found ≡ 0 → ⊥) → a ≡ cursor_asked c
    → o ≡ next_as s (Ok (Some a)) → r ≡ cursor_flat o → r ≡ cursor_next s c
unfolding cursor_next after_tag
next-face s c a o r e f g h k =
    asks c.refused 0 (after_tag s c) (cursor_not c.refused c.place) r e
    (asks-not c.found 0 (cursor_not 0 0) (cursor_flat (next_as s (Ok (Some (cursor_asked c))))) r f (k ∙ ap cursor_flat (h ∙ ap (λ (x : Cursor). next_as s (Ok (Some x))) g)))

pub ruleset laws = (
  rules,
  look-face,
  commit-face,
  convert-face,
  tag-face,
  cursor-asked,
  first-face,
  next-passed,
  next-ended,
  next-face,
)
