-- What the functions of this crate leave to be shown, as laws about the definitions.
-- Assumes nothing.
use Rattle.std.specs.Prelude.{Option, Some, None, Ok, Err}
use Rattle.parts.specs.declared.Fault.{Fault}
use Rattle.refusal.specs.declared.Refusal.TheVariants.{UserTable}
use Prim.Native.Nat.{ℕ, ◌+◌, ◌<◌, ◌≤◌}
use native.Mathlib.Omega.{arith}
use mathlib.Core.Path.{◌≡◌, refl, ap, sym, ◌∙◌}
use mathlib.Core.Bool.{Bool, true, false, cond}
use mathlib.Core.List.{List}
use lib.ListN.{length}
use lib.Seq.{take-length}
use lib.Dec.{ltb}
use borrow.Author.Rules.{rules}
use borrow.Author.Tests.{lt-ltb, le-ltb, ltb-true, ltb-false}
use Rattle.layout.specs.Recording.{Tag, among, tag_names}
use Rattle.layout.specs.Reading.{good, exactly, tag, table}
use Rattle.layout.specs.Items.{no_tag}
use Rattle.layout.specs.Browser.{tag_at, browse, cursor_after, number_of_tag, tag_named}
use Rattle.layout.specs.Browser as layout
use Rattle.layout.proofs.Readers.{exactly-good}
use Rattle.rows.specs.Rows.{row_name}
use Rattle.names.specs.Names.{found, find_name}
use Rattle.tables.specs.Tables.{tags_of, tag_found}
use Rattle.rows.specs.declared.Row.TheVariants as row
use Rattle.tables.specs.declared.TagFound.{TagFound}
use Rattle.names.specs.declared.NameFound.{NameFound}
use Rattle.names.proofs.Readers.{tag-row}
use Rattle.tables.proofs.Alone.{tags-parts, tags-none}
use Rattle.tables.proofs.Places.{table-read, tag-found-at, tag-found-past}
use Rattle.names.proofs.Laws.{find-there}
use Rattle.names.proofs.Finding.{find-nothing, find_at, number-none, number_at}
use Rattle.browser.specs.Browsing.{browsed_as}

-- ── A tag by its number ──

-- tag number i of a legal table, or the end
found-is : (t : List ℕ) (i m : ℕ) (ts : List Tag) → table t ≡ good ts m
    → Ok (tag_found t 0 i) ≡ browsed_as (cond (ltb i (length ts)) (tag_at ts i) layout.end)
unfolding browsed_as tag_at
found-is t i m ts e = go (ltb i (length ts)) refl
  where
    go : (b : Bool) → ltb i (length ts) ≡ b → Ok (tag_found t 0 i) ≡ browsed_as (cond b (tag_at ts i) layout.end)
    go true h = rw (tag-found-at t 0 m i ts e (ltb-true i (length ts) h))
    go false h = rw (tag-found-past t 0 m i ts e (ltb-false i (length ts) h))

pub browse-refused : (t : List ℕ) (i : ℕ) (f : Fault) → Err f ≡ tags_of (exactly table t) → Err (UserTable f.place) ≡ browsed_as (browse t i)
unfolding browse browsed_as
browse-refused t i f e = rw (tags-none (exactly table t) f (sym e), browse)

browse-is : (t : List ℕ) (ts : List Tag) (m i : ℕ) → exactly table t ≡ good ts m
    → browsed_as (browse t i) ≡ browsed_as (cond (ltb i (length ts)) (tag_at ts i) layout.end)
unfolding browse
browse-is t ts m i e = rw (e, browse)

pub browse-found : (t : List ℕ) (i n : ℕ) (f : Option TagFound) → Ok n ≡ tags_of (exactly table t) → f ≡ tag_found t 0 i
    → Ok f ≡ browsed_as (browse t i)
browse-found t i n f g h =
    let (ts, m, p, q) = tags-parts (exactly table t) n (sym g) in
    ap Ok h ∙ found-is t i m ts (exactly-good table t ts m p).0 ∙ sym (browse-is t ts m i p)

-- ── A tag by its name ──

pub named-refused : (t name : List ℕ) (f : Fault) → Err f ≡ tags_of (exactly table t) → Err (UserTable f.place) ≡ browsed_as (tag_named t name)
unfolding tag_named browsed_as
named-refused t name f e = rw (tags-none (exactly table t) f (sym e), tag_named)

-- the bytes of the whole name
whole-name : (name t : List ℕ) (n : ℕ) (f : Option NameFound) → f ≡ find_name name 0 (length name) t 4 n row.Tag → f ≡ found name n (row_name row.Tag) t 0 4
whole-name name t n f e = e ∙ find-there name t 0 (length name) 4 n row.Tag (omega arith)
    ∙ ap (λ (v : List ℕ). found v n (row_name row.Tag) t 0 4) (take-length name)

named-is : (t name : List ℕ) (ts : List Tag) (m i : ℕ) → exactly table t ≡ good ts m → number_of_tag name ts ≡ i
    → browsed_as (tag_named t name) ≡ browsed_as (cond (ltb i (length ts)) (tag_at ts i) layout.end)
unfolding tag_named
named-is t name ts m i e f = rw (e, tag_named, f)

pub named-none : (t name : List ℕ) (n : ℕ) → Ok n ≡ tags_of (exactly table t) → None ≡ find_name name 0 (length name) t 4 n row.Tag
    → Ok None ≡ browsed_as (tag_named t name)
unfolding browsed_as tag_names
named-none t name n g h =
    let (ts, m, p, q) = tags-parts (exactly table t) n (sym g) in
    table-read t 0 m ts (exactly-good table t ts m p).0 (λ j l o w u.
    let a : among name (tag_names ts) ≡ false = find-nothing row.Tag tag (λ x. x.name) tag-row name t (length ts) 0 4 j ts w
    (rw q (sym (whole-name name t n None h))) in
    sym (named-is t name ts m (length ts) p (number-none name ts a) ∙ rw (le-ltb (length ts) (length ts) (omega arith))))

pub named-found : (t name : List ℕ) (n : ℕ) (f : NameFound) (d : Option TagFound) → Ok n ≡ tags_of (exactly table t)
    → Some f ≡ find_name name 0 (length name) t 4 n row.Tag → d ≡ tag_found t 0 f.number → Ok d ≡ browsed_as (tag_named t name)
unfolding tag_names
named-found t name n f d g h x =
    let (ts, m, p, q) = tags-parts (exactly table t) n (sym g) in
    let c = (exactly-good table t ts m p).0 in
    table-read t 0 m ts c (λ j l o w u.
    find_at row.Tag tag (λ z. z.name) tag-row name t no_tag (length ts) 0 4 j f.number f.place ts w (rw q (sym (whole-name name t n (Some f) h)))
    (λ z u' v' a l' am sm ti qq pp.
    let s : number_of_tag name ts ≡ f.number = number_at name ts z l' am sm ∙ (omega arith) in
    ap Ok x ∙ found-is t f.number m ts c ∙ sym (named-is t name ts m f.number p s)))

-- ── The cursor ──

pub cursor-refused : (t : List ℕ) (i : ℕ) (f : Fault) → Err f ≡ tags_of (exactly table t) → i ≡ cursor_after (browse t i) i
unfolding browse cursor_after
cursor-refused t i f e = rw (tags-none (exactly table t) f (sym e), browse)

cursor-is : (t : List ℕ) (ts : List Tag) (m i : ℕ) (b : Bool) → exactly table t ≡ good ts m → ltb i (length ts) ≡ b
    → cursor_after (browse t i) i ≡ cond b (i + 1) i
unfolding browse cursor_after tag_at
cursor-is t ts m i true e f = rw (e, browse, f)
cursor-is t ts m i false e f = rw (e, browse, f)

pub cursor-tag : (t : List ℕ) (i n : ℕ) → Ok n ≡ tags_of (exactly table t) → i < n → i + 1 ≡ cursor_after (browse t i) i
cursor-tag t i n e h =
    let (ts, m, p, q) = tags-parts (exactly table t) n (sym e) in
    sym (cursor-is t ts m i true p (lt-ltb i (length ts) (omega arith)))

pub cursor-end : (t : List ℕ) (i n : ℕ) → Ok n ≡ tags_of (exactly table t) → n ≤ i → i ≡ cursor_after (browse t i) i
cursor-end t i n e h =
    let (ts, m, p, q) = tags-parts (exactly table t) n (sym e) in
    sym (cursor-is t ts m i false p (le-ltb i (length ts) (omega arith)))

pub ruleset laws = (
  rules,
  browse-refused,
  browse-found,
  named-refused,
  named-none,
  named-found,
  cursor-refused,
  cursor-tag,
  cursor-end,
)
