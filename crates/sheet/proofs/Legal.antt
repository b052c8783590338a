-- Legal tags and legal changes are rows, of which the length and kind bytes make the same tags and changes.
-- Assumes nothing.
use Prim.Native.Nat.{ℕ, zero, suc, ◌+◌, ◌≤◌}
use native.Mathlib.Omega.{arith}
use mathlib.Core.Path.{◌≡◌, ap, sym, ◌∙◌}
use mathlib.Core.Bool.{Bool, true, false, cond}
use mathlib.Core.List.{List, [], ◌∷◌}
use lib.ListN.{length, take, drop, get_or}
use lib.Dec.{eqb}
use Rattle.number.specs.Number.{number_of}
use Rattle.layout.specs.Recording.{Tag, short_string, within}
use Rattle.layout.specs.Reading.{Reader, good, onward, ◌then◌, give, times, number, string, tag_name, tag_value, tag, value_or}
use Rattle.layout.specs.Saving.{Entry, Change, absent, holds, change_with, entry_of, kind, entry_part}
use Rattle.layout.proofs.Readers.{number-good}
use Rattle.rows.specs.Rows.{entry, entry_up_to, row_name}
use Rattle.rows.specs.declared.Row.{Row}
use Rattle.rows.specs.declared.Row.TheVariants as row
use Rattle.strings.proofs.Named.{name-keeps, value_keeps}
use Rattle.parts.proofs.Taken.{then-parts, give-parts, only_parts}
use Rattle.names.proofs.Readers.{tag-row, change-row, up-to-leads}
use Rattle.tables.proofs.Places.{string-taken}
use Rattle.parts.proofs.Times.{times-parts}
use Rattle.sheet.specs.Rows.{rows, row_with, text_entry, text_in, entry_in, entry_behind, new_in, tag_with_name, change_with_name, tags_at, changes_at}
use Rattle.sheet.proofs.Rows.{rows_more, no_rows}

-- ── Rows that were read ──

-- where a reader reads, another reads the same
abbrev Follows : {A : Type 0} → Reader A → Reader A → Type 0
Follows {A} p q = (t : List ℕ) (x : A) (n : ℕ) → p t ≡ good x n → q t ≡ good x n

none_read : {A : Type 0} (p : Reader A) (t : List ℕ) (xs : List A) (m : ℕ) → times zero p t ≡ good xs m → [] ≡ xs
unfolding times
none_read p t xs m e = cc

pub rows-times : {A : Type 0} (p q : Reader A) → Follows p q → (k : ℕ) (t : List ℕ) (xs : List A) (m : ℕ) → times k p t ≡ good xs m → rows k q t ≡ xs
rows-times p q f zero t xs m e = no_rows q t ∙ none_read p t xs m e
rows-times {A} p q f (suc k) t xs m e =
    times-parts p k t xs m e (λ x n ys j a b c d. rows_more k q t x n (f t x n a)
    ∙ ap (λ (l : List A). x ∷ l) (rows-times p q f k (drop n t) ys j b) ∙ sym c)

-- a row of a name makes what was read, if the bytes behind the name do
row-follows : {A : Type 0} (k : Row) (make : List ℕ → List ℕ → A) (name : List ℕ) (t : List ℕ) (x : A) (n : ℕ) → row_name k t ≡ good name n
    → make name (drop (1 + length name) t) ≡ x → row_with k make t ≡ good x n
unfolding row_with onward
row-follows k make name t x n e f = rw e (ap (λ y. good y n) f)

-- ── A tag ──

tag_same : (t v w : List ℕ) (a b : ℕ) (x : Tag) → string t ≡ good v a → string (drop a t) ≡ good w b → x ≡ record { name = v; value = w }
    → tag_with_name x.name (drop (1 + length x.name) t) ≡ x
unfolding tag_with_name value_or short_string
tag_same t v w a b x e f o =
    let c : a ≡ suc (length v) = string-taken t v a e in
    let d : 1 + length v ≡ a = omega arith in
    rw (o, d, f)

pub tag-follows : Follows tag (row_with row.Tag tag_with_name)
unfolding tag
tag-follows t x n e =
    row-follows row.Tag tag_with_name x.name t x n (tag-row t x n e)
    (then-parts tag_name (λ v. tag_value then λ w. give (record { name = v; value = w })) t x n e (λ v a b f g h.
    give-parts tag_value (λ w. record { name = v; value = w }) (drop a t) x b g (λ w i o.
    tag_same t v w a b x (name-keeps.text t v a f) (value_keeps.text (drop a t) w b i) o)))

-- ── Entries ──

-- a kind byte that was read
kind-byte : (most : ℕ) (u : List ℕ) (k a : ℕ) → kind most u ≡ good k a → (get_or u 0 0 ≡ k) × (a ≡ 1)
unfolding kind number_of
kind-byte most u k a e = go u (number-good 1 u k a (only_parts (within 0 most) (number 1) u k a e).0)
  where
    go : (u : List ℕ) → ((1 ≤ length u) × (number_of (take 1 u) ≡ k) × (1 ≡ a)) → (get_or u 0 0 ≡ k) × (a ≡ 1)
    go [] (l, p, q) = absurd (omega arith)
    go (x ∷ u) (l, p, q) = (omega arith, sym q)

-- the entry that a kind asks for
abbrev by_kind : ℕ → List ℕ → Entry
by_kind kind t = cond (eqb kind 1) (text_in t) absent

entry-of-kind : (kind b : ℕ) (t : List ℕ) (en : Entry) → entry_of kind t ≡ good en b → by_kind kind t ≡ en
unfolding entry_of give text_in text_entry
entry-of-kind kind b t en e = go (eqb kind 1) e
  where
    go : (q : Bool) → cond q (tag_value then λ v. give (holds v)) (give absent) t ≡ good en b → cond q (text_entry (string t)) absent ≡ en
    go true h = give-parts tag_value holds t en b h (λ v i o. rw (value_keeps.text t v b i) (sym o))
    go false h = cc

pub entry-reads : (most : ℕ) (u : List ℕ) (en : Entry) (d : ℕ) → entry_up_to most u ≡ good en d → entry_in u ≡ en
unfolding entry_in entry_up_to
entry-reads most u en d e =
    then-parts (kind most) entry_of u en d e (λ k a b f g h.
    let (p, q) = kind-byte most u k a f in
    rw (p) (ap (λ (z : ℕ). by_kind k (drop z u)) (sym q) ∙ entry-of-kind k b (drop a u) en g))

-- ── A change ──

change-same : (t v r : List ℕ) (a c : ℕ) (s en : Entry) (x : Change) → string t ≡ good v a → entry (drop a t) ≡ good r c
    → entry_in (drop a t) ≡ s → entry_in (drop c (drop a t)) ≡ en
    → x ≡ record { name = v; seen = s; new = en } → change_with_name x.name (drop (1 + length x.name) t) ≡ x
unfolding change_with_name new_in entry_behind short_string
change-same t v r a c s en x e f g h o =
    let b : a ≡ suc (length v) = string-taken t v a e in
    let d : 1 + length v ≡ a = omega arith in
    rw (o, d, f, g, h)

pub change-follows : Follows (change_with entry_part) (row_with row.Change change_with_name)
unfolding change_with entry_part entry_up_to
change-follows t x n e =
    row-follows row.Change change_with_name x.name t x n (change-row entry_part (up-to-leads 1) t x n e)
    (then-parts tag_name (λ name. entry_part then λ s. entry_part then λ e. give (record { name = name; seen = s; new = e })) t x n e (λ v a b f g h.
    then-parts entry_part (λ s. entry_part then λ e. give (record { name = v; seen = s; new = e })) (drop a t) x b g (λ s c d i j k.
    give-parts entry_part (λ e. record { name = v; seen = s; new = e }) (drop c (drop a t)) x d j (λ en l o.
    let (r, p) = up-to-leads 1 (drop a t) s c i in
    change-same t v r a c s en x (name-keeps.text t v a f) p (entry-reads 1 (drop a t) s c i) (entry-reads 1 (drop c (drop a t)) en d l) o))))

-- ── A legal table and a sheet ──

pub tags-are : (s : List ℕ) (at n m : ℕ) (ts : List Tag) → times n tag (drop at s) ≡ good ts m → tags_at s at n ≡ ts
tags-are s at n m ts e = rows-times tag (row_with row.Tag tag_with_name) tag-follows n (drop at s) ts m e

pub changes-are : (s : List ℕ) (at n m : ℕ) (cs : List Change) → times n (change_with entry_part) (drop at s) ≡ good cs m → changes_at s at n ≡ cs
changes-are s at n m cs e = rows-times (change_with entry_part) (row_with row.Change change_with_name) change-follows n (drop at s) cs m e
