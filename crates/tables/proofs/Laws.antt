-- Tags and tag tables: what the functions over them leave to be shown.
-- Assumes nothing.
use Prim.Native.Nat.{ℕ, ◌+◌, ◌-◌, ◌^◌, ◌<◌, ◌≤◌}
use native.Mathlib.Omega.{arith}
use mathlib.Core.Path.{◌≡◌, refl, ap, sym, ◌∙◌}
use mathlib.Core.Bool.{Bool, true, false, ◌&&◌, cond}
use mathlib.Core.List.{List}
use lib.ListN.{length, take, drop}
use lib.Seq.{drop-drop}
use mir.Syntax.{w64}
use mir.Val.{Fits}
use lib.Dec.{leb}
use borrow.Author.Rules.{rules}
use borrow.Author.Tests.{lt-ltb, le-ltb, leb-true}
use Rattle.number.specs.Number.{number_of, read_at}
use Rattle.layout.specs.Recording.{Tag, most_tags, within, distinct, tag_names}
use Rattle.layout.specs.Reading.{Parsed, bad, good, Reader, behind, ◌then◌, only, fault_at, placed, times, give, number, tag_name, tag_value, number_of_tags, tag, table_fault, table}
use Rattle.layout.proofs.Readers.{then-takes, placed-takes}
use Rattle.strings.specs.Strings.{text_of}
use Rattle.parts.specs.Parts.{end_of}
use Rattle.rows.specs.Rows.{row_name}
use Rattle.names.specs.Names.{distinct_names}
use Rattle.strings.specs.Strings.{read_by}
use Rattle.faults.specs.Faults.{rule_of, name_by, rest_by, count_of, count_by, first_fault}
use Rattle.tables.specs.Tables.{tag_place_of, table_whole, table_end_of, table_place_of, apart_of, tag_at, parts_of, tag_from, tag_found}
use Rattle.std.specs.Prelude.{Option, Some, None, Ok, Err}
use Rattle.parts.specs.Parts.{broken_at}
use Rattle.rows.specs.declared.Row.TheVariants as row
use Rattle.tables.specs.declared.TagPlace.{TagPlace}
use Rattle.tables.specs.declared.TablePlace.{TablePlace}
use Rattle.strings.proofs.Laws.{part_length, text_of-broken, inside, above}
use Rattle.strings.proofs.Named.{name-parts, value-parts, name-place, name-after, value-place, value_after}
use Rattle.parts.proofs.Readers.{only-bad, only-pass, only-fail, then-bad, then-onward, end-good, end-bad, number-there, number_cut}
use Rattle.parts.proofs.Times.{times-end, times-stop, times-done, times-length}
use Rattle.parts.proofs.Taken.{then-give, then-next-bad}
use Rattle.names.proofs.Readers.{distinct-tags}

-- ── A tag ──

pub tag-no-name : (s : List ℕ) (at : ℕ) (r : Option ℕ) → r ≡ text_of (tag_name (drop at s)) → r ≡ None
    → None ≡ tag_place_of (tag (drop at s))
unfolding tag tag_place_of
tag-no-name s at r e f =
    rw (then-bad {B = Tag} tag_name (λ n. tag_value then λ v. give (record { name = n; value = v })) (drop at s)
    (text_of-broken (tag_name (drop at s)) (sym e ∙ f)).1)

-- behind a legal name the value is read
tag-rest : (s : List ℕ) (at n : ℕ) → text_of (tag_name (drop at s)) ≡ Some n
    → tag (drop at s) ≡ behind (1 + n) ((tag_value then λ v. give (record { name = take n (drop (at + 1) s); value = v })) (drop (at + 1 + n) s))
unfolding tag
tag-rest s at n e =
    let q : at + (1 + n) ≡ at + 1 + n = omega arith in
    then-onward tag_name (λ n. tag_value then λ v. give (record { name = n; value = v })) (drop at s)
    (take n (drop (at + 1) s)) (1 + n) (name-parts s at n e).1
    ∙ rw (drop-drop (1 + n) at s, q)

tag-good : (s : List ℕ) (at n m : ℕ) → text_of (tag_name (drop at s)) ≡ Some n
    → text_of (tag_value (drop (at + 1 + n) s)) ≡ Some m
    → tag (drop at s) ≡ good (record { name = take n (drop (at + 1) s); value = take m (drop (at + 1 + n + 1) s) }) (1 + n + (1 + m))
unfolding behind
tag-good s at n m e f =
    tag-rest s at n e
    ∙ rw (then-give {B = Tag} tag_value (λ v. record { name = take n (drop (at + 1) s); value = v }) (drop (at + 1 + n) s)
    (take m (drop (at + 1 + n + 1) s)) (1 + m) (value-parts s (at + 1 + n) m f).1)

pub tag-no-value : (s : List ℕ) (at n : ℕ) (r v : Option ℕ) → r ≡ text_of (tag_name (drop at s)) → r ≡ Some n
    → v ≡ text_of (tag_value (drop (at + 1 + n) s)) → v ≡ None → None ≡ tag_place_of (tag (drop at s))
unfolding tag_place_of behind
tag-no-value s at n r v e f g h =
    rw (
      tag-rest s at n (sym e ∙ f),
      then-bad {B = Tag} tag_value
          (λ v. give (record { name = take n (drop (at + 1) s); value = v })) (drop (at + 1 + n) s)
          (text_of-broken (tag_value (drop (at + 1 + n) s)) (sym g ∙ h)).1,
    )

pub tag-whole : (s : List ℕ) (at n m : ℕ) (r v : Option ℕ) → r ≡ text_of (tag_name (drop at s)) → r ≡ Some n
    → v ≡ text_of (tag_value (drop (at + 1 + n) s)) → v ≡ Some m → Some (record { name = n; value = m }) ≡ tag_place_of (tag (drop at s))
unfolding tag_place_of
tag-whole s at n m r v e f g h =
    let i : length (take n (drop (at + 1) s)) ≡ n = part_length s at n (name-parts s at n (sym e ∙ f)).0 in
    let j : length (take m (drop (at + 1 + n + 1) s)) ≡ m = part_length s (at + 1 + n) m
    (value-parts s (at + 1 + n) m (sym g ∙ h)).0 in
    rw (tag-good s at n m (sym e ∙ f) (sym g ∙ h), i, j)

-- a tag that is there: where its name and its value stand
module _ (s : List ℕ) (at : ℕ) (p : TagPlace) where
  abbrev Parts : Type 0
  Parts = (at + 1 + p.name + 1 + p.value ≤ length s)
      × (tag (drop at s)
      ≡ good (record { name = take p.name (drop (at + 1) s); value = take p.value (drop (at + 1 + p.name + 1) s) }) (1 + p.name + (1 + p.value)))

  pub tag-parts : tag_place_of (tag (drop at s)) ≡ Some p → Parts
  tag-parts e = go (text_of (tag_name (drop at s))) refl
    where
      value : (i : ℕ) (v : Option ℕ) → text_of (tag_name (drop at s)) ≡ Some i → text_of (tag_value (drop (at + 1 + i) s)) ≡ v → Parts
      value i None f g = let z : ◌≡◌ {A = ℕ} 0 1 = cc (tag-no-value s at i (Some i) None (sym f) refl (sym g) refl) in absurd (omega arith)
      value i (Some j) f g =
          let h : Some (record { name = i; value = j }) ≡ Some p = tag-whole s at i j (Some i) (Some j) (sym f) refl (sym g) refl ∙ e in
          let q : ◌≡◌ {A = TagPlace} (record { name = i; value = j }) p = cc in
          let a : p.name ≡ i = sym (ap (λ (t : TagPlace). t.name) q) in
          let b : p.value ≡ j = sym (ap (λ (t : TagPlace). t.value) q) in
          rw (a, b) ((value-parts s (at + 1 + i) j g).0, tag-good s at i j f g)

      go : (r : Option ℕ) → text_of (tag_name (drop at s)) ≡ r → Parts
      go None f = let z : ◌≡◌ {A = ℕ} 0 1 = cc (tag-no-name s at None (sym f) refl) in absurd (omega arith)
      go (Some i) f = value i (text_of (tag_value (drop (at + 1 + i) s))) f refl

pub tag-broken : (p : Parsed Tag) → tag_place_of p ≡ None → (m : ℕ) × (p ≡ bad m)
unfolding tag_place_of
tag-broken (bad m) e = (m, refl)
tag-broken (good t n) e = let z : ◌≡◌ {A = ℕ} 0 1 = cc in absurd (omega arith)

-- ── Tags in a row ──

module _ (s : List ℕ) (at left : ℕ) (all : Option ℕ) (i : end_of at (times left tag (drop at s)) ≡ all) where
  pub tags-done : left ≤ 0 → Some at ≡ all
  tags-done h = sym (times-done tag left s at h) ∙ i

  module _ (r : Option TagPlace) (e : r ≡ tag_place_of (tag (drop at s))) where
    pub tags-broken : r ≡ None → 0 < left → None ≡ all
    tags-broken f h = sym (times-stop tag left s at h (tag-broken (tag (drop at s)) (sym e ∙ f)).1) ∙ i

    pub tags-step : (next : ℕ) (p : TagPlace) → r ≡ Some p → left ≡ next + 1
        → end_of (at + 1 + p.name + 1 + p.value) (times next tag (drop (at + 1 + p.name + 1 + p.value) s)) ≡ all
    tags-step next p f h =
        let q : at + (1 + p.name + (1 + p.value)) ≡ at + 1 + p.name + 1 + p.value = omega arith in
        let n : left - 1 ≡ next = omega arith in
        rw (← q, ← n) (sym (times-end tag left s at _ (1 + p.name + (1 + p.value)) (omega arith) (tag-parts s at p (sym e ∙ f)).1) ∙ i)

-- what lies behind the start of a tag that is there, up to its end, has a place
module _ (s : List ℕ) (at : ℕ) (p : TagPlace) (r : Option TagPlace) (h : length s < 2 ^ 64) (e : r ≡ tag_place_of (tag (drop at s))) (f : r ≡ Some p) where
  pub tag_fits : Fits w64 (at + 1 + p.name + 1 + p.value)
  tag_fits = let l = (tag-parts s at p (sym e ∙ f)).0 in record { fits = omega arith }

  pub tag-fits-1 : Fits w64 (at + 1)
  tag-fits-1 = let l = (tag-parts s at p (sym e ∙ f)).0 in record { fits = omega arith }

  pub tag-fits-2 : Fits w64 (at + 1 + p.name)
  tag-fits-2 = let l = (tag-parts s at p (sym e ∙ f)).0 in record { fits = omega arith }

  pub tag-fits-3 : Fits w64 (at + 1 + p.name + 1)
  tag-fits-3 = let l = (tag-parts s at p (sym e ∙ f)).0 in record { fits = omega arith }

-- ── A table ──

-- the tags of a table and their names: where its fault is makes no difference to what is read
abbrev apart : Reader (List Tag)
apart = only (λ ts. distinct (tag_names ts)) (only (within 0 most_tags) (number 4) then λ n. times n tag)

table-fails : (s : List ℕ) (at : ℕ) {m : ℕ} → apart (drop at s) ≡ bad m → None ≡ table_end_of at (table (drop at s))
unfolding table number_of_tags table_end_of placed fault_at
table-fails s at e = rw e

table-reads : (s : List ℕ) (at n : ℕ) (ts : List Tag) → apart (drop at s) ≡ good ts n → table (drop at s) ≡ good ts n
unfolding table number_of_tags
table-reads s at n ts e = placed-takes table_fault apart (drop at s) ts n e

table-bad : (s : List ℕ) (at : ℕ) {m : ℕ} → only (within 0 most_tags) (number 4) (drop at s) ≡ bad m
    → None ≡ table_end_of at (table (drop at s))
table-bad s at e =
    table-fails s at (only-bad (λ ts. distinct (tag_names ts)) (only (within 0 most_tags) (number 4) then λ n. times n tag) (drop at s)
    (then-bad (only (within 0 most_tags) (number 4)) (λ n. times n tag) (drop at s) e))

pub table-short : (s : List ℕ) (at : ℕ) → length s < 4 → None ≡ table_end_of at (table (drop at s))
table-short s at h = table-bad s at (only-bad (within 0 most_tags) (number 4) (drop at s) (number_cut 4 s at (omega arith)))

pub table-far : (s : List ℕ) (at : ℕ) → 4 ≤ length s → length s - 4 < at → None ≡ table_end_of at (table (drop at s))
table-far s at l h = table-bad s at (only-bad (within 0 most_tags) (number 4) (drop at s) (number_cut 4 s at (omega arith)))

pub table-many : (s : List ℕ) (at n : ℕ) → 4 ≤ length s → at ≤ length s - 4 → n ≡ read_at s at 4 → 1000 < n
    → None ≡ table_end_of at (table (drop at s))
table-many s at n l h e k =
    table-bad s at (only-fail (within 0 most_tags) (number 4) (drop at s) n 4
    (rw e (number-there 4 s at (omega arith) (omega arith) (omega arith))) (above 0 most_tags n (omega arith) k))

-- the number that a table begins with
count-good : (s : List ℕ) (at n : ℕ) → 4 ≤ length s → at ≤ length s - 4 → n ≡ read_at s at 4 → n ≤ 1000
    → only (within 0 most_tags) (number 4) (drop at s) ≡ good n 4
count-good s at n l h e k =
    only-pass (within 0 most_tags) (number 4) (drop at s) n 4 (rw e (number-there 4 s at (omega arith) (omega arith) (omega arith)))
    (inside 0 most_tags n (omega arith) k)

table-no-tags : (s : List ℕ) (at n : ℕ) (t : Option ℕ) → 4 ≤ length s → at ≤ length s - 4 → n ≡ read_at s at 4 → n ≤ 1000
    → t ≡ end_of (at + 4) (times n tag (drop (at + 4) s)) → t ≡ None → None ≡ table_end_of at (table (drop at s))
table-no-tags s at n t l h e k f g =
    let (m, b) = end-bad (times n tag (drop (at + 4) s)) (at + 4) (sym f ∙ g) in
    table-fails s at (only-bad (λ ts. distinct (tag_names ts)) (only (within 0 most_tags) (number 4) then λ n. times n tag) (drop at s)
    (then-next-bad (only (within 0 most_tags) (number 4)) (λ n. times n tag) (drop at s) n 4 {m = m} (count-good s at n l h e k) (rw (drop-drop 4 at s) b)))

-- the tags of a table, before their names are compared
tags-good : (s : List ℕ) (at n m : ℕ) (ts : List Tag) → 4 ≤ length s → at ≤ length s - 4 → n ≡ read_at s at 4 → n ≤ 1000
    → times n tag (drop (at + 4) s) ≡ good ts m → (only (within 0 most_tags) (number 4) then λ n. times n tag) (drop at s) ≡ good ts (4 + m)
tags-good s at n m ts l h e k f = then-takes (only (within 0 most_tags) (number 4)) (λ n. times n tag) (drop at s) n ts 4 m
    (count-good s at n l h e k) (rw (drop-drop 4 at s) f)

table-twice : (s : List ℕ) (at n end : ℕ) (t : Option ℕ) (d : Bool) → 4 ≤ length s → at ≤ length s - 4 → n ≡ read_at s at 4 → n ≤ 1000
    → t ≡ end_of (at + 4) (times n tag (drop (at + 4) s)) → t ≡ Some end → d ≡ distinct_names s (at + 4) n row.Tag → d ≡ false
    → None ≡ table_end_of at (table (drop at s))
table-twice s at n end t d l h e k f g i j =
    let (ts, m, p, q) = end-good (times n tag (drop (at + 4) s)) (at + 4) end (sym f ∙ g) in
    table-fails s at (only-fail (λ ts. distinct (tag_names ts)) (only (within 0 most_tags) (number 4) then λ n. times n tag) (drop at s) ts (4 + m)
    (tags-good s at n m ts l h e k p) (sym (distinct-tags s (at + 4) n m ts p) ∙ sym i ∙ j))

table-whole : (s : List ℕ) (at n end : ℕ) (t : Option ℕ) (d : Bool) → 4 ≤ length s → at ≤ length s - 4 → n ≡ read_at s at 4 → n ≤ 1000
    → t ≡ end_of (at + 4) (times n tag (drop (at + 4) s)) → t ≡ Some end → d ≡ distinct_names s (at + 4) n row.Tag → d ≡ true
    → Some (table_whole n end) ≡ table_end_of at (table (drop at s))
unfolding table_end_of
table-whole s at n end t d l h e k f g i j =
    let (ts, m, p, q) = end-good (times n tag (drop (at + 4) s)) (at + 4) end (sym f ∙ g) in
    let a : n ≡ length ts = sym (times-length tag n (drop (at + 4) s) ts m p) in
    let b : end ≡ at + (4 + m) = omega arith in
    rw (table-reads s at (4 + m) ts (only-pass (λ ts. distinct (tag_names ts)) (only (within 0 most_tags) (number 4) then λ n. times n tag) (drop at s) ts (4 + m)
    (tags-good s at n m ts l h e k p) (sym (distinct-tags s (at + 4) n m ts p) ∙ sym i ∙ j)))
    (ap (λ (z : ℕ). Some (table_whole z end)) a ∙ ap (λ (z : ℕ). Some (table_whole (length ts) z)) b)

-- the tags of a table, by where they end if their names differ
module _ (s : List ℕ) (at n : ℕ) (t : Option ℕ) (l : 4 ≤ length s) (h : at ≤ length s - 4) (e : n ≡ read_at s at 4) (k : n ≤ 1000)
    (f : t ≡ apart_of (end_of (at + 4) (times n tag (drop (at + 4) s))) (distinct_names s (at + 4) n row.Tag)) where
  pub table-broken : t ≡ None → None ≡ table_end_of at (table (drop at s))
  unfolding apart_of
  table-broken g = go (distinct_names s (at + 4) n row.Tag) (end_of (at + 4) (times n tag (drop (at + 4) s))) refl refl (sym f ∙ g)
    where
      go : (d : Bool) (p : Option ℕ) → distinct_names s (at + 4) n row.Tag ≡ d → end_of (at + 4) (times n tag (drop (at + 4) s)) ≡ p
          → cond d p None ≡ None → None ≡ table_end_of at (table (drop at s))
      go d None q r i = table-no-tags s at n None l h e k (sym r) refl
      go true (Some x) q r i = let z : ◌≡◌ {A = ℕ} 0 1 = cc in absurd (omega arith)
      go false (Some x) q r i = table-twice s at n x (Some x) false l h e k (sym r) refl (sym q) refl

  pub table-ends : (end : ℕ) → t ≡ Some end → Some (table_whole n end) ≡ table_end_of at (table (drop at s))
  unfolding apart_of
  table-ends end g = go (distinct_names s (at + 4) n row.Tag) refl (sym f ∙ g)
    where
      go : (d : Bool) → distinct_names s (at + 4) n row.Tag ≡ d → cond d (end_of (at + 4) (times n tag (drop (at + 4) s))) None ≡ Some end
          → Some (table_whole n end) ≡ table_end_of at (table (drop at s))
      go true q i = table-whole s at n end (Some end) true l h e k (sym i) refl (sym q) refl
      go false q i = let z : ◌≡◌ {A = ℕ} 0 1 = cc in absurd (omega arith)

-- ── A table, or where its first fault is ──

fault-is : (s : List ℕ) (at m : ℕ) → table (drop at s) ≡ bad m → m ≡ first_fault row.Tag 0 (drop at s)
unfolding table number_of_tags placed fault_at table_fault first_fault count_by count_of name_by rest_by rule_of read_by
fault-is s at m g = go (apart (drop at s)) g
  where
    go : (p : Parsed (List Tag)) → fault_at (table_fault (drop at s)) p ≡ bad m → m ≡ table_fault (drop at s)
    go (bad i) h = cc
    go (good ts i) h = let z : ◌≡◌ {A = ℕ} 0 1 = cc in absurd (omega arith)

module _ (s : List ℕ) (at : ℕ) where
  pub table-whole-at : (p : TablePlace) → Some p ≡ table_end_of at (table (drop at s)) → Ok p ≡ table_place_of at (table (drop at s))
  unfolding table_end_of table_place_of
  table-whole-at p e = go (table (drop at s)) e
    where
      go : (x : Parsed (List Tag)) → Some p ≡ table_end_of at x → Ok p ≡ table_place_of at x
      go (bad m) g = let z : ◌≡◌ {A = ℕ} 0 1 = cc in absurd (omega arith)
      go (good ts m) g = let q : ◌≡◌ {A = TablePlace} p (table_whole (length ts) (at + m)) = cc in ap Ok q

  pub table-fault : (k : ℕ) → None ≡ table_end_of at (table (drop at s)) → k ≡ at + first_fault row.Tag 0 (drop at s)
      → Err (broken_at k) ≡ table_place_of at (table (drop at s))
  unfolding table_end_of table_place_of
  table-fault k e g = go (table (drop at s)) refl e
    where
      go : (x : Parsed (List Tag)) → table (drop at s) ≡ x → None ≡ table_end_of at x → Err (broken_at k) ≡ table_place_of at x
      go (bad m) h i = ap (λ (x : ℕ). Err (broken_at x)) (g ∙ ap (λ (x : ℕ). at + x) (sym (fault-is s at m h)))
      go (good ts m) h i = let z : ◌≡◌ {A = ℕ} 0 1 = cc in absurd (omega arith)

-- ── A tag by its number ──

pub tag-past : (s : List ℕ) (at i n : ℕ) → n ≡ read_at s at 4 → n ≤ i → None ≡ tag_found s at i
unfolding tag_found
tag-past s at i n e h = rw (← e, le-ltb i n h)

-- a number above another was read from bytes that are there
count-there : (s : List ℕ) (at i n : ℕ) → n ≡ read_at s at 4 → i < n → at + 4 ≤ length s
unfolding read_at
count-there s at i n e h = go (leb (at + 4) (length s)) refl e
  where
    go : (b : Bool) → leb (at + 4) (length s) ≡ b → n ≡ cond (leb 4 8 && b) (number_of (take 4 (drop at s))) 0 → at + 4 ≤ length s
    go true f g = leb-true (at + 4) (length s) f
    go false f g = absurd (omega arith)

pub count_fits_lem : (s : List ℕ) (at i n : ℕ) → length s < 2 ^ 64 → n ≡ read_at s at 4 → i < n → Fits w64 (at + 4)
count_fits_lem s at i n l e h = let k = count-there s at i n e h in record { fits = omega arith }

tag-from : (s : List ℕ) (at i n : ℕ) (t : Option ℕ) → n ≡ read_at s at 4 → i < n → t ≡ end_of (at + 4) (times i (row_name row.Tag) (drop (at + 4) s))
    → tag_found s at i ≡ tag_from s t
unfolding tag_found
tag-from s at i n t e h f = rw (← e, lt-ltb i n h, ← f)

pub tag-no-start : (s : List ℕ) (at i n : ℕ) (t : Option ℕ) → n ≡ read_at s at 4 → i < n
    → t ≡ end_of (at + 4) (times i (row_name row.Tag) (drop (at + 4) s)) → t ≡ None → None ≡ tag_found s at i
unfolding tag_from
tag-no-start s at i n t e h f g = sym (tag-from s at i n t e h f ∙ rw g)

pub tag-not-there : (s : List ℕ) (at i n p : ℕ) (t : Option ℕ) (r : Option TagPlace) → n ≡ read_at s at 4 → i < n
    → t ≡ end_of (at + 4) (times i (row_name row.Tag) (drop (at + 4) s)) → t ≡ Some p → r ≡ tag_place_of (tag (drop p s)) → r ≡ None
    → None ≡ tag_found s at i
unfolding tag_from parts_of
tag-not-there s at i n p t r e h f g o q = sym (tag-from s at i n t e h f ∙ rw (g, (tag-broken (tag (drop p s)) (sym o ∙ q)).1))

pub tag-there : (s : List ℕ) (at i n p : ℕ) (q : TagPlace) (t : Option ℕ) (r : Option TagPlace) → n ≡ read_at s at 4 → i < n
    → t ≡ end_of (at + 4) (times i (row_name row.Tag) (drop (at + 4) s)) → t ≡ Some p → r ≡ tag_place_of (tag (drop p s))
    → r ≡ Some q → tag_at (p + 1) q.name (p + 1 + q.name + 1) q.value ≡ tag_found s at i
unfolding tag_from parts_of
tag-there s at i n p q t r e h f g o z =
    let (l, w) = tag-parts s p q (sym o ∙ z) in
    let a : length (take q.name (drop (p + 1) s)) ≡ q.name = part_length s p q.name (omega arith) in
    let b : length (take q.value (drop (p + 1 + q.name + 1) s)) ≡ q.value = part_length s (p + 1 + q.name) q.value l in
    sym (tag-from s at i n t e h f ∙ rw (g, w, a, b))

pub ruleset laws = (
  rules,
  name-place,
  name-after,
  value-place,
  value_after,
  tag-no-name,
  tag-no-value,
  tag-whole,
  tags-done,
  tags-broken,
  tags-step,
  tag_fits,
  tag-fits-1,
  tag-fits-2,
  tag-fits-3,
  table-short,
  table-far,
  table-many,
  table-broken,
  table-ends,
  table-whole-at,
  table-fault,
  tag-past,
  count_fits_lem,
  tag-no-start,
  tag-not-there,
  tag-there,
)
