-- Tags whose names are marked as they are passed: where no mark was set before, no two names are equal.
-- Assumes nothing.
use Prim.Native.Nat.{ℕ, ◌+◌, ◌-◌, ◌<◌, ◌≤◌}
use native.Mathlib.Omega.{arith}
use mathlib.Core.Path.{◌≡◌, refl, sym, ◌∙◌}
use mathlib.Core.Bool.{Bool, true, false, not, ◌&&◌, cond}
use mathlib.Core.List.{List}
use lib.ListN.{drop}
use borrow.Author.Rules.{rules}
use Rattle.marks.specs.Marks.{mark_of, with_mark, is_marked}
use Rattle.marks.proofs.Laws.{length_marked}
use Rattle.layout.specs.Reading.{times, tag}
use Rattle.strings.proofs.Laws.{part_length}
use Rattle.parts.specs.Parts.{end_of}
use Rattle.std.specs.Prelude.{Option, Some, None}
use Rattle.rows.specs.Rows.{row_name, row_of, row_whole}
use Rattle.rows.specs.declared.Row.TheVariants as row
use Rattle.rows.specs.declared.RowPlace.{RowPlace}
use Rattle.names.specs.Names.{names, distinct_names, covers}
use Rattle.names.proofs.Passed.{Passed, passed_none, passed-all, passed-more}
use Rattle.names.proofs.Marked.{marked-none, marked_more, stands-unmarked}
use Rattle.names.proofs.Readers.{tag-row}
use Rattle.tables.specs.Tables.{tag_place_of, apart_of, Ends}
use Rattle.tables.specs.declared.TagPlace.{TagPlace}
use Rattle.tables.specs.declared.TagsEnd.{TagsEnd}
use Rattle.tables.proofs.Laws.{tag-parts, tags-done, tags-broken, tags-step, tag_fits, tag-fits-1, tag-fits-2, tag-fits-3}

-- ── Marks ──

-- the tags from `at` to `place`, so many, have names that differ and that are marked, where no mark was set before
pub record Apart (apart : Bool) (ms s : List ℕ) (at passed place : ℕ) : Type 0 where
  pub passes : apart ≡ true → Passed s row.Tag at passed place
  pub marked : apart ≡ true → covers ms (names passed (row_name row.Tag) (drop at s)) ≡ true

pub apart_none : (ms s : List ℕ) (at : ℕ) → Apart true ms s at 0 at
apart_none ms s at = record { passes = λ e. passed_none s row.Tag at; marked = λ e. marked-none ms s row.Tag at }

-- a tag is a row
row-of : (s : List ℕ) (place : ℕ) (p : TagPlace) → tag_place_of (tag (drop place s)) ≡ Some p
    → row_whole p.name (place + 1 + p.name + 1 + p.value) ≡ row_of place (row_name row.Tag (drop place s))
unfolding row_of
row-of s place p e =
    let (l, g) = tag-parts s place p e in
    let q : place + (1 + p.name + (1 + p.value)) ≡ place + 1 + p.name + 1 + p.value = omega arith in
    rw (tag-row (drop place s) _ (1 + p.name + (1 + p.value)) g, part_length s place p.name (omega arith), q)

both : (a b : Bool) → (a && not b) ≡ true → (a ≡ true) × (b ≡ false)
both true true e = absurd (let z : ◌≡◌ {A = ℕ} 0 1 = cc in omega arith)
both true false e = (refl, refl)
both false b e = absurd (let z : ◌≡◌ {A = ℕ} 0 1 = cc in omega arith)

pub apart_more : (apart hit : Bool) (ms after s : List ℕ) (at passed place m : ℕ) (p : TagPlace) (r : Option TagPlace)
    → Apart apart ms s at passed place → r ≡ tag_place_of (tag (drop place s)) → r ≡ Some p → m ≡ mark_of s (place + 1) p.name
    → hit ≡ is_marked ms m → after ≡ with_mark ms m → Apart (apart && not hit) after s at (passed + 1) (place + 1 + p.name + 1 + p.value)
apart_more apart hit ms after s at passed place m p r a e f g i j =
    let x : RowPlace = record { name = p.name; end = place + 1 + p.name + 1 + p.value } in
    let w = row-of s place p (sym e ∙ f) in
    let l = (tag-parts s place p (sym e ∙ f)).0 in
    record {
      passes = λ t. let (q, o) = both apart hit t in
          passed-more s row.Tag at passed place x (Some x) (a.passes q) w refl
          (stands-unmarked ms s row.Tag (place + 1) p.name at passed m hit (omega arith) (a.marked q) g i o);
      marked = λ t. let (q, o) = both apart hit t in
          marked_more ms s row.Tag at passed place m after x (Some x) (a.passes q) (a.marked q) w refl g j;
    }

-- ── Where they end ──

pub ends-all : (apart : Bool) (ms s : List ℕ) (at n passed place : ℕ)
    → end_of place (times (n - passed) tag (drop place s)) ≡ end_of at (times n tag (drop at s)) → Apart apart ms s at passed place
    → passed ≤ n → n ≤ passed → Ends s at n (Some (record { end = place; apart = apart }))
unfolding Ends
ends-all apart ms s at n passed place e a h k =
    (sym (tags-done s place (n - passed) _ e (omega arith)), λ t. sym (passed-all s row.Tag at passed place n (a.passes t) h k))

pub ends-broken : (s : List ℕ) (at n left place : ℕ) (r : Option TagPlace)
    → end_of place (times left tag (drop place s)) ≡ end_of at (times n tag (drop at s)) → r ≡ tag_place_of (tag (drop place s)) → r ≡ None
    → 0 < left → Ends s at n None
unfolding Ends
ends-broken s at n left place r g e f h = sym (tags-broken s place left _ g r e f h)

-- tags that were not marked
pub few-broken : (s : List ℕ) (at n : ℕ) (t : Option ℕ) → t ≡ end_of at (times n tag (drop at s)) → t ≡ None → Ends s at n None
unfolding Ends
few-broken s at n t f e = sym f ∙ e

pub few-end : (s : List ℕ) (at n end : ℕ) (t : Option ℕ) → t ≡ end_of at (times n tag (drop at s)) → t ≡ Some end
    → Ends s at n (Some (record { end = end; apart = false }))
unfolding Ends
few-end s at n end t f e = (sym f ∙ e, λ z. let y : ◌≡◌ {A = ℕ} 0 1 = cc in absurd (omega arith))

-- ── The tags of a table ──

module _ (s : List ℕ) (at n : ℕ) (r : Option TagsEnd) (h : Ends s at n r) where
  pub apart-broken : r ≡ None → None ≡ apart_of (end_of at (times n tag (drop at s))) (distinct_names s at n row.Tag)
  unfolding Ends apart_of
  apart-broken e = go r e h
    where
      pick : (b : Bool) → ◌≡◌ {A = Option ℕ} None (cond b None None)
      pick true = refl
      pick false = refl

      go : (x : Option TagsEnd) → x ≡ None → Ends s at n x → None ≡ cond (distinct_names s at n row.Tag) (end_of at (times n tag (drop at s))) None
      go (Some e) q g = let z : ◌≡◌ {A = ℕ} 0 1 = cc in absurd (omega arith)
      go None q g = rw g (pick (distinct_names s at n row.Tag))

  module _ (e : TagsEnd) (f : r ≡ Some e) where
    ended : (end_of at (times n tag (drop at s)) ≡ Some e.end) × (e.apart ≡ true → distinct_names s at n row.Tag ≡ true)
    unfolding Ends
    ended = rw f at h

    pub apart-seen : e.apart ≡ true → Some e.end ≡ apart_of (end_of at (times n tag (drop at s))) (distinct_names s at n row.Tag)
    unfolding apart_of
    apart-seen t = let (p, q) = ended in rw (q t, p)

    pub apart-names : (d : Bool) → d ≡ distinct_names s at n row.Tag → d ≡ true
        → Some e.end ≡ apart_of (end_of at (times n tag (drop at s))) (distinct_names s at n row.Tag)
    unfolding apart_of
    apart-names d g t = let (p, q) = ended in rw (sym g ∙ t, p)

    pub apart-twice : (d : Bool) → d ≡ distinct_names s at n row.Tag → d ≡ false
        → None ≡ apart_of (end_of at (times n tag (drop at s))) (distinct_names s at n row.Tag)
    unfolding apart_of
    apart-twice d g t = rw (sym g ∙ t)

pub ruleset laws = (
  rules,
  length_marked,
  tag_fits,
  tag-fits-1,
  tag-fits-2,
  tag-fits-3,
  tags-step,
  apart_none,
  apart_more,
  ends-all,
  ends-broken,
  apart-broken,
  apart-seen,
  apart-names,
  apart-twice,
  few-broken,
  few-end,
)
