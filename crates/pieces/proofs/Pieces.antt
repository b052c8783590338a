-- The piece of a row, as the functions find it.
-- Assumes nothing.
use Rattle.std.specs.Prelude.{Option, Some, None}
use Prim.Native.Nat.{ℕ, suc, ◌+◌, ◌-◌, ◌<◌, ◌≤◌}
use native.Mathlib.Omega.{arith}
use mathlib.Core.Path.{◌≡◌, refl, ap, sym, ◌∙◌}
use mathlib.Core.List.{List}
use lib.ListN.{length, take, drop, get_or}
use lib.Seq.{drop-cons}
use borrow.Author.Rules.{rules}
use borrow.Author.Tests.{lt-ltb, le-ltb, ne_eqb}
use mir.Syntax.{w8, w64}
use mir.Val.{Fits}
use Rattle.layout.specs.Recording.{short_string}
use Rattle.layout.specs.Reading.{◌then◌, give, string}
use Rattle.strings.specs.Strings.{text_of}
use Rattle.rows.specs.Rows.{rest, row_name, row_of}
use Rattle.rows.specs.declared.Row.{Row}
use Rattle.rows.specs.declared.Row.TheVariants as row
use Rattle.rows.specs.declared.RowPlace.{RowPlace}
use Rattle.strings.proofs.Laws.{string-parts, part_length}
use Rattle.rows.proofs.Laws.{row-parts, row-broken}
use Rattle.parts.proofs.Taken.{then-parts, give-parts}
use Rattle.names.proofs.Laws.{row-name-place}
use Rattle.sheet.specs.Rows.{row_with, change_with_name, made, change_makes}
use Rattle.sheet.specs.Values.{new_value, value_in, Stands, Finds}
use Rattle.pieces.specs.Pieces.{changed_row, changed_value, piece, with_value, whole_row, whole_at, changed_tag, changed_at, kept_row, kept_at, new_row, new_at, named_at, piece_at, value_length, Short}
use Rattle.sheet.specs.declared.Value.{Value}
use Rattle.pieces.specs.declared.Side.{Side}
use Rattle.pieces.specs.declared.Side.TheVariants as side
use Rattle.pieces.specs.declared.Piece.{Piece}
use Rattle.sheet.proofs.Values.{string-stands, new-finds, tag-row-parts, row_makes, row-makes-none, row-fits-2}

-- ── Short strings in their place ──

pub known-end : (s : List ℕ) (at : ℕ) (p : RowPlace) (r : Option RowPlace) → r ≡ row_of at (row_name row.Tag (drop at s)) → r ≡ Some p → at ≤ p.end
known-end s at p r e f = let l = (tag-row-parts s at p (sym e ∙ f)).0 in omega arith

-- a row begins with its name
pub row-name : (k : Row) (s : List ℕ) (at : ℕ) (p : RowPlace) → row_of at (row_name k (drop at s)) ≡ Some p
    → text_of (string (drop at s)) ≡ Some p.name
unfolding row_name text_of
row-name k s at p e =
    let (l, j, x, q) = row-parts k s at p.name p.end e in
    then-parts string (λ name. rest k then λ r. give name) (drop at s) (take p.name (drop (at + 1) s)) j x (λ v n m f g h.
    give-parts (rest k) (λ r. v) (drop n (drop at s)) (take p.name (drop (at + 1) s)) m g (λ r i b.
    rw f (ap Some (ap length (sym b) ∙ part_length s at p.name l))))

-- a short string with its length byte
pub string_bytes : (s : List ℕ) (at n : ℕ) → text_of (string (drop at s)) ≡ Some n
    → take (1 + n) (drop at s) ≡ short_string (take n (drop (at + 1) s))
unfolding short_string
string_bytes s at n e =
    let (l, o, p) = string-parts s at n e in
    let a : 1 + n ≡ suc n = omega arith in
    let b : at + 1 ≡ suc at = omega arith in
    let c : length (take n (drop (suc at) s)) ≡ n = rw b at (part_length s at n l) in
    rw (a, drop-cons s at 0 (omega arith), b, c, o)

pub string-short : (s : List ℕ) (at n : ℕ) → ((i : ℕ) → Fits w8 (get_or s i 0)) → text_of (string (drop at s)) ≡ Some n → n < 256
string-short s at n w e =
    let o = (string-parts s at n e).1 in
    let b : get_or s at 0 < 256 = (w at).fits in
    omega arith

-- a value that stands in the sheet is such a string
pub value-text : (s : List ℕ) (v : Value) → Stands s (Some v) → text_of (string (drop v.place s)) ≡ Some v.length
unfolding Stands text_of
value-text s v h = string-stands s v.place (1 + v.length) (take v.length (drop (v.place + 1) s)) h (λ a b c. rw h (ap Some (omega arith)))

value-short : (s : List ℕ) (r : Option Value) → ((i : ℕ) → Fits w8 (get_or s i 0)) → Stands s r → value_length r < 256
unfolding value_length
value-short s (Some v) w h = string-short s v.place v.length w (value-text s v h)
value-short s None w h = omega arith

pub changed-finds : (s : List ℕ) (at : ℕ) (v : Option Value) → v ≡ changed_value s at
    → Finds s v (change_makes (row_with row.Change change_with_name (drop at s)))
unfolding changed_value changed_row made change_with_name value_in Stands
changed-finds s at v e = rw e (go (row_of at (row_name row.Change (drop at s))) refl)
  where
    go : (r : Option RowPlace) → row_of at (row_name row.Change (drop at s)) ≡ r
        → Finds s (changed_row s at r) (change_makes (row_with row.Change change_with_name (drop at s)))
    go None f = record {
      found = rw (row-makes-none row.Change change_with_name (drop at s)
          (row-broken (row_name row.Change (drop at s)) at f).1);
      there = refl;
    }
    go (Some p) f = row_makes row.Change change_with_name s at p f
        (λ m x q. rw x (new-finds s (at + 1 + p.name) (new_value s (at + 1 + p.name)) refl))

pub short-kept : (s t : List ℕ) (at change : ℕ) (p : RowPlace) (r : Option RowPlace) (v : Option Value) → r ≡ row_of at (row_name row.Tag (drop at s))
    → r ≡ Some p → v ≡ changed_value t change → ((i : ℕ) → Fits w8 (get_or s i 0)) → ((i : ℕ) → Fits w8 (get_or t i 0)) → Short p.name v
short-kept s t at change p r v h g f w x =
    record {
      name = string-short s at p.name w (row-name row.Tag s at p (sym h ∙ g));
      value = value-short t v x (changed-finds t change v f).there;
    }

pub short-new : (s : List ℕ) (at : ℕ) (p : RowPlace) (r : Option RowPlace) (v : Option Value) → r ≡ row_of at (row_name row.Change (drop at s))
    → r ≡ Some p → v ≡ new_value s (at + 1 + p.name) → ((i : ℕ) → Fits w8 (get_or s i 0)) → Short p.name v
short-new s at p r v h g f w =
    record {
      name = string-short s at p.name w (row-name row.Change s at p (sym h ∙ g));
      value = value-short s v w (new-finds s (at + 1 + p.name) v f).there;
    }

pub short-fits : (len : ℕ) (r : Option Value) (v : Value) → Short len r → r ≡ Some v → Fits w64 (1 + v.length)
unfolding value_length
short-fits len r v h e = let l : v.length < 256 = rw e at h.value in record { fits = omega arith }

-- ── What the functions answer ──

pub with_nothing : (len end : ℕ) (v : Option Value) → v ≡ None → piece 0 0 0 end ≡ with_value len v end
unfolding with_value
with_nothing len end v e = rw e

pub with_at : (len end : ℕ) (r : Option Value) (v : Value) → r ≡ Some v → piece (1 + len) v.place (1 + v.length) end ≡ with_value len r end
unfolding with_value
with_at len end r v e = rw e

module _ (s : List ℕ) (at : ℕ) (r : Option RowPlace) (e : r ≡ row_of at (row_name row.Change (drop at s))) where
  pub changed-broken : r ≡ None → None ≡ changed_value s at
  unfolding changed_value changed_row
  changed-broken f = rw (← e, f)

  pub changed-there : (p : RowPlace) (v : Option Value) → r ≡ Some p → v ≡ new_value s (at + 1 + p.name) → v ≡ changed_value s at
  unfolding changed_value changed_row
  changed-there p v f g = rw (← e, f) g

  pub new-broken : (tag : ℕ) → r ≡ None → None ≡ new_at at s tag
  unfolding new_at new_row
  new-broken tag f = rw (← e, f)

  pub new-old : (tag : ℕ) (p : RowPlace) → r ≡ Some p → 0 < tag → Some (piece 0 0 0 p.end) ≡ new_at at s tag
  unfolding new_at new_row
  new-old tag p f g = rw (← e, f, lt-ltb 0 tag g)

  pub new-takes : (tag : ℕ) (p : RowPlace) (v : Option Value) (q : Piece) → r ≡ Some p → tag ≤ 0 → v ≡ new_value s (at + 1 + p.name)
      → q ≡ with_value p.name v p.end → Some q ≡ new_at at s tag
  unfolding new_at new_row
  new-takes tag p v q f g h o = rw (← e, f, le-ltb 0 tag g, ← h) (ap Some o)

module _ (s : List ℕ) (at : ℕ) (r : Option RowPlace) (e : r ≡ row_of at (row_name row.Tag (drop at s))) where
  pub whole-broken : r ≡ None → None ≡ whole_at s at
  unfolding whole_at whole_row
  whole-broken f = rw (← e, f)

  pub whole-there : (p : RowPlace) → r ≡ Some p → Some (piece (p.end - at) 0 0 p.end) ≡ whole_at s at
  unfolding whole_at whole_row
  whole-there p f = rw (← e, f)

  pub tag-broken : (t : List ℕ) (change : ℕ) → r ≡ None → None ≡ changed_at s at t change
  unfolding changed_at changed_tag
  tag-broken t change f = rw (← e, f)

  pub tag-takes : (t : List ℕ) (change : ℕ) (p : RowPlace) (v : Option Value) (q : Piece) → r ≡ Some p → v ≡ changed_value t change
      → q ≡ with_value p.name v p.end → Some q ≡ changed_at s at t change
  unfolding changed_at changed_tag
  tag-takes t change p v q f h o = rw (← e, f, ← h) (ap Some o)

module _ (x : Side) (s t : List ℕ) (at other : ℕ) (q : Option Piece) where
  pub named-kept : x ≡ side.Kept → q ≡ changed_at s at t other → q ≡ named_at x s at t other
  unfolding named_at
  named-kept e f = rw e f

  pub named_new : x ≡ side.New → q ≡ new_at at t other → q ≡ named_at x s at t other
  unfolding named_at
  named_new e f = rw e f

-- a tag is kept whole, or it is changed
whole-kept : (t : List ℕ) (at : ℕ) (r : Option RowPlace) → whole_row at r ≡ kept_row at t 0 r
unfolding whole_row kept_row
whole-kept t at (Some p) = refl
whole-kept t at None = refl

changed-kept : (t : List ℕ) (at change : ℕ) (r : Option RowPlace) → (change ≡ 0 → ⊥) → changed_tag t change r ≡ kept_row at t change r
unfolding changed_tag kept_row
changed-kept t at change (Some p) h = rw (ne_eqb change 0 h)
changed-kept t at change None h = refl

module _ (x : Side) (s t : List ℕ) (at other : ℕ) (q : Option Piece) where
  pub piece-whole : x ≡ side.Kept → other ≡ 0 → q ≡ whole_at s at → q ≡ piece_at x s at t other
  unfolding piece_at kept_at whole_at
  piece-whole e z f = rw (e, z) (f ∙ whole-kept t at _)

  pub piece-changed : x ≡ side.Kept → (other ≡ 0 → ⊥) → q ≡ named_at x s at t other → q ≡ piece_at x s at t other
  unfolding piece_at kept_at changed_at named_at
  piece-changed e z f = rw e (rw e at f ∙ changed-kept t at other _ z)

  pub piece-new : x ≡ side.New → q ≡ named_at x s at t other → q ≡ piece_at x s at t other
  unfolding piece_at named_at
  piece-new e f = rw e (rw e at f)

pub ruleset laws = (
  rules,
  row-name-place,
  row-fits-2,
  known-end,
  with_nothing,
  with_at,
  changed-broken,
  changed-there,
  whole-broken,
  whole-there,
  tag-broken,
  tag-takes,
  new-broken,
  new-old,
  new-takes,
  named-kept,
  named_new,
  piece-whole,
  piece-changed,
  piece-new,
)
