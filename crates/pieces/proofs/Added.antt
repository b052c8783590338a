-- The piece of a row is the bytes of the tags that it adds, and the rows add them one behind the other.
-- Assumes nothing.
use Rattle.std.specs.Prelude.{Option, Some, None}
use Prim.Native.Nat.{ℕ, zero, suc, ◌+◌, ◌-◌, ◌<◌, ◌≤◌}
use native.Mathlib.Omega.{arith}
use mathlib.Core.Path.{◌≡◌, refl, ap, sym, ◌∙◌}
use mathlib.Core.Bool.{Bool, true, false, cond}
use mathlib.Core.List.{List, [], ◌++◌, flat_map, append-nil}
use lib.ListN.{length, take, drop, get_or, length-drop, drop_of_length-le}
use lib.Seq.{drop-drop, take-add}
use lib.Dec.{eqb, ltb}
use borrow.Author.Tests.{lt-ltb, le-ltb, ne_eqb}
use mir.Syntax.{w8}
use mir.Val.{Fits}
use Rattle.layout.specs.Recording.{Tag, tag_bytes}
use Rattle.layout.specs.Reading.{string, value_or}
use Rattle.layout.specs.Saving.{Entry, tag_with}
use Rattle.strings.specs.Strings.{text_of}
use Rattle.rows.specs.Rows.{row_name, row_of}
use Rattle.rows.specs.declared.Row.{Row}
use Rattle.rows.specs.declared.Row.TheVariants as row
use Rattle.rows.specs.declared.RowPlace.{RowPlace}
use Rattle.strings.proofs.Laws.{string-parts}
use Rattle.sheet.specs.Rows.{rows, row_with, tag_with_name, change_with_name, new_in, made, Beside, pair, beside}
use Rattle.sheet.specs.Values.{new_value, value_in, Finds}
use Rattle.sheet.specs.declared.Value.{Value}
use Rattle.sheet.proofs.Values.{new-finds, tag-row-parts, tag-row-value, row_makes}
use Rattle.sheet.proofs.Rows.{beside-stop, beside-step}
use Rattle.pieces.specs.Pieces.{changed_value, piece, with_value, kept_row, kept_at, new_row, new_at, piece_at}
use Rattle.pieces.specs.Added.{changed_entry, kept_by, new_by, added_by, walked_in, row_adds, tags_in, piece_bytes, Makes}
use Rattle.pieces.specs.declared.Side.{Side}
use Rattle.pieces.specs.declared.Side.TheVariants as side
use Rattle.pieces.specs.declared.Piece.{Piece}
use Rattle.pieces.proofs.Pieces.{row-name, string_bytes, string-short, value-text, changed-finds}

-- ── A piece and its tags ──

pub tags-none : (n : ℕ) → n ≤ 0 → 0 ≡ tags_in n
unfolding tags_in
tags-none n h = rw (le-ltb 0 n h)

pub tags-one : (n : ℕ) → 0 < n → 1 ≡ tags_in n
unfolding tags_in
tags-one n h = rw (lt-ltb 0 n h)

-- a piece, where the row is whole, is these tags
unfoldable Adds : (from : List ℕ) → (place : ℕ) → (sheet : List ℕ) → Option Piece → List Tag → Type 0
Adds from place sheet (Some p) ts = Makes from place sheet p.first p.value p.second ts
Adds from place sheet None ts = ◌≡◌ {A = ℕ} 0 0

-- no tag
makes_none : (s t : List ℕ) (at : ℕ) → at ≤ length s → Makes s at t 0 0 0 []
unfolding piece_bytes flat_map
makes_none s t at l = record {
  bytes = refl;
  count = sym (tags-none 0 (omega arith));
  first_there = omega arith;
  second_there = omega arith;
  short = omega arith;
}

-- a name with a value of the sheet
with-adds : (s t : List ℕ) (at len end : ℕ) (r : Option Value) (e : Entry) → ((i : ℕ) → Fits w8 (get_or s i 0)) → ((i : ℕ) → Fits w8 (get_or t i 0))
    → text_of (string (drop at s)) ≡ Some len → Finds t r e → Adds s at t (Some (with_value len r end)) (tag_with (take len (drop (at + 1) s)) e)
unfolding Adds with_value piece_bytes value_in tag_with tag_bytes flat_map
with-adds s t at len end (Some v) e w x h f =
    let l = (string-parts s at len h).0 in
    let k = (string-parts t v.place v.length (value-text t v f.there)).0 in
    let a = string-short s at len w h in
    let b = string-short t v.place v.length x (value-text t v f.there) in
    rw (← f.found) (record {
      bytes = rw (string_bytes s at len h, string_bytes t v.place v.length (value-text t v f.there)) (sym (append-nil _));
      count = sym (tags-one (1 + len + (1 + v.length)) (omega arith));
      first_there = omega arith;
      second_there = omega arith;
      short = omega arith;
    })
with-adds s t at len end None e w x h f =
    let l = (string-parts s at len h).0 in
    rw (← f.found) (makes_none s t at (omega arith))

module _ (s : List ℕ) (at : ℕ) (p : RowPlace) (e : row_of at (row_name row.Tag (drop at s)) ≡ Some p) where
  -- the value of a tag is a short string behind its name
  row-value : text_of (string (drop (at + 1 + p.name) s)) ≡ Some (p.end - (at + 1 + p.name + 1))
  row-value =
      value-text s (record { place = at + 1 + p.name; length = p.end - (at + 1 + p.name + 1) }) (tag-row-value s at p (Some p) (sym e) refl).there

  -- the whole of a tag that stays
  row-bytes : take (p.end - at) (drop at s) ≡ tag_bytes (tag_with_name (take p.name (drop (at + 1) s)) (drop (at + 1 + p.name) s))
  unfolding tag_bytes tag_with_name value_or
  row-bytes =
      let (l, m, c) = tag-row-parts s at p e in
      let a : p.end - at ≡ 1 + p.name + (1 + (p.end - (at + 1 + p.name + 1))) = omega arith in
      let b : at + (1 + p.name) ≡ at + 1 + p.name = omega arith in
      rw (
        a,
        take-add (1 + p.name) (1 + (p.end - (at + 1 + p.name + 1))) (drop at s),
        drop-drop (1 + p.name) at s,
        b,
        string_bytes s at p.name (row-name row.Tag s at p e),
        string_bytes s (at + 1 + p.name) (p.end - (at + 1 + p.name + 1)) row-value,
        c,
      )

  kept-stays : (t : List ℕ) → ((i : ℕ) → Fits w8 (get_or s i 0))
      → Makes s at t (p.end - at) 0 0 (kept_by t (pair 0 (tag_with_name (take p.name (drop (at + 1) s)) (drop (at + 1 + p.name) s))))
  unfolding kept_by changed_entry tag_with_name piece_bytes tag_with flat_map
  kept-stays t w =
      let (m, b, c) = tag-row-parts s at p e in
      let d = string-short s at p.name w (row-name row.Tag s at p e) in
      let g = string-short s (at + 1 + p.name) (p.end - (at + 1 + p.name + 1)) w row-value in
      record {
        bytes = ap (λ (x : List ℕ). x ++ []) row-bytes;
        count = sym (tags-one (p.end - at + 0) (omega arith));
        first_there = omega arith;
        second_there = omega arith;
        short = omega arith;
      }

-- the tags of a row that is there
row_made : {A : Type 0} (k : Row) (make : List ℕ → List ℕ → A) (adds : Beside A → List Tag) (s : List ℕ) (at other : ℕ) (p : RowPlace)
    → row_of at (row_name k (drop at s)) ≡ Some p
    → made (λ x. adds (pair other x)) [] (row_with k make (drop at s)) ≡ adds
    (pair other (make (take p.name (drop (at + 1) s)) (drop (at + 1 + p.name) s)))
unfolding made
row_made k make adds s at other p e = row_makes k make s at p e (λ m x q. rw x)

kept_by_lem : (s t : List ℕ) (at change : ℕ) (p : RowPlace) → ((i : ℕ) → Fits w8 (get_or s i 0)) → ((i : ℕ) → Fits w8 (get_or t i 0))
    → row_of at (row_name row.Tag (drop at s)) ≡ Some p
    → Adds s at t (Some (cond (eqb change 0) (piece (p.end - at) 0 0 p.end) (with_value p.name (changed_value t change) p.end)))
    (kept_by t (pair change (tag_with_name (take p.name (drop (at + 1) s)) (drop (at + 1 + p.name) s))))
unfolding Adds kept_by changed_entry tag_with_name
kept_by_lem s t at zero p w x h = kept-stays s at p h t w
kept_by_lem s t at (suc c) p w x h =
    rw (ne_eqb (suc c) 0 (λ z. omega arith)) (with-adds s t at p.name p.end (changed_value t (suc c)) _ w x (row-name row.Tag s at p h)
    (changed-finds t (suc c) (changed_value t (suc c)) refl))

new_by_lem : (t : List ℕ) (at : ℕ) (p : RowPlace) (b : Bool) → ((i : ℕ) → Fits w8 (get_or t i 0))
    → row_of at (row_name row.Change (drop at t)) ≡ Some p
    → Adds t at t (Some (cond b (piece 0 0 0 p.end) (with_value p.name (new_value t (at + 1 + p.name)) p.end)))
    (cond b [] (tag_with (take p.name (drop (at + 1) t)) (new_in (drop (at + 1 + p.name) t))))
unfolding Adds
new_by_lem t at p true x h = let l = (string-parts t at p.name (row-name row.Change t at p h)).0 in makes_none t t at (omega arith)
new_by_lem t at p false x h = with-adds t t at p.name p.end (new_value t (at + 1 + p.name)) _ x x (row-name row.Change t at p h)
    (new-finds t (at + 1 + p.name) (new_value t (at + 1 + p.name)) refl)

new-row : (t : List ℕ) (at tag : ℕ) (p : RowPlace) → ((i : ℕ) → Fits w8 (get_or t i 0))
    → row_of at (row_name row.Change (drop at t)) ≡ Some p
    → Adds t at t (Some (cond (ltb 0 tag) (piece 0 0 0 p.end) (with_value p.name (new_value t (at + 1 + p.name)) p.end)))
    (new_by (pair tag (change_with_name (take p.name (drop (at + 1) t)) (drop (at + 1 + p.name) t))))
unfolding new_by change_with_name
new-row t at tag p x h = new_by_lem t at p (ltb 0 tag) x h

kept-adds : (s t : List ℕ) (at change : ℕ) (r : Option RowPlace) → ((i : ℕ) → Fits w8 (get_or s i 0)) → ((i : ℕ) → Fits w8 (get_or t i 0))
    → row_of at (row_name row.Tag (drop at s)) ≡ r → Adds s at t (kept_row at t change r) (row_adds side.Kept s t at change)
unfolding kept_row Adds row_adds
kept-adds s t at change None w x h = refl
kept-adds s t at change (Some p) w x h = rw (row_made row.Tag tag_with_name (kept_by t) s at change p h) (kept_by_lem s t at change p w x h)

new-adds : (s t : List ℕ) (at tag : ℕ) (r : Option RowPlace) → ((i : ℕ) → Fits w8 (get_or t i 0)) → row_of at (row_name row.Change (drop at t)) ≡ r
    → Adds t at t (new_row at t tag r) (row_adds side.New s t at tag)
unfolding new_row Adds row_adds
new-adds s t at tag None x h = refl
new-adds s t at tag (Some p) x h = rw (row_made row.Change change_with_name new_by t at tag p h) (new-row t at tag p x h)

piece-adds : (x : Side) (s t : List ℕ) (at other : ℕ) → ((i : ℕ) → Fits w8 (get_or s i 0)) → ((i : ℕ) → Fits w8 (get_or t i 0))
    → Adds (walked_in x s t) at t (piece_at x s at t other) (row_adds x s t at other)
unfolding piece_at kept_at new_at walked_in
piece-adds side.Kept s t at other w y = kept-adds s t at other _ w y refl
piece-adds side.New s t at other w y = new-adds s t at other _ y refl

pub piece-makes : (x : Side) (s t : List ℕ) (at other : ℕ) (p : Piece) (r : Option Piece) → r ≡ piece_at x s at t other → r ≡ Some p
    → ((i : ℕ) → Fits w8 (get_or s i 0)) → ((i : ℕ) → Fits w8 (get_or t i 0))
    → Makes (walked_in x s t) at t p.first p.value p.second (row_adds x s t at other)
unfolding Adds
piece-makes x s t at other p r h k w y = rw (sym h ∙ k) at (piece-adds x s t at other w y)

-- ── Rows, one by one ──

module _ {A : Type 0} (k : Row) (make : List ℕ → List ℕ → A) (adds : Beside A → List Tag) (s others : List ℕ) where
  -- the tags of the rows from a place and a number on
  abbrev rest-adds : (at i : ℕ) → List Tag
  rest-adds at i = flat_map adds (beside (drop i others) (rows (length (drop i others)) (row_with k make) (drop at s)))

  rows_next : (at i : ℕ) (p : RowPlace) → i < length others → row_of at (row_name k (drop at s)) ≡ Some p
      → rest-adds at i ≡ made (λ x. adds (pair (get_or others i 0) x)) [] (row_with k make (drop at s)) ++ rest-adds p.end (i + 1)
  unfolding flat_map
  rows_next at i p h e =
      let l = length-drop i others in
      let m = length-drop (i + 1) others in
      let o : length (drop i others) - 1 ≡ length (drop (i + 1) others) = omega arith in
      rw (
        beside-step k make others s i at (length (drop i others)) p (Some p) (sym e) refl (omega arith) (omega arith),
        o,
        row_made k make adds s at (get_or others i 0) p e,
      )

  rows-broken : (at i : ℕ) → row_of at (row_name k (drop at s)) ≡ None → rest-adds at i ≡ []
  unfolding flat_map
  rows-broken at i e = rw (beside-stop k make others s i at (length (drop i others)) None (sym e) refl)

-- where the row of a piece ends is where the piece says
unfoldable piece_end : Option Piece → Option ℕ
piece_end (Some p) = Some p.end
piece_end None = None

unfoldable row_end : Option RowPlace → Option ℕ
row_end (Some r) = Some r.end
row_end None = None

with-end : (len : ℕ) (v : Option Value) (end : ℕ) → (with_value len v end).end ≡ end
unfolding with_value
with-end len (Some v) end = refl
with-end len None end = refl

choice-end : (b : Bool) (p q : Piece) (end : ℕ) → p.end ≡ end → q.end ≡ end → Some (cond b p q).end ≡ Some end
choice-end true p q end e f = ap Some e
choice-end false p q end e f = ap Some f

kept-end : (at : ℕ) (t : List ℕ) (change : ℕ) (r : Option RowPlace) → piece_end (kept_row at t change r) ≡ row_end r
unfolding kept_row row_end piece_end
kept-end at t change None = refl
kept-end at t change (Some p) = choice-end (eqb change 0) _ _ p.end refl (with-end p.name (changed_value t change) p.end)

new-end : (at : ℕ) (t : List ℕ) (tag : ℕ) (r : Option RowPlace) → piece_end (new_row at t tag r) ≡ row_end r
unfolding new_row row_end piece_end
new-end at t tag None = refl
new-end at t tag (Some p) = choice-end (ltb 0 tag) _ _ p.end refl (with-end p.name (new_value t (at + 1 + p.name)) p.end)

row-whole : {G : Type 0} (r : Option RowPlace) (q : Option Piece) (p : Piece) → q ≡ Some p → piece_end q ≡ row_end r
    → ((x : RowPlace) → r ≡ Some x → x.end ≡ p.end → G) → G
unfolding piece_end row_end
row-whole None q p h k w = let o : Some p.end ≡ None = rw h at k in let z : ◌≡◌ {A = ℕ} 0 1 = cc in absurd (omega arith)
row-whole (Some x) q p h k w = let o : Some p.end ≡ Some x.end = rw h at k in w x refl (cc)

row-none : (r : Option RowPlace) (q : Option Piece) → q ≡ None → piece_end q ≡ row_end r → r ≡ None
unfolding piece_end row_end
row-none None q h k = refl
row-none (Some x) q h k = let o : None ≡ Some x.end = rw h at k in let z : ◌≡◌ {A = ℕ} 0 1 = cc in absurd (omega arith)

-- the row of a piece of the table
pub piece-row : {G : Type 0} (s t : List ℕ) (at other : ℕ) (p : Piece) (r : Option Piece) → r ≡ piece_at side.Kept s at t other → r ≡ Some p
    → ((x : RowPlace) → row_of at (row_name row.Tag (drop at s)) ≡ Some x → x.end ≡ p.end → G) → G
unfolding piece_at kept_at
piece-row s t at other p r h k w =
    row-whole (row_of at (row_name row.Tag (drop at s))) (kept_row at t other (row_of at (row_name row.Tag (drop at s)))) p (sym h ∙ k)
    (kept-end at t other _) w

pub piece-no-row : (s t : List ℕ) (at other : ℕ) (r : Option Piece) → r ≡ piece_at side.Kept s at t other → r ≡ None
    → row_of at (row_name row.Tag (drop at s)) ≡ None
unfolding piece_at kept_at
piece-no-row s t at other r h k =
    row-none (row_of at (row_name row.Tag (drop at s))) (kept_row at t other (row_of at (row_name row.Tag (drop at s)))) (sym h ∙ k)
    (kept-end at t other _)

pub added-done : (x : Side) (s t others : List ℕ) (at i : ℕ) → length others ≤ i → added_by x s t at (drop i others) ≡ []
unfolding added_by flat_map beside
added-done side.Kept s t others at i h = rw (drop_of_length-le others {i = i} h)
added-done side.New s t others at i h = rw (drop_of_length-le others {i = i} h)

pub added-stop : (x : Side) (s t others : List ℕ) (at i other : ℕ) (r : Option Piece) → r ≡ piece_at x s at t other → r ≡ None
    → added_by x s t at (drop i others) ≡ []
unfolding added_by piece_at kept_at new_at
added-stop side.Kept s t others at i other r e f = rows-broken row.Tag tag_with_name (kept_by t) s others at i (piece-no-row s t at other r e f)
added-stop side.New s t others at i other r e f = rows-broken row.Change change_with_name new_by t others at i
    (row-none (row_of at (row_name row.Change (drop at t))) (new_row at t other (row_of at (row_name row.Change (drop at t)))) (sym e ∙ f)
    (new-end at t other _))

pub added_next : (x : Side) (s t others : List ℕ) (at i : ℕ) (p : Piece) (r : Option Piece) → r ≡ piece_at x s at t (get_or others i 0) → r ≡ Some p
    → i < length others
    → added_by x s t at (drop i others) ≡ row_adds x s t at (get_or others i 0) ++ added_by x s t p.end (drop (i + 1) others)
unfolding added_by piece_at kept_at new_at row_adds
added_next side.Kept s t others at i p r a b h =
    piece-row s t at (get_or others i 0) p r a b (λ y c d. rw (← d) (rows_next row.Tag tag_with_name (kept_by t) s others at i y h c))
added_next side.New s t others at i p r a b h =
    row-whole (row_of at (row_name row.Change (drop at t))) (new_row at t (get_or others i 0) (row_of at (row_name row.Change (drop at t)))) p
    (sym a ∙ b) (new-end at t (get_or others i 0) _)
    (λ y c d. rw (← d) (rows_next row.Change change_with_name new_by t others at i y h c))
