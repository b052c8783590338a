-- The tag browser gives the tags of a table one after another, then the end, and stays there; a tag by its name is found where the table has it; and both are
-- refused 7 exactly where the bytes are no legal table. Assumes nothing.
use Prim.Native.Nat.{ℕ, zero, suc, ◌+◌, ◌≤◌, ◌<◌}
use native.Mathlib.Omega.{arith}
use mathlib.Core.Path.{◌≡◌, refl, ap, sym, ◌∙◌}
use mathlib.Core.Bool.{Bool, true, false, not, cond}
use mathlib.Core.Logic.{◌↔◌}
use mathlib.Core.List.{List, [], ◌∷◌, ◌++◌, map, append-nil}
use lib.ListN.{length, take, drop, get_or, replicate, drop_of_length-le}
use lib.Seq.{drop-cons}
use lib.Dec.{ltb, leb}
use lib.Pow.{are_bytes}
use borrow.Author.Tests.{lt-ltb, le-ltb, not-true}
use Rattle.number.proofs.Bytes.{both_true}
use Rattle.layout.specs.Recording.{Tag, most_tags, table_bytes, every, same, among, distinct, tag_names, legal_tag, legal_table}
use Rattle.layout.specs.Reading.{Parsed, bad, good, exactly, table, fault_of}
use Rattle.layout.specs.Items.{Part, no_tag, name_start, value_start}
use Rattle.layout.specs.Browser.{Browsed, tag, end, refused, tag_at, browse, cursor_after, number_of_tag, tag_named}
use Rattle.layout.proofs.Lists.{or-false, or_right, cond-true, cond-false, same_refl}
use Rattle.layout.proofs.Exact.{table-exact, exactly-gives, exactly-takes, all_three}
use Rattle.layout.proofs.Places.{Stands, stands-take, tag-name-stands, tag-value-stands}
use Rattle.layout.proofs.Applied.{among-other, same-sym}

-- ── What an answer says ──

-- the bytes of a part
unfoldable pub part_bytes : List ℕ → Part → List ℕ
part_bytes bytes p = take p.len (drop p.start bytes)

-- what a caller learns: the tag whose name and value stand at the two parts, the end, or the refusal
pub data Told : Type 0 where
  a_tag : Tag → Told
  the_end : Told
  a_refusal : (number place : ℕ) → Told

unfoldable pub told : List ℕ → Browsed → Told
told bytes (tag n v) = a_tag (record { name = part_bytes bytes n; value = part_bytes bytes v })
told bytes end = the_end
told bytes (refused n p) = a_refusal n p

-- the browser asked k times, from number i on, each time with the cursor that the time before left
unfoldable pub asked : (bytes : List ℕ) → (i k : ℕ) → List Told
asked bytes i zero = []
asked bytes i (suc k) = told bytes (browse bytes i) ∷ asked bytes (cursor_after (browse bytes i) i) k

-- ── Numbers of tags ──

-- the name of tag i is among the names
among-tag : (ts : List Tag) (i : ℕ) → i < length ts → among (get_or ts i no_tag).name (tag_names ts) ≡ true
unfolding among tag_names
among-tag [] i h = absurd (omega arith)
among-tag (t ∷ ts) zero h = rw same_refl
among-tag (t ∷ ts) (suc i) h = or_right (same (get_or ts i no_tag).name t.name) _ (among-tag ts i (omega arith))

-- where no two names are equal, the number of tag i's name is i,
number_of : (ts : List Tag) (i : ℕ) → distinct (tag_names ts) ≡ true → i < length ts → number_of_tag (get_or ts i no_tag).name ts ≡ i
unfolding number_of_tag distinct tag_names
number_of [] i d h = absurd (omega arith)
number_of (t ∷ ts) zero d h = cond-true (same t.name t.name) 0 _ (same_refl t.name)
number_of (t ∷ ts) (suc i) d h =
    let b = both_true (not (among t.name (tag_names ts))) (distinct (tag_names ts)) d in
    let o : same t.name (get_or ts i no_tag).name ≡ false = among-other t.name (get_or ts i no_tag).name (tag_names ts) (not-true _ b.0) (among-tag ts i (omega arith)) in
    cond-false (same (get_or ts i no_tag).name t.name) 0 _ (same-sym t.name (get_or ts i no_tag).name o) ∙ ap suc (number_of ts i b.1 (omega arith))

-- and that of a name which is not there is the count
number-none : (name : List ℕ) (ts : List Tag) → among name (tag_names ts) ≡ false → number_of_tag name ts ≡ length ts
unfolding number_of_tag among tag_names
number-none name [] h = refl
number-none name (t ∷ ts) h =
    let o = or-false (same name t.name) (among name (tag_names ts)) h in
    cond-false (same name t.name) 0 _ o.0 ∙ ap suc (number-none name ts o.1)

-- a tag or the end is no refusal
no-refusal : (b : Bool) (ts : List Tag) (i p : ℕ) → cond b (tag_at ts i) end ≡ refused 7 p → ⊥
unfolding tag_at
no-refusal true ts i p e = let z : ◌≡◌ {A = ℕ} 0 1 = cc in omega arith
no-refusal false ts i p e = let z : ◌≡◌ {A = ℕ} 0 1 = cc in omega arith

-- ── A legal table ──

module _ (ts : List Tag) (l : legal_table ts ≡ true) where
  read : exactly table (table_bytes ts) ≡ good ts (length (table_bytes ts))
  read = exactly-takes legal_table table_bytes table table-exact ts l

  browse-at : (i : ℕ) → browse (table_bytes ts) i ≡ cond (ltb i (length ts)) (tag_at ts i) end
  unfolding browse
  browse-at i = rw (read, browse)

  named-at : (name : List ℕ) → tag_named (table_bytes ts) name ≡ cond (ltb (number_of_tag name ts) (length ts)) (tag_at ts (number_of_tag name ts)) end
  unfolding tag_named
  named-at name = rw (read, tag_named)

  table-stands : Stands (table_bytes ts) 0 (table_bytes ts)
  table-stands = record { rest = []; stands = sym (append-nil (table_bytes ts)); inside = omega arith }

  -- Below the count the browser gives tag i: the bytes at the one part are its name, at the other its value, which starts behind the name and the value's
  -- length byte and lies in the table; and the cursor goes one further.
  pub browse-tag : (i : ℕ)
      → i < length ts
      → (n : Part)
      × (v : Part)
      × (browse (table_bytes ts) i ≡ tag n v)
      × (part_bytes (table_bytes ts) n ≡ (get_or ts i no_tag).name)
      × (part_bytes (table_bytes ts) v ≡ (get_or ts i no_tag).value)
      × (v.start ≡ n.start + n.len + 1)
      × (v.start + v.len ≤ length (table_bytes ts))
      × (cursor_after (browse (table_bytes ts) i) i ≡ i + 1)
  unfolding tag_at part_bytes cursor_after value_start
  browse-tag i h =
      let e : browse (table_bytes ts) i ≡ tag_at ts i = browse-at i ∙ cond-true (ltb i (length ts)) (tag_at ts i) end (lt-ltb i (length ts) h) in
      let v = tag-value-stands ts i h table-stands in (
        record { start = name_start 0 ts i; len = length (get_or ts i no_tag).name },
        record { start = value_start 0 ts i; len = length (get_or ts i no_tag).value },
        e,
        stands-take (tag-name-stands ts i h table-stands),
        stands-take v,
        refl,
        v.inside,
        ap (λ (b : Browsed). cursor_after b i) e,
      )

  -- From the count on it gives the end, and the cursor stays.
  pub browse-end : (i : ℕ) → length ts ≤ i → (browse (table_bytes ts) i ≡ end) × (cursor_after (browse (table_bytes ts) i) i ≡ i)
  unfolding cursor_after
  browse-end i h =
      let e : browse (table_bytes ts) i ≡ end = browse-at i ∙ cond-false (ltb i (length ts)) (tag_at ts i) end (le-ltb i (length ts) h) in
      (e, ap (λ (b : Browsed). cursor_after b i) e)

  told-tag : (i : ℕ) → i < length ts → (told (table_bytes ts) (browse (table_bytes ts) i) ≡ a_tag (get_or ts i no_tag)) × (cursor_after (browse (table_bytes ts) i) i ≡ i + 1)
  unfolding told
  told-tag i h =
      let t = browse-tag i h in
      (rw (t.2, t.3, t.4), t.7)

  asked-end : (i k : ℕ) → length ts ≤ i → asked (table_bytes ts) i k ≡ replicate k the_end
  unfolding asked told
  asked-end i zero h = refl
  asked-end i (suc k) h =
      let e = browse-end i h in
      rw (e.1, e.0, asked-end i k h)

  asked-from : (j i k : ℕ) → i + j ≡ length ts → asked (table_bytes ts) i (j + k) ≡ map a_tag (drop i ts) ++ replicate k the_end
  unfolding asked
  asked-from zero i k e = let z : 0 + k ≡ k = omega arith in rw (drop_of_length-le ts {i = i} (omega arith), z) (asked-end i k (omega arith))
  asked-from (suc j) i k e =
      let t = told-tag i (omega arith) in
      let n : i + 1 ≡ suc i = omega arith in
      let z : suc j + k ≡ suc (j + k) = omega arith in
      rw (z, drop-cons ts i no_tag (omega arith), t.1, t.0, n) (ap (λ (l : List Told). a_tag (get_or ts i no_tag) ∷ l) (asked-from j (suc i) k (omega arith)))

  -- From number 0 on, asked as often as there are tags and k times more, it gives the table's tags one after another, and then k times the end.
  pub browse-all : (k : ℕ) → asked (table_bytes ts) 0 (length ts + k) ≡ map a_tag ts ++ replicate k the_end
  browse-all k = asked-from (length ts) 0 k (omega arith)

  -- ── A tag by its name ──

  -- A name that the table has is found where the browser gives that tag, and so is its value;
  pub named-found : (i : ℕ)
      → i < length ts
      → (tag_named (table_bytes ts) (get_or ts i no_tag).name ≡ browse (table_bytes ts) i)
      × (told (table_bytes ts) (tag_named (table_bytes ts) (get_or ts i no_tag).name) ≡ a_tag (get_or ts i no_tag))
  unfolding legal_table
  named-found i h =
      let d = all_three (leb (length ts) most_tags) (every legal_tag ts) (distinct (tag_names ts)) l in
      let e : tag_named (table_bytes ts) (get_or ts i no_tag).name ≡ browse (table_bytes ts) i = rw (named-at (get_or ts i no_tag).name, number_of ts i d.2 h) (sym (browse-at i)) in
      (e, ap (told (table_bytes ts)) e ∙ (told-tag i h).0)

  -- of a name that it does not have there is the end.
  pub named-absent : (name : List ℕ) → among name (tag_names ts) ≡ false → tag_named (table_bytes ts) name ≡ end
  named-absent name h = named-at name ∙ cond-false (ltb (number_of_tag name ts) (length ts)) (tag_at ts (number_of_tag name ts)) end (le-ltb (number_of_tag name ts) (length ts) (omega (arith, number-none name ts h)))

-- ── Refused ──

-- The browser is refused 7, at the first fault and whatever number it holds, exactly where the bytes are not exactly a legal table;
pub browse-refused : (bytes : List ℕ) (i : ℕ)
    → are_bytes bytes ≡ true
    → (browse bytes i ≡ refused 7 (fault_of (exactly table bytes)))
    ↔ (((ts : List Tag) × (legal_table ts ≡ true) × (table_bytes ts ≡ bytes)) → ⊥)
unfolding browse fault_of
browse-refused bytes i h = (λ e t. never t e, λ d. go (exactly table bytes) refl d)
  where
    never : ((ts : List Tag) × (legal_table ts ≡ true) × (table_bytes ts ≡ bytes)) → browse bytes i ≡ refused 7 (fault_of (exactly table bytes)) → ⊥
    never (ts, l, q) e = no-refusal (ltb i (length ts)) ts i _ (sym (browse-at ts l i) ∙ ap (λ (s : List ℕ). browse s i) q ∙ e)

    go : (p : Parsed (List Tag)) → exactly table bytes ≡ p → (((ts : List Tag) × (legal_table ts ≡ true) × (table_bytes ts ≡ bytes)) → ⊥) → browse bytes i ≡ refused 7 (fault_of (exactly table bytes))
    go (bad m) e d = rw (e, browse, fault_of)
    go (good ts n) e d = let g = exactly-gives legal_table table_bytes table table-exact bytes ts n h e in absurd (d (ts, g.0, sym g.1))

-- and so is the look for a name.
pub named-refused : (bytes name : List ℕ)
    → are_bytes bytes ≡ true
    → (tag_named bytes name ≡ refused 7 (fault_of (exactly table bytes)))
    ↔ (((ts : List Tag) × (legal_table ts ≡ true) × (table_bytes ts ≡ bytes)) → ⊥)
unfolding tag_named fault_of
named-refused bytes name h = (λ e t. never t e, λ d. go (exactly table bytes) refl d)
  where
    never : ((ts : List Tag) × (legal_table ts ≡ true) × (table_bytes ts ≡ bytes)) → tag_named bytes name ≡ refused 7 (fault_of (exactly table bytes)) → ⊥
    never (ts, l, q) e = no-refusal (ltb (number_of_tag name ts) (length ts)) ts (number_of_tag name ts) _ (sym (named-at ts l name) ∙ ap (λ (s : List ℕ). tag_named s name) q ∙ e)

    go : (p : Parsed (List Tag)) → exactly table bytes ≡ p → (((ts : List Tag) × (legal_table ts ≡ true) × (table_bytes ts ≡ bytes)) → ⊥) → tag_named bytes name ≡ refused 7 (fault_of (exactly table bytes))
    go (bad m) e d = rw (e, tag_named, fault_of)
    go (good ts n) e d = let g = exactly-gives legal_table table_bytes table table-exact bytes ts n h e in absurd (d (ts, g.0, sym g.1))
