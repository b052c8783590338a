-- Whatever the numbers: what they lead to lies in the file.
-- Assumes nothing.
use Prim.Native.Nat.{ℕ, ◌+◌, ◌-◌, ◌≤◌}
use native.Mathlib.Omega.{arith}
use mathlib.Core.Path.{◌≡◌, refl, ap, sym, ◌∙◌}
use mathlib.Core.Bool.{Bool, true, false, cond, ◌&&◌}
use mathlib.Core.List.{List, flat_map}
use mir.Syntax.{w64}
use mir.Val.{to_z}
use lib.ListN.{length, drop, length-append}
use lib.Dec.{ltb, leb}
use borrow.Author.Tests.{leb-true}
use Rattle.number.specs.Number.{read_at}
use Rattle.number.proofs.Bytes.{both_true}
use Rattle.layout.specs.Recording.{Tag, sized_bytes, frame_head_bytes, frame_bytes}
use Rattle.layout.specs.Reading.{Parsed, bad, good, times, string, tag}
use Rattle.layout.proofs.Exact.{frame-exact}
use Rattle.layout.proofs.Places.{length-head}
use Rattle.strings.specs.Strings.{text_of}
use Rattle.parts.specs.Parts.{end_of}
use Rattle.rows.specs.Rows.{row_name}
use Rattle.tables.specs.Tables.{tag_place_of, parts_of, tag_from, tag_found}
use Rattle.std.specs.Prelude.{Option, Some, None, Ok}
use Rattle.rows.specs.declared.Row.TheVariants as row
use Rattle.tables.specs.declared.TagFound.{TagFound}
use Rattle.strings.proofs.Laws.{string-parts}
use Rattle.tables.proofs.Laws.{tag-parts}
use Rattle.frames.specs.Frames.{sized_at, sections_at, frame_at}
use Rattle.front.specs.Front.{definition_at}
use Rattle.front.specs.declared.DefinitionAt.{DefinitionAt}
use Rattle.frames.specs.declared.FrameAt.{FrameAt}
use Rattle.opening.specs.declared.Held.{Held}
use Rattle.frames.proofs.Laws.{found}
use Rattle.items.specs.Items.{or_no_such, found_at, from, frame_place, frame_from, frame_behind, held_frame, section_at, section_from, held_section, definition_place, string_from, name_at, held_name, next_at, between, configuration_from, configuration_at, held_configuration, name_of, value_of, held_item, held_found}
use Rattle.items.specs.declared.Item.{Item}
use Rattle.items.specs.declared.Item.TheVariants as item
use Rattle.items.specs.declared.Found.{Found}
use Rattle.items.specs.declared.FrameRead.{FrameRead}
use Rattle.items.proofs.Bytes.{Bytes}
use Rattle.items.proofs.Laws.{read-ends, sized-ends}

-- what is found has passed its test, and has its place
passed : (b : Bool) (x : Option Found) (y : Found) → cond b x None ≡ Some y → (b ≡ true) × (x ≡ Some y)
passed true x y e = (refl, e)
passed false x y e = let z : ◌≡◌ {A = ℕ} 0 1 = cc in absurd (omega arith)

placed : (r : Option ℕ) (k : ℕ → Option Found) (y : Found) → from r k ≡ Some y → (p : ℕ) × (r ≡ Some p) × (k p ≡ Some y)
unfolding from
placed None k y e = let z : ◌≡◌ {A = ℕ} 0 1 = cc in absurd (omega arith)
placed (Some p) k y e = (p, refl, e)

-- the part that is found
found-is : (s n : ℕ) (y : Found) → found_at s n ≡ Some y → (y.start ≡ s) × (y.len ≡ n)
found-is s n y e =
    let q : ◌≡◌ {A = Found} (record { start = s; len = n }) y = cc in
    (sym (ap (λ (x : Found). x.start) q), sym (ap (λ (x : Found). x.len) q))

module _ (f : List ℕ) (y : Found) where
  section-within : Bytes f → (frames index n i j : ℕ) → held_section f frames index n i j ≡ Some y → y.start + y.len ≤ length f
  unfolding held_section section_from section_at
  section-within b frames index n i j e =
      let (p, u, v) = placed (frame_place f frames index i) (section_from f j) y
      (passed (ltb j n) (from (frame_place f frames index i) (section_from f j)) y e).1 in
      let (q, x, w) = placed (sections_at f (p + 16) j) (section_at f) y
      (passed (leb p (length f)) (from (sections_at f (p + 16) j) (section_at f)) y v).1 in
      let (end, g, t) = placed (sized_at f q) (λ end. found_at (q + 4) (end - q - 4)) y w in
      let (a, c) = found-is (q + 4) (end - q - 4) y t in
      let k = sized-ends f b q end (sized_at f q) refl g in
      omega (arith, k.0, k.1)

  string-within : (p : ℕ) (t : Option ℕ) → t ≡ text_of (string (drop p f)) → string_from p t ≡ Some y → y.start + y.len ≤ length f
  unfolding string_from
  string-within p None u e = let z : ◌≡◌ {A = ℕ} 0 1 = cc in absurd (omega arith)
  string-within p (Some n) u e =
      let (a, c) = found-is (p + 1) n y e in
      omega (arith, (string-parts f p n (sym u)).0)

  name-within : (n i : ℕ) → held_name f n i ≡ Some y → y.start + y.len ≤ length f
  unfolding held_name name_at
  name-within n i e =
      let (p, u, v) = placed (definition_place f i) (name_at f) y (passed (ltb i n) (from (definition_place f i) (name_at f)) y e).1 in
      string-within p (text_of (string (drop p f))) refl v

  between-within : (start end : ℕ) → between f start end ≡ Some y → y.start + y.len ≤ length f
  unfolding between
  between-within start end e =
      let (t, w) = passed (leb start end && leb end (length f)) (found_at start (end - start)) y e in
      let (u, v) = both_true (leb start end) (leb end (length f)) t in
      let (a, c) = found-is start (end - start) y w in
      omega (arith, leb-true start end u, leb-true end (length f) v)

  configuration-within : (n system i : ℕ) → held_configuration f n system i ≡ Some y → y.start + y.len ≤ length f
  unfolding held_configuration configuration_at configuration_from
  configuration-within n system i e =
      let (p, u, v) = placed (definition_place f i) (configuration_at f (n - i - 1) system) y
      (passed (ltb i n) (from (definition_place f i) (configuration_at f (n - i - 1) system)) y e).1 in
      go (definition_at f p) v
    where
      go : (d : Option DefinitionAt) → configuration_from f (n - i - 1) system d ≡ Some y → y.start + y.len ≤ length f
      go None v = let z : ◌≡◌ {A = ℕ} 0 1 = cc in absurd (omega arith)
      go (Some d) v = between-within d.offset (next_at f d.next (n - i - 1) system) v

-- name and value of a tag that is found
tag-within : (f : List ℕ) (at i : ℕ) (t : TagFound) → tag_found f at i ≡ Some t → (t.name + t.name_length ≤ length f) × (t.value + t.value_length ≤ length f)
unfolding tag_found tag_from parts_of tag_place_of
tag-within f at i t e = counted (ltb i (read_at f at 4)) e
  where
    parts : (p : ℕ) (x : Parsed Tag) → tag (drop p f) ≡ x → parts_of p x ≡ Some t
        → (t.name + t.name_length ≤ length f) × (t.value + t.value_length ≤ length f)
    parts p (bad j) g u = let z : ◌≡◌ {A = ℕ} 0 1 = cc in absurd (omega arith)
    parts p (good x k) g u =
        let w = (tag-parts f p (record { name = length x.name; value = length x.value }) (rw g)).0 in
        let q : ◌≡◌ {A = TagFound}
        (record { name = p + 1; name_length = length x.name; value = p + 1 + length x.name + 1; value_length = length x.value }) t = cc u in
        let a = ap (λ (x : TagFound). x.name) q in
        let c = ap (λ (x : TagFound). x.name_length) q in
        let d = ap (λ (x : TagFound). x.value) q in
        let h = ap (λ (x : TagFound). x.value_length) q in
        (omega (arith, w, a, c), omega (arith, w, d, h))

    behind : (r : Option ℕ) → tag_from f r ≡ Some t → (t.name + t.name_length ≤ length f) × (t.value + t.value_length ≤ length f)
    behind None u = let z : ◌≡◌ {A = ℕ} 0 1 = cc in absurd (omega arith)
    behind (Some p) u = parts p (tag (drop p f)) refl u

    counted : (b : Bool) → cond b (tag_from f (end_of (at + 4) (times i (row_name row.Tag) (drop (at + 4) f)))) None ≡ Some t
        → (t.name + t.name_length ≤ length f) × (t.value + t.value_length ≤ length f)
    counted true u = behind (end_of (at + 4) (times i (row_name row.Tag) (drop (at + 4) f))) u
    counted false u = let z : ◌≡◌ {A = ℕ} 0 1 = cc in absurd (omega arith)

module _ (f : List ℕ) (at i : ℕ) (y : Found) where
  tag-name : (t : Option TagFound) → tag_found f at i ≡ t → name_of t ≡ Some y → y.start + y.len ≤ length f
  tag-name None e u = let z : ◌≡◌ {A = ℕ} 0 1 = cc u in absurd (omega arith)
  tag-name (Some t) e u =
      let (a, c) = found-is t.name t.name_length y u in
      omega (arith, (tag-within f at i t e).0)

  tag-value : (t : Option TagFound) → tag_found f at i ≡ t → value_of t ≡ Some y → y.start + y.len ≤ length f
  tag-value None e u = let z : ◌≡◌ {A = ℕ} 0 1 = cc u in absurd (omega arith)
  tag-value (Some t) e u =
      let (a, c) = found-is t.value t.value_length y u in
      omega (arith, (tag-within f at i t e).1)

item-within : (f : List ℕ) (h : Held) (it : Item) (y : Found) → Bytes f → held_item f h it ≡ Some y → y.start + y.len ≤ length f
item-within f h (item.Section i j) y b e = section-within f y b h.frames h.index h.sections i j e
item-within f h (item.SectionName i) y b e = name-within f y h.sections i e
item-within f h (item.Configuration i) y b e = configuration-within f y h.sections h.system i e
item-within f h (item.SystemName i) y b e = tag-name f h.system i y (tag_found f h.system i) refl e
item-within f h (item.SystemValue i) y b e = tag-value f h.system i y (tag_found f h.system i) refl e
item-within f h (item.UserName i) y b e = tag-name f h.user i y (tag_found f h.user i) refl e
item-within f h (item.UserValue i) y b e = tag-value f h.user i y (tag_found f h.user i) refl e

there : {A : Type 0} (r : Option A) (x : A) → or_no_such r ≡ Ok x → r ≡ Some x
there None x e = let z : ◌≡◌ {A = ℕ} 0 1 = cc in absurd (omega arith)
there (Some y) x e = cc

pub held-within : (f : List ℕ) (h : Held) (it : Item) (y : Found) → Bytes f → held_found f h it ≡ Ok y → y.start + y.len ≤ length f
unfolding held_found
held-within f h it y b e = item-within f h it y b (there (held_item f h it) y e)

pub held-frame-within : (f : List ℕ) (h : Held) (i : ℕ) (y : FrameRead) → Bytes f → held_frame f h i ≡ Ok y → y.place + y.length ≤ length f
unfolding held_frame frame_from frame_bytes
held-frame-within f h i y b e =
    behind (frame_place f h.frames h.index i) (there (frame_behind f h.sections (frame_place f h.frames h.index i)) y e)
  where
    found_within : (q : ℕ) (r : Option FrameAt) → frame_at f q h.sections ≡ r → frame_from q r ≡ Some y → y.place + y.length ≤ length f
    found_within q None g u = let z : ◌≡◌ {A = ℕ} 0 1 = cc u in absurd (omega arith)
    found_within q (Some x) g u =
        let (z, m, k, a, c, d) = found f q h.sections x g in
        let (l, w) = read-ends (frame-exact h.sections) f q m z b k in
        let o : length (frame_bytes z) ≡ 16 + length (flat_map sized_bytes z.sections) =
        length-append (frame_head_bytes z.time z.exposure) (flat_map sized_bytes z.sections)
        ∙ ap (λ (j : ℕ). j + length (flat_map sized_bytes z.sections)) (length-head z.time z.exposure) in
        let r : ◌≡◌ {A = FrameRead} (record { place = q; length = x.next - q; time = to_z w64 x.time; exposure = x.exposure }) y = cc u in
        let s = ap (λ (x : FrameRead). x.place) r in
        let v = ap (λ (x : FrameRead). x.length) r in
        omega arith

    behind : (r : Option ℕ) → frame_behind f h.sections r ≡ Some y → y.place + y.length ≤ length f
    behind None u = let z : ◌≡◌ {A = ℕ} 0 1 = cc u in absurd (omega arith)
    behind (Some q) u = found_within q (frame_at f q h.sections) refl u
