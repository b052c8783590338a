-- Where the sections' definitions break the layout: what the functions that find the place leave to be shown.
-- Assumes nothing.
use Prim.Native.Nat.{ℕ, zero, suc, ◌+◌, ◌-◌, ◌<◌, ◌≤◌}
use native.Mathlib.Omega.{arith}
use mathlib.Core.Path.{◌≡◌, refl, ap, sym, ◌∙◌}
use mathlib.Core.Bool.{Bool, true, false, not}
use mathlib.Core.List.{List, []}
use lib.ListN.{drop}
use lib.Seq.{drop-drop}
use lib.Dec.{eqb}
use borrow.Author.Rules.{rules}
use Rattle.layout.specs.Recording.{among}
use Rattle.layout.specs.Reading.{Parsed, bad, good, taken, ◌then◌, give, times, number, section_name, rows_fault, counted_fault, number_of_sections, Definition, definition}
use Rattle.layout.specs.Opening.{field, first_offset_place, first_offset, first_offset_wrong, offset_behind, step, sections_fault}
use Rattle.layout.proofs.Readers.{number-good, then-takes}
use Rattle.parts.specs.Parts.{end_of}
use Rattle.std.specs.Prelude.{Option, Some, None}
use Rattle.parts.proofs.Readers.{only-bad, then-bad, end-good, end-bad}
use Rattle.parts.proofs.Taken.{then-parts, give-parts, then-next-bad, times-first-bad}
use Rattle.parts.proofs.Times.{times-done, times-stop, times-end}
use Rattle.rows.specs.declared.Row.TheVariants as row
use Rattle.strings.specs.Strings.{read_by}
use Rattle.faults.specs.Faults.{rule_of, name_by, rest_by, count_of, count_by, first_fault}
use Rattle.front.specs.Front.{definition_at, section_count, first_elsewhere}
use Rattle.front.specs.declared.DefinitionAt.{DefinitionAt}
use Rattle.front.proofs.Laws.{number-read-of, count-bad, count-good}
use Rattle.front.proofs.Definitions.{definition-found, definition-none}

-- ── Where definitions end ──

module _ (f : List ℕ) (at left : ℕ) (all : Option ℕ) (e : end_of at (times left definition (drop at f)) ≡ all) where
  pub list_done : left ≤ 0 → Some at ≡ all
  list_done h = sym (times-done definition left f at h) ∙ e

  module _ (r : Option DefinitionAt) (p : r ≡ definition_at f at) where
    pub list-stop : r ≡ None → 0 < left → None ≡ all
    list-stop q h = sym (times-stop definition left f at h (definition-none f at (sym p ∙ q)).1) ∙ e

    pub list-step : (next : ℕ) (w : DefinitionAt) → r ≡ Some w → left ≡ next + 1 → end_of w.next (times next definition (drop w.next f)) ≡ all
    list-step next w q h =
        let (d, n, g, a, c) = definition-found f at w (sym p ∙ q) in
        let i : next ≡ left - 1 = omega arith in
        rw (← a, i) (sym (times-end definition left f at d n (omega arith) g) ∙ e)

-- ── Whether the first offset is elsewhere ──

module _ (f : List ℕ) (o : ℕ) where
  elsewhere-bad : {m : ℕ} → (number_of_sections then λ k. times k definition) (drop 33 f) ≡ bad m → false ≡ first_elsewhere f o
  unfolding first_elsewhere
  elsewhere-bad e = rw (e, first_elsewhere)

  module _ (x : Option ℕ) (h : x ≡ section_count f) where
    pub elsewhere-none : x ≡ None → false ≡ first_elsewhere f o
    elsewhere-none q = elsewhere-bad (then-bad number_of_sections (λ k. times k definition) (drop 33 f) (count-bad f x h q).1)

    module _ (n : ℕ) (t : Option ℕ) (p : x ≡ Some n) (e : t ≡ end_of 34 (times n definition (drop 34 f))) where
      pub elsewhere-cut : t ≡ None → false ≡ first_elsewhere f o
      elsewhere-cut q =
          let (m, g) = end-bad (times n definition (drop 34 f)) 34 (sym e ∙ q) in
          elsewhere-bad (then-next-bad number_of_sections (λ j. times j definition) (drop 33 f) n 1 {m = m} (count-good f x h n p).0 (rw (drop-drop 1 33 f) g))

      pub elsewhere-told : (end : ℕ) → t ≡ Some end → not (eqb o end) ≡ first_elsewhere f o
      unfolding first_elsewhere
      elsewhere-told end q =
          let (ds, m, g, a) = end-good (times n definition (drop 34 f)) 34 end (sym e ∙ q) in
          let b : end ≡ 33 + (1 + m) = omega arith in
          let w : (number_of_sections then λ j. times j definition) (drop 33 f) ≡ good ds (1 + m) =
          then-takes number_of_sections (λ j. times j definition) (drop 33 f) n ds 1 m (count-good f x h n p).0 (rw (drop-drop 1 33 f) g) in
          sym (rw (w, first_elsewhere) (ap (λ (x : ℕ). not (eqb o x)) (sym b)))

-- ── The place ──

-- the first fault, by the kind of row
fault-is : (f : List ℕ) (before : ℕ)
    → first_fault row.Definition before (drop 33 f) ≡ counted_fault number_of_sections section_name offset_behind before (drop 33 f)
unfolding first_fault count_by count_of name_by rest_by rule_of read_by number_of_sections
fault-is f before = refl

offset-cut : (at j : ℕ) (t : List ℕ) → number 8 t ≡ bad j → offset_behind at t ≡ bad j
unfolding offset_behind
offset-cut at j t e = only-bad (step at) (number 8) t e

-- where the first definition is broken, no offset goes by another
one-broken : (k b c m : ℕ) (t : List ℕ) → definition t ≡ bad m
    → rows_fault (suc k) section_name offset_behind b [] t ≡ rows_fault (suc k) section_name offset_behind c [] t
unfolding rows_fault definition among give
one-broken k b c m t e = name (section_name t) refl
  where
    rest : (n : List ℕ) (i : ℕ) (r : Parsed ℕ) → section_name t ≡ good n i → number 8 (drop i t) ≡ r
        → rows_fault (suc k) section_name offset_behind b [] t ≡ rows_fault (suc k) section_name offset_behind c [] t
    rest n i (bad j) g h = rw (g, rows_fault, offset-cut b j (drop i t) h, offset-cut c j (drop i t) h)
    rest n i (good o j) g h =
        let d : definition t ≡ good (record { name = n; offset = o }) (i + (j + 0)) =
        then-takes section_name (λ v. number 8 then λ at. give (record { name = v; offset = at })) t n (record { name = n; offset = o }) i (j + 0) g
        (then-takes (number 8) (λ at. give (record { name = n; offset = at })) (drop i t) o (record { name = n; offset = o }) j 0 h refl) in
        let z : ◌≡◌ {A = ℕ} 0 1 = cc in
        absurd (omega arith)

    name : (p : Parsed (List ℕ)) → section_name t ≡ p
        → rows_fault (suc k) section_name offset_behind b [] t ≡ rows_fault (suc k) section_name offset_behind c [] t
    name (bad i) g = rw (g, rows_fault)
    name (good n i) g = rest n i (number 8 (drop i t)) g refl

all-broken : (f : List ℕ) (b c m : ℕ) → definition (drop 34 f) ≡ bad m
    → counted_fault number_of_sections section_name offset_behind b (drop 33 f) ≡ counted_fault number_of_sections section_name offset_behind c (drop 33 f)
unfolding counted_fault
all-broken f b c m e = go (number_of_sections (drop 33 f)) refl
  where
    one : (k : ℕ) → 1 ≤ k → rows_fault k section_name offset_behind b [] (drop 34 f) ≡ rows_fault k section_name offset_behind c [] (drop 34 f)
    one zero h = absurd (omega arith)
    one (suc k) h = one-broken k b c m (drop 34 f) e

    go : (p : Parsed ℕ) → number_of_sections (drop 33 f) ≡ p
        → counted_fault number_of_sections section_name offset_behind b (drop 33 f) ≡ counted_fault number_of_sections section_name offset_behind c (drop 33 f)
    go (bad i) g = rw (g, counted_fault)
    go (good k i) g =
        let (h, l) = number-read-of f k i g in
        rw (g, counted_fault, h, drop-drop 1 33 f) (ap (λ (x : ℕ). 1 + x) (one k l))

-- the first offset is not known to be wrong
not-wrong : (f : List ℕ) (m : ℕ) → definition (drop 34 f) ≡ bad m → first_offset_wrong f ≡ false
unfolding first_offset_wrong
not-wrong f m e = go ((number_of_sections then λ k. times k definition) (drop 33 f)) refl
  where
    go : (p : Parsed (List Definition)) → (number_of_sections then λ k. times k definition) (drop 33 f) ≡ p → first_offset_wrong f ≡ false
    go (bad i) g = rw (g, first_offset_wrong)
    go (good ds n) g =
        then-parts number_of_sections (λ k. times k definition) (drop 33 f) ds n g (λ k a b h t q.
        let (i, l) = number-read-of f k a h in
        let w : times k definition (drop 34 f) ≡ good ds b = rw (i, drop-drop 1 33 f) at t in
        let v : times k definition (drop 34 f) ≡ bad m = times-first-bad definition k (drop 34 f) l e in
        let z : ◌≡◌ {A = ℕ} 0 1 = cc in
        absurd (omega arith))

-- where the first offset stands, and what it is
record First (f : List ℕ) (d : Definition) (n : ℕ) : Type 0 where
  place : first_offset_place f + 8 ≡ 34 + n
  offset : first_offset f ≡ d.offset

first_of : (f : List ℕ) (d : Definition) (n : ℕ) → definition (drop 34 f) ≡ good d n → First f d n
unfolding definition first_offset_place first_offset field taken
first_of f d n e =
    then-parts section_name (λ v. number 8 then λ at. give (record { name = v; offset = at })) (drop 34 f) d n e (λ v a b g h i.
    give-parts (number 8) (λ at. record { name = v; offset = at }) (drop a (drop 34 f)) d b h (λ o j w.
    let (l, p, q) = number-good 8 (drop a (drop 34 f)) o b j in
    record {
      place = rw g (omega arith);
      offset = rw (g, ← drop-drop a 34 f) (p ∙ ap (λ (x : Definition). x.offset) (sym w));
    }))

wrong-by : (f : List ℕ) → first_offset_wrong f ≡ first_elsewhere f (first_offset f)
unfolding first_offset_wrong first_elsewhere
wrong-by f = refl

module _ (f : List ℕ) (r : Option DefinitionAt) (e : r ≡ definition_at f 34) where
  pub fault-first : (k : ℕ) → r ≡ None → k ≡ 33 + first_fault row.Definition 0 (drop 33 f) → k ≡ sections_fault f
  unfolding sections_fault
  fault-first k q h =
      let (m, g) = definition-none f 34 (sym e ∙ q) in
      h ∙ rw (not-wrong f m g) (ap (λ (x : ℕ). 33 + x) (fault-is f 0 ∙ all-broken f 0 (first_offset f) m g))

  module _ (w : DefinitionAt) (q : r ≡ Some w) where
    pub next-eight : 8 ≤ w.next
    next-eight =
        let (d, n, g, a, c) = definition-found f 34 w (sym e ∙ q) in
        omega arith

    wrong-is : first_offset_wrong f ≡ first_elsewhere f w.offset
    wrong-is =
        let (d, n, g, a, c) = definition-found f 34 w (sym e ∙ q) in
        wrong-by f ∙ ap (first_elsewhere f) ((first_of f d n g).offset ∙ c)

    pub fault-elsewhere : (b : Bool) → b ≡ first_elsewhere f w.offset → b ≡ true → w.next - 8 ≡ sections_fault f
    unfolding sections_fault
    fault-elsewhere b h i =
        let (d, n, g, a, c) = definition-found f 34 w (sym e ∙ q) in
        let j : w.next - 8 ≡ first_offset_place f = omega (arith, (first_of f d n g).place) in
        j ∙ rw (wrong-is ∙ sym h ∙ i)

    pub fault-onward : (b : Bool) (k : ℕ) → b ≡ first_elsewhere f w.offset → b ≡ false → k ≡ 33 + first_fault row.Definition w.offset (drop 33 f)
        → k ≡ sections_fault f
    unfolding sections_fault
    fault-onward b k h i j =
        let (d, n, g, a, c) = definition-found f 34 w (sym e ∙ q) in
        let o : first_offset f ≡ w.offset = (first_of f d n g).offset ∙ c in
        j ∙ rw (wrong-is ∙ sym h ∙ i, o, fault-is f w.offset)

pub ruleset laws = (
  rules,
  list_done,
  list-stop,
  list-step,
  elsewhere-none,
  elsewhere-cut,
  elsewhere-told,
  fault-first,
  next-eight,
  fault-elsewhere,
  fault-onward,
)
