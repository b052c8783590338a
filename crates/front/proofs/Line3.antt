-- The sections' definitions as a whole: line 3.
-- Assumes nothing.
use Prim.Native.Nat.{ℕ, ◌+◌, ◌-◌}
use native.Mathlib.Omega.{arith}
use mathlib.Core.Path.{◌≡◌, refl, ap, sym, ◌∙◌}
use mathlib.Core.Bool.{Bool, true, false, not, ◌&&◌, cond}
use mathlib.Core.List.{List, ◌∷◌}
use lib.ListN.{length, drop}
use lib.Seq.{drop-drop}
use lib.Dec.{eqb}
use borrow.Author.Rules.{rules}
use borrow.Author.Tests.{eq-eqb, ne_eqb}
use Rattle.number.proofs.Bools.{and-false}
use Rattle.layout.specs.Recording.{distinct}
use Rattle.layout.specs.Reading.{Parsed, bad, good, Reader, value_or, taken, ◌then◌, times, number_of_sections, Definition, definition, defined_names, definitions}
use Rattle.layout.specs.Opening.{read_definitions, defined_in, steps, offsets_legal, last_offset, bad_sections}
use Rattle.layout.proofs.Readers.{then-takes}
use Rattle.layout.proofs.Lists.{cond_same}
use Rattle.names.specs.Names.{distinct_names}
use Rattle.rows.specs.declared.Row.TheVariants as row
use Rattle.names.proofs.Readers.{distinct-definitions}
use Rattle.parts.proofs.Readers.{only-bad, only-pass, only-fail, then-bad}
use Rattle.parts.proofs.Times.{times-length}
use Rattle.parts.proofs.Taken.{then-next-bad, times-first-bad, times-later-bad, times-cons}
use Rattle.front.proofs.Definitions.{definition-found, definition-none}
use Rattle.front.specs.Front.{definition_at, legal_offsets, offsets_at, section_count, sections_of}
use Rattle.front.specs.declared.DefinitionAt.{DefinitionAt}
use Rattle.std.specs.Prelude.{Option, Some, None}
use Rattle.front.specs.declared.Offsets.{Offsets}
use Rattle.front.specs.declared.Sections.{Sections}
use Rattle.front.proofs.Laws.{count-bad, count-good}

-- ── Read, and not read ──

abbrev legal : (count last : ℕ) → Option Sections
legal n l = Some (record { count = n; last = l })

sections-bad : (f : List ℕ) {m : ℕ} → read_definitions f ≡ bad m → sections_of f ≡ None
unfolding sections_of bad_sections
sections-bad f e = rw e

sections-read : (f : List ℕ) (d : Definition) (ds : List Definition) (n : ℕ) → read_definitions f ≡ good (d ∷ ds) n
    → sections_of f ≡ cond (eqb d.offset (33 + n) && steps d.offset ds)
    (legal (length (d ∷ ds)) (last_offset d.offset ds)) None
unfolding sections_of bad_sections defined_in value_or taken offsets_legal last_offset
sections-read f d ds n e = rw e (go (eqb d.offset (33 + n) && steps d.offset ds))
  where
    go : (b : Bool) → cond (not b) None (legal (length (d ∷ ds)) (last_offset d.offset ds)) ≡ cond b
        (legal (length (d ∷ ds)) (last_offset d.offset ds)) None
    go true = refl
    go false = refl

-- the definitions, whatever their names
abbrev counted : Reader (List Definition)
counted = number_of_sections then λ k. times k definition

read-bad : (f : List ℕ) {m : ℕ} → counted (drop 33 f) ≡ bad m → read_definitions f ≡ bad m
unfolding read_definitions definitions
read-bad f e = only-bad (λ ds. distinct (defined_names ds)) counted (drop 33 f) e

pub sections-uncounted : (f : List ℕ) (t : Option ℕ) → t ≡ section_count f → t ≡ None → None ≡ sections_of f
sections-uncounted f t e q =
    sym (sections-bad f (read-bad f (then-bad number_of_sections (λ k. times k definition) (drop 33 f) (count-bad f t e q).1)))

-- definitions whose offsets never fall, as the code found them
module _ (f : List ℕ) (at n o : ℕ) (w : Offsets) where
  abbrev Found : Type 0
  Found = (ds : List Definition) × (m : ℕ) × (times n definition (drop at f) ≡ good ds m) × (steps o ds ≡ true) × (at + m ≡ w.end)
      × (last_offset o ds ≡ w.last)

  pub offsets-found : offsets_at f at n o ≡ Some w → Found
  unfolding offsets_at legal_offsets
  offsets-found q = go (times n definition (drop at f)) refl q
    where
      pass : (ds : List Definition) (m : ℕ) (b : Bool) → steps o ds ≡ b → times n definition (drop at f) ≡ good ds m
          → ◌≡◌ {A = Option Offsets} (cond b (Some (record { end = at + m; last = last_offset o ds })) None) (Some w) → Found
      pass ds m true t e g =
          let q : ◌≡◌ {A = Offsets} (record { end = at + m; last = last_offset o ds }) w = cc in
          (ds, m, e, t, ap (λ (x : Offsets). x.end) q, ap (λ (x : Offsets). x.last) q)
      pass ds m false t e g = let z : ◌≡◌ {A = ℕ} 0 1 = cc in absurd (omega arith)

      go : (x : Parsed (List Definition)) → times n definition (drop at f) ≡ x → legal_offsets at o x ≡ Some w → Found
      go (bad i) e g = let z : ◌≡◌ {A = ℕ} 0 1 = cc in absurd (omega arith)
      go (good ds m) e g = pass ds m (steps o ds) refl e g

-- ── The number of sections is right ──

module _ (f : List ℕ) (n : ℕ) (x : Option ℕ) (h : x ≡ section_count f) (p : x ≡ Some n) where
  count-read : number_of_sections (drop 33 f) ≡ good n 1
  count-read = (count-good f x h n p).0

  list-bad : {m : ℕ} → times n definition (drop 34 f) ≡ bad m → None ≡ sections_of f
  list-bad {m} e = sym (sections-bad f
      (read-bad f (then-next-bad number_of_sections (λ j. times j definition) (drop 33 f) n 1 {m = m} count-read
      (rw (drop-drop 1 33 f) e))))

  list-good : (ds : List Definition) (m : ℕ) → times n definition (drop 34 f) ≡ good ds m → counted (drop 33 f) ≡ good ds (1 + m)
  list-good ds m e = then-takes number_of_sections (λ j. times j definition) (drop 33 f) n ds 1 m count-read
      (rw (drop-drop 1 33 f) e)

  -- all are read: what is left are the names and the offsets
  sections-list : (d : Definition) (ds : List Definition) (m : ℕ) → times n definition (drop 34 f) ≡ good (d ∷ ds) m
      → sections_of f ≡ cond (distinct_names f 34 n row.Definition)
      (cond (eqb d.offset (34 + m) && steps d.offset ds) (legal n (last_offset d.offset ds)) None)
      None
  unfolding read_definitions definitions
  sections-list d ds m e = rw (distinct-definitions f 34 n m (d ∷ ds) e) (go (distinct (defined_names (d ∷ ds))) refl)
    where
      go : (b : Bool) → distinct (defined_names (d ∷ ds)) ≡ b
          → sections_of f ≡ cond b (cond (eqb d.offset (34 + m) && steps d.offset ds)
          (legal n (last_offset d.offset ds)) None) None
      go true q =
          let s = sections-read f d ds (1 + m) (only-pass (λ ds. distinct (defined_names ds)) counted (drop 33 f) (d ∷ ds) (1 + m)
          (list-good (d ∷ ds) m e) q) in
          let t : 34 + m ≡ 33 + (1 + m) = omega arith in
          rw (t, ← times-length definition n (drop 34 f) (d ∷ ds) m e) s
      go false q = sections-bad f (only-fail (λ ds. distinct (defined_names ds)) counted (drop 33 f) (d ∷ ds) (1 + m) (list-good (d ∷ ds) m e) q)

  sections-not : (d : Definition) (ds : List Definition) (m : ℕ) → times n definition (drop 34 f) ≡ good (d ∷ ds) m
      → (eqb d.offset (34 + m) && steps d.offset ds) ≡ false → None ≡ sections_of f
  sections-not d ds m e t = sym (sections-list d ds m e ∙ rw t (cond_same (distinct_names f 34 n row.Definition) None))

  offsets-wrong : (d : Definition) (a : ℕ) → definition (drop 34 f) ≡ good d a → offsets_at f (34 + a) (n - 1) d.offset ≡ None
      → None ≡ sections_of f
  unfolding offsets_at legal_offsets
  offsets-wrong d a e q = go (times (n - 1) definition (drop (34 + a) f)) refl q
    where
      fall : (ds : List Definition) (m : ℕ) (b : Bool) → steps d.offset ds ≡ b → times n definition (drop 34 f) ≡ good (d ∷ ds) (a + m)
          → ◌≡◌ {A = Option Offsets} (cond b (Some (record { end = 34 + a + m; last = last_offset d.offset ds })) None) None → None ≡ sections_of f
      fall ds m true t g q = let z : ◌≡◌ {A = ℕ} 0 1 = cc in absurd (omega arith)
      fall ds m false t g q = sections-not d ds (a + m) g (rw t (and-false (eqb d.offset (34 + (a + m)))))

      go : (x : Parsed (List Definition)) → times (n - 1) definition (drop (34 + a) f) ≡ x → legal_offsets (34 + a) d.offset x ≡ None
          → None ≡ sections_of f
      go (bad i) g q = list-bad (times-later-bad definition n (drop 34 f) d a {m = i} (count-good f x h n p).1 e (rw (drop-drop a 34 f) g))
      go (good ds m) g q = fall ds m (steps d.offset ds) refl (times-cons definition n (drop 34 f) d a ds m (count-good f x h n p).1 e (rw (drop-drop a 34 f) g)) q

  -- what the code found: all definitions, their offsets in order
  record Listed (o : ℕ) (w : Offsets) : Type 0 where
    first : Definition
    others : List Definition
    size : ℕ
    list : times n definition (drop 34 f) ≡ good (first ∷ others) size
    offset : first.offset ≡ o
    ordered : steps first.offset others ≡ true
    ends : 34 + size ≡ w.end
    final : last_offset first.offset others ≡ w.last

  pub sections-unnamed : (r : Option DefinitionAt) → r ≡ definition_at f 34 → r ≡ None → None ≡ sections_of f
  sections-unnamed r a b = list-bad (times-first-bad definition n (drop 34 f) (count-good f x h n p).1 (definition-none f 34 (sym a ∙ b)).1)

  module _ (v : DefinitionAt) (r : Option DefinitionAt) (q : Option Offsets) (a : r ≡ definition_at f 34) (b : r ≡ Some v)
      (c : q ≡ offsets_at f v.next (n - 1) v.offset) where
    pub sections-fall : q ≡ None → None ≡ sections_of f
    sections-fall e =
        let (d, z, i, g, j) = definition-found f 34 v (sym a ∙ b) in
        offsets-wrong d z i (rw (g, j) (sym c ∙ e))

    module _ (w : Offsets) (e : q ≡ Some w) where
      listed : Listed v.offset w
      listed =
          let (d, z, i, g, j) = definition-found f 34 v (sym a ∙ b) in
          let (ds, m, t, s, u, y) = offsets-found f v.next (n - 1) v.offset w (sym c ∙ e) in
          record {
            first = d;
            others = ds;
            size = z + m;
            list = times-cons definition n (drop 34 f) d z ds m (count-good f x h n p).1 i (rw (drop-drop z 34 f, g) t);
            offset = j;
            ordered = rw j s;
            ends = omega arith;
            final = rw j y;
          }

      pub sections-apart : (v.offset ≡ w.end → ⊥) → None ≡ sections_of f
      sections-apart u =
          let l = listed in
          sections-not l.first l.others l.size l.list (rw (ne_eqb l.first.offset (34 + l.size) (λ i. u (sym l.offset ∙ i ∙ l.ends))))

      module _ (t : Bool) (u : t ≡ distinct_names f 34 n row.Definition) where
        pub sections-twice : t ≡ false → None ≡ sections_of f
        sections-twice y = let l = listed in sym (sections-list l.first l.others l.size l.list ∙ rw (sym u ∙ y))

        pub sections-legal : v.offset ≡ w.end → t ≡ true → legal n w.last ≡ sections_of f
        sections-legal i y =
            let l = listed in
            sym (sections-list l.first l.others l.size l.list
            ∙ rw (sym u ∙ y, eq-eqb l.first.offset (34 + l.size) (l.offset ∙ i ∙ sym l.ends), l.ordered, l.final))

pub ruleset laws = (
  rules,
  sections-uncounted,
  sections-unnamed,
  sections-fall,
  sections-apart,
  sections-twice,
  sections-legal,
)
