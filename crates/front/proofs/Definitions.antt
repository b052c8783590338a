-- Definitions, one behind the other, with the rule from each offset to the next.
-- Assumes nothing.
use Prim.Native.Nat.{ℕ, zero, suc, ◌+◌, ◌-◌, ◌<◌, ◌≤◌}
use native.Mathlib.Omega.{arith}
use mathlib.Core.Path.{◌≡◌, refl, ap, sym, ◌∙◌}
use mathlib.Core.Bool.{Bool, true, false, ◌&&◌, cond}
use mathlib.Core.List.{List, ◌∷◌}
use lib.ListN.{length, take, drop}
use lib.Seq.{drop-drop}
use lib.Dec.{leb}
use borrow.Author.Rules.{rules}
use borrow.Author.Tests.{le-leb, lt-leb}
use Rattle.number.specs.Number.{read_at}
use Rattle.layout.specs.Reading.{Parsed, bad, good, Reader, onward, behind, give, ◌then◌, times, number, section_name, Definition, definition}
use Rattle.layout.specs.Opening.{steps, last_offset}
use Rattle.number.proofs.Bytes.{and-true}
use Rattle.layout.proofs.Lists.{cond-true, cond-false}
use Rattle.layout.proofs.Readers.{then-takes}
use Rattle.strings.specs.Strings.{text_of}
use Rattle.std.specs.Prelude.{Option, Some, None}
use Rattle.strings.proofs.Laws.{text_of-broken}
use Rattle.parts.proofs.Readers.{then-bad, number_cut}
use Rattle.strings.proofs.Named.{section-parts, section-place, section-after}
use Rattle.parts.proofs.Taken.{number_read, then-next-bad}
use Rattle.front.specs.Front.{whole_definition, definition_at, legal_offsets, offsets_at}
use Rattle.front.specs.declared.DefinitionAt.{DefinitionAt}
use Rattle.front.specs.declared.Offsets.{Offsets}

-- ── A definition ──

-- where its name ends, the file has not ended
pub name-ends : (f : List ℕ) (at n : ℕ) (r : Option ℕ) → r ≡ text_of (section_name (drop at f)) → r ≡ Some n → at + 1 + n ≤ length f
name-ends f at n r p q = (section-parts f at n (sym p ∙ q)).0

-- what stands behind a name
abbrev behind_name : List ℕ → Reader Definition
behind_name n = number 8 then λ at. give (record { name = n; offset = at })

behind-name : (f : List ℕ) (at n : ℕ) → drop (1 + n) (drop at f) ≡ drop (at + 1 + n) f
behind-name f at n =
    let e : at + (1 + n) ≡ at + 1 + n = omega arith in
    drop-drop (1 + n) at f ∙ rw e

pub definition-unnamed : (f : List ℕ) (at : ℕ) (r : Option ℕ) → r ≡ text_of (section_name (drop at f)) → r ≡ None
    → None ≡ definition_at f at
unfolding definition_at whole_definition definition
definition-unnamed f at r p q =
    rw (then-bad section_name behind_name (drop at f) (text_of-broken (section_name (drop at f)) (sym p ∙ q)).1)

pub definition-cut : (f : List ℕ) (at n : ℕ) (r : Option ℕ) → r ≡ text_of (section_name (drop at f)) → r ≡ Some n
    → length f - (at + 1 + n) < 8 → None ≡ definition_at f at
unfolding definition_at whole_definition definition
definition-cut f at n r p q h =
    let g = (section-parts f at n (sym p ∙ q)).1 in
    let v : List ℕ = take n (drop (at + 1) f) in
    let b : number 8 (drop (1 + n) (drop at f)) ≡ bad 0 = rw (behind-name f at n) (number_cut 8 f (at + 1 + n) h) in
    rw (then-next-bad section_name behind_name (drop at f) v (1 + n) {m = 0} g
    (then-bad (number 8) (λ o. give (record { name = v; offset = o })) (drop (1 + n) (drop at f)) b))

pub definition-whole : (f : List ℕ) (at n o : ℕ) (r : Option ℕ) → r ≡ text_of (section_name (drop at f)) → r ≡ Some n
    → 8 ≤ length f - (at + 1 + n) → o ≡ read_at f (at + 1 + n) 8 → Some (record { next = at + 1 + n + 8; offset = o }) ≡ definition_at f at
unfolding definition_at whole_definition definition give
definition-whole f at n o r p q h e =
    let g = (section-parts f at n (sym p ∙ q)).1 in
    let v : List ℕ = take n (drop (at + 1) f) in
    let b : number 8 (drop (1 + n) (drop at f)) ≡ good o 8 = rw (behind-name f at n, e) (number_read f (at + 1 + n) 8 (omega arith) (omega arith)) in
    let d : definition (drop at f) ≡ good (record { name = v; offset = o }) (1 + n + (8 + 0)) =
    then-takes section_name behind_name (drop at f) v (record { name = v; offset = o }) (1 + n) (8 + 0) g
    (then-takes (number 8) (λ k. give (record { name = v; offset = k })) (drop (1 + n) (drop at f)) o
    (record { name = v; offset = o }) 8 0 b refl) in
    rw d (ap (λ (k : ℕ). Some (record { next = k; offset = o })) (omega arith))

-- ── Offsets ──

-- the definition that the code found
pub definition-found : (f : List ℕ) (at : ℕ) (w : DefinitionAt) → definition_at f at ≡ Some w
    → (d : Definition) × (n : ℕ) × (definition (drop at f) ≡ good d n) × (at + n ≡ w.next) × (d.offset ≡ w.offset)
unfolding definition_at whole_definition
definition-found f at w q = go (definition (drop at f)) refl q
  where
    go : (p : Parsed Definition) → definition (drop at f) ≡ p → whole_definition at p ≡ Some w
        → (d : Definition) × (n : ℕ) × (definition (drop at f) ≡ good d n) × (at + n ≡ w.next) × (d.offset ≡ w.offset)
    go (bad m) g h = let z : ◌≡◌ {A = ℕ} 0 1 = cc in absurd (omega arith)
    go (good d n) g h =
        let q : ◌≡◌ {A = DefinitionAt} (record { next = at + n; offset = d.offset }) w = cc in
        (d, n, g, ap (λ (x : DefinitionAt). x.next) q, ap (λ (x : DefinitionAt). x.offset) q)

pub definition-none : (f : List ℕ) (at : ℕ) → definition_at f at ≡ None → (m : ℕ) × (definition (drop at f) ≡ bad m)
unfolding definition_at whole_definition
definition-none f at q = go (definition (drop at f)) refl q
  where
    go : (p : Parsed Definition) → definition (drop at f) ≡ p → whole_definition at p ≡ None → (m : ℕ) × (definition (drop at f) ≡ bad m)
    go (bad m) g w = (m, g)
    go (good d n) g w = let z : ◌≡◌ {A = ℕ} 0 1 = cc in absurd (omega arith)

stopped : (f : List ℕ) (at left last : ℕ) → 0 < left → definition_at f at ≡ None → offsets_at f at left last ≡ None
unfolding offsets_at legal_offsets times onward
stopped f at zero last h q = absurd (omega arith)
stopped f at (suc left) last h q = rw (definition-none f at q).1

abbrev legal : Definition → (end : ℕ) → List Definition → Option Offsets
legal d end ds = Some (record { end = end; last = last_offset d.offset ds })

-- one more definition, and those behind it
offsets-cons : (f : List ℕ) (at left last : ℕ) (d : Definition) (n : ℕ) → 0 < left → definition (drop at f) ≡ good d n
    → offsets_at f at left last ≡ cond (leb last d.offset && leb (d.offset - last) 65535) (offsets_at f (at + n) (left - 1) d.offset) None
unfolding offsets_at legal_offsets times onward behind steps last_offset
offsets-cons f at zero last d n h e = absurd (omega arith)
offsets-cons f at (suc left) last d n h e =
    let p : suc left - 1 ≡ left = omega arith in
    rw (p, e, drop-drop n at f) (go (times left definition (drop (at + n) f)))
  where
    tests : (a b : Bool) (m : ℕ) (ds : List Definition) → cond (a && b) (legal d (at + (n + m)) ds) None ≡ cond a (cond b (legal d (at + n + m) ds) None) None
    tests true true m ds = ap (λ (k : ℕ). legal d k ds) (omega arith)
    tests true false m ds = refl
    tests false b m ds = refl

    either : (b : Bool) → ◌≡◌ {A = Option Offsets} None (cond b None None)
    either true = refl
    either false = refl

    go : (x : Parsed (List Definition)) → legal_offsets at last (behind n (onward x (λ rest m. good (d ∷ rest) m))) ≡ cond
        (leb last d.offset && leb (d.offset - last) 65535) (legal_offsets (at + n) d.offset x) None
    go (bad m) = either (leb last d.offset && leb (d.offset - last) 65535)
    go (good ds m) = tests (leb last d.offset && leb (d.offset - last) 65535) (steps d.offset ds) m ds

module _ (f : List ℕ) (at left last : ℕ) (all : Option Offsets) (e : offsets_at f at left last ≡ all) where
  pub offsets-done : left ≤ 0 → Some (record { end = at; last = last }) ≡ all
  unfolding offsets_at legal_offsets times steps last_offset
  offsets-done z =
      let l : left ≡ 0 = omega arith in
      let a : at + 0 ≡ at = omega arith in
      sym (rw (l, a)) ∙ e

  module _ (r : Option DefinitionAt) (p : r ≡ definition_at f at) where
    pub offsets-stop : r ≡ None → 0 < left → None ≡ all
    offsets-stop q h = sym (stopped f at left last h (sym p ∙ q)) ∙ e

    module _ (w : DefinitionAt) (q : r ≡ Some w) where
      broken : 0 < left → (leb last w.offset && leb (w.offset - last) 65535) ≡ false → None ≡ all
      broken h t =
          let (d, n, g, a, c) = definition-found f at w (sym p ∙ q) in
          sym (offsets-cons f at left last d n h g ∙ cond-false (leb last d.offset && leb (d.offset - last) 65535)
          (offsets_at f (at + n) (left - 1) d.offset) None (rw c t)) ∙ e

      pub offsets-fall : w.offset < last → 0 < left → None ≡ all
      offsets-fall l h = broken h (rw (lt-leb last w.offset l))

      pub offsets-far : last ≤ w.offset → 65535 < w.offset - last → 0 < left → None ≡ all
      offsets-far l m h = broken h (rw (le-leb last w.offset l, lt-leb (w.offset - last) 65535 m))

      pub offsets-step : (next : ℕ) → last ≤ w.offset → w.offset - last ≤ 65535 → left ≡ next + 1 → offsets_at f w.next next w.offset ≡ all
      offsets-step next l m o =
          let (d, n, g, a, c) = definition-found f at w (sym p ∙ q) in
          let i : next ≡ left - 1 = omega arith in
          let t : (leb last d.offset && leb (d.offset - last) 65535) ≡ true =
          rw c (and-true (leb last w.offset) (leb (w.offset - last) 65535) (le-leb last w.offset l) (le-leb (w.offset - last) 65535 m)) in
          ap (λ (x : ℕ). offsets_at f x next w.offset) (sym a) ∙ ap (λ (x : ℕ). offsets_at f (at + n) x w.offset) i
          ∙ ap (λ (x : ℕ). offsets_at f (at + n) (left - 1) x) (sym c) ∙ (sym (offsets-cons f at left last d n (omega arith) g
          ∙ cond-true (leb last d.offset && leb (d.offset - last) 65535) (offsets_at f (at + n) (left - 1) d.offset) None t) ∙ e)

pub ruleset laws = (
  rules,
  name-ends,
  section-place,
  section-after,
  definition-unnamed,
  definition-cut,
  definition-whole,
  offsets-done,
  offsets-stop,
  offsets-fall,
  offsets-far,
  offsets-step,
)
