-- A table, and nothing behind it.
-- Assumes nothing.
use Prim.Native.Nat.{ℕ, ◌+◌}
use native.Mathlib.Omega.{arith}
use mathlib.Core.Path.{◌≡◌, refl, ap, sym, ◌∙◌}
use mathlib.Core.Bool.{cond}
use mathlib.Core.List.{List}
use lib.ListN.{length, drop}
use lib.Dec.{eqb}
use borrow.Author.Rules.{rules}
use borrow.Author.Tests.{eq-eqb, ne_eqb}
use Rattle.layout.specs.Recording.{Tag}
use Rattle.layout.specs.Reading.{Parsed, bad, good, onward, exactly, table}
use Rattle.std.specs.Prelude.{Result, Ok, Err}
use Rattle.parts.specs.Parts.{broken_at}
use Rattle.parts.specs.declared.Fault.{Fault}
use Rattle.tables.specs.Tables.{table_whole, table_place_of, tags_of}
use Rattle.tables.specs.declared.TablePlace.{TablePlace}

module _ (t : List ℕ) (r : Result TablePlace Fault) (e : r ≡ table_place_of 0 (table (drop 0 t))) where
  -- a table at the start, as it was read
  read-there : (p : TablePlace) → r ≡ Ok p → (ts : List Tag) × (length ts ≡ p.tags) × (table t ≡ good ts p.end)
  unfolding table_place_of
  read-there p f = go (table t) refl (sym e ∙ f)
    where
      go : (x : Parsed (List Tag)) → table t ≡ x → table_place_of 0 x ≡ Ok p → (ts : List Tag) × (length ts ≡ p.tags) × (table t ≡ good ts p.end)
      go (bad i) g h = let z : ◌≡◌ {A = ℕ} 0 1 = cc in absurd (omega arith)
      go (good ts m) g h =
          let q : ◌≡◌ {A = TablePlace} (table_whole (length ts) (0 + m)) p = cc in
          let a : 0 + m ≡ p.end = ap (λ (x : TablePlace). x.end) q in
          (ts, ap (λ (x : TablePlace). x.tags) q, g ∙ ap (good ts) (omega arith))

  pub tags-broken : (f : Fault) → r ≡ Err f → Err f ≡ tags_of (exactly table t)
  unfolding table_place_of tags_of exactly onward
  tags-broken f h = go (table t) (sym e ∙ h)
    where
      go : (x : Parsed (List Tag)) → table_place_of 0 x ≡ Err f → Err f ≡ tags_of (onward x (λ a n. cond (eqb n (length t)) (good a n) (bad n)))
      go (bad m) i = let q : ◌≡◌ {A = Fault} f (broken_at (0 + m)) = cc in ap Err q ∙ ap (λ (n : ℕ). Err (broken_at n)) (omega arith)
      go (good ts m) i = let z : ◌≡◌ {A = ℕ} 0 1 = cc in absurd (omega arith)

  pub tags-longer : (p : TablePlace) → r ≡ Ok p → (p.end ≡ length t → ⊥) → Err (broken_at p.end) ≡ tags_of (exactly table t)
  unfolding tags_of exactly onward
  tags-longer p f h =
      let (ts, a, b) = read-there p f in
      rw (b, ne_eqb p.end (length t) h)

  pub tags-whole : (p : TablePlace) → r ≡ Ok p → p.end ≡ length t → Ok p.tags ≡ tags_of (exactly table t)
  unfolding tags_of exactly onward
  tags-whole p f h =
      let (ts, a, b) = read-there p f in
      rw (b, eq-eqb p.end (length t) h, a)

-- what the number of tags was read from
pub tags-parts : (p : Parsed (List Tag)) (n : ℕ) → tags_of p ≡ Ok n → (ts : List Tag) × (m : ℕ) × (p ≡ good ts m) × (length ts ≡ n)
unfolding tags_of
tags-parts (bad m) n e = let z : ◌≡◌ {A = ℕ} 0 1 = cc in absurd (omega arith)
tags-parts (good ts m) n e = (ts, m, refl, cc)

pub tags-none : (p : Parsed (List Tag)) (f : Fault) → tags_of p ≡ Err f → p ≡ bad f.place
unfolding tags_of
tags-none (bad m) f e = let q : ◌≡◌ {A = Fault} (broken_at m) f = cc in ap (λ (x : Fault). bad x.place) q
tags-none (good ts m) f e = let z : ◌≡◌ {A = ℕ} 0 1 = cc in absurd (omega arith)

pub ruleset laws = (rules, tags-broken, tags-longer, tags-whole)
