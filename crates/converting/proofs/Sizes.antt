-- How long the converted sheet is, change by change.
-- Assumes nothing.
use Rattle.std.specs.Prelude.{Option, Some, None}
use Prim.Native.Nat.{ℕ, suc, ◌+◌, ◌-◌, ◌*◌, ◌<◌, ◌≤◌}
use native.Mathlib.Omega.{arith}
use mathlib.Core.Path.{◌≡◌, refl, ap, sym, ◌∙◌}
use mathlib.Core.List.{List, [], ◌∷◌, ◌++◌}
use lib.ListN.{length, take, drop, get_or, length-append, drop_of_length-le}
use lib.Seq.{drop-cons, take_at}
use borrow.Author.Rules.{rules}
use borrow.Author.Tests.{leb-true, ne_eqb}
use mir.Syntax.{w8, w64}
use mir.Val.{Fits}
use Rattle.number.proofs.Bytes.{slice-bytes, part-long}
use Rattle.layout.specs.Recording.{short_string}
use Rattle.layout.specs.Reading.{good, string}
use Rattle.layout.specs.Saving.{entry_part_bytes}
use Rattle.layout.proofs.Lists.{bytes_drop}
use Rattle.layout.proofs.Exact.{string-exact}
use Rattle.rows.specs.Rows.{row_name, row_of}
use Rattle.rows.specs.declared.Row.TheVariants as row
use Rattle.rows.specs.declared.RowPlace.{RowPlace}
use Rattle.sheet.specs.Rows.{tag_entry}
use Rattle.sheet.specs.Values.{held_value, value_in, Stands}
use Rattle.sheet.specs.declared.Value.{Value}
use Rattle.sheet.proofs.Values.{string-stands, held-finds, change-there}
use Rattle.converting.specs.Filling.{row_filled, filled_from, sheet_filled}

-- ── What a tag holds, as an entry ──

module _ (t : List ℕ) (tag : ℕ) (v : Option Value) (e : v ≡ held_value t tag) where
  pub entry-none : v ≡ None → entry_part_bytes (tag_entry t tag) ≡ 0 ∷ []
  unfolding value_in entry_part_bytes
  entry-none f = let w = held-finds t tag v e in rw (← w.found, f)

  pub seen_none : v ≡ None → 1 ≡ length (entry_part_bytes (tag_entry t tag))
  seen_none f = sym (ap length (entry-none f))

  module _ (x : Value) (f : v ≡ Some x) where
    stands : string (drop x.place t) ≡ good (take x.length (drop (x.place + 1) t)) (1 + x.length)
    unfolding Stands
    stands = rw f at (held-finds t tag v e).there

    pub value_there : x.place + (1 + x.length) ≤ length t
    value_there = string-stands t x.place (1 + x.length) (take x.length (drop (x.place + 1) t)) stands (λ a b c. omega arith)

    module _ (b : (i : ℕ) → Fits w8 (get_or t i 0)) where
      pub entry_value : entry_part_bytes (tag_entry t tag) ≡ 1 ∷ take (1 + x.length) (drop x.place t)
      unfolding value_in entry_part_bytes
      entry_value =
          let w = held-finds t tag v e in
          let (l, m, d) = string-exact.gives (drop x.place t) (take x.length (drop (x.place + 1) t)) (1 + x.length) (bytes_drop x.place t (slice-bytes t b)) stands in
          rw (← w.found, f)
          (ap (λ (l : List ℕ). 1 ∷ l)
          (sym (ap (take (1 + x.length)) d ∙ take_at (short_string (take x.length (drop (x.place + 1) t))) _ (1 + x.length) (sym m))))

      value-short : x.length ≤ 255
      unfolding short_string
      value-short =
          let (l, m, d) = string-exact.gives (drop x.place t) (take x.length (drop (x.place + 1) t)) (1 + x.length) (bytes_drop x.place t (slice-bytes t b)) stands in
          omega (arith, leb-true (length (take x.length (drop (x.place + 1) t))) 255 l, m)

      pub seen_value : 2 + x.length ≡ length (entry_part_bytes (tag_entry t tag))
      seen_value = omega (arith, ap length entry_value, part-long t x.place (1 + x.length) value_there)

      pub seen-fits : Fits w64 (2 + x.length)
      seen-fits = record { fits = omega (arith, value-short) }

      pub seen_few : 2 + x.length ≤ 257
      seen_few = omega (arith, value-short)

-- ── A change that is there ──

module _ (s : List ℕ) (at : ℕ) (p : RowPlace) (r : Option RowPlace) (e : r ≡ row_of at (row_name row.Change (drop at s))) (f : r ≡ Some p) where
  pub row-kinds : at + 1 + p.name + 1 ≤ p.end
  row-kinds = (change-there s at p r e f).0

  pub row_ends : p.end ≤ length s
  row_ends = (change-there s at p r e f).1

-- ── How long a change is ──

module _ (t s : List ℕ) (at len end tag : ℕ) (k : at + 1 + len + 1 ≤ end) (h : end ≤ length s) where
  pub size-filled : (n m : ℕ) → get_or s (at + 1 + len) 0 ≡ 2 → n ≡ length (entry_part_bytes (tag_entry t tag)) → m ≡ end - at - 1
      → m + n ≡ length (row_filled t s at len end tag)
  unfolding row_filled
  size-filled n m e f g =
      let a = part-long s at (1 + len) (omega arith) in
      let b = part-long s (at + 1 + len + 1) (end - (at + 1 + len + 1)) (omega arith) in
      let c = length-append (take (1 + len) (drop at s)) (entry_part_bytes (tag_entry t tag) ++ take (end - (at + 1 + len + 1)) (drop (at + 1 + len + 1) s)) in
      let d = length-append (entry_part_bytes (tag_entry t tag)) (take (end - (at + 1 + len + 1)) (drop (at + 1 + len + 1) s)) in
      rw e (omega arith)

  pub size_same : (get_or s (at + 1 + len) 0 ≡ 2 → ⊥) → end - at ≡ length (row_filled t s at len end tag)
  unfolding row_filled
  size_same e = rw (ne_eqb (get_or s (at + 1 + len) 0) 2 e) (sym (part-long s at (end - at) (omega arith)))

-- ── Changes one by one ──

pub filled-done : (t s ps : List ℕ) (at i : ℕ) → length ps ≤ i → filled_from t s at (drop i ps) ≡ []
unfolding filled_from
filled-done t s ps at i h = let d : drop i ps ≡ [] = drop_of_length-le ps {i = i} h in rw d

pub filled-stop : (t s ps : List ℕ) (at i : ℕ) (r : Option RowPlace) → r ≡ row_of at (row_name row.Change (drop at s)) → r ≡ None
    → filled_from t s at (drop i ps) ≡ []
unfolding filled_from
filled-stop t s ps at i r e f = go (drop i ps)
  where
    g : row_of at (row_name row.Change (drop at s)) ≡ None
    g = sym e ∙ f

    go : (qs : List ℕ) → filled_from t s at qs ≡ []
    go [] = refl
    go (q ∷ qs) = rw (g, filled_from)

pub filled-step : (t s ps : List ℕ) (at i : ℕ) (p : RowPlace) (r : Option RowPlace) → r ≡ row_of at (row_name row.Change (drop at s)) → r ≡ Some p
    → i < length ps
    → filled_from t s at (drop i ps) ≡ row_filled t s at p.name p.end (get_or ps i 0) ++ filled_from t s p.end (drop (i + 1) ps)
unfolding filled_from
filled-step t s ps at i p r e f h =
    let j : i + 1 ≡ suc i = omega arith in
    let g : row_of at (row_name row.Change (drop at s)) ≡ Some p = sym e ∙ f in
    rw (drop-cons ps i 0 h, g, filled_from, j)

-- ── The size so far ──

-- a change more makes a sheet longer by 256 bytes at most
pub record Sizing (t s ps : List ℕ) (at i bytes : ℕ) : Type 0 where
  pub short : bytes ≤ at + 256 * i
  pub rest : bytes + length (filled_from t s at (drop i ps)) ≡ length (sheet_filled t s ps)

module _ (t s ps : List ℕ) where
  pub sizing_start : 1 ≤ length s → Sizing t s ps 1 0 1
  unfolding sheet_filled
  sizing_start h = record { short = omega arith; rest = omega (arith, length-append (take 1 s) (filled_from t s 1 ps), part-long s 0 1 (omega arith)) }

  module _ (at i bytes : ℕ) (g : Sizing t s ps at i bytes) where
    pub sized-all : length ps ≤ i → bytes ≡ length (sheet_filled t s ps)
    sized-all h = omega (arith, g.rest, ap length (filled-done t s ps at i h))

    module _ (r : Option RowPlace) (e : r ≡ row_of at (row_name row.Change (drop at s))) where
      pub sized-stop : r ≡ None → bytes ≡ length (sheet_filled t s ps)
      sized-stop f = omega (arith, g.rest, ap length (filled-stop t s ps at i r e f))

      module _ (p : RowPlace) (f : r ≡ Some p) (h : i < length ps) (n : ℕ) (k : n ≤ p.end - at + 256) where
        pub sizing_step : n ≡ length (row_filled t s at p.name p.end (get_or ps i 0)) → Sizing t s ps p.end (i + 1) (bytes + n)
        sizing_step l =
            let a = ap length (filled-step t s ps at i p r e f h) in
            let b = length-append (row_filled t s at p.name p.end (get_or ps i 0)) (filled_from t s p.end (drop (i + 1) ps)) in
            record {
              short = omega (arith, row-kinds s at p r e f, g.short);
              rest = omega (arith, a, b, g.rest, l);
            }

        pub sizing_fits : length ps ≤ 64 → length s ≤ 49281 → Fits w64 (bytes + n)
        sizing_fits few short = record { fits = omega (arith, row-kinds s at p r e f, row_ends s at p r e f, g.short) }

pub ruleset laws = (rules, seen_none, seen_value, seen-fits, seen_few, size-filled, size_same, sizing_start)
