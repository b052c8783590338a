-- What a front that is whole gives those who go on behind it.
-- Assumes nothing.
use Prim.Native.Nat.{ℕ, zero, suc, ◌+◌, ◌≤◌}
use native.Mathlib.Omega.{arith}
use mathlib.Core.Path.{◌≡◌, refl, ap, ◌∙◌}
use mathlib.Core.Bool.{true, false, not, ◌||◌}
use mathlib.Core.List.{List, [], append-nil, flat_map}
use lib.ListN.{length, take, drop, length-drop, length-append}
use lib.Dec.{leb, ltb}
use lib.Pow.{are_bytes}
use borrow.Author.Tests.{leb-true}
use Rattle.number.specs.Number.{bytes_of, number_of}
use Rattle.number.proofs.Bytes.{length-bytes_of, both_true}
use Rattle.layout.specs.Recording.{Tag, tag_bytes, table_bytes, most_sections, within, distinct}
use Rattle.layout.specs.Reading.{Parsed, bad, good, is_bad, value_or, taken, ◌then◌, only, number, times, table, number_of_sections, Definition, definition, defined_names, definitions}
use Rattle.layout.specs.Opening.{first_of, system_offset, read_definitions, defined_in, read_system, walk_start, offsets_legal, last_offset, bad_sections, bad_system, opening_place, front_lines}
use Rattle.layout.proofs.Lists.{or-false, bytes_drop}
use Rattle.layout.proofs.Lines.{FrontPasses, front-clear}
use Rattle.layout.proofs.Exact.{table-exact}
use Rattle.parts.proofs.Taken.{only_parts, tested-then}
use Rattle.parts.proofs.Times.{times-length}
use Rattle.std.specs.Prelude.{Ok, Err}
use Rattle.refusal.specs.Refusal.{placed, unless}
use Rattle.refusal.specs.declared.Refusal.{Refusal}
use Rattle.front.specs.Front.{front_held, front_of}
use Rattle.front.specs.declared.FrontHeld.{FrontHeld}

-- ── What the front's answer says ──

pub front-passes : (f : List ℕ) (held : FrontHeld) → front_of f ≡ Ok held → FrontPasses f × (held ≡ front_held f)
unfolding front_of unless
front-passes f held e = go (first_of (front_lines f)) refl e
  where
    go : (n : ℕ) → first_of (front_lines f) ≡ n → unless n (opening_place n f) (front_held f) ≡ Ok held → FrontPasses f × (held ≡ front_held f)
    go zero q g = ((front-clear f [] (ap first_of (append-nil (front_lines f)) ∙ q)).0, cc)
    go (suc n) q g = let z : ◌≡◌ {A = ℕ} 0 1 = cc in absurd (omega arith)

pub front-refuses : (f : List ℕ) (n : Refusal) → front_of f ≡ Err n
    → (m : ℕ) × (n ≡ placed (suc m) (opening_place (suc m) f)) × (first_of (front_lines f) ≡ suc m)
unfolding front_of unless
front-refuses f n e = go (first_of (front_lines f)) refl e
  where
    go : (j : ℕ) → first_of (front_lines f) ≡ j → unless j (opening_place j f) (front_held f) ≡ Err n
        → (m : ℕ) × (n ≡ placed (suc m) (opening_place (suc m) f)) × (first_of (front_lines f) ≡ suc m)
    go zero q g = let z : ◌≡◌ {A = ℕ} 0 1 = cc in absurd (omega arith)
    go (suc j) q g = (j, cc, q)

-- ── What a passed line gives ──

-- a table that was found ends within the file
pub table-ends : (f : List ℕ) (at : ℕ) (ts : List Tag) (m : ℕ) → are_bytes f ≡ true → table (drop at f) ≡ good ts m → at + m ≤ length f
unfolding table_bytes
table-ends f at ts m b e =
    let (l, k, s) = table-exact.gives (drop at f) ts m (bytes_drop at f b) e in
    omega (
      arith,
      ap length s,
      length-append (table_bytes ts) (drop m (drop at f)),
      length-drop at f,
      length-append (bytes_of 4 (length ts)) (flat_map tag_bytes ts),
      length-bytes_of 4 (length ts),
    )

read_of : {A : Type 0} (p : Parsed A) → is_bad p ≡ false → (x : A) × (n : ℕ) × (p ≡ good x n)
read_of (bad m) e = let z : ◌≡◌ {A = ℕ} 0 1 = cc in absurd (omega arith)
read_of (good x n) e = (x, n, refl)

pub start-within : (f : List ℕ) → are_bytes f ≡ true → bad_system f ≡ false → walk_start f ≤ length f
unfolding bad_system walk_start taken read_system
start-within f b e = go (read_of (read_system f)
    (or-false (ltb (system_offset f) (last_offset 0 (defined_in f)) || ltb (last_offset 0 (defined_in f) + 65535) (system_offset f))
    (is_bad (read_system f)) e).1)
  where
    go : ((ts : List Tag) × (m : ℕ) × (read_system f ≡ good ts m)) → walk_start f ≤ length f
    go (ts, m, q) = rw q (table-ends f (system_offset f) ts m b q)

pub few-sections : (f : List ℕ) → bad_sections f ≡ false → length (defined_in f) ≤ 8
unfolding bad_sections defined_in value_or read_definitions definitions number_of_sections
few-sections f e = go (read_of (read_definitions f) (or-false (is_bad (read_definitions f))
    (not (offsets_legal (33 + taken (read_definitions f)) (defined_in f))) e).0)
  where
    few : (ds : List Definition) (m : ℕ) → ((1 ≤ length (drop 33 f)) × (within 1 most_sections (number_of (take 1 (drop 33 f))) ≡ true) × (n : ℕ)
        × (times (number_of (take 1 (drop 33 f))) definition (drop 1 (drop 33 f)) ≡ good ds n) × (m ≡ 1 + n)) → length ds ≤ 8
    few ds m (l, t, n, g, h) =
        let k = number_of (take 1 (drop 33 f)) in
        omega (
          arith,
          times-length definition (number_of (take 1 (drop 33 f))) (drop 1 (drop 33 f)) ds n g,
          leb-true (number_of (take 1 (drop 33 f))) 8 (both_true (leb 1 (number_of (take 1 (drop 33 f))))
              (leb (number_of (take 1 (drop 33 f))) 8) t).1,
        )

    go : ((ds : List Definition) × (m : ℕ) × (read_definitions f ≡ good ds m)) → length (defined_in f) ≤ 8
    go (ds, m, q) = rw q (few ds m (tested-then (within 1 most_sections) 1 (λ k. times k definition) (drop 33 f) ds m
        (only_parts (λ ds. distinct (defined_names ds)) (only (within 1 most_sections) (number 1) then λ k. times k definition)
        (drop 33 f) ds m q).0))
