-- The look: what a table has under a name, and whether what was seen agrees with it.
-- Assumes nothing.
use Rattle.std.proofs.Common.{◌≡◌, ℕ, zero, suc, ◌+◌, ◌-◌, ◌*◌, ◌%◌, ◌^◌, ◌<◌, ◌≤◌, Bool, true, false, not, List, [], ◌∷◌, length, get_or, take, drop, sym, ap, ◌∙◌, ap₂, add-zero, add_assoc, mod-lt, mod-eq_of_lt, mul_assoc, mul_comm, mul-zero, zero-add, mul-one, mul-suc, mul-add, two-mul, arith, w64, Fits, rules}
use Rattle.std.specs.Prelude.{Option, Some, None, is_none}
use native.Mathlib.Nat.{mod-add-mod, add-mod-mod}
use Rattle.layout.specs.Reading.{good, string}
use Rattle.layout.specs.Saving.{same_entry, bits}
use Rattle.parts.specs.Parts.{same_part}
use Rattle.rows.specs.Rows.{row_name, row_of}
use Rattle.rows.specs.declared.Row.TheVariants as row
use Rattle.rows.specs.declared.RowPlace.{RowPlace}
use Rattle.names.proofs.Laws.{name-other, name-same, row-name-place}
use Rattle.sheet.specs.Rows.{row_with, change_with_name, changes_at, tag_entry, beside}
use Rattle.sheet.specs.Values.{entry_value, held_value, value_in, Stands}
use Rattle.look.specs.Look.{differs, compared_by, compare_of, with_bit}
use Rattle.sheet.specs.declared.Value.{Value}
use Rattle.sheet.proofs.Values.{string-stands, entry-finds, held-finds, change-there, row-fits-2}
use Rattle.sheet.proofs.Rows.{beside-done, beside-stop, beside-step}

-- ── Equal values ──

pub same-nothing : (a b : List ℕ) (one other : Option Value) (r : Bool) → one ≡ None → r ≡ is_none other
    → r ≡ same_entry (value_in a one) (value_in b other)
unfolding same_entry value_in
same-nothing a b one None r e f = rw e f
same-nothing a b one (Some v) r e f = rw e f

pub same-missing : (a b : List ℕ) (one other : Option Value) (v : Value) → one ≡ Some v → other ≡ None
    → false ≡ same_entry (value_in a one) (value_in b other)
unfolding same_entry value_in
same-missing a b one other v e f = rw (e, f)

-- a value that stands somewhere is all there
pub stands-there : (s : List ℕ) (r : Option Value) (v : Value) → Stands s r → r ≡ Some v → v.place + 1 + v.length ≤ length s
unfolding Stands
stands-there s r v h e =
    let k : string (drop v.place s) ≡ good (take v.length (drop (v.place + 1) s)) (1 + v.length) = rw e at h in
    string-stands s v.place (1 + v.length) (take v.length (drop (v.place + 1) s)) k (λ a b c. omega arith)

pub stands-fits : (s : List ℕ) (r : Option Value) (v : Value) → Stands s r → r ≡ Some v → length s < 2 ^ 64 → Fits w64 (v.place + 1)
stands-fits s r v k e h = let l = stands-there s r v k e in record { fits = omega arith }

module _ (a b : List ℕ) (one other : Option Value) (x y : Value) (h : Stands a one) (k : Stands b other) (e : one ≡ Some x) (f : other ≡ Some y) where
  pub same-longer : (x.length ≡ y.length → ⊥) → false ≡ same_entry (value_in a one) (value_in b other)
  unfolding same_entry value_in
  same-longer w = rw (e, f) (name-other a b (x.place + 1) x.length (y.place + 1) y.length (stands-there a one x h e) (stands-there b other y k f) w)

  pub same_bytes : (r : Bool) → x.length ≡ y.length → r ≡ same_part a (x.place + 1) b (y.place + 1) x.length
      → r ≡ same_entry (value_in a one) (value_in b other)
  unfolding same_entry value_in
  same_bytes r w g =
      rw (e, f) (name-same a b (x.place + 1) x.length (y.place + 1) y.length r (stands-there a one x h e) (stands-there b other y k f) w g)

-- ── One change ──

pub entry-stands : (s : List ℕ) (at : ℕ) (v : Option Value) → v ≡ entry_value s at → Stands s v
entry-stands s at v e = (entry-finds s at v e).there

pub held-stands : (table : List ℕ) (tag : ℕ) (v : Option Value) → v ≡ held_value table tag → Stands table v
held-stands table tag v e = (held-finds table tag v e).there

pub looked-at : (name s table : List ℕ) (at tag : ℕ) (v o : Option Value) (r : Bool) → v ≡ entry_value s at → o ≡ held_value table tag
    → r ≡ same_entry (value_in s v) (value_in table o) → not r ≡ differs (tag_entry table tag) (change_with_name name (drop at s))
unfolding differs change_with_name
looked-at name s table at tag v o r f g e =
    let w = entry-finds s at v f in
    let h = held-finds table tag o g in
    rw (← w.found, ← h.found, ← e)

-- ── All changes ──

-- the kind byte of a change that is there
pub kind-there : (s : List ℕ) (at : ℕ) (p : RowPlace) (r : Option RowPlace) → r ≡ row_of at (row_name row.Change (drop at s)) → r ≡ Some p
    → at + 1 + p.name < length s
kind-there s at p r e f = let (a, b) = change-there s at p r e f in omega arith

-- a factor may be taken by its lowest 64 bits
factor-wraps : (s x z : ℕ) → (s + x % 2 ^ 64 * z) % 2 ^ 64 ≡ (s + x * z) % 2 ^ 64
factor-wraps s x zero = rw (mul-zero (x % 2 ^ 64), mul-zero x)
factor-wraps s x (suc z) =
    rw (mul-suc (x % 2 ^ 64) z, mul-suc x z)
    (ap (λ (k : ℕ). k % 2 ^ 64) (regroup s (x % 2 ^ 64 * z) (x % 2 ^ 64))
    ∙ factor-wraps (s + x % 2 ^ 64) x z
    ∙ ap (λ (k : ℕ). k % 2 ^ 64) (swap s (x % 2 ^ 64) (x * z))
    ∙ add-mod-mod (s + x * z) x (2 ^ 64)
    ∙ ap (λ (k : ℕ). k % 2 ^ 64) (add_assoc s (x * z) x))
  where
    regroup : (a b c : ℕ) → a + (b + c) ≡ a + c + b
    regroup a b c = omega arith

    swap : (a b c : ℕ) → a + b + c ≡ a + c + b
    swap a b c = omega arith

-- the set so far, and the changes that are left with the next bit
unfoldable pub set_with : (set bit : ℕ) → List Bool → ℕ
set_with set bit bs = (set + bit * bits bs) % 2 ^ 64

doubled : (x n : ℕ) → x * (2 * n) ≡ (x + x) * n
doubled x n = sym (mul_assoc x 2 n) ∙ ap (λ (k : ℕ). k * n) (mul_comm x 2 ∙ two-mul x)

-- one change more
set_next : (set bit : ℕ) (b : Bool) (bs : List Bool) → set_with set bit (b ∷ bs) ≡ set_with (with_bit set bit b) ((bit + bit) % 2 ^ 64) bs
unfolding set_with with_bit bits
set_next set bit true bs =
    ap (λ (k : ℕ). k % 2 ^ 64) (ap (λ (k : ℕ). set + k) (mul-add bit 1 (2 * bits bs) ∙ ap₂ ◌+◌ (mul-one bit) (doubled bit (bits bs))) ∙ sym (add_assoc set bit _))
    ∙ sym (mod-add-mod (set + bit) (2 ^ 64) ((bit + bit) * bits bs))
    ∙ sym (factor-wraps ((set + bit) % 2 ^ 64) (bit + bit) (bits bs))
set_next set bit false bs =
    ap (λ (k : ℕ). (set + k) % 2 ^ 64) (ap (λ (k : ℕ). bit * k) (zero-add (2 * bits bs)) ∙ doubled bit (bits bs))
    ∙ sym (factor-wraps set (bit + bit) (bits bs))

-- with no change left, the set is whole
set-whole : (set bit all : ℕ) → set < 2 ^ 64 → set_with set bit [] ≡ all → set ≡ all
unfolding set_with bits
set-whole set bit all h e = sym (mod-eq_of_lt h) ∙ ap (λ (k : ℕ). k % 2 ^ 64) (sym (ap (λ (k : ℕ). set + k) (mul-zero bit) ∙ add-zero set)) ∙ e

-- a set has 64 bits
set-fits : (set bit set' : ℕ) (b : Bool) → set < 2 ^ 64 → set' ≡ with_bit set bit b → set' < 2 ^ 64
unfolding with_bit
set-fits set bit set' true h e = rw e (mod-lt (set + bit) (omega arith))
set-fits set bit set' false h e = rw e h

-- what is looked at so far, and what is left
pub record Looking (table sheet ps : List ℕ) (set bit at passed : ℕ) : Type 0 where
  pub fits : set < 2 ^ 64
  pub rest : set_with set bit (compared_by table (beside (drop passed ps) (changes_at sheet at (length ps - passed)))) ≡ compare_of table sheet ps

module _ (table sheet ps : List ℕ) where
  pub looking-start : Looking table sheet ps 0 1 1 0
  unfolding compare_of set_with
  looking-start =
      let q : length ps - 0 ≡ length ps = omega arith in
      record { fits = omega arith; rest = rw q (ap (λ (k : ℕ). k % 2 ^ 64) (omega arith)) }

  module _ (set bit at passed : ℕ) (w : Looking table sheet ps set bit at passed) where
    pub looked-done : length ps ≤ passed → set ≡ compare_of table sheet ps
    unfolding compared_by
    looked-done h =
        set-whole set bit (compare_of table sheet ps) w.fits
        (rw (beside-done (row_with row.Change change_with_name) ps sheet passed at (length ps - passed) (omega arith)) at w.rest)

    pub looked-stop : (r : Option RowPlace) → r ≡ row_of at (row_name row.Change (drop at sheet)) → r ≡ None → set ≡ compare_of table sheet ps
    unfolding compared_by
    looked-stop r f g =
        set-whole set bit (compare_of table sheet ps) w.fits (rw (beside-stop row.Change change_with_name ps sheet passed at (length ps - passed) r f g) at w.rest)

    pub looking-step : (set' bit' : ℕ) (p : RowPlace) (r : Option RowPlace) (d : Bool) → r ≡ row_of at (row_name row.Change (drop at sheet)) → r ≡ Some p
        → passed < length ps
        → d ≡ differs (tag_entry table (get_or ps passed 0)) (change_with_name (take p.name (drop (at + 1) sheet)) (drop (at + 1 + p.name) sheet))
        → set' ≡ with_bit set bit d → bit' ≡ (bit + bit) % 2 ^ 64 → Looking table sheet ps set' bit' p.end (passed + 1)
    unfolding compared_by
    looking-step set' bit' p r d f g h j k m =
        let q : length ps - (passed + 1) ≡ length ps - passed - 1 = omega arith in
        let n = rw (beside-step row.Change change_with_name ps sheet passed at (length ps - passed) p r f g (omega arith) (omega arith), ← j) at w.rest in
        record { fits = set-fits set bit set' d w.fits k; rest = rw (q, k, m) (sym (set_next set bit d _) ∙ n) }

pub bit-set : (set bit n : ℕ) (b : Bool) → b ≡ true → n ≡ (set + bit) % 2 ^ 64 → n ≡ with_bit set bit b
unfolding with_bit
bit-set set bit n b e h = rw e h

pub bit-left : (set bit : ℕ) (b : Bool) → b ≡ false → set ≡ with_bit set bit b
unfolding with_bit
bit-left set bit b e = rw e

pub ruleset laws = (
  rules,
  row-name-place,
  row-fits-2,
  same-nothing,
  same-missing,
  stands-fits,
  same-longer,
  same_bytes,
  looked-at,
  entry-stands,
  held-stands,
  kind-there,
  bit-set,
  bit-left,
  looking-start,
  looked-done,
  looked-stop,
)
