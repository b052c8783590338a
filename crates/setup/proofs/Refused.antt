-- What a set-up list and a system table are refused with: the order 10, 3, and 4, each with its place.
-- Assumes nothing.
use Rattle.std.specs.Prelude.{Result, Ok, Err}
use Prim.Native.Nat.{ℕ}
use native.Mathlib.Omega.{arith}
use mathlib.Core.Path.{◌≡◌, refl, ap, sym, ◌∙◌}
use mathlib.Core.Bool.{Bool, true, false, cond}
use mathlib.Core.List.{List}
use lib.ListN.{length, drop}
use lib.Dec.{eqb}
use borrow.Author.Rules.{rules}
use Rattle.layout.specs.Recording.{Section, Tag}
use Rattle.layout.specs.Reading.{Parsed, bad, good, onward, keeping, section_name, number_of_sections, counted_fault, exactly, table, is_bad, fault_of}
use Rattle.layout.specs.Recorder.{configured, set_up_list}
use Rattle.strings.specs.Strings.{read_by}
use Rattle.rows.specs.declared.Row.TheVariants as row
use Rattle.faults.specs.Faults.{rule_of, name_by, rest_by, count_of, count_by, first_fault}
use Rattle.tables.specs.Tables.{tags_of}
use Rattle.parts.specs.Parts.{broken_at}
use Rattle.parts.specs.declared.Fault.{Fault}
use Rattle.setup.specs.SetUp.{stop_of}

-- ── 10, 3 ──

module _ (s : List ℕ) where
  -- a list that is not exactly one stops at its fault
  pub stop-fault : is_bad (exactly set_up_list s) ≡ true → stop_of (set_up_list s) ≡ fault_of (exactly set_up_list s)
  unfolding exactly onward stop_of fault_of
  stop-fault e = go (set_up_list s) e
    where
      left : (ss : List Section) (n : ℕ) (b : Bool) → is_bad (cond b (good ss n) (bad n)) ≡ true → n ≡ fault_of (cond b (good ss n) (bad n))
      left ss n false h = refl
      left ss n true h = let z : ◌≡◌ {A = ℕ} 0 1 = cc in absurd (omega arith)

      go : (x : Parsed (List Section)) → is_bad (onward x (λ a n. cond (eqb n (length s)) (good a n) (bad n))) ≡ true
          → stop_of x ≡ fault_of (onward x (λ a n. cond (eqb n (length s)) (good a n) (bad n)))
      go (bad m) h = refl
      go (good ss n) h = left ss n (eqb n (length s)) h

  pub fault-is : first_fault row.SetUp 0 (drop 0 s) ≡ counted_fault number_of_sections section_name (keeping configured) 0 s
  unfolding first_fault count_by count_of name_by rest_by rule_of read_by number_of_sections
  fault-is = refl

-- ── 4 ──

-- a system table is refused at its fault
pub table-bad : (s : List ℕ) (t : Result ℕ Fault) (x : Fault) → t ≡ tags_of (exactly table s) → t ≡ Err x
    → (is_bad (exactly table s) ≡ true) × (fault_of (exactly table s) ≡ x.place)
unfolding tags_of fault_of
table-bad s t x e f = go (exactly table s) (sym e ∙ f)
  where
    go : (p : Parsed (List Tag)) → tags_of p ≡ Err x → (is_bad p ≡ true) × (fault_of p ≡ x.place)
    go (good ts n) h = let z : ◌≡◌ {A = ℕ} 0 1 = cc in absurd (omega arith)
    go (bad m) h =
        let a : ◌≡◌ {A = Fault} (broken_at m) x = cc in
        (refl, ap (λ (v : Fault). v.place) a)

pub table-whole : (s : List ℕ) (t : Result ℕ Fault) (n : ℕ) → t ≡ tags_of (exactly table s) → t ≡ Ok n → is_bad (exactly table s) ≡ false
unfolding tags_of
table-whole s t n e f = go (exactly table s) (sym e ∙ f)
  where
    go : (p : Parsed (List Tag)) → tags_of p ≡ Ok n → is_bad p ≡ false
    go (bad m) h = let z : ◌≡◌ {A = ℕ} 0 1 = cc in absurd (omega arith)
    go (good ts m) h = refl

pub ruleset laws = (rules, stop-fault, fault-is, table-bad, table-whole)
