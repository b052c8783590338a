-- Where a short string broke: what the functions that find the place leave to be shown.
-- Assumes nothing.
use Prim.Native.Nat.{ℕ, zero, suc, ◌+◌, ◌-◌, ◌<◌, ◌≤◌}
use native.Mathlib.Omega.{arith}
use mathlib.Core.Path.{◌≡◌, refl, ap, sym, ◌∙◌}
use mathlib.Core.Bool.{Bool, true, false, cond}
use mathlib.Core.List.{List}
use lib.ListN.{length, take, drop, get_or, length-drop, drop_of_length-le}
use lib.Seq.{drop-cons, take_all}
use lib.Dec.{ltb}
use borrow.Author.Rules.{rules}
use borrow.Author.Tests.{lt-ltb, le-ltb, not-true, not-false}
use Rattle.layout.specs.Recording.{legal_section_name, legal_tag_name, legal_tag_value}
use Rattle.layout.specs.Reading.{Parsed, bad, good, only, fault_at, placed, string, outside, string_fault, section_name, tag_name, tag_value}
use Rattle.strings.specs.Strings.{text_of, in_class, legal_text, text_by, short_of, read_by}
use Rattle.strings.specs.declared.Class.{Class}
use Rattle.strings.specs.declared.Class.TheVariants as class
use Rattle.std.specs.Prelude.{Result, Ok, Err, Some, None}
use Rattle.parts.specs.Parts.{broken_at}
use Rattle.parts.specs.declared.Fault.{Fault}
use Rattle.strings.specs.declared.Rule.{Rule}
use Rattle.strings.specs.declared.Rule.TheVariants as rule

-- ── The first byte that is of no such class ──

module _ (ok : ℕ → Bool) (s : List ℕ) (at : ℕ) where
  outside-cons : (n : ℕ) → 0 < n → at < length s
      → outside ok (take n (drop at s)) ≡ cond (ok (get_or s at 0)) (suc (outside ok (take (n - 1) (drop (at + 1) s)))) 0
  unfolding outside
  outside-cons zero z h = absurd (omega arith)
  outside-cons (suc n) z h =
      let p : at + 1 ≡ suc at = omega arith in
      let q : suc n - 1 ≡ n = omega arith in
      rw (drop-cons s at 0 h, p, q)

  outside-none : (n : ℕ) → n ≤ 0 → outside ok (take n (drop at s)) ≡ 0
  unfolding outside
  outside-none zero z = refl
  outside-none (suc n) z = absurd (omega arith)

  pub outside-done : (n all : ℕ) → n ≤ 0 → at + outside ok (take n (drop at s)) ≡ all → at ≡ all
  outside-done n all z e = omega (arith, outside-none n z, e)

  pub outside-stop : (n all : ℕ) (r : Bool) → 0 < n → at + n ≤ length s → r ≡ ok (get_or s at 0) → r ≡ false
      → at + outside ok (take n (drop at s)) ≡ all → at ≡ all
  outside-stop n all r z h e f g =
      let q : ok (get_or s at 0) ≡ false = cc in
      let k : outside ok (take n (drop at s)) ≡ 0 = rw q at (outside-cons n z (omega arith)) in
      omega arith

  pub outside-step : (n all : ℕ) (r : Bool) → 0 < n → at + n ≤ length s → r ≡ ok (get_or s at 0) → r ≡ true → at + outside ok (take n (drop at s)) ≡ all
      → at + 1 + outside ok (take (n - 1) (drop (at + 1) s)) ≡ all
  outside-step n all r z h e f g =
      let q : ok (get_or s at 0) ≡ true = cc in
      let k : outside ok (take n (drop at s)) ≡ suc (outside ok (take (n - 1) (drop (at + 1) s))) = rw q at (outside-cons n z (omega arith)) in
      omega arith

-- ── The place ──

module _ (least : ℕ) (c : Class) (s : List ℕ) (at : ℕ) where
  pub fault_past : length s ≤ at → at ≡ at + string_fault least (in_class c) (drop at s)
  unfolding string_fault
  fault_past h = rw (drop_of_length-le s {i = at} h) (omega arith)

  fault-at : (n : ℕ) → at < length s → n ≡ get_or s at 0
      → string_fault least (in_class c) (drop at s) ≡ cond (ltb n least) 0 (suc (outside (in_class c) (take n (drop (at + 1) s))))
  unfolding string_fault
  fault-at n h e =
      let p : at + 1 ≡ suc at = omega arith in
      rw (drop-cons s at 0 h, ← e, p)

  pub fault-few : (n : ℕ) → at < length s → n ≡ get_or s at 0 → n < least → at ≡ at + string_fault least (in_class c) (drop at s)
  fault-few n h e l = let q = lt-ltb n least l in let k : string_fault least (in_class c) (drop at s) ≡ 0 = rw q at (fault-at n h e) in omega arith

  fault-behind : (n : ℕ) → at < length s → n ≡ get_or s at 0 → least ≤ n
      → string_fault least (in_class c) (drop at s) ≡ suc (outside (in_class c) (take n (drop (at + 1) s)))
  fault-behind n h e l = let q = le-ltb n least l in rw q at (fault-at n h e)

  pub fault-within : (n k : ℕ) → at < length s → n ≡ get_or s at 0 → least ≤ n → k ≡ at + 1 + outside (in_class c) (take n (drop (at + 1) s))
      → k ≡ at + string_fault least (in_class c) (drop at s)
  fault-within n k h e l f = omega (arith, fault-behind n h e l, f)

  pub fault-out : (n k : ℕ) → at < length s → n ≡ get_or s at 0 → least ≤ n → length s - at - 1 < n
      → k ≡ at + 1 + outside (in_class c) (take (length s - at - 1) (drop (at + 1) s)) → k ≡ at + string_fault least (in_class c) (drop at s)
  fault-out n k h e l o f =
      let d : length (drop (at + 1) s) ≡ length s - at - 1 = simp length-drop (omega arith) in
      let a : take n (drop (at + 1) s) ≡ drop (at + 1) s = take_all n (drop (at + 1) s) (omega arith) in
      let b : take (length s - at - 1) (drop (at + 1) s) ≡ drop (at + 1) s = take_all (length s - at - 1) (drop (at + 1) s) (omega arith) in
      fault-within n k h e l (f ∙ ap (λ (x : List ℕ). at + 1 + outside (in_class c) x) (b ∙ sym a))

  -- ── The string, or the place ──

  pub short-whole : (n : ℕ) → Some n ≡ text_of (text_by least c (drop at s)) → Ok n ≡ short_of at (text_by least c (drop at s))
  unfolding text_of short_of
  short-whole n e = go (text_by least c (drop at s)) e
    where
      go : (p : Parsed (List ℕ)) → Some n ≡ text_of p → Ok n ≡ short_of at p
      go (bad m) f = cc
      go (good v m) f = cc

  broken-at : (m : ℕ) → text_by least c (drop at s) ≡ bad m → m ≡ string_fault least (in_class c) (drop at s)
  unfolding text_by placed fault_at
  broken-at m e = go (only (legal_text least c) string (drop at s)) e
    where
      go : (x : Parsed (List ℕ)) → fault_at (string_fault least (in_class c) (drop at s)) x ≡ bad m → m ≡ string_fault least (in_class c) (drop at s)
      go (bad i) g = cc
      go (good v i) g = let z : ◌≡◌ {A = ℕ} 0 1 = cc in absurd (omega arith)

  pub short-broken : (k : ℕ) → None ≡ text_of (text_by least c (drop at s)) → k ≡ at + string_fault least (in_class c) (drop at s)
      → Err (broken_at k) ≡ short_of at (text_by least c (drop at s))
  unfolding text_of short_of
  short-broken k e f = go (text_by least c (drop at s)) refl e
    where
      go : (p : Parsed (List ℕ)) → text_by least c (drop at s) ≡ p → None ≡ text_of p → Err (broken_at k) ≡ short_of at p
      go (bad m) g h = ap (λ (i : ℕ). Err (broken_at i)) (f ∙ ap (λ (i : ℕ). at + i) (sym (broken-at m g)))
      go (good v m) g h = cc

-- ── By its rule ──

module _ (r : Result ℕ Fault) (q : Rule) (s : List ℕ) (at : ℕ) where
  pub by-section : q ≡ rule.SectionName → r ≡ short_of at (text_by 1 class.Name (drop at s)) → r ≡ short_of at (read_by q (drop at s))
  unfolding read_by text_by legal_text section_name legal_section_name in_class
  by-section e f = rw e f

  pub by_name : q ≡ rule.TagName → r ≡ short_of at (text_by 1 class.Tag (drop at s)) → r ≡ short_of at (read_by q (drop at s))
  unfolding read_by text_by legal_text tag_name legal_tag_name in_class
  by_name e f = rw e f

  pub by_value : q ≡ rule.TagValue → r ≡ short_of at (text_by 0 class.Tag (drop at s)) → r ≡ short_of at (read_by q (drop at s))
  unfolding read_by text_by legal_text tag_value legal_tag_value in_class
  by_value e f = rw e f

pub ruleset laws = (
  rules,
  not-true,
  not-false,
  outside-done,
  outside-stop,
  outside-step,
  fault_past,
  fault-few,
  fault-within,
  fault-out,
  short-whole,
  short-broken,
  by-section,
  by_name,
  by_value,
)
