-- The first fault of rows: what the functions ahead of the walk over rows leave to be shown.
-- Assumes nothing.
use Prim.Native.Nat.{ℕ, ◌+◌, ◌-◌, ◌^◌, ◌<◌, ◌≤◌}
use native.Mathlib.Omega.{arith}
use mathlib.Core.Path.{◌≡◌, refl, ap, sym, ◌∙◌}
use mathlib.Core.Bool.{Bool, true, false, cond}
use mathlib.Core.List.{List, []}
use lib.ListN.{length, take, drop, get_or, length-drop}
use lib.Seq.{drop-drop}
use lib.Dec.{leb, eqb}
use mir.Syntax.{w8, w64}
use mir.Val.{Fits}
use borrow.Author.Rules.{rules}
use borrow.Author.Tests.{le-leb, lt-leb, eq-eqb, ne_eqb}
use Rattle.number.specs.Number.{read_at}
use Rattle.number.proofs.Bools.{and-false}
use Rattle.layout.specs.Recording.{within, legal_section_name, legal_tag_name, legal_tag_value, is_name_byte, is_tag_byte}
use Rattle.layout.specs.Reading.{Parsed, bad, good, Reader, onward, behind, give, ◌then◌, only, number, block, string, string_fault, section_name, tag_name, tag_value, keeping, rows_fault, counted_fault}
use Rattle.layout.specs.Opening.{step, offset_behind}
use Rattle.layout.specs.Recorder.{configured}
use Rattle.layout.specs.Saving.{kind, entry_of, entry_part, absent, holds}
use Rattle.layout.proofs.Readers.{placed-good, then-takes, block-is}
use Rattle.strings.specs.Strings.{text_of, short_of, read_by}
use Rattle.strings.specs.declared.Rule.{Rule}
use Rattle.strings.specs.declared.Rule.TheVariants as rule
use Rattle.strings.proofs.Laws.{string-parts}
use Rattle.parts.proofs.Readers.{only-bad, only-pass, only-fail, then-bad, then-onward, number-there, number_cut}
use Rattle.parts.proofs.Taken.{only_parts, give-parts, then-give, then-next-bad, block-short}
use Rattle.rows.specs.Rows.{entry_up_to}
use Rattle.rows.specs.declared.Row.{Row}
use Rattle.rows.specs.declared.Row.TheVariants as row
use Rattle.rows.proofs.Laws.{entry-kind}
use Rattle.order.specs.Order.{seek}
use Rattle.faults.specs.Faults.{rule_of, name_by, rest_by, entry_by, rest_whole, rest_of, passed_by, seated_by, row_passed, count_of, count_by, first_fault}
use Rattle.faults.specs.declared.Rest.{Rest}
use Rattle.parts.specs.Parts.{broken_at}
use Rattle.parts.specs.declared.Fault.{Fault}
use Rattle.std.specs.Prelude.{Option, Some, None, Result, Ok, Err}
use Rattle.faults.specs.declared.Count.{Count}

-- ── A short string that was read ──

short-good : (at n : ℕ) (x : Parsed (List ℕ)) → short_of at x ≡ Ok n → (v : List ℕ) × (m : ℕ) × (x ≡ good v m) × (n ≡ length v)
unfolding short_of
short-good at n (bad m) e = let z : ◌≡◌ {A = ℕ} 0 1 = cc in absurd (omega arith)
short-good at n (good v m) e = (v, m, refl, cc)

short-bad : (at : ℕ) (f : Fault) (x : Parsed (List ℕ)) → short_of at x ≡ Err f → (m : ℕ) × (x ≡ bad m) × (f ≡ broken_at (at + m))
unfolding short_of
short-bad at f (bad m) e = (m, refl, cc)
short-bad at f (good v m) e = let z : ◌≡◌ {A = ℕ} 0 1 = cc in absurd (omega arith)

-- whatever its rule, it is a short string
string-by : (q : Rule) (t v : List ℕ) (m : ℕ) → read_by q t ≡ good v m → string t ≡ good v m
unfolding read_by section_name tag_name tag_value
string-by rule.SectionName t v m e =
    (only_parts legal_section_name string t v m (placed-good (string_fault 1 is_name_byte) (only legal_section_name string) t v m e)).0
string-by rule.TagName t v m e = (only_parts legal_tag_name string t v m (placed-good (string_fault 1 is_tag_byte) (only legal_tag_name string) t v m e)).0
string-by rule.TagValue t v m e = (only_parts legal_tag_value string t v m (placed-good (string_fault 0 is_tag_byte) (only legal_tag_value string) t v m e)).0

-- so its bytes stand behind its length byte
pub read-parts : (q : Rule) (s : List ℕ) (at : ℕ) (v : List ℕ) (m : ℕ) → read_by q (drop at s) ≡ good v m
    → (at + 1 + length v ≤ length s) × (v ≡ take (length v) (drop (at + 1) s)) × (m ≡ 1 + length v) × (string (drop at s) ≡ good v m)
unfolding text_of
read-parts q s at v m e =
    let f : string (drop at s) ≡ good v m = string-by q (drop at s) v m e in
    let (l, o, p) = string-parts s at (length v) (rw f) in
    (l, cc, cc, f)

read-good : (q : Rule) (s : List ℕ) (at n : ℕ) (r : Result ℕ Fault) → r ≡ short_of at (read_by q (drop at s)) → r ≡ Ok n
    → (at + 1 + n ≤ length s) × (v : List ℕ) × (read_by q (drop at s) ≡ good v (1 + n))
read-good q s at n r e f =
    let (v, m, g, h) = short-good at n (read_by q (drop at s)) (sym e ∙ f) in
    let (l, o, p, i) = read-parts q s at v m g in
    let j : m ≡ 1 + n = omega arith in
    (omega arith, v, rw (← j) g)

module _ (q : Rule) (s : List ℕ) (at n : ℕ) (r : Result ℕ Fault) where
  pub read_fits : r ≡ short_of at (read_by q (drop at s)) → r ≡ Ok n → at + 1 + n ≤ length s
  read_fits e f = (read-good q s at n r e f).0

  pub read-place : length s < 2 ^ 64 → r ≡ short_of at (read_by q (drop at s)) → r ≡ Ok n → Fits w64 (at + 1)
  read-place h e f = let l = read_fits e f in record { fits = omega arith }

  pub read-end : length s < 2 ^ 64 → r ≡ short_of at (read_by q (drop at s)) → r ≡ Ok n → Fits w64 (at + 1 + n)
  read-end h e f = let l = read_fits e f in record { fits = omega arith }

-- ── What was read, n bytes further on ──

rest-later : (r : Parsed ℕ) (at n : ℕ) → rest_of at (behind n r) ≡ rest_of (at + n) r
unfolding rest_of behind
rest-later (bad m) at n = ap (λ (i : ℕ). Err (broken_at i)) (omega arith)
rest-later (good x m) at n = ap (λ (e : ℕ). rest_whole e x) (omega arith)

then-rest : {A : Type 0} (p : Reader A) (q : A → Reader ℕ) (s : List ℕ) (at : ℕ) (x : A) (n : ℕ) → p (drop at s) ≡ good x n
    → rest_of at ((p then q) (drop at s)) ≡ rest_of (at + n) (q x (drop (at + n) s))
then-rest p q s at x n e = ap (rest_of at) (then-onward p q (drop at s) x n e) ∙ rw (drop-drop n at s) (rest-later (q x (drop (at + n) s)) at n)

rest-good : (r : Parsed ℕ) (at : ℕ) (p : Rest) → rest_of at r ≡ Ok p → (m : ℕ) × (r ≡ good p.number m) × (p.end ≡ at + m)
unfolding rest_of
rest-good (bad m) at p e = let z : ◌≡◌ {A = ℕ} 0 1 = cc in absurd (omega arith)
rest-good (good x m) at p e =
    let q : ◌≡◌ {A = Rest} (record { end = at + m; number = x }) p = cc in
    (m, ap (λ (t : Rest). good t.number m) q, sym (ap (λ (t : Rest). t.end) q))

rest-bad : (r : Parsed ℕ) (at : ℕ) (f : Fault) → rest_of at r ≡ Err f → (m : ℕ) × (r ≡ bad m) × (f ≡ broken_at (at + m))
unfolding rest_of
rest-bad (bad m) at f e = (m, refl, cc)
rest-bad (good x m) at f e = let z : ◌≡◌ {A = ℕ} 0 1 = cc in absurd (omega arith)

broken-here : (r : Parsed ℕ) (at : ℕ) → r ≡ bad 0 → Err (broken_at at) ≡ rest_of at r
unfolding rest_of
broken-here r at e = rw e (ap (λ (i : ℕ). Err (broken_at i)) (omega arith))

-- ── The offset of a configuration ──

module _ (s : List ℕ) (at before : ℕ) where
  pub offset-cut : length s - at < 8 → Err (broken_at at) ≡ rest_of at (offset_behind before (drop at s))
  unfolding offset_behind
  offset-cut h = broken-here (offset_behind before (drop at s)) at (only-bad (step before) (number 8) (drop at s) (number_cut 8 s at h))

  module _ (offset : ℕ) (l : at ≤ length s) (h : 8 ≤ length s - at) (e : offset ≡ read_at s at 8) where
    offset-there : number 8 (drop at s) ≡ good offset 8
    offset-there = rw e (number-there 8 s at (omega arith) l h)

    pub offset-low : offset < before → Err (broken_at at) ≡ rest_of at (offset_behind before (drop at s))
    unfolding offset_behind
    offset-low b =
        broken-here (offset_behind before (drop at s)) at
        (only-fail (step before) (number 8) (drop at s) offset 8 offset-there (rw (lt-leb before offset b)))

    pub offset-far : before ≤ offset → 65535 < offset - before → Err (broken_at at) ≡ rest_of at (offset_behind before (drop at s))
    unfolding offset_behind
    offset-far b f =
        broken-here (offset_behind before (drop at s)) at
        (only-fail (step before) (number 8) (drop at s) offset 8 offset-there (rw (le-leb before offset b, lt-leb (offset - before) 65535 f)))

    pub offset-whole : before ≤ offset → offset - before ≤ 65535 → rest_whole (at + 8) offset ≡ rest_of at (offset_behind before (drop at s))
    unfolding offset_behind rest_of
    offset-whole b f =
        rw (only-pass (step before) (number 8) (drop at s) offset 8 offset-there (rw (le-leb before offset b, le-leb (offset - before) 65535 f)))

-- ── A configuration ──

module _ (s : List ℕ) (at before : ℕ) where
  pub configuration-cut : length s - at < 2 → Err (broken_at at) ≡ rest_of at (keeping configured before (drop at s))
  unfolding keeping configured
  configuration-cut h =
      broken-here (keeping configured before (drop at s)) at
      (then-bad configured (λ x. give before) (drop at s) (then-bad (number 2) block (drop at s) (number_cut 2 s at h)))

  module _ (n : ℕ) (l : at ≤ length s) (h : 2 ≤ length s - at) (e : n ≡ read_at s at 2) where
    size-there : number 2 (drop at s) ≡ good n 2
    size-there = rw e (number-there 2 s at (omega arith) l h)

    pub configuration-short : length s - (at + 2) < n → Err (broken_at (at + 2)) ≡ rest_of at (keeping configured before (drop at s))
    unfolding keeping configured rest_of
    configuration-short f =
        let q : block n (drop 2 (drop at s)) ≡ bad 0 = rw (drop-drop 2 at s) (block-short n s (at + 2) f) in
        rw (then-bad configured (λ x. give before) (drop at s) (then-next-bad (number 2) block (drop at s) n 2 size-there q))

    pub configuration-whole : n ≤ length s - (at + 2) → rest_whole (at + 2 + n) before ≡ rest_of at (keeping configured before (drop at s))
    unfolding keeping configured rest_of
    configuration-whole f =
        let t : List ℕ = drop 2 (drop at s) in
        let k : n ≤ length t = simp length-drop (omega arith) in
        let p : configured (drop at s) ≡ good (take n t) (2 + n) = then-takes (number 2) block (drop at s) n (take n t) 2 n size-there (block-is n t k) in
        rw (then-give configured (λ x. before) (drop at s) (take n t) (2 + n) p) (ap (λ (i : ℕ). rest_whole i before) (omega arith))

-- ── A value ──

module _ (s : List ℕ) (at before : ℕ) (r : Result ℕ Fault) where
  pub value-whole : (n : ℕ) → r ≡ short_of at (read_by rule.TagValue (drop at s)) → r ≡ Ok n
      → rest_whole (at + 1 + n) before ≡ rest_of at (keeping tag_value before (drop at s))
  unfolding keeping rest_of read_by
  value-whole n e f =
      let (l, v, g) = read-good rule.TagValue s at n r e f in
      rw (then-give tag_value (λ x. before) (drop at s) v (1 + n) g) (ap (λ (i : ℕ). rest_whole i before) (omega arith))

  pub value-broken : (p : Fault) → r ≡ short_of at (read_by rule.TagValue (drop at s)) → r ≡ Err p
      → Err p ≡ rest_of at (keeping tag_value before (drop at s))
  unfolding keeping rest_of read_by
  value-broken p e f =
      let (m, g, h) = short-bad at p (read_by rule.TagValue (drop at s)) (sym e ∙ f) in
      rw (then-bad tag_value (λ x. give before) (drop at s) g) (ap Err h)

-- ── An entry ──

-- a byte fits a wider number
pub byte_fits : (s : List ℕ) (at : ℕ) → ((i : ℕ) → Fits w8 (get_or s i 0)) → Fits w64 (get_or s at 0)
byte_fits s at b = record { fits = omega (arith, (b at).fits) }

module _ (s : List ℕ) (at most before : ℕ) where
  next : ℕ → Reader ℕ
  next k = cond (eqb k 1) (keeping tag_value before) (give before)

  pub entry_past : length s ≤ at → Err (broken_at at) ≡ rest_of at (entry_by most before (drop at s))
  unfolding entry_by kind next
  entry_past h =
      broken-here (entry_by most before (drop at s)) at
      (then-bad (kind most) next (drop at s) (only-bad (within 0 most) (number 1) (drop at s) (number_cut 1 s at (omega arith))))

  pub entry_more : at < length s → most < get_or s at 0 → Err (broken_at at) ≡ rest_of at (entry_by most before (drop at s))
  unfolding entry_by kind next
  entry_more h l =
      broken-here (entry_by most before (drop at s)) at
      (then-bad (kind most) next (drop at s)
      (only-fail (within 0 most) (number 1) (drop at s) (get_or s at 0) 1 (entry-kind s at h)
      (rw (le-leb 0 (get_or s at 0) (omega arith), lt-leb (get_or s at 0) most l))))

  kind-there : at < length s → get_or s at 0 ≤ most → kind most (drop at s) ≡ good (get_or s at 0) 1
  unfolding kind
  kind-there h l =
      only-pass (within 0 most) (number 1) (drop at s) (get_or s at 0) 1 (entry-kind s at h)
      (rw (le-leb 0 (get_or s at 0) (omega arith), le-leb (get_or s at 0) most l))

  pub entry_value : (r : Result Rest Fault) → at < length s → get_or s at 0 ≤ most → get_or s at 0 ≡ 1
      → r ≡ rest_of (at + 1) (keeping tag_value before (drop (at + 1) s))
      → r ≡ rest_of at (entry_by most before (drop at s))
  unfolding entry_by next
  entry_value r h l e f = f ∙ sym (then-rest (kind most) next s at (get_or s at 0) 1 (kind-there h l) ∙ rw (eq-eqb (get_or s at 0) 1 e))

  pub entry-none : at < length s → get_or s at 0 ≤ most → (get_or s at 0 ≡ 1 → ⊥)
      → rest_whole (at + 1) before ≡ rest_of at (entry_by most before (drop at s))
  unfolding entry_by next rest_of give
  entry-none h l e =
      sym (then-rest (kind most) next s at (get_or s at 0) 1 (kind-there h l)
      ∙ rw (ne_eqb (get_or s at 0) 1 e) (ap (λ (i : ℕ). rest_whole i before) (omega arith)))

-- ── Two entries ──

then-assoc : {A B C : Type 0} (p : Reader A) (q : A → Reader B) (r : Reader C) (t : List ℕ)
    → ((p then q) then λ y. r) t ≡ (p then λ x. q x then λ y. r) t
unfolding ◌then◌ onward behind
then-assoc {A} {B} {C} p q r t = go (p t)
  where
    inner : (n : ℕ) (z : Parsed B)
        → onward (behind n z) (λ y k. behind k (r (drop k t))) ≡ behind n (onward z (λ y k. behind k (r (drop k (drop n t)))))
    inner n (bad m) = refl
    inner n (good y k) = rw (drop-drop k n t) (twice n k (r (drop (n + k) t)))
      where
        twice : (n k : ℕ) (w : Parsed C) → behind (n + k) w ≡ behind n (behind k w)
        twice n k (bad m) = ap bad (omega arith)
        twice n k (good c m) = ap (good c) (omega arith)

    go : (z : Parsed A) → onward (onward z (λ a n. behind n (q a (drop n t)))) (λ y k. behind k (r (drop k t)))
        ≡ onward z (λ a n. behind n (onward (q a (drop n t)) (λ y k. behind k (r (drop k (drop n t))))))
    go (bad m) = refl
    go (good a n) = inner n (q a (drop n t))

-- where both go on alike from what is read, both read alike
then-alike : {A B : Type 0} (p : Reader A) (q r : A → Reader B) (t : List ℕ) → ((x : A) (n : ℕ) → p t ≡ good x n → (u : List ℕ) → q x u ≡ r x u)
    → (p then q) t ≡ (p then r) t
unfolding ◌then◌ onward
then-alike {A} p q r t e = go (p t) refl
  where
    go : (z : Parsed A) → p t ≡ z → onward z (λ a n. behind n (q a (drop n t))) ≡ onward z (λ a n. behind n (r a (drop n t)))
    go (bad m) f = refl
    go (good a n) f = ap (behind n) (e a n f (drop n t))

-- what is made of a value on the way is no matter
made : {A B : Type 0} (p : Reader A) (f : A → B) (b : ℕ) (t : List ℕ) → keeping (p then λ a. give (f a)) b t ≡ keeping p b t
unfolding keeping ◌then◌ onward behind give
made {A} p f b t = go (p t)
  where
    go : (z : Parsed A) → onward (onward z (λ a n. behind n (give (f a) (drop n t)))) (λ a n. behind n (give b (drop n t)))
        ≡ onward z (λ a n. behind n (give b (drop n t)))
    go (bad m) = refl
    go (good a n) = ap (good b) (omega arith)

kept-nothing : {A : Type 0} (a : A) (b : ℕ) (u : List ℕ) → keeping (give a) b u ≡ give b u
unfolding keeping ◌then◌ onward behind give
kept-nothing a b u = refl

entry_kept : (b k : ℕ) (u : List ℕ) → keeping (entry_of k) b u ≡ cond (eqb k 1) (keeping tag_value b) (give b) u
unfolding entry_of
entry_kept b k u = go (eqb k 1)
  where
    go : (c : Bool) → keeping (cond c (tag_value then λ v. give (holds v)) (give absent)) b u ≡ cond c (keeping tag_value b) (give b) u
    go true = made tag_value holds b u
    go false = kept-nothing absent b u

entry-up-to : (most b : ℕ) (t : List ℕ) → keeping (entry_up_to most) b t ≡ entry_by most b t
unfolding keeping entry_up_to entry_by
entry-up-to most b t =
    then-assoc (kind most) entry_of (give b) t
    ∙ then-alike (kind most) (λ k. entry_of k then λ e. give b) (λ k. cond (eqb k 1) (keeping tag_value b) (give b)) t (λ k n e u. entry_kept b k u)

entry-part : (b : ℕ) (t : List ℕ) → keeping entry_part b t ≡ entry_by 1 b t
unfolding entry_part entry_up_to
entry-part b t = entry-up-to 1 b t

keeping-bad : {A : Type 0} (p : Reader A) (b : ℕ) (t : List ℕ) (m : ℕ) → keeping p b t ≡ bad m → p t ≡ bad m
unfolding keeping ◌then◌ onward behind give
keeping-bad {A} p b t m e = go (p t) e
  where
    go : (z : Parsed A) → onward z (λ a n. behind n (give b (drop n t))) ≡ bad m → z ≡ bad m
    go (bad i) f = cc
    go (good a n) f = let z : ◌≡◌ {A = ℕ} 0 1 = cc in absurd (omega arith)

module _ (s : List ℕ) (at most : ℕ) (r : Result Rest Fault) where
  pub entries-broken : (p : Fault) → r ≡ rest_of at (entry_by most most (drop at s)) → r ≡ Err p
      → Err p ≡ rest_of at (keeping (entry_up_to most then λ seen. entry_part) most (drop at s))
  unfolding keeping rest_of
  entries-broken p e f =
      let (m, g, h) = rest-bad (entry_by most most (drop at s)) at p (sym e ∙ f) in
      let i : entry_up_to most (drop at s) ≡ bad m = keeping-bad (entry_up_to most) most (drop at s) m (entry-up-to most most (drop at s) ∙ g) in
      rw (then-bad (entry_up_to most then λ seen. entry_part) (λ x. give most) (drop at s) (then-bad (entry_up_to most) (λ seen. entry_part) (drop at s) i)) (ap Err h)

  pub entries_next : (p : Rest) (t : Result Rest Fault) → r ≡ rest_of at (entry_by most most (drop at s)) → r ≡ Ok p
      → t ≡ rest_of p.end (entry_by 1 p.number (drop p.end s)) → t ≡ rest_of at (keeping (entry_up_to most then λ seen. entry_part) most (drop at s))
  unfolding keeping
  entries_next p t e f g =
      let (m, h, i) = rest-good (entry_by most most (drop at s)) at p (sym e ∙ f) in
      give-parts (entry_up_to most) (λ x. most) (drop at s) p.number m (entry-up-to most most (drop at s) ∙ h) (λ x j k.
      g ∙ ap (λ (e : ℕ). rest_of e (entry_by 1 p.number (drop e s))) i ∙ ap (λ (b : ℕ). rest_of (at + m) (entry_by 1 b (drop (at + m) s))) k
      ∙ sym (ap (rest_of at) (then-assoc (entry_up_to most) (λ seen. entry_part) (give most) (drop at s))
      ∙ then-rest (entry_up_to most) (λ seen. keeping entry_part most) s at x m j ∙ ap (rest_of (at + m)) (entry-part most (drop (at + m) s))))

-- ── What follows a name, by the kind of row ──

module _ (s : List ℕ) (at before : ℕ) (k : Row) (r : Result Rest Fault) where
  pub rest-definition : k ≡ row.Definition → r ≡ rest_of at (offset_behind before (drop at s)) → r ≡ rest_of at (rest_by k before (drop at s))
  unfolding rest_by
  rest-definition e f = rw e f

  pub rest-set-up : k ≡ row.SetUp → r ≡ rest_of at (keeping configured before (drop at s)) → r ≡ rest_of at (rest_by k before (drop at s))
  unfolding rest_by
  rest-set-up e f = rw e f

  pub rest-tag : k ≡ row.Tag → r ≡ rest_of at (keeping tag_value before (drop at s)) → r ≡ rest_of at (rest_by k before (drop at s))
  unfolding rest_by
  rest-tag e f = rw e f

  pub rest-change : k ≡ row.Change → r ≡ rest_of at (keeping (entry_up_to before then λ seen. entry_part) before (drop at s))
      → r ≡ rest_of at (rest_by k before (drop at s))
  unfolding rest_by
  rest-change e f = rw e f

module _ (k : Row) where
  pub rule-definition : k ≡ row.Definition → rule.SectionName ≡ rule_of k
  unfolding rule_of
  rule-definition e = rw e

  pub rule-set-up : k ≡ row.SetUp → rule.SectionName ≡ rule_of k
  unfolding rule_of
  rule-set-up e = rw e

  pub rule-tag : k ≡ row.Tag → rule.TagName ≡ rule_of k
  unfolding rule_of
  rule-tag e = rw e

  pub rule-change : k ≡ row.Change → rule.TagName ≡ rule_of k
  unfolding rule_of
  rule-change e = rw e

-- ── A row, behind others ──

module _ (s ps : List ℕ) (passed place : ℕ) (k : Row) (before : ℕ) (q : Rule) (r : Result ℕ Fault) where
  pub row-broken : (p : Fault) → q ≡ rule_of k → r ≡ short_of place (read_by q (drop place s)) → r ≡ Err p → Err p ≡ row_passed s ps passed place k before
  unfolding row_passed name_by
  row-broken p a e f =
      let (m, g, h) = short-bad place p (read_by q (drop place s)) (sym e ∙ f) in
      let j : read_by (rule_of k) (drop place s) ≡ bad m = rw (← a) g in
      rw (j, row_passed) (ap Err h)

  module _ (n : ℕ) (a : q ≡ rule_of k) (e : r ≡ short_of place (read_by q (drop place s))) (f : r ≡ Ok n) where
    row_named : row_passed s ps passed place k before
        ≡ seated_by (seek s ps passed place) place (rest_of (place + 1 + n) (rest_by k before (drop (place + 1 + n) s)))
    unfolding row_passed name_by
    row_named =
        let (l, v, g) = read-good q s place n r e f in
        let j : read_by (rule_of k) (drop place s) ≡ good v (1 + n) = rw (← a) g in
        let i : place + (1 + n) ≡ place + 1 + n = omega arith in
        rw (j, row_passed) (ap (λ (x : ℕ). seated_by (seek s ps passed place) place (rest_of x (rest_by k before (drop x s)))) i)

    pub row-twice : (t : Option ℕ) → t ≡ seek s ps passed place → t ≡ None → Err (broken_at place) ≡ row_passed s ps passed place k before
    unfolding seated_by
    row-twice t g h = let j : seek s ps passed place ≡ None = sym g ∙ h in rw (row_named, j)

    module _ (i : ℕ) (t : Option ℕ) (w : Result Rest Fault) (g : t ≡ seek s ps passed place) (h : t ≡ Some i)
        (o : w ≡ rest_of (place + 1 + n) (rest_by k before (drop (place + 1 + n) s))) where
      seated : passed_by i w ≡ row_passed s ps passed place k before
      unfolding seated_by
      seated = let j : seek s ps passed place ≡ Some i = sym g ∙ h in rw (row_named, j) (ap (passed_by i) o)

      pub rest-broken : (p : Fault) → w ≡ Err p → Err p ≡ row_passed s ps passed place k before
      unfolding passed_by
      rest-broken p z = rw z at seated

      pub row-whole : (p : Rest) → w ≡ Ok p → Ok (record { seat = i; end = p.end; number = p.number }) ≡ row_passed s ps passed place k before
      unfolding passed_by
      row-whole p z = rw z at seated

-- ── Rows behind their number ──

module _ (k : Row) where
  pub count-definition : k ≡ row.Definition → record { width = 1; least = 1; most = 8 } ≡ count_of k
  unfolding count_of
  count-definition e = rw e

  pub count-set-up : k ≡ row.SetUp → record { width = 1; least = 1; most = 8 } ≡ count_of k
  unfolding count_of
  count-set-up e = rw e

  pub count-tag : k ≡ row.Tag → record { width = 4; least = 0; most = 1000 } ≡ count_of k
  unfolding count_of
  count-tag e = rw e

  pub count-change : k ≡ row.Change → record { width = 1; least = 0; most = 64 } ≡ count_of k
  unfolding count_of
  count-change e = rw e

  -- every number of rows is short, and there is room for so many places
  count-few : (1 ≤ (count_of k).width) × ((count_of k).width ≤ 8) × ((count_of k).most ≤ 1000)
  unfolding count_of
  count-few = go k
    where
      go : (k : Row) → (1 ≤ (count_of k).width) × ((count_of k).width ≤ 8) × ((count_of k).most ≤ 1000)
      go row.Definition = (omega arith, omega arith, omega arith)
      go row.SetUp = (omega arith, omega arith, omega arith)
      go row.Tag = (omega arith, omega arith, omega arith)
      go row.Change = (omega arith, omega arith, omega arith)

module _ (count : Reader ℕ) (name : Reader (List ℕ)) (more : ℕ → Reader ℕ) (before : ℕ) (t : List ℕ) where
  counted-bad : (m : ℕ) → count t ≡ bad m → counted_fault count name more before t ≡ m
  unfolding counted_fault
  counted-bad m e = rw (e, counted_fault)

  counted-good : (n w : ℕ) → count t ≡ good n w → counted_fault count name more before t ≡ w + rows_fault n name more before [] (drop w t)
  unfolding counted_fault
  counted-good n w e = rw (e, counted_fault)

-- with its count as it was got
module _ (k : Row) (c : Count) (s : List ℕ) (at before : ℕ) (e : c ≡ count_of k) where
  few : (1 ≤ c.width) × (c.width ≤ 8) × (c.most ≤ 1000)
  few = rw e (count-few k)

  refused : only (within c.least c.most) (number c.width) (drop at s) ≡ bad 0 → at ≡ at + first_fault k before (drop at s)
  unfolding first_fault count_by
  refused f =
      let g : only (within (count_of k).least (count_of k).most) (number (count_of k).width) (drop at s) ≡ bad 0 = rw (← e) f in
      let h : first_fault k before (drop at s) ≡ 0 = counted-bad (count_by k) (name_by k) (rest_by k) before (drop at s) 0 g in
      omega arith

  pub first_past : length s ≤ at → at ≡ at + first_fault k before (drop at s)
  first_past h =
      let (a, b, d) = few in
      refused (only-bad (within c.least c.most) (number c.width) (drop at s) (number_cut c.width s at (omega arith)))

  pub first-cut : length s - at < c.width → at ≡ at + first_fault k before (drop at s)
  first-cut h = refused (only-bad (within c.least c.most) (number c.width) (drop at s) (number_cut c.width s at h))

  module _ (n : ℕ) (l : at < length s) (h : c.width ≤ length s - at) (o : n ≡ read_at s at c.width) where
    count-there : number c.width (drop at s) ≡ good n c.width
    count-there = let (a, b, d) = few in rw o (number-there c.width s at b (omega arith) h)

    pub first-few : n < c.least → at ≡ at + first_fault k before (drop at s)
    first-few f =
        refused (only-fail (within c.least c.most) (number c.width) (drop at s) n c.width count-there (rw (lt-leb c.least n f)))

    pub first-many : c.most < n → at ≡ at + first_fault k before (drop at s)
    first-many f =
        refused (only-fail (within c.least c.most) (number c.width) (drop at s) n c.width count-there
        (rw (lt-leb n c.most f, and-false (leb c.least n))))

    pub first_rows : (p : ℕ) → c.least ≤ n → n ≤ c.most
        → p ≡ at + c.width + rows_fault n (name_by k) (rest_by k) before [] (drop (at + c.width) s) → p ≡ at + first_fault k before (drop at s)
    unfolding first_fault count_by
    first_rows p f g q =
        let i : only (within c.least c.most) (number c.width) (drop at s) ≡ good n c.width =
        only-pass (within c.least c.most) (number c.width) (drop at s) n c.width count-there
        (rw (le-leb c.least n f, le-leb n c.most g)) in
        let j : only (within (count_of k).least (count_of k).most) (number (count_of k).width) (drop at s) ≡ good n c.width = rw (← e) i in
        let w : first_fault k before (drop at s) ≡ c.width + rows_fault n (name_by k) (rest_by k) before [] (drop c.width (drop at s)) =
        counted-good (count_by k) (name_by k) (rest_by k) before (drop at s) n c.width j in
        let z = rw (drop-drop c.width at s) at w in
        omega (arith, z, q)

pub first-within : (k : Row) (c : Count) (n : ℕ) → c ≡ count_of k → n ≤ c.most → n ≤ 1000
first-within k c n e h = let (a, b, d) = few k c [] 0 0 e in omega arith

-- by what the functions are about: the search goes through all of a set
pub ruleset offsets = (rules, offset-cut, offset-low, offset-far, offset-whole)

pub ruleset laws = (
  rules,
  read_fits,
  read-place,
  read-end,
  configuration-cut,
  configuration-short,
  configuration-whole,
  value-whole,
  value-broken,
  byte_fits,
  entry_past,
  entry_more,
  entry_value,
  entry-none,
  entries-broken,
  entries_next,
  rest-definition,
  rest-set-up,
  rest-tag,
  rest-change,
  rule-definition,
  rule-set-up,
  rule-tag,
  rule-change,
  row-broken,
  row-twice,
  rest-broken,
  row-whole,
)

pub ruleset counts = (
  rules,
  count-definition,
  count-set-up,
  count-tag,
  count-change,
  first_past,
  first-cut,
  first-few,
  first-many,
  first_rows,
  first-within,
)
