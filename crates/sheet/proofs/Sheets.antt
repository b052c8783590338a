-- A change and a sheet of changes are read as the layout says.
-- Assumes nothing.
use Rattle.std.specs.Prelude.{Option, Some, None, Ok, Err}
use Prim.Native.Nat.{ℕ, zero, suc, ◌+◌, ◌-◌, ◌<◌, ◌≤◌}
use native.Mathlib.Omega.{arith}
use mathlib.Core.Path.{◌≡◌, refl, ap, sym, ◌∙◌}
use mathlib.Core.Bool.{Bool, true, false, cond}
use mathlib.Core.List.{List, [], ◌∷◌, ◌++◌}
use lib.ListN.{length, take, drop, get_or}
use lib.Dec.{eqb}
use borrow.Author.Rules.{rules}
use borrow.Author.Tests.{eq-eqb, ne_eqb}
use Rattle.number.specs.Number.{read_at}
use Rattle.layout.specs.Recording.{within, among, distinct}
use Rattle.layout.specs.Reading.{Parsed, Reader, bad, good, onward, behind, ◌then◌, only, fault_at, placed, give, times, exactly, number, tag_name, tag_value, keeping, rows_fault, counted_fault}
use Rattle.layout.specs.Saving.{Entry, Change, holds, entry_of, kind, entry_part, change_with, change_names, most_changes, number_of_changes, sheet_fault, sheet_with}
use Rattle.strings.specs.Strings.{text_of, read_by}
use Rattle.parts.specs.Parts.{end_of, broken_at}
use Rattle.names.specs.Names.{distinct_names}
use Rattle.faults.specs.Faults.{rule_of, name_by, rest_by, count_of, count_by, first_fault}
use Rattle.rows.specs.Rows.{entry_up_to}
use Rattle.rows.specs.declared.Row.TheVariants as row
use Rattle.layout.proofs.Readers.{then-takes, placed-takes}
use Rattle.strings.proofs.Laws.{text_of-broken, inside, above}
use Rattle.strings.proofs.Named.{name-parts, value-parts, name-place, name-after, value-place, value_after}
use Rattle.parts.proofs.Readers.{only-bad, only-pass, only-fail, then-bad, then-end, number-there, number_cut, end-good, end-bad}
use Rattle.rows.proofs.Laws.{entry-kind}
use Rattle.parts.proofs.Taken.{then-next-bad}
use Rattle.parts.proofs.Times.{times-end, times-stop, times-done, times-length}
use Rattle.names.proofs.Readers.{up-to-leads, distinct-changes}
use Rattle.faults.proofs.Laws.{byte_fits}
use Rattle.sheet.specs.Sheet.{change_up_to, sheet_up_to, sheet_whole, sheet_end_of, sheet_of}
use Rattle.sheet.specs.declared.SheetEnd.{SheetEnd}

-- ── Readers and where they end ──

-- another value made of what was read ends where it does
end-give : {A B : Type 0} (p : Reader A) (f : A → B) (t : List ℕ) (at : ℕ) → end_of at ((p then λ a. give (f a)) t) ≡ end_of at (p t)
unfolding ◌then◌ onward behind give end_of
end-give {A} {B} p f t at = go (p t)
  where
    go : (r : Parsed A) → end_of at (onward r (λ a n. behind n (give (f a) (drop n t)))) ≡ end_of at r
    go (bad m) = refl
    go (good a n) = ap Some (omega arith)

-- a reader behind a kind byte
module _ {A : Type 0} (q : ℕ → Reader A) (most : ℕ) (s : List ℕ) (at : ℕ) where
  kind-past : length s ≤ at → None ≡ end_of at ((kind most then q) (drop at s))
  unfolding end_of kind
  kind-past h = rw (then-bad (kind most) q (drop at s) (only-bad (within 0 most) (number 1) (drop at s) (number_cut 1 s at (omega arith))))

  module _ (h : at < length s) where
    kind-then : get_or s at 0 ≤ most → end_of at ((kind most then q) (drop at s)) ≡ end_of (at + 1) (q (get_or s at 0) (drop (at + 1) s))
    unfolding kind
    kind-then l =
        then-end (kind most) q s at (get_or s at 0) 1 (only-pass (within 0 most) (number 1) (drop at s) (get_or s at 0) 1 (entry-kind s at h)
        (inside 0 most (get_or s at 0) (omega arith) l))

    kind-above : most < get_or s at 0 → end_of at ((kind most then q) (drop at s)) ≡ None
    unfolding end_of kind
    kind-above l =
        rw (then-bad (kind most) q (drop at s) (only-fail (within 0 most) (number 1) (drop at s) (get_or s at 0) 1 (entry-kind s at h)
        (above 0 most (get_or s at 0) (omega arith) l)))

-- ── Entries ──

is-value : (kind : ℕ) → kind ≡ 1 → entry_of kind ≡ (tag_value then λ v. give (holds v))
unfolding entry_of
is-value kind e = rw (e)

pub entry-no-value : (s : List ℕ) (at kind : ℕ) (r : Option ℕ) → kind ≡ 1 → r ≡ text_of (tag_value (drop at s)) → r ≡ None
    → None ≡ end_of at (entry_of kind (drop at s))
unfolding end_of
entry-no-value s at kind r k e f =
    rw (is-value kind k, then-bad tag_value (λ v. give (holds v)) (drop at s) (text_of-broken (tag_value (drop at s)) (sym e ∙ f)).1)

pub entry_value_lem : (s : List ℕ) (at kind n : ℕ) (r : Option ℕ) → kind ≡ 1 → r ≡ text_of (tag_value (drop at s)) → r ≡ Some n
    → Some (at + 1 + n) ≡ end_of at (entry_of kind (drop at s))
unfolding end_of
entry_value_lem s at kind n r k e f =
    rw (is-value kind k) (sym (end-give tag_value holds (drop at s) at
    ∙ rw (value-parts s at n (sym e ∙ f)).1 (ap Some (omega arith))))

pub entry_absent : (s : List ℕ) (at kind : ℕ) → (kind ≡ 1 → ⊥) → Some at ≡ end_of at (entry_of kind (drop at s))
unfolding entry_of end_of give
entry_absent s at kind q = rw (ne_eqb kind 1 q) (ap Some (omega arith))

module _ (most : ℕ) (s : List ℕ) (at : ℕ) where
  pub entry_past : length s ≤ at → None ≡ end_of at (entry_up_to most (drop at s))
  unfolding entry_up_to
  entry_past = kind-past entry_of most s at

  pub entry-above : at < length s → most < get_or s at 0 → None ≡ end_of at (entry_up_to most (drop at s))
  unfolding entry_up_to
  entry-above h l = sym (kind-above entry_of most s at h l)

  pub entry-there : (r : Option ℕ) → at < length s → get_or s at 0 ≤ most → r ≡ end_of (at + 1) (entry_of (get_or s at 0) (drop (at + 1) s))
      → r ≡ end_of at (entry_up_to most (drop at s))
  unfolding entry_up_to
  entry-there r h l e = e ∙ sym (kind-then entry_of most s at h l)

-- ── A change ──

module _ (most : ℕ) where
  -- what follows the name, and what follows the seen entry
  abbrev Sighted : List ℕ → Entry → Reader Change
  Sighted n s = entry_part then λ e. give (record { name = n; seen = s; new = e })

  abbrev Named : List ℕ → Reader Change
  Named n = entry_up_to most then Sighted n

  pub change-no-name : (s : List ℕ) (at : ℕ) (r : Option ℕ) → r ≡ text_of (tag_name (drop at s)) → r ≡ None
      → None ≡ end_of at (change_up_to most (drop at s))
  unfolding change_with end_of
  change-no-name s at r e f =
      rw (then-bad tag_name Named (drop at s) (text_of-broken (tag_name (drop at s)) (sym e ∙ f)).1)

  change-named : (s : List ℕ) (at n : ℕ) (r : Option ℕ) → r ≡ text_of (tag_name (drop at s)) → r ≡ Some n
      → end_of at (change_up_to most (drop at s)) ≡ end_of (at + 1 + n) (Named (take n (drop (at + 1) s)) (drop (at + 1 + n) s))
  unfolding change_with
  change-named s at n r e f =
      let q : at + (1 + n) ≡ at + 1 + n = omega arith in
      then-end tag_name Named s at (take n (drop (at + 1) s)) (1 + n) (name-parts s at n (sym e ∙ f)).1 ∙ rw q

  pub change-no-seen : (s : List ℕ) (at n : ℕ) (r : Option ℕ) (t : Option ℕ) → r ≡ text_of (tag_name (drop at s)) → r ≡ Some n
      → t ≡ end_of (at + 1 + n) (entry_up_to most (drop (at + 1 + n) s)) → t ≡ None → None ≡ end_of at (change_up_to most (drop at s))
  unfolding end_of
  change-no-seen s at n r t e f g h =
      sym (change-named s at n r e f ∙ rw (then-bad (entry_up_to most) (Sighted (take n (drop (at + 1) s))) (drop (at + 1 + n) s)
      (end-bad (entry_up_to most (drop (at + 1 + n) s)) (at + 1 + n) (sym g ∙ h)).1))

  pub change-whole : (s : List ℕ) (at n next : ℕ) (r : Option ℕ) (t u : Option ℕ) → r ≡ text_of (tag_name (drop at s)) → r ≡ Some n
      → t ≡ end_of (at + 1 + n) (entry_up_to most (drop (at + 1 + n) s)) → t ≡ Some next
      → u ≡ end_of next (entry_up_to 1 (drop next s)) → u ≡ end_of at (change_up_to most (drop at s))
  unfolding entry_part entry_up_to
  change-whole s at n next r t u e f g h i =
      let (x, m, p, q) = end-good (entry_up_to most (drop (at + 1 + n) s)) (at + 1 + n) next (sym g ∙ h) in
      i
      ∙ ap (λ (k : ℕ). end_of k (entry_part (drop k s))) q
      ∙ sym (change-named s at n r e f ∙ then-end (entry_up_to most) (Sighted (take n (drop (at + 1) s))) s (at + 1 + n) x m p
      ∙ end-give entry_part (λ y. record { name = take n (drop (at + 1) s); seen = x; new = y }) (drop (at + 1 + n + m) s)
      (at + 1 + n + m))

-- ── Changes in a row ──

module _ (most : ℕ) where
  module _ (s : List ℕ) (at left : ℕ) (all : Option ℕ) (g : end_of at (times left (change_up_to most) (drop at s)) ≡ all) where
    pub changes-done : left ≤ 0 → Some at ≡ all
    changes-done z = sym (times-done (change_up_to most) left s at z) ∙ g

    pub changes-broken : (r : Option ℕ) → r ≡ end_of at (change_up_to most (drop at s)) → r ≡ None → 0 < left → None ≡ all
    changes-broken r e f z = sym (times-stop (change_up_to most) left s at z (end-bad (change_up_to most (drop at s)) at (sym e ∙ f)).1) ∙ g

    pub changes-step : (next place : ℕ) (r : Option ℕ) → r ≡ end_of at (change_up_to most (drop at s)) → r ≡ Some place → left ≡ next + 1
        → end_of place (times next (change_up_to most) (drop place s)) ≡ all
    changes-step next place r e f z =
        let (x, m, h, q) = end-good (change_up_to most (drop at s)) at place (sym e ∙ f) in
        let o : next ≡ left - 1 = omega arith in
        rw (q, o) (sym (times-end (change_up_to most) left s at x m (omega arith) h) ∙ g)

-- ── A sheet ──

module _ (most : ℕ) where
  -- its number, and its changes
  abbrev Counted : Reader (List Change)
  Counted = only (within 0 most_changes) (number 1) then λ n. times n (change_up_to most)

  abbrev apart : List Change → Bool
  apart cs = distinct (change_names cs)

  -- where its fault is makes no difference to what is read
  sheet-fails : (s : List ℕ) {m : ℕ} → only apart Counted s ≡ bad m → None ≡ sheet_end_of (sheet_up_to most s)
  unfolding sheet_up_to sheet_with number_of_changes sheet_end_of placed fault_at
  sheet-fails s e = rw e

  sheet-reads : (s : List ℕ) (n : ℕ) (cs : List Change) → only apart Counted s ≡ good cs n → sheet_up_to most s ≡ good cs n
  unfolding sheet_up_to sheet_with number_of_changes
  sheet-reads s n cs e = placed-takes (sheet_fault (entry_up_to most)) (only apart Counted) s cs n e

  sheet-bad : (s : List ℕ) {m : ℕ} → Counted s ≡ bad m → None ≡ sheet_end_of (sheet_up_to most s)
  sheet-bad s e = sheet-fails s (only-bad apart Counted s e)

  pub sheet-none : (s : List ℕ) → length s < 1 → None ≡ sheet_end_of (sheet_up_to most s)
  sheet-none s h = sheet-bad s (then-bad (only (within 0 most_changes) (number 1)) (λ n. times n (change_up_to most)) s
      (only-bad (within 0 most_changes) (number 1) s (number_cut 1 s 0 (omega arith))))

  module _ (s : List ℕ) (n : ℕ) (l : 1 ≤ length s) (e : n ≡ read_at s 0 1) where
    count-there : number 1 s ≡ good n 1
    count-there = rw e (number-there 1 s 0 (omega arith) (omega arith) (omega arith))

    pub sheet-many : 64 < n → None ≡ sheet_end_of (sheet_up_to most s)
    sheet-many h =
        sheet-bad s (then-bad (only (within 0 most_changes) (number 1)) (λ n. times n (change_up_to most)) s
        (only-fail (within 0 most_changes) (number 1) s n 1 count-there (above 0 most_changes n (omega arith) h)))

    module _ (t : Option ℕ) (h : n ≤ 64) (f : t ≡ end_of 1 (times n (change_up_to most) (drop 1 s))) where
      count-good : only (within 0 most_changes) (number 1) s ≡ good n 1
      count-good = only-pass (within 0 most_changes) (number 1) s n 1 count-there (inside 0 most_changes n (omega arith) h)

      pub sheet-broken : t ≡ None → None ≡ sheet_end_of (sheet_up_to most s)
      sheet-broken g =
          sheet-bad s (then-next-bad (only (within 0 most_changes) (number 1)) (λ n. times n (change_up_to most)) s n 1 count-good
          (end-bad (times n (change_up_to most) (drop 1 s)) 1 (sym f ∙ g)).1)

      -- the changes that are there
      changes-there : (end : ℕ) → t ≡ Some end
          → (cs : List Change) × (m : ℕ) × (times n (change_up_to most) (drop 1 s) ≡ good cs m) × (end ≡ 1 + m) × (Counted s ≡ good cs (1 + m))
      changes-there end g =
          let (cs, m, p, q) = end-good (times n (change_up_to most) (drop 1 s)) 1 end (sym f ∙ g) in
          (cs, m, p, q, then-takes (only (within 0 most_changes) (number 1)) (λ n. times n (change_up_to most)) s n cs 1 m count-good p)

      module _ (end : ℕ) (d : Bool) (g : t ≡ Some end) (i : d ≡ distinct_names s 1 n row.Change) where
        pub sheet-twice : d ≡ false → None ≡ sheet_end_of (sheet_up_to most s)
        sheet-twice j =
            let (cs, m, p, q, r) = changes-there end g in
            sheet-fails s (only-fail apart Counted s cs (1 + m) r (sym (distinct-changes (entry_up_to most) (up-to-leads most) s 1 n m cs p) ∙ sym i ∙ j))

        pub sheet-whole : d ≡ true → sheet_whole n end ≡ sheet_end_of (sheet_up_to most s)
        unfolding sheet_end_of
        sheet-whole j =
            let (cs, m, p, q, r) = changes-there end g in
            rw (
              sheet-reads s (1 + m) cs (only-pass apart Counted s cs (1 + m) r (sym (distinct-changes (entry_up_to most) (up-to-leads most) s 1 n m cs p) ∙ sym i ∙ j)),
              times-length (change_up_to most) n (drop 1 s) cs m p,
            ) (ap (sheet_whole n) q)

-- ── A sheet, and nothing behind it; or where its first fault is ──

-- where what follows a name keeps a number, it is no matter which
rows-kept : {A : Type 0} (name : Reader (List ℕ)) (q : Reader A) (more : ℕ → Reader ℕ) (b : ℕ) → ((t : List ℕ) → more b t ≡ keeping q b t)
    → (n : ℕ) (ns : List (List ℕ)) (t : List ℕ) → rows_fault n name (keeping q) 0 ns t ≡ rows_fault n name more b ns t
unfolding rows_fault keeping ◌then◌ onward behind give
rows-kept name q more b alike zero ns t = refl
rows-kept {A} name q more b alike (suc n) ns t = go (name t) (rows-kept name q more b alike n)
  where
    behind_rest : (ℕ → Reader ℕ) → List (List ℕ) → List ℕ → Parsed ℕ → ℕ
    behind_rest rest vs u r = elim r [ bad j ↦ j | good next j ↦ j + rows_fault n name rest next vs (drop j u) ]

    Same : Type 0
    Same = (vs : List (List ℕ)) (u : List ℕ) → rows_fault n name (keeping q) 0 vs u ≡ rows_fault n name more b vs u

    kept : Same → (vs : List (List ℕ)) (u : List ℕ) (r : Parsed A)
        → behind_rest (keeping q) vs u (onward r (λ a k. behind k (give 0 (drop k u)))) ≡ behind_rest more vs u (onward r (λ a k. behind k (give b (drop k u))))
    kept ih vs u (bad j) = refl
    kept ih vs u (good a k) = ap (λ (i : ℕ). k + 0 + i) (ih vs (drop (k + 0) u))

    go : (p : Parsed (List ℕ)) → Same
        → ◌≡◌ {A = ℕ} (elim p [ bad m ↦ m | good v m ↦ cond (among v ns) 0 (m + behind_rest (keeping q) (ns ++ (v ∷ [])) (drop m t) (keeping q 0 (drop m t))) ])
        (elim p [ bad m ↦ m | good v m ↦ cond (among v ns) 0 (m + behind_rest more (ns ++ (v ∷ [])) (drop m t) (more b (drop m t))) ])
    go (bad m) ih = refl
    go (good v m) ih = ap (λ (k : ℕ). cond (among v ns) 0 (m + k)) (kept ih (ns ++ (v ∷ [])) (drop m t) (q (drop m t))
        ∙ ap (behind_rest more (ns ++ (v ∷ [])) (drop m t)) (sym (alike (drop m t))))

pub counted-kept : {A : Type 0} (count : Reader ℕ) (name : Reader (List ℕ)) (q : Reader A) (more : ℕ → Reader ℕ) (b : ℕ)
    → ((t : List ℕ) → more b t ≡ keeping q b t) → (t : List ℕ) → counted_fault count name (keeping q) 0 t ≡ counted_fault count name more b t
unfolding counted_fault
counted-kept count name q more b alike t = go (count t)
  where
    go : (p : Parsed ℕ) → ◌≡◌ {A = ℕ} (elim p [ bad m ↦ m | good k n ↦ n + rows_fault k name (keeping q) 0 [] (drop n t) ])
        (elim p [ bad m ↦ m | good k n ↦ n + rows_fault k name more b [] (drop n t) ])
    go (bad m) = refl
    go (good k n) = ap (λ (i : ℕ). n + i) (rows-kept name q more b alike k [] (drop n t))

module _ (most : ℕ) where
  fault-is : (s : List ℕ) (m : ℕ) → sheet_up_to most s ≡ bad m → m ≡ first_fault row.Change most s
  unfolding sheet_up_to sheet_with number_of_changes placed fault_at sheet_fault first_fault count_by count_of name_by rest_by rule_of read_by
  fault-is s m e =
      go (only (apart most) (Counted most) s) e
      ∙ counted-kept (only (within 0 most_changes) (number 1)) tag_name (entry_up_to most then λ x. entry_part) (λ b. keeping (entry_up_to b then λ x. entry_part) b) most (λ t. refl) s
    where
      go : (p : Parsed (List Change)) → fault_at (sheet_fault (entry_up_to most) s) p ≡ bad m → m ≡ sheet_fault (entry_up_to most) s
      go (bad i) h = cc
      go (good cs i) h = let z : ◌≡◌ {A = ℕ} 0 1 = cc in absurd (omega arith)

  module _ (s : List ℕ) (t : Option SheetEnd) (e : t ≡ sheet_end_of (sheet_up_to most s)) where
    pub changes-fault : (k : ℕ) → t ≡ None → k ≡ 0 + first_fault row.Change most (drop 0 s) → Err (broken_at k) ≡ sheet_of (exactly (sheet_up_to most) s)
    unfolding sheet_end_of sheet_of exactly onward
    changes-fault k f g = go (sheet_up_to most s) refl (sym e ∙ f)
      where
        go : (p : Parsed (List Change)) → sheet_up_to most s ≡ p → sheet_end_of p ≡ None
            → Err (broken_at k) ≡ sheet_of (onward p (λ a n. cond (eqb n (length s)) (good a n) (bad n)))
        go (bad m) h i = let w : k ≡ first_fault row.Change most s = omega (arith, g) in ap (λ (i : ℕ). sheet_of {A = Change} (bad i)) (w ∙ sym (fault-is s m h))
        go (good cs m) h i = let z : ◌≡◌ {A = ℕ} 0 1 = cc in absurd (omega arith)

    module _ (p : SheetEnd) (f : t ≡ Some p) where
      sheet-there : (cs : List Change) × (length cs ≡ p.changes) × (sheet_up_to most s ≡ good cs p.end)
      unfolding sheet_end_of
      sheet-there = go (sheet_up_to most s) refl (sym e ∙ f)
        where
          go : (x : Parsed (List Change)) → sheet_up_to most s ≡ x → sheet_end_of x ≡ Some p
              → (cs : List Change) × (length cs ≡ p.changes) × (sheet_up_to most s ≡ good cs p.end)
          go (bad m) g h = let z : ◌≡◌ {A = ℕ} 0 1 = cc in absurd (omega arith)
          go (good cs m) g h =
              let q : ◌≡◌ {A = SheetEnd} (record { changes = length cs; end = m }) p = cc in
              (cs, ap (λ (x : SheetEnd). x.changes) q, g ∙ ap (λ (x : SheetEnd). good cs x.end) q)

      pub changes-whole : p.end ≡ length s → Ok p.changes ≡ sheet_of (exactly (sheet_up_to most) s)
      unfolding sheet_of exactly onward
      changes-whole h = let (cs, a, b) = sheet-there in rw (b, eq-eqb p.end (length s) h, a)

      pub changes-longer : (p.end ≡ length s → ⊥) → Err (broken_at p.end) ≡ sheet_of (exactly (sheet_up_to most) s)
      unfolding sheet_of exactly onward
      changes-longer h = let (cs, a, b) = sheet-there in rw (b, ne_eqb p.end (length s) h)

pub ruleset laws = (
  rules,
  name-place,
  name-after,
  value-place,
  value_after,
  byte_fits,
  entry-no-value,
  entry_value_lem,
  entry_absent,
  entry_past,
  entry-above,
  entry-there,
  change-no-name,
  change-no-seen,
  change-whole,
  changes-done,
  changes-broken,
  sheet-none,
  sheet-many,
  sheet-broken,
  sheet-twice,
  sheet-whole,
  changes-fault,
  changes-whole,
  changes-longer,
)
