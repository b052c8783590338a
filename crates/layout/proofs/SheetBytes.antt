-- Sheets are read exactly: the bytes of legal changes are read back, whatever follows; and what is read is legal and stands encoded at the front.
-- Assumes nothing.
use Prim.Native.Nat.{ℕ, zero, suc, ◌<◌, ◌≤◌}
use native.Mathlib.Omega.{arith}
use mathlib.Core.Path.{◌≡◌, refl, ap, sym, ◌∙◌}
use mathlib.Core.Bool.{Bool, true, false, ◌&&◌, cond}
use mathlib.Core.List.{List, [], ◌∷◌, ◌++◌, flat_map, append_assoc, append-nil}
use lib.ListN.{length}
use lib.Dec.{leb, eqb}
use lib.Pow.{are_bytes}
use borrow.Author.Tests.{leb-true, eqb-true, eqb-false}
use Rattle.number.proofs.Bytes.{both_true}
use Rattle.layout.specs.Recording.{short_string, within, every, distinct, is_tag_byte, legal_tag_name, legal_tag_value}
use Rattle.layout.specs.Reading.{Reader, ◌then◌, give, exactly, string_fault, tag_name, tag_value, is_bad}
use Rattle.layout.specs.Saving.{Entry, absent, holds, ChangeOf, Change, most_changes, entry_of, kind, entry_part, change_with, change_names, number_of_changes, sheet_fault, sheet_with, sheet, changes_of, entry_part_bytes, change_bytes, sheet_bytes_with, sheet_bytes}
use Rattle.layout.proofs.Readers.{Reads, reads-alike, give-reads, number-reads, only-reads, placed-reads, then-reads, times-reads}
use Rattle.layout.proofs.Exact.{Exact, reads, exact, one_byte, string-exact, within-zero, all_three, three-true, name-short, value-short, whole-read, whole-given}
use Rattle.layout.proofs.Applied.{legal_entry}

-- ── What is legal ──

-- "Names and values obey the table rule", by the rule of what was seen
unfoldable pub legal_row : {S : Type 0} → (seen : S → Bool) → ChangeOf S → Bool
legal_row seen c = legal_tag_name c.name && seen c.seen && legal_entry c.new

-- "number of changes, 0 to 64"; "no name comes twice"
unfoldable pub legal_sheet_with : {S : Type 0} → (seen : S → Bool) → List (ChangeOf S) → Bool
legal_sheet_with seen cs = leb (length cs) most_changes && every (legal_row seen) cs && distinct (change_names cs)

abbrev pub legal_sheet : List Change → Bool
legal_sheet = legal_sheet_with legal_entry

-- ── A kind, and what stands behind it ──

unfoldable pub entry_kind : Entry → ℕ
entry_kind absent = 0
entry_kind (holds v) = 1

unfoldable pub entry_rest : Entry → List ℕ
entry_rest absent = []
entry_rest (holds v) = short_string v

unfoldable entry_value : Entry → List ℕ
entry_value absent = []
entry_value (holds v) = v

unfoldable pub is_value : Entry → Bool
is_value absent = false
is_value (holds v) = true

absent-reads : Reads (λ e. (false ≡ is_value e) × (legal_entry e ≡ true)) entry_rest (give absent)
unfolding is_value legal_entry entry_rest
absent-reads = reads-alike (give-reads absent) (λ e. (there e, back e)) (λ e h. rw h)
  where
    there : (e : Entry) → e ≡ absent → (false ≡ is_value e) × (legal_entry e ≡ true)
    there e h = rw h (refl, refl)

    back : (e : Entry) → ((false ≡ is_value e) × (legal_entry e ≡ true)) → e ≡ absent
    back absent h = refl
    back (holds v) (k, l) = let z : ◌≡◌ {A = ℕ} 0 1 = cc in absurd (omega arith)

value-reads : Reads (λ e. (true ≡ is_value e) × (legal_entry e ≡ true)) entry_rest (tag_value then λ v. give (holds v))
unfolding tag_value is_value entry_kind legal_entry entry_rest entry_value
value-reads =
    reads-alike
    (then-reads entry_value (placed-reads (string_fault 0 is_tag_byte) (only-reads legal_tag_value (reads string-exact))) (λ v. give-reads (holds v)) (λ v e o g. rw g))
    (λ e. (there e, back e))
    (λ e h. bytes e h)
  where
    Ok : Entry → Type 0
    Ok e = ((leb (length (entry_value e)) 255 ≡ true) × (legal_tag_value (entry_value e) ≡ true)) × (e ≡ holds (entry_value e))

    never : absent ≡ holds [] → ⊥
    never h = let z : ◌≡◌ {A = ℕ} 0 1 = ap entry_kind h in omega arith

    there : (e : Entry) → Ok e → (true ≡ is_value e) × (legal_entry e ≡ true)
    there absent h = absurd (never h.1)
    there (holds v) h = (refl, h.0.1)

    back : (e : Entry) → ((true ≡ is_value e) × (legal_entry e ≡ true)) → Ok e
    back absent (k, l) = let z : ◌≡◌ {A = ℕ} 0 1 = cc in absurd (omega arith)
    back (holds v) (k, l) = ((value-short v l, l), refl)

    bytes : (e : Entry) → Ok e → short_string (entry_value e) ++ [] ≡ entry_rest e
    bytes absent h = absurd (never h.1)
    bytes (holds v) h = append-nil (short_string v)

-- what stands behind a kind byte: a value where it is 1, else nothing
pub entry-reads : (kind : ℕ) → Reads (λ e. (eqb kind 1 ≡ is_value e) × (legal_entry e ≡ true)) entry_rest (entry_of kind)
unfolding entry_of
entry-reads kind = go (eqb kind 1)
  where
    go : (b : Bool) → Reads (λ e. (b ≡ is_value e) × (legal_entry e ≡ true)) entry_rest (cond b (tag_value then λ v. give (holds v)) (give absent))
    go true = value-reads
    go false = absent-reads

pub kind-small : (e : Entry) → entry_kind e < 256
unfolding entry_kind
kind-small absent = omega arith
kind-small (holds v) = omega arith

-- ── The parts of a change ──

pub kind-of : (k : ℕ) (e : Entry) → k ≤ 1 → eqb k 1 ≡ is_value e → k ≡ entry_kind e
unfolding is_value entry_kind
kind-of zero absent h q = refl
kind-of (suc k) absent h q = absurd (eqb-false (suc k) 1 q (omega arith))
kind-of k (holds v) h q = eqb-true k 1 q

pub kind-is : (e : Entry) → eqb (entry_kind e) 1 ≡ is_value e
unfolding is_value entry_kind
kind-is absent = refl
kind-is (holds v) = refl

pub entry-exact : Exact legal_entry entry_part_bytes entry_part
unfolding entry_part_bytes entry_kind entry_rest entry_part kind
entry-exact =
    exact (then-reads entry_kind (only-reads (within 0 1) (number-reads 1)) entry-reads (λ n e o g. kind-of n e (leb-true n 1 (both_true (leb 0 n) (leb n 1) o.1).1) g.0))
    (λ e. (λ h. h.1.1, λ h. ((kind-small e, known e), (kind-is e, h))))
    (λ e h. ap (λ (l : List ℕ). l ++ entry_rest e) (one_byte (entry_kind e) (kind-small e)) ∙ whole e)
  where
    known : (e : Entry) → within 0 1 (entry_kind e) ≡ true
    known absent = refl
    known (holds v) = refl

    whole : (e : Entry) → entry_kind e ∷ entry_rest e ≡ entry_part_bytes e
    whole absent = refl
    whole (holds v) = refl

pub change-exact : {S : Type 0} (legal : S → Bool) (bytes : S → List ℕ) (seen : Reader S) → Exact legal bytes seen
    → Exact (legal_row legal) (change_bytes bytes) (change_with seen)
unfolding legal_row change_bytes change_with tag_name
change-exact {S} legal bytes seen x =
    exact
    (then-reads (λ c. c.name) (placed-reads (string_fault 1 is_tag_byte) (only-reads legal_tag_name (reads string-exact)))
    (λ n. then-reads (λ c. c.seen) (reads x)
    (λ s. then-reads (λ c. c.new) (reads entry-exact) (λ e. give-reads (record { name = n; seen = s; new = e })) (λ e c o g. sym (ap (λ (c : ChangeOf S). c.new) g)))
    (λ s c o g. sym (ap (λ (c : ChangeOf S). c.seen) g.1)))
    (λ n c o g. sym (ap (λ (c : ChangeOf S). c.name) g.1.1)))
    (λ c. (
      λ h. three-true (legal_tag_name c.name) (legal c.seen) (legal_entry c.new) h.0.1 h.1.0 h.1.1.0,
      λ h. let b = all_three (legal_tag_name c.name) (legal c.seen) (legal_entry c.new) h in ((name-short c.name b.0, b.0), (b.1, (b.2, refl))),
    ))
    (λ c h. simp (append_assoc, append-nil))

-- ── A sheet ──

pub sheet-exact-with : {S : Type 0} (legal : S → Bool) (bytes : S → List ℕ) (seen : Reader S) → Exact legal bytes seen
    → Exact (legal_sheet_with legal) (sheet_bytes_with bytes) (sheet_with seen)
unfolding legal_sheet_with sheet_bytes_with sheet_with number_of_changes
sheet-exact-with legal bytes seen x =
    exact
    (placed-reads (sheet_fault seen)
    (only-reads (λ cs. distinct (change_names cs))
    (then-reads length (only-reads (within 0 most_changes) (number-reads 1)) (λ n. times-reads (legal_row legal) n (reads (change-exact legal bytes seen x))) (λ n cs o g. sym g.0))))
    (λ cs. (
      λ h. three-true (leb (length cs) most_changes) (every (legal_row legal) cs) (distinct (change_names cs)) (both_true (leb 0 (length cs)) (leb (length cs) most_changes) h.0.0.1).1 h.0.1.1 h.1,
      λ h. let b = all_three (leb (length cs) most_changes) (every (legal_row legal) cs) (distinct (change_names cs)) h in
          (((omega (arith, leb-true (length cs) most_changes b.0), within-zero most_changes (length cs) b.0), (refl, b.1)), b.2),
    ))
    (λ cs h. ap (λ (l : List ℕ). l ++ flat_map (change_bytes bytes) cs) (one_byte (length cs) (omega (arith, h.0.0.0))))

pub sheet-exact : Exact legal_sheet sheet_bytes sheet
unfolding sheet sheet_bytes
sheet-exact = sheet-exact-with legal_entry entry_part_bytes entry_part entry-exact

-- The sheet of legal changes is well formed and is read back.
pub sheet-read : (cs : List Change) → legal_sheet cs ≡ true → (is_bad (exactly sheet (sheet_bytes cs)) ≡ false) × (changes_of (sheet_bytes cs) ≡ cs)
unfolding changes_of
sheet-read = whole-read legal_sheet sheet_bytes sheet sheet-exact []

-- 10, "a change sheet is malformed", holds of all bytes but the sheets of legal changes: what is well formed is the sheet of the changes that are read.
pub sheet-given : (bytes : List ℕ)
    → are_bytes bytes ≡ true
    → is_bad (exactly sheet bytes) ≡ false
    → (legal_sheet (changes_of bytes) ≡ true)
    × (sheet_bytes (changes_of bytes) ≡ bytes)
unfolding changes_of
sheet-given = whole-given legal_sheet sheet_bytes sheet sheet-exact []
