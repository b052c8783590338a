-- Sheets from before are read exactly, as those of today are.
-- Assumes nothing.
use Prim.Native.Nat.{ℕ, zero, suc, ◌<◌, ◌≤◌}
use native.Mathlib.Omega.{arith}
use mathlib.Core.Path.{◌≡◌, refl, ap, ◌∙◌}
use mathlib.Core.Bool.{Bool, true, false, cond}
use mathlib.Core.List.{List, [], ◌∷◌, ◌++◌, append-nil}
use lib.Dec.{leb, eqb}
use lib.Pow.{are_bytes}
use borrow.Author.Tests.{leb-true, eqb-true, eqb-false}
use Rattle.number.proofs.Bytes.{both_true}
use Rattle.layout.specs.Recording.{within}
use Rattle.layout.specs.Reading.{◌then◌, give}
use Rattle.layout.specs.Saving.{Entry, absent, holds, entry_of, kind, entry_part_bytes, sheet_bytes_with}
use Rattle.layout.specs.OldSheets.{OldSeen, saw, nobody_looked, OldChange, old_seen_of, old_seen_part, old_sheet, old_changes_of, bad_old_sheet}
use Rattle.layout.proofs.Readers.{Reads, reads-alike, give-reads, number-reads, only-reads, then-reads}
use Rattle.layout.proofs.Exact.{Exact, exact, one_byte, whole-read, whole-given}
use Rattle.layout.proofs.Applied.{legal_entry}
use Rattle.layout.proofs.SheetBytes.{entry_kind, entry_rest, is_value, kind-small, kind-of, kind-is, entry-reads, legal_sheet_with, sheet-exact-with}

unfoldable pub old_seen_bytes : OldSeen → List ℕ
old_seen_bytes (saw e) = entry_part_bytes e
old_seen_bytes nobody_looked = 2 ∷ []

unfoldable pub legal_old_seen : OldSeen → Bool
legal_old_seen (saw e) = legal_entry e
legal_old_seen nobody_looked = true

-- ── A kind, and what stands behind it ──

unfoldable old_kind : OldSeen → ℕ
old_kind (saw e) = entry_kind e
old_kind nobody_looked = 2

unfoldable old_rest : OldSeen → List ℕ
old_rest (saw e) = entry_rest e
old_rest nobody_looked = []

unfoldable seen_entry : OldSeen → Entry
seen_entry (saw e) = e
seen_entry nobody_looked = absent

-- what may stand behind a kind byte: `two`, it is 2; `one`, it is 1
unfoldable Fits : (two one : Bool) → OldSeen → Type 0
Fits two one (saw e) = (two ≡ false) × (one ≡ is_value e) × (legal_entry e ≡ true)
Fits two one nobody_looked = two ≡ true

old-seen-reads : (kind : ℕ) → Reads (Fits (eqb kind 2) (eqb kind 1)) old_rest (old_seen_of kind)
unfolding old_seen_of Fits old_rest seen_entry
old-seen-reads kind = go (eqb kind 2)
  where
    go : (two : Bool) → Reads (Fits two (eqb kind 1)) old_rest (cond two (give nobody_looked) (entry_of kind then λ e. give (saw e)))
    go true = reads-alike (give-reads nobody_looked) (λ s. (there s, back s)) (λ s h. rw h)
      where
        there : (s : OldSeen) → s ≡ nobody_looked → Fits true (eqb kind 1) s
        there s h = rw h refl

        back : (s : OldSeen) → Fits true (eqb kind 1) s → s ≡ nobody_looked
        back (saw e) h = let t : true ≡ false = h.0 in let z : ◌≡◌ {A = ℕ} 0 1 = cc in absurd (omega arith)
        back nobody_looked h = refl
    go false = reads-alike (then-reads seen_entry (entry-reads kind) (λ d. give-reads (saw d)) (λ d s o g. rw g)) (λ s. (there s, back s)) (λ s h. bytes s h)
      where
        Ok : OldSeen → Type 0
        Ok s = ((eqb kind 1 ≡ is_value (seen_entry s)) × (legal_entry (seen_entry s) ≡ true)) × (s ≡ saw (seen_entry s))

        never : nobody_looked ≡ saw absent → ⊥
        never h = let z : ◌≡◌ {A = ℕ} 0 1 = cc in omega arith

        there : (s : OldSeen) → Ok s → Fits false (eqb kind 1) s
        there (saw d) h = (refl, h.0.0, h.0.1)
        there nobody_looked h = absurd (never h.1)

        back : (s : OldSeen) → Fits false (eqb kind 1) s → Ok s
        back (saw d) h = ((h.1, h.2), refl)
        back nobody_looked h = let t : false ≡ true = h in let z : ◌≡◌ {A = ℕ} 0 1 = cc in absurd (omega arith)

        bytes : (s : OldSeen) → Ok s → entry_rest (seen_entry s) ++ [] ≡ old_rest s
        bytes (saw d) h = append-nil (entry_rest d)
        bytes nobody_looked h = absurd (never h.1)

fits-kind : (k : ℕ) (s : OldSeen) → k ≤ 2 → Fits (eqb k 2) (eqb k 1) s → k ≡ old_kind s
unfolding Fits old_kind
fits-kind k (saw e) h f = kind-of k e (fewer k h (eqb-false k 2 f.0)) f.1
  where
    fewer : (k : ℕ) → k ≤ 2 → (k ≡ 2 → ⊥) → k ≤ 1
    fewer zero h n = omega arith
    fewer (suc zero) h n = omega arith
    fewer (suc (suc k)) h n = absurd (n (omega arith))
fits-kind k nobody_looked h f = eqb-true k 2 f

kind_fits : (s : OldSeen) → legal_old_seen s ≡ true → Fits (eqb (old_kind s) 2) (eqb (old_kind s) 1) s
unfolding Fits old_kind legal_old_seen entry_kind
kind_fits (saw absent) h = (refl, kind-is absent, h)
kind_fits (saw (holds v)) h = (refl, kind-is (holds v), h)
kind_fits nobody_looked h = refl

fits-legal : (k : ℕ) (s : OldSeen) → Fits (eqb k 2) (eqb k 1) s → legal_old_seen s ≡ true
unfolding Fits legal_old_seen
fits-legal k (saw e) f = f.2
fits-legal k nobody_looked f = refl

-- ── A sheet ──

pub old-seen-exact : Exact legal_old_seen old_seen_bytes old_seen_part
unfolding old_seen_part kind old_kind old_rest old_seen_bytes entry_kind entry_rest entry_part_bytes
old-seen-exact =
    exact
    (then-reads old_kind (only-reads (within 0 2) (number-reads 1)) old-seen-reads
    (λ n s o g. fits-kind n s (leb-true n 2 (both_true (leb 0 n) (leb n 2) o.1).1) g))
    (λ s. (λ h. fits-legal (old_kind s) s h.1, λ h. ((small s, known s), kind_fits s h)))
    (λ s h. ap (λ (l : List ℕ). l ++ old_rest s) (one_byte (old_kind s) (small s)) ∙ whole s)
  where
    small : (s : OldSeen) → old_kind s < 256
    small (saw e) = kind-small e
    small nobody_looked = omega arith

    known : (s : OldSeen) → within 0 2 (old_kind s) ≡ true
    known (saw absent) = refl
    known (saw (holds v)) = refl
    known nobody_looked = refl

    whole : (s : OldSeen) → old_kind s ∷ old_rest s ≡ old_seen_bytes s
    whole (saw absent) = refl
    whole (saw (holds v)) = refl
    whole nobody_looked = refl

abbrev pub legal_old_sheet : List OldChange → Bool
legal_old_sheet = legal_sheet_with legal_old_seen

abbrev pub old_sheet_bytes : List OldChange → List ℕ
old_sheet_bytes = sheet_bytes_with old_seen_bytes

old-sheet-exact : Exact legal_old_sheet old_sheet_bytes old_sheet
unfolding old_sheet
old-sheet-exact = sheet-exact-with legal_old_seen old_seen_bytes old_seen_part old-seen-exact

-- The old sheet of legal changes was well formed and is read back;
pub old-sheet-read : (cs : List OldChange) → legal_old_sheet cs ≡ true → (bad_old_sheet (old_sheet_bytes cs) ≡ false) × (old_changes_of (old_sheet_bytes cs) ≡ cs)
unfolding old_changes_of
old-sheet-read = whole-read legal_old_sheet old_sheet_bytes old_sheet old-sheet-exact []

-- and what was well formed is the old sheet of the changes that are read.
pub old-sheet-given : (bytes : List ℕ) → are_bytes bytes ≡ true → bad_old_sheet bytes ≡ false
    → (legal_old_sheet (old_changes_of bytes) ≡ true) × (old_sheet_bytes (old_changes_of bytes) ≡ bytes)
unfolding old_changes_of
old-sheet-given = whole-given legal_old_sheet old_sheet_bytes old_sheet old-sheet-exact []
