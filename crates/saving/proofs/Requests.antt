-- What look and commit begin with, and the converter too: 1 to 7, 10; and that the table and the sheet are legal then.
-- Assumes nothing.
use Rattle.std.specs.Prelude.{Result, Ok, Err}
use Prim.Native.Nat.{ℕ, zero, suc, ◌+◌, ◌^◌, ◌<◌, ◌≤◌}
use native.Mathlib.Omega.{arith}
use mathlib.Core.Path.{◌≡◌, refl, ap, sym, ◌∙◌}
use mathlib.Core.Bool.{true, false}
use mathlib.Core.List.{List, []}
use lib.ListN.{length, drop, length-drop}
use lib.Dec.{leb}
use borrow.Author.Tests.{leb-true, ne_eqb}
use mir.Syntax.{w64}
use mir.Val.{Fits}
use Rattle.number.proofs.Bytes.{both_true}
use Rattle.layout.specs.Recording.{Tag, most_tags, within, distinct, tag_names}
use Rattle.layout.specs.Reading.{Parsed, bad, good, Reader, ◌then◌, only, times, exactly, number, number_of_tags, tag, table_fault, table, is_bad, value_or, fault_of}
use Rattle.layout.specs.Opening.{front_lines, opening_lines, refusal, opening_place, shown, user_offset, read_user, bad_user}
use Rattle.layout.specs.Saving.{ChangeOf, entry_part, change_with, change_names, most_changes, number_of_changes, sheet_fault, sheet_with, sheet, changes_of, user_tags, look_lines, look_refusal, look_place}
use Rattle.layout.proofs.Readers.{exactly-good, placed-good, number-good}
use Rattle.layout.proofs.Lines.{line-holds, opening-pass, opens-passes, lines-first}
use Rattle.layout.proofs.Orders.{without, lines-not}
use Rattle.layout.proofs.Refusals.{look-number}
use Rattle.layout.proofs.Looked.{look-accepted}
use Rattle.names.specs.Names.{distinct_names}
use Rattle.rows.specs.Rows.{entry_up_to, row_name}
use Rattle.rows.specs.declared.Row.TheVariants as row
use Rattle.parts.proofs.Taken.{then-parts, only_parts}
use Rattle.parts.proofs.Times.{times-length, times-led}
use Rattle.names.proofs.Readers.{LeadsEntry, tag-row, up-to-leads, distinct-tags, distinct-changes}
use Rattle.tables.proofs.Places.{table-read}
use Rattle.opening.specs.Opened.{open_of, held_of}
use Rattle.opening.specs.declared.Held.{Held}
use Rattle.opening.proofs.Lines.{open-opens, open-refuses}
use Rattle.sheet.specs.Sheet.{sheet_up_to, sheet_of}
use Rattle.sheet.specs.Rows.{tags_at, changes_at}
use Rattle.sheet.proofs.Legal.{tags-are, changes-are}
use Rattle.refusal.specs.Refusal.{placed}
use Rattle.refusal.specs.declared.Refusal.{Refusal}
use Rattle.refusal.specs.declared.Refusal.TheVariants.{Sheet}
use Rattle.parts.specs.declared.Fault.{Fault}
use Rattle.saving.specs.Answers.{asked_as, asked_by, asked_of}
use Rattle.saving.specs.Begun.{Legal}
use Rattle.saving.specs.declared.Asked.{Asked}

-- ── The user table of a file that opens ──

-- it is read
user-table : (f : List ℕ) → refusal f ≡ 0 → (m : ℕ) × (table (drop (user_offset f) f) ≡ good (user_tags f) m) × (m ≡ length (drop (user_offset f) f))
unfolding user_tags shown bad_user read_user value_or
user-table f o = go (exactly table (drop (user_offset f) f)) refl (opens-passes f o).user
  where
    go : (p : Parsed (List Tag)) → exactly table (drop (user_offset f) f) ≡ p → is_bad p ≡ false
        → (m : ℕ) × (table (drop (user_offset f) f) ≡ good (value_or [] p) m) × (m ≡ length (drop (user_offset f) f))
    go (bad j) e b = let z : ◌≡◌ {A = ℕ} 0 1 = cc in absurd (omega arith)
    go (good ts n) e b = let (x, y) = exactly-good table (drop (user_offset f) f) ts n e in (n, x, y)

table-few : (t : List ℕ) (ts : List Tag) (m : ℕ) → table t ≡ good ts m → length ts ≤ 1000
unfolding table number_of_tags
table-few t ts m e =
    then-parts (only (within 0 most_tags) (number 4)) (λ n. times n tag) t ts m
    (only_parts (λ ts. distinct (tag_names ts)) (only (within 0 most_tags) (number 4) then λ n. times n tag) t ts m (placed-good table_fault _ t ts m e)).0
    (λ c a k f g h.
    let l = leb-true c most_tags (both_true (leb 0 c) (leb c most_tags) (only_parts (within 0 most_tags) (number 4) t c a f).1).1 in
    let o = times-length tag c (drop a t) ts k g in
    omega arith)

table-apart : (t : List ℕ) (ts : List Tag) (m : ℕ) → table t ≡ good ts m → distinct (tag_names ts) ≡ true
unfolding table number_of_tags
table-apart t ts m e =
    (only_parts (λ ts. distinct (tag_names ts)) (only (within 0 most_tags) (number 4) then λ n. times n tag) t ts m (placed-good table_fault _ t ts m e)).1

-- its tags stand behind their number, and end the file
user-stands : (f : List ℕ) → refusal f ≡ 0 → (user_offset f + 4 ≤ length f) × (length (user_tags f) ≤ 1000)
    × (tags_at f (user_offset f + 4) (length (user_tags f)) ≡ user_tags f) × (distinct_names f (user_offset f + 4) (length (user_tags f)) row.Tag ≡ true)
    × (m : ℕ) × (times (length (user_tags f)) (row_name row.Tag) (drop (user_offset f + 4) f) ≡ good (tag_names (user_tags f)) m)
    × (user_offset f + 4 + m ≡ length f)
unfolding tag_names
user-stands f o =
    let (m, p, g) = user-table f o in
    let h = length-drop (user_offset f) f in
    let l = table-few (drop (user_offset f) f) (user_tags f) m p in
    let q = table-apart (drop (user_offset f) f) (user_tags f) m p in
    table-read f (user_offset f) m (user_tags f) p (λ k a b c d. (
      omega arith,
      omega arith,
      tags-are f (user_offset f + 4) (length (user_tags f)) k (user_tags f) c,
      distinct-tags f (user_offset f + 4) (length (user_tags f)) k (user_tags f) c ∙ q,
      k,
      times-led tag (row_name row.Tag) (λ t. t.name) tag-row (length (user_tags f)) (drop (user_offset f + 4) f) (user_tags f) k c,
      omega arith,
    ))

-- ── The sheet ──

-- its changes stand behind their number
pub changes-stand : {S : Type 0} (p : Reader S) → LeadsEntry p → (bytes : List ℕ) (cs : List (ChangeOf S)) (m : ℕ) → exactly (sheet_with p) bytes ≡ good cs m
    → (length cs ≤ 64) × (distinct_names bytes 1 (length cs) row.Change ≡ true) × (k : ℕ) × (times (length cs) (change_with p) (drop 1 bytes) ≡ good cs k)
unfolding sheet_with number_of_changes
changes-stand p leads bytes cs m e =
    let (x, y) = only_parts (λ ds. distinct (change_names ds)) (only (within 0 most_changes) (number 1) then λ n. times n (change_with p)) bytes cs m
    (placed-good (sheet_fault p) _ bytes cs m (exactly-good (sheet_with p) bytes cs m e).0) in
    then-parts (only (within 0 most_changes) (number 1)) (λ n. times n (change_with p)) bytes cs m x (λ c a k f g h.
    let q = only_parts (within 0 most_changes) (number 1) bytes c a f in
    let l = leb-true c most_changes (both_true (leb 0 c) (leb c most_changes) q.1).1 in
    let r : 1 ≡ a = (number-good 1 bytes c a q.0).2 in
    let o : length cs ≡ c = times-length (change_with p) c (drop a bytes) cs k g in
    (omega arith, rw o (distinct-changes p leads bytes 1 c k cs (rw r g) ∙ y), k, rw (o, r) g))

pub sheet-is-bad : {A : Type 0} (p : Parsed (List A)) (k : Fault) → sheet_of p ≡ Err k → (is_bad p ≡ true) × (fault_of p ≡ k.place)
unfolding sheet_of fault_of
sheet-is-bad (bad j) k e =
    let q : ◌≡◌ {A = Fault} (record { place = j }) k = cc in
    (refl, ap (λ (f : Fault). f.place) q)
sheet-is-bad (good cs n) k e = let z : ◌≡◌ {A = ℕ} 0 1 = cc in absurd (omega arith)

sheet-is-good : {A : Type 0} (p : Parsed (List A)) (k : ℕ) → sheet_of p ≡ Ok k → (cs : List A) × (m : ℕ) × (p ≡ good cs m) × (length cs ≡ k)
unfolding sheet_of
sheet-is-good (bad j) k e = let z : ◌≡◌ {A = ℕ} 0 1 = cc in absurd (omega arith)
sheet-is-good (good cs n) k e = (cs, n, refl, cc)

-- ── What all begin with ──

pub asked-unopened : (most : ℕ) (f bytes : List ℕ) (o : Result Held Refusal) (q : Refusal) → o ≡ open_of f → o ≡ Err q → Err q ≡ asked_of most f bytes
unfolding asked_of asked_by
asked-unopened most f bytes o q e g =
    let (j, a, b) = open-refuses f q (sym e ∙ g) in
    ap (λ (x : Refusal). Err x) a ∙ sym (ap (λ (n : ℕ). asked_by n f (sheet_of (exactly (sheet_up_to most) bytes))) b)

module _ (f : List ℕ) (o : Result Held Refusal) (held : Held) (e : o ≡ open_of f) (g : o ≡ Ok held) where
  opens : (refusal f ≡ 0) × (held ≡ held_of f)
  opens = open-opens f held (sym e ∙ g)

  pub user-fits : length f < 2 ^ 64 → Fits w64 (held.user + 4)
  unfolding held_of
  user-fits h =
      let u : held.user ≡ user_offset f = ap (λ (z : Held). z.user) opens.1 in
      let l = (user-stands f opens.0).0 in
      record { fits = omega arith }

  pub asked-malformed : (most : ℕ) (bytes : List ℕ) (s : Result ℕ Fault) (k : Fault) → s ≡ sheet_of (exactly (sheet_up_to most) bytes) → s ≡ Err k
      → Err (Sheet k.place) ≡ asked_of most f bytes
  unfolding asked_of asked_by
  asked-malformed most bytes s k h i = rw (opens.0, ← h, i)

  pub asked-changes : (most : ℕ) (bytes : List ℕ) (s : Result ℕ Fault) (k : ℕ) → s ≡ sheet_of (exactly (sheet_up_to most) bytes) → s ≡ Ok k
      → asked_as (held.user + 4) held.user_tags k ≡ asked_of most f bytes
  unfolding asked_of asked_by held_of user_tags
  asked-changes most bytes s k h i = rw (opens.0, ← h, i, opens.1)

-- changes that are asked for: the file opens and the sheet is whole
changes-asked : (f : List ℕ) (s : Result ℕ Fault) (a : Asked) (r : ℕ) → asked_by r f s ≡ Ok a
    → (r ≡ 0) × (s ≡ Ok a.changes) × (user_offset f + 4 ≡ a.at) × (length (user_tags f) ≡ a.tags)
unfolding asked_by
changes-asked f (Ok j) a zero e =
    let q : ◌≡◌ {A = Asked} (record { at = user_offset f + 4; tags = length (user_tags f); changes = j }) a = cc in
    (refl, ap (λ (x : Asked). Ok x.changes) q, ap (λ (x : Asked). x.at) q, ap (λ (x : Asked). x.tags) q)
changes-asked f (Err p) a zero e = let z : ◌≡◌ {A = ℕ} 0 1 = cc in absurd (omega arith)
changes-asked f s a (suc r) e = let z : ◌≡◌ {A = ℕ} 0 1 = cc in absurd (omega arith)

-- a refusal: the file's, or the sheet's
pub refused-asked : (f : List ℕ) (s : Result ℕ Fault) (q : Refusal) (r : ℕ) {G : Type 0} → asked_by r f s ≡ Err q
    → ((n : ℕ) → r ≡ suc n → q ≡ placed (suc n) (opening_place (suc n) f) → G)
    → ((p : Fault) → r ≡ 0 → s ≡ Err p → q ≡ placed 10 p.place → G) → G
unfolding asked_by
refused-asked f (Ok j) q zero e unopened malformed = let z : ◌≡◌ {A = ℕ} 0 1 = cc in absurd (omega arith)
refused-asked f (Err p) q zero e unopened malformed = malformed p refl refl cc
refused-asked f s q (suc n) e unopened malformed = unopened n refl cc

-- ── What was asked for is legal ──

-- of a sheet by the reader of what was seen
pub record Asks {S : Type 0} (p : Reader S) (f bytes : List ℕ) (at n k : ℕ) : Type 0 where
  pub opens : refusal f ≡ 0
  pub legal : Legal f at n bytes k
  pub tags : tags_at f at n ≡ user_tags f
  pub changes : List (ChangeOf S)
  pub size : ℕ
  pub exact : exactly (sheet_with p) bytes ≡ good changes size
  pub count : length changes ≡ k
  pub taken : ℕ
  pub read : times k (change_with p) (drop 1 bytes) ≡ good changes taken

pub asks : {S : Type 0} (p : Reader S) → LeadsEntry p → (f bytes : List ℕ) (a : Asked)
    → asked_by (refusal f) f (sheet_of (exactly (sheet_with p) bytes)) ≡ Ok a → Asks p f bytes a.at a.tags a.changes
asks p leads f bytes a e =
    let (o, w, x, y) = changes-asked f (sheet_of (exactly (sheet_with p) bytes)) a (refusal f) e in
    let (cs, m, g, c) = sheet-is-good (exactly (sheet_with p) bytes) a.changes w in
    let (there, few, tags, apart, size, read, end) = user-stands f o in
    let (most, differ, taken, rows) = changes-stand p leads bytes cs m g in
    rw (← x, ← y, ← c) (record {
      opens = o;
      legal =
          record {
            tags = few;
            few = most;
            behind = omega arith;
            names = tag_names (user_tags f);
            size = size;
            read = read;
            end = end;
            apart = apart;
            differ = differ;
          };
      tags = tags;
      changes = cs;
      size = m;
      exact = g;
      count = refl;
      taken = taken;
      read = rows;
    })

pub asked-legal : (most : ℕ) (f bytes : List ℕ) (r : Result Asked Refusal) (a : Asked) → r ≡ asked_of most f bytes → r ≡ Ok a
    → Legal f a.at a.tags bytes a.changes
unfolding asked_of sheet_up_to
asked-legal most f bytes r a e g = (asks (entry_up_to most) (up-to-leads most) f bytes a (sym e ∙ g)).legal

-- ── What look and commit begin with ──

pub record Stands (f bytes : List ℕ) (at n k : ℕ) : Type 0 where
  pub accepted : look_refusal f bytes ≡ 0
  pub tags : tags_at f at n ≡ user_tags f
  pub changes : changes_at bytes 1 k ≡ changes_of bytes
  pub count : length (changes_of bytes) ≡ k

pub stands : (f bytes : List ℕ) (r : Result Asked Refusal) (a : Asked) → r ≡ asked_of 1 f bytes → r ≡ Ok a → Stands f bytes a.at a.tags a.changes
unfolding asked_of sheet_up_to entry_up_to entry_part sheet changes_of value_or
stands f bytes r a e g =
    let w = asks entry_part (up-to-leads 1) f bytes a (sym e ∙ g) in
    let x = w.exact in
    record {
      accepted = sym (look-number f bytes) ∙ (look-accepted f bytes).1 (w.opens, rw x);
      tags = w.tags;
      changes = rw x (changes-are bytes 1 a.changes w.taken w.changes w.read);
      count = rw x w.count;
    }

-- opening has no 10
opening-place : (f bytes : List ℕ) (n : ℕ) → refusal f ≡ n → look_place n f bytes ≡ opening_place n f
unfolding refusal opening_lines front_lines without look_place
opening-place f bytes n e = rw (ne_eqb n 10 (λ z. lines-not (opening_lines f) 10 refl (λ o. omega arith) (e ∙ z)))

-- a refusal is look's
pub asked-refused : (f bytes : List ℕ) (r : Result Asked Refusal) (q : Refusal) → r ≡ asked_of 1 f bytes → r ≡ Err q
    → (n : ℕ) × (look_refusal f bytes ≡ suc n) × (q ≡ placed (suc n) (look_place (suc n) f bytes))
unfolding asked_of sheet_up_to entry_up_to entry_part sheet look_refusal look_lines look_place refusal
asked-refused f bytes r q e g =
    refused-asked f (sheet_of (exactly sheet bytes)) q (refusal f) (sym e ∙ g)
    (λ n o i. (n, lines-first (opening_lines f) _ n o, i ∙ ap (placed (suc n)) (sym (opening-place f bytes (suc n) o))))
    (λ p o w i.
    let (b, c) = sheet-is-bad (exactly sheet bytes) p w in
    (9, opening-pass f _ (opens-passes f o) ∙ line-holds 10 _ _ b, i ∙ ap (placed 10) (sym c)))
