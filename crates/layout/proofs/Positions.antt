-- Positions: every one lies in the lent bytes or is their length, but for a system table that starts behind the file's end; and a string that is
-- refused at a byte is so whatever follows that byte.
-- Assumes nothing.
use Prim.Native.Nat.{ℕ, zero, suc, ◌+◌, ◌≤◌, ◌<◌}
use native.Mathlib.Omega.{arith}
use mathlib.Core.Path.{◌≡◌, refl, ap, sym, ◌∙◌}
use mathlib.Core.Bool.{Bool, true, false, not, ◌&&◌, ◌||◌, cond}
use mathlib.Core.Logic.{◌⊎◌, inl, inr}
use mathlib.Core.List.{List, [], ◌∷◌, ◌++◌, append-nil}
use lib.ListN.{length, take, drop, length-take, length-drop}
use lib.Dec.{leb, ltb, eqb}
use borrow.Author.Tests.{leb-true, leb-false, ltb-true, ltb-false, eqb-true, ne_eqb}
use Rattle.number.specs.Number.{number_of}
use Rattle.number.proofs.Bytes.{both_true, and-true}
use Rattle.layout.specs.Recording.{header_length, system_place, most_sections, most_tags, largest_user_offset, file_mark, within, every, same, among, distinct, is_name_byte, is_tag_byte, legal_section_name, legal_tag_name, legal_tag_value, tag_names}
use Rattle.layout.specs.Reading.{Parsed, bad, good, Reader, onward, behind, give, ◌then◌, only, times, exactly, fault_at, placed, fault_of, taken, number, block, string, outside, string_fault, section_name, tag_name, tag_value, keeping, rows_fault, counted_fault, number_of_sections, number_of_tags, tag, table_fault, table}
use Rattle.layout.specs.Opening.{Line, first_of, index_offset, system_offset, user_offset, read_system, read_user, not_fstf, not_closed, front_lines, opening_lines, refusal, first_offset, first_offset_place, first_offset_wrong, step, offset_behind, far_system, sections_fault, system_fault, user_fault, opening_place}
use Rattle.layout.specs.Recorder.{configured, set_up_section, set_up_list, begin_place}
use Rattle.layout.specs.Repair.{repair_lines, repair_refusal}
use Rattle.layout.specs.Saving.{absent, holds, most_changes, entry_of, kind, entry_part, change_with, change_names, number_of_changes, sheet_fault, sheet_with, sheet, look_lines, look_refusal, look_place, commit_refusal, commit_place}
use Rattle.layout.specs.OldSheets.{saw, nobody_looked, old_seen_of, old_seen_part, old_sheet, old_sheet_place, convert_lines, convert_refusal}
use Rattle.layout.proofs.Lists.{or-false}
use Rattle.layout.proofs.Readers.{onward-good, cond-good, then-good, then-takes, number_is, number-good, block-is, block-good, placed-good, placed-takes}
use Rattle.layout.proofs.Orders.{without, line_other, lines-not}
use Rattle.layout.proofs.Saved.{commit-is}

-- ── Where a reader stops ──

-- at its fault, or behind what it read
unfoldable pub stop : {A : Type 0} → Parsed A → ℕ
stop (bad m) = m
stop (good a n) = n

-- wherever it stops, that is in the lent bytes or at their end
abbrev pub Within : {A : Type 0} → Reader A → Type 0
Within p = (s : List ℕ) → stop (p s) ≤ length s

pub bad-within : {A : Type 0} (p : Reader A) → Within p → (s : List ℕ) (m : ℕ) → p s ≡ bad m → m ≤ length s
unfolding stop
bad-within p h s m e = rw e at (h s)

pub fault-within : {A : Type 0} (p : Reader A) → Within p → (s : List ℕ) → fault_of (p s) ≤ length s
unfolding fault_of stop
fault-within {A} p h s = go (p s) (h s)
  where
    go : (x : Parsed A) → stop x ≤ length s → fault_of x ≤ length s
    go (bad m) l = l
    go (good a n) l = omega arith

taken-within : {A : Type 0} (p : Reader A) → Within p → (s : List ℕ) → taken (p s) ≤ length s
unfolding taken stop
taken-within {A} p h s = go (p s) (h s)
  where
    go : (x : Parsed A) → stop x ≤ length s → taken x ≤ length s
    go (bad m) l = omega arith
    go (good a n) l = l

-- ── How readers are put together ──

stop-onward : {A B : Type 0} (k : ℕ) (x : Parsed A) (next : A → ℕ → Parsed B) → stop x ≤ k → ((a : A) (n : ℕ) → n ≤ k → stop (next a n) ≤ k)
    → stop (onward x next) ≤ k
unfolding stop onward
stop-onward k (bad m) next h f = h
stop-onward k (good a n) next h f = f a n h

stop-behind : {A : Type 0} (s : List ℕ) (n : ℕ) (x : Parsed A) → n ≤ length s → stop x ≤ length (drop n s) → stop (behind n x) ≤ length s
unfolding stop behind
stop-behind s n (bad m) h l = omega (arith, length-drop n s)
stop-behind s n (good a m) h l = omega (arith, length-drop n s)

-- a value with its bytes where a test passes, and else a fault
tested : {A : Type 0} (k : ℕ) (b : Bool) (a : A) (n m : ℕ) → n ≤ k → m ≤ k → stop (cond b (good a n) (bad m)) ≤ k
unfolding stop
tested k true a n m h l = h
tested k false a n m h l = l

pub give-within : {A : Type 0} (a : A) → Within (give a)
unfolding give stop
give-within a s = omega arith

pub then-within : {A B : Type 0} (p : Reader A) (next : A → Reader B) → Within p → ((a : A) → Within (next a)) → Within (p then next)
unfolding ◌then◌
then-within p next h l s = stop-onward (length s) (p s) (λ a n. behind n (next a (drop n s))) (h s)
    (λ a n i. stop-behind s n (next a (drop n s)) i (l a (drop n s)))

pub only-within : {A : Type 0} (ok : A → Bool) (p : Reader A) → Within p → Within (only ok p)
unfolding only
only-within ok p h s = stop-onward (length s) (p s) (λ a n. cond (ok a) (good a n) (bad 0)) (h s)
    (λ a n i. tested (length s) (ok a) a n 0 i (omega arith))

pub times-within : {A : Type 0} (k : ℕ) (p : Reader A) → Within p → Within (times k p)
unfolding times stop
times-within zero p h s = omega arith
times-within (suc k) p h s =
    stop-onward (length s) (p s) (λ a n. behind n (onward (times k p (drop n s)) (λ rest m. good (a ∷ rest) m))) (h s)
    (λ a n i. stop-behind s n (onward (times k p (drop n s)) (λ rest m. good (a ∷ rest) m)) i
    (stop-onward (length (drop n s)) (times k p (drop n s)) (λ rest m. good (a ∷ rest) m) (times-within k p h (drop n s)) (λ rest m j. j)))

pub exactly-within : {A : Type 0} (p : Reader A) → Within p → Within (exactly p)
unfolding exactly
exactly-within p h s = stop-onward (length s) (p s) (λ a n. cond (eqb n (length s)) (good a n) (bad n)) (h s)
    (λ a n i. tested (length s) (eqb n (length s)) a n n i i)

pub cond-within : {A : Type 0} (b : Bool) (p q : Reader A) → Within p → Within q → Within (cond b p q)
cond-within true p q h l = h
cond-within false p q h l = l

pub placed-within : {A : Type 0} (at : List ℕ → ℕ) (p : Reader A) → ((s : List ℕ) → at s ≤ length s) → Within p → Within (placed at p)
unfolding placed fault_at stop
placed-within {A} at p w h s = go (p s) (h s)
  where
    go : (x : Parsed A) → stop x ≤ length s → stop (fault_at (at s) x) ≤ length s
    go (bad m) l = w s
    go (good a n) l = l

pub number-within : (w : ℕ) → Within (number w)
unfolding number stop
number-within w s = go (leb w (length s)) refl
  where
    go : (b : Bool) → leb w (length s) ≡ b → stop (cond b (good (number_of (take w s)) w) (bad 0)) ≤ length s
    go true e = leb-true w (length s) e
    go false e = omega arith

pub block_within : (n : ℕ) → Within (block n)
unfolding block stop
block_within n s = go (leb n (length s)) refl
  where
    go : (b : Bool) → leb n (length s) ≡ b → stop (cond b (good (take n s) n) (bad 0)) ≤ length s
    go true e = leb-true n (length s) e
    go false e = omega arith

pub keeping-within : {A : Type 0} (p : Reader A) (n : ℕ) → Within p → Within (keeping p n)
unfolding keeping
keeping-within p n h = then-within p (λ x. give n) h (λ a. give-within n)

-- ── Rows ──

at_most : (b : Bool) (n k : ℕ) → n ≤ k → cond b 0 n ≤ k
at_most true n k h = omega arith
at_most false n k h = h

module _ (name : Reader (List ℕ)) (rest : ℕ → Reader ℕ) (names : Within name) (rests : (b : ℕ) → Within (rest b)) where
  pub rows-within : (k before : ℕ) (ahead : List (List ℕ)) (s : List ℕ) → rows_fault k name rest before ahead s ≤ length s
  unfolding rows_fault stop
  rows-within zero before ahead s = omega arith
  rows-within (suc k) before ahead s = named (λ next names t. rows-within k next names t) (name s) refl
    where
      Behind : Type 0
      Behind = (next : ℕ) (names : List (List ℕ)) (t : List ℕ) → rows_fault k name rest next names t ≤ length t

      behind-it : Behind → (n : List ℕ) (m : ℕ) (x : Parsed ℕ) → name s ≡ good n m → rest before (drop m s) ≡ x
          → rows_fault (suc k) name rest before ahead s ≤ length s
      behind-it w n m (bad j) e f =
          let l : m ≤ length s = rw e at (names s) in
          let i : j ≤ length (drop m s) = rw f at (rests before (drop m s)) in
          rw (e, rows_fault, f) (at_most (among n ahead) (m + j) (length s) (omega (arith, length-drop m s)))
      behind-it w n m (good next j) e f =
          let l : m ≤ length s = rw e at (names s) in
          let i : j ≤ length (drop m s) = rw f at (rests before (drop m s)) in
          let r : rows_fault k name rest next (ahead ++ (n ∷ [])) (drop j (drop m s)) ≤ length (drop j (drop m s)) =
          w next (ahead ++ (n ∷ [])) (drop j (drop m s)) in
          rw (e, rows_fault, f) (at_most (among n ahead) (m + (j + rows_fault k name rest next (ahead ++ (n ∷ [])) (drop j (drop m s)))) (length s)
          (omega (arith, length-drop m s, length-drop j (drop m s))))

      named : Behind → (x : Parsed (List ℕ)) → name s ≡ x → rows_fault (suc k) name rest before ahead s ≤ length s
      named w (bad m) e = rw (e, rows_fault) (rw e at (names s))
      named w (good n m) e = behind-it w n m (rest before (drop m s)) e refl

  pub counted-within : (count : Reader ℕ) (before : ℕ) → Within count → (s : List ℕ) → counted_fault count name rest before s ≤ length s
  unfolding counted_fault stop
  counted-within count before h s = go (count s) refl
    where
      go : (x : Parsed ℕ) → count s ≡ x → counted_fault count name rest before s ≤ length s
      go (bad m) e = rw (e, counted_fault) (rw e at (h s))
      go (good k n) e =
          let l : n ≤ length s = rw e at (h s) in
          let r : rows_fault k name rest before [] (drop n s) ≤ length (drop n s) = rows-within k before [] (drop n s) in
          rw (e, counted_fault) (omega (arith, length-drop n s))

-- ── The readers of the layout ──

pub string-within : Within string
unfolding string
string-within = placed-within length (number 1 then block) (λ s. omega arith) (then-within (number 1) block (number-within 1) block_within)

outside-within : (class : ℕ → Bool) (s : List ℕ) → outside class s ≤ length s
unfolding outside
outside-within class [] = omega arith
outside-within class (b ∷ s) = go (class b) (outside-within class s)
  where
    go : (c : Bool) → outside class s ≤ length s → cond c (suc (outside class s)) 0 ≤ suc (length s)
    go true h = omega arith
    go false h = omega arith

string-fault-within : (least : ℕ) (class : ℕ → Bool) (s : List ℕ) → string_fault least class s ≤ length s
unfolding string_fault
string-fault-within least class [] = omega arith
string-fault-within least class (n ∷ s) =
    at_most (ltb n least) (suc (outside class (take n s))) (suc (length s)) (omega (arith, outside-within class (take n s), length-take n s))

text-within : (least : ℕ) (class : ℕ → Bool) (legal : List ℕ → Bool) → Within (placed (string_fault least class) (only legal string))
text-within least class legal = placed-within (string_fault least class) (only legal string) (string-fault-within least class)
    (only-within legal string string-within)

pub section-name-within : Within section_name
unfolding section_name
section-name-within = text-within 1 is_name_byte legal_section_name

pub tag-name-within : Within tag_name
unfolding tag_name
tag-name-within = text-within 1 is_tag_byte legal_tag_name

pub tag-value-within : Within tag_value
unfolding tag_value
tag-value-within = text-within 0 is_tag_byte legal_tag_value

sections-number-within : Within number_of_sections
unfolding number_of_sections
sections-number-within = only-within (within 1 most_sections) (number 1) (number-within 1)

tags-number-within : Within number_of_tags
unfolding number_of_tags
tags-number-within = only-within (within 0 most_tags) (number 4) (number-within 4)

tag-within : Within tag
unfolding tag
tag-within =
    then-within tag_name (λ n. tag_value then λ v. give (record { name = n; value = v })) tag-name-within
    (λ n. then-within tag_value (λ v. give (record { name = n; value = v })) tag-value-within (λ v. give-within (record { name = n; value = v })))

pub table-within : Within table
unfolding table table_fault
table-within =
    placed-within table_fault (only (λ ts. distinct (tag_names ts)) (number_of_tags then λ n. times n tag))
    (counted-within tag_name (keeping tag_value) tag-name-within (λ b. keeping-within tag_value b tag-value-within) number_of_tags 0 tags-number-within)
    (only-within (λ ts. distinct (tag_names ts)) (number_of_tags then λ n. times n tag)
    (then-within number_of_tags (λ n. times n tag) tags-number-within (λ n. times-within n tag tag-within)))

-- a table alone: the browser's 7, and begin's 4
pub whole-table-within : Within (exactly table)
whole-table-within = exactly-within table table-within

kind-within : (most : ℕ) → Within (kind most)
unfolding kind
kind-within most = only-within (within 0 most) (number 1) (number-within 1)

entry-within : (k : ℕ) → Within (entry_of k)
unfolding entry_of
entry-within k =
    cond-within (eqb k 1) (tag_value then λ v. give (holds v)) (give absent)
    (then-within tag_value (λ v. give (holds v)) tag-value-within (λ v. give-within (holds v))) (give-within absent)

entry-part-within : Within entry_part
unfolding entry_part
entry-part-within = then-within (kind 1) entry_of (kind-within 1) entry-within

change-within : {S : Type 0} (seen : Reader S) → Within seen → Within (change_with seen)
unfolding change_with
change-within seen w =
    then-within tag_name (λ n. seen then λ s. entry_part then λ e. give (record { name = n; seen = s; new = e })) tag-name-within
    (λ n. then-within seen (λ s. entry_part then λ e. give (record { name = n; seen = s; new = e })) w
    (λ s. then-within entry_part (λ e. give (record { name = n; seen = s; new = e })) entry-part-within
    (λ e. give-within (record { name = n; seen = s; new = e }))))

changes-number-within : Within number_of_changes
unfolding number_of_changes
changes-number-within = only-within (within 0 most_changes) (number 1) (number-within 1)

sheet-with-within : {S : Type 0} (seen : Reader S) → Within seen → Within (sheet_with seen)
unfolding sheet_with sheet_fault
sheet-with-within seen w =
    placed-within (sheet_fault seen) (only (λ cs. distinct (change_names cs)) (number_of_changes then λ n. times n (change_with seen)))
    (counted-within tag_name (keeping (seen then λ s. entry_part)) tag-name-within
    (λ b. keeping-within (seen then λ s. entry_part) b (then-within seen (λ s. entry_part) w (λ s. entry-part-within)))
    number_of_changes 0 changes-number-within)
    (only-within (λ cs. distinct (change_names cs)) (number_of_changes then λ n. times n (change_with seen))
    (then-within number_of_changes (λ n. times n (change_with seen)) changes-number-within (λ n. times-within n (change_with seen) (change-within seen w))))

pub whole-sheet-within : Within (exactly sheet)
unfolding sheet
whole-sheet-within = exactly-within sheet (sheet-with-within entry_part entry-part-within)

-- a sheet from before, likewise: the converter's 10
old-seen-within : (k : ℕ) → Within (old_seen_of k)
unfolding old_seen_of
old-seen-within k =
    cond-within (eqb k 2) (give nobody_looked) (entry_of k then λ e. give (saw e)) (give-within nobody_looked)
    (then-within (entry_of k) (λ e. give (saw e)) (entry-within k) (λ e. give-within (saw e)))

pub whole-old-sheet-within : Within (exactly old_sheet)
unfolding old_sheet old_seen_part
whole-old-sheet-within =
    exactly-within old_sheet (sheet-with-within old_seen_part (then-within (kind 2) old_seen_of (kind-within 2) old-seen-within))

configured-within : Within configured
unfolding configured
configured-within = then-within (number 2) block (number-within 2) block_within

set-up-section-within : Within set_up_section
unfolding set_up_section
set-up-section-within =
    then-within string (λ n. configured then λ c. give (record { name = n; configuration = c })) string-within
    (λ n. then-within configured (λ c. give (record { name = n; configuration = c })) configured-within
    (λ c. give-within (record { name = n; configuration = c })))

pub whole-list-within : Within (exactly set_up_list)
unfolding set_up_list
whole-list-within =
    exactly-within (number 1 then λ k. times k set_up_section)
    (then-within (number 1) (λ k. times k set_up_section) (number-within 1) (λ k. times-within k set_up_section set-up-section-within))

-- ── To begin, to look and to commit ──

-- 10 and 3 count in the set-up list, 4 in the table
pub begin-list-within : (set_up system : List ℕ) → begin_place 10 set_up system ≤ length set_up
unfolding begin_place
begin-list-within set_up system = fault-within (exactly set_up_list) whole-list-within set_up

pub begin-sections-within : (set_up system : List ℕ) → begin_place 3 set_up system ≤ length set_up
unfolding begin_place
begin-sections-within set_up system = counted-within section_name (keeping configured) section-name-within
    (λ b. keeping-within configured b configured-within) number_of_sections 0 sections-number-within set_up

pub begin-table-within : (set_up system : List ℕ) → begin_place 4 set_up system ≤ length system
unfolding begin_place
begin-table-within set_up system = fault-within (exactly table) whole-table-within system

-- 10 counts in the sheet
pub look-sheet-within : (f bytes : List ℕ) → look_place 10 f bytes ≤ length bytes
unfolding look_place
look-sheet-within f bytes = fault-within (exactly sheet) whole-sheet-within bytes

pub commit-sheet-within : (f bytes : List ℕ) → commit_place 10 f bytes ≤ length bytes
unfolding commit_place
commit-sheet-within f bytes = look-sheet-within f bytes

pub convert-sheet-within : (f bytes : List ℕ) → old_sheet_place 10 f bytes ≤ length bytes
unfolding old_sheet_place
convert-sheet-within f bytes = fault-within (exactly old_sheet) whole-old-sheet-within bytes

-- ── In a file ──

offset-within : (at : ℕ) → Within (offset_behind at)
unfolding offset_behind
offset-within at = only-within (step at) (number 8) (number-within 8)

-- 3
pub sections-within : (f : List ℕ) → header_length < length f → sections_fault f ≤ length f
unfolding sections_fault first_offset_place
sections-within f h = go (first_offset_wrong f)
  where
    go : (b : Bool) → cond b (first_offset_place f)
        (header_length + counted_fault number_of_sections section_name offset_behind (first_offset f) (drop header_length f)) ≤ length f
    go true = omega (arith, taken-within section_name section-name-within (drop (header_length + 1) f), length-drop (header_length + 1) f)
    go false = omega (
      arith,
      counted-within section_name offset_behind section-name-within offset-within number_of_sections (first_offset f)
          sections-number-within (drop header_length f),
      length-drop header_length f,
    )

-- 4: a table that starts behind the file's end is refused where it should start
pub system-within : (f : List ℕ) → header_length < length f
    → (system_fault f ≤ length f) ⊎ ((system_fault f ≡ system_offset f) × (length f < system_offset f))
unfolding system_fault read_system
system-within f h = go (far_system f) (leb (system_offset f) (length f)) refl
  where
    l : fault_of (table (drop (system_offset f) f)) ≤ length (drop (system_offset f) f)
    l = fault-within table table-within (drop (system_offset f) f)

    go : (b c : Bool) → leb (system_offset f) (length f) ≡ c
        → (cond b system_place (system_offset f + fault_of (table (drop (system_offset f) f))) ≤ length f)
        ⊎ ((cond b system_place (system_offset f + fault_of (table (drop (system_offset f) f))) ≡ system_offset f) × (length f < system_offset f))
    go true c e = inl (omega arith)
    go false true e = inl (omega (arith, l, length-drop (system_offset f) f, leb-true (system_offset f) (length f) e))
    go false false e =
        let k : length f < system_offset f = leb-false (system_offset f) (length f) e in
        inr (omega (arith, l, length-drop (system_offset f) f), k)

-- 7
pub user-within : (f : List ℕ) → user_offset f ≤ length f → user_fault f ≤ length f
unfolding user_fault read_user
user-within f h = omega (arith, fault-within (exactly table) whole-table-within (drop (user_offset f) f), length-drop (user_offset f) f)

-- a refusal's place in a file
abbrev pub InFile : (refused : ℕ) → List ℕ → Type 0
InFile n f = (opening_place n f ≤ length f) ⊎ ((n ≡ 4) × (opening_place n f ≡ system_offset f) × (length f < system_offset f))

-- what the lines ahead say
ahead : (f : List ℕ) (ls : List Line) (n : ℕ) → (1 ≡ n → ⊥) → first_of (front_lines f ++ ls) ≡ n → header_length < length f
unfolding front_lines not_fstf
ahead f ls n d e =
    let a = (line_other 1 (not_fstf f) _ n d e).0 in
    let b = (or-false (ltb (length f) (header_length + 1)) (not (same (take 4 f) file_mark)) a).0 in
    omega (arith, ltb-false (length f) (header_length + 1) b)

-- the place that opening's order, with whatever lines behind it, gives for a number
module _ (n : ℕ) (f : List ℕ) (sections : n ≡ 3 → header_length < length f) (system : n ≡ 4 → header_length < length f)
    (user : n ≡ 7 → user_offset f ≤ length f) where
  in-file : InFile n f
  unfolding opening_place
  in-file = go (eqb n 3) (eqb n 4) (eqb n 7) refl refl refl
    where
      lift : (n ≡ 4) → (system_fault f ≤ length f) ⊎ ((system_fault f ≡ system_offset f) × (length f < system_offset f))
          → (system_fault f ≤ length f) ⊎ ((n ≡ 4) × (system_fault f ≡ system_offset f) × (length f < system_offset f))
      lift e (inl l) = inl l
      lift e (inr (l, k)) = inr (e, l, k)

      go : (x y z : Bool) → eqb n 3 ≡ x → eqb n 4 ≡ y → eqb n 7 ≡ z
          → (cond x (sections_fault f) (cond y (system_fault f) (cond z (user_fault f) 0)) ≤ length f)
          ⊎ ((n ≡ 4) × (cond x (sections_fault f) (cond y (system_fault f) (cond z (user_fault f) 0)) ≡ system_offset f) × (length f < system_offset f))
      go true y z e g h = inl (sections-within f (sections (eqb-true n 3 e)))
      go false true z e g h = lift (eqb-true n 4 g) (system-within f (system (eqb-true n 4 g)))
      go false false true e g h = inl (user-within f (user (eqb-true n 7 h)))
      go false false false e g h = inl (omega arith)

-- a user table is tested where its offset is not past the file's length
user-ahead : (f : List ℕ) (ls : List Line) → first_of (opening_lines f ++ ls) ≡ 7 → user_offset f ≤ length f
unfolding opening_lines front_lines not_closed
user-ahead f ls e =
    let a = (line_other 4 _ _ 7 (λ z. omega arith) (line_other 3 _ _ 7 (λ z. omega arith) (line_other 2 _ _ 7 (λ z. omega arith)
    (line_other 1 _ _ 7 (λ z. omega arith) e).1).1).1).1 in
    let b = (or-false (eqb (index_offset f) 0 || eqb (user_offset f) 0 || ltb (length f) (index_offset f) || ltb (length f) (user_offset f))
    (ltb largest_user_offset (user_offset f)) (line_other 5 (not_closed f) _ 7 (λ z. omega arith) a).0).0 in
    let c = (or-false (eqb (index_offset f) 0 || eqb (user_offset f) 0 || ltb (length f) (index_offset f)) (ltb (length f) (user_offset f)) b).1 in
    ltb-false (length f) (user_offset f) c

-- every position lies in the file or is its length, but for a system table that starts behind the file's end: in opening,
opened-within : (f : List ℕ) (ls : List Line) (n : ℕ) → first_of (opening_lines f ++ ls) ≡ n → InFile n f
unfolding opening_lines front_lines
opened-within f ls n e =
    in-file n f (λ h. ahead f _ 3 (λ z. omega arith) (e ∙ h)) (λ h. ahead f _ 4 (λ z. omega arith) (e ∙ h)) (λ h. user-ahead f ls (e ∙ h))

pub opening-within : (f : List ℕ) → InFile (refusal f) f
unfolding refusal
opening-within f = opened-within f [] (first_of (opening_lines f)) (ap first_of (append-nil (opening_lines f)))

-- in repair,
pub repair-within : (f : List ℕ) (room : ℕ) → InFile (repair_refusal f room) f
unfolding repair_refusal repair_lines front_lines without
repair-within f room =
    in-file (repair_refusal f room) f (λ h. ahead f _ 3 (λ z. omega arith) h) (λ h. ahead f _ 4 (λ z. omega arith) h)
    (λ h. absurd (lines-not (repair_lines f room) 7 refl (λ z. omega arith) h))

-- in look, where it is not the sheet that is refused,
pub look-within : (f bytes : List ℕ) (n : ℕ) → look_refusal f bytes ≡ n → (n ≡ 10 → ⊥) → (look_place n f bytes ≡ opening_place n f) × InFile n f
unfolding look_refusal look_lines look_place
look-within f bytes n e h = (rw (ne_eqb n 10 h), opened-within f _ n e)

-- and in a commit, where it is neither the sheet nor a conflict,
pub commit-within : (f bytes : List ℕ) (room n : ℕ) → commit_refusal f bytes room ≡ n → (n ≡ 10 → ⊥) → (n ≡ 11 → ⊥)
    → (commit_place n f bytes ≡ opening_place n f) × InFile n f
unfolding commit_place look_place
commit-within f bytes room n e h k = (rw (ne_eqb n 11 k, ne_eqb n 10 h), opened-within f _ n (sym (commit-is f bytes room) ∙ e))

-- and in the converter, where it is not the sheet.
pub convert-within : (f bytes : List ℕ) (room n : ℕ) → convert_refusal f bytes room ≡ n → (n ≡ 10 → ⊥) → (old_sheet_place n f bytes ≡ opening_place n f) × InFile n f
unfolding old_sheet_place convert_refusal convert_lines
convert-within f bytes room n e h = (rw (ne_eqb n 10 h), opened-within f _ n e)

-- ── A string that is refused at a byte is so whatever follows that byte ──

placed-bad : {A : Type 0} (at : List ℕ → ℕ) (p : Reader A) (s : List ℕ) (m : ℕ) → placed at p s ≡ bad m → m ≡ at s
unfolding placed fault_at
placed-bad {A} at p s m e = go (p s) e
  where
    go : (x : Parsed A) → fault_at (at s) x ≡ bad m → m ≡ at s
    go (bad i) h = cc
    go (good a n) h = let z : ◌≡◌ {A = ℕ} 0 1 = cc in absurd (omega arith)

module _ (least : ℕ) (class : ℕ → Bool) where
  -- names and values, over the least length and the class of their bytes
  abbrev legal_text : List ℕ → Bool
  legal_text v = within least 255 (length v) && every class v

  abbrev text : Reader (List ℕ)
  text = placed (string_fault least class) (only legal_text string)

  -- a text that is there and legal is read,
  text-takes : (n : ℕ) (s : List ℕ) → n ≤ length s → legal_text (take n s) ≡ true → text (n ∷ s) ≡ good (take n s) (1 + n)
  unfolding only onward string number_of
  text-takes n s h e =
      let a : number 1 (n ∷ s) ≡ good n 1 = number_is 1 (n ∷ s) (omega arith) ∙ ap (λ (k : ℕ). good k 1) (omega arith) in
      let b : string (n ∷ s) ≡ good (take n s) (1 + n) =
      placed-takes length (number 1 then block) (n ∷ s) (take n s) (1 + n)
      (then-takes (number 1) block (n ∷ s) n (take n s) 1 n a (block-is n s h)) in
      placed-takes (string_fault least class) (only legal_text string) (n ∷ s) (take n s) (1 + n) (rw (b, e))

  -- and what is read is one
  text-gives : (n : ℕ) (s v : List ℕ) (k : ℕ) → text (n ∷ s) ≡ good v k → (n ≤ length s) × (legal_text (take n s) ≡ true)
  unfolding only string number_of
  text-gives n s v k e =
      let (x, i, p, q) = onward-good (string (n ∷ s)) (λ a m. cond (legal_text a) (good a m) (bad 0)) v k
      (placed-good (string_fault least class) (only legal_text string) (n ∷ s) v k e) in
      let (a, j, l, f, g, h) = then-good (number 1) block (n ∷ s) x i (placed-good length (number 1 then block) (n ∷ s) x i p) in
      let (c, d, w) = number-good 1 (n ∷ s) a j f in
      inner x a j l (cond-good 0 (legal_text x) x v i k q).0 (omega arith) (sym w) (block-good a (drop j (n ∷ s)) x l g)
    where
      inner : (x : List ℕ) (a j l : ℕ) → legal_text x ≡ true → n ≡ a → j ≡ 1
          → ((a ≤ length (drop j (n ∷ s))) × (take a (drop j (n ∷ s)) ≡ x) × (a ≡ l)) → (n ≤ length s) × (legal_text (take n s) ≡ true)
      inner x a j l t u w (c, d, g) =
          let k : a ≤ length s = rw w at c in
          let y : take a s ≡ x = rw w at d in
          (rw u k, rw (u, y) t)

  outside-all : (s : List ℕ) → every class s ≡ true → outside class s ≡ length s
  unfolding outside every
  outside-all [] e = refl
  outside-all (b ∷ s) e =
      let c = both_true (class b) (every class s) e in
      rw c.0 (ap suc (outside-all s c.1))

  -- bytes that agree up to and with the first that is not of the class
  outside-alike : (n : ℕ) (s t : List ℕ) → outside class (take n s) < length s
      → take (suc (outside class (take n s))) t ≡ take (suc (outside class (take n s))) s
      → (outside class (take n t) ≡ outside class (take n s)) × (every class (take n t) ≡ every class (take n s))
  unfolding outside every
  outside-alike zero s t h e = (refl, refl)
  outside-alike (suc n) [] t h e = absurd (omega arith)
  outside-alike (suc n) (b ∷ s) [] h e = let z : ◌≡◌ {A = ℕ} 0 1 = cc in absurd (omega arith)
  outside-alike (suc n) (b ∷ s) (c ∷ t) h e = go (λ l q. outside-alike n s t l q) (class b) refl h e
    where
      go : (outside class (take n s) < length s → take (suc (outside class (take n s))) t ≡ take (suc (outside class (take n s))) s
          → (outside class (take n t) ≡ outside class (take n s)) × (every class (take n t) ≡ every class (take n s)))
          → (x : Bool) → class b ≡ x → cond x (suc (outside class (take n s))) 0 < suc (length s)
          → take (suc (cond x (suc (outside class (take n s))) 0)) (c ∷ t) ≡ take (suc (cond x (suc (outside class (take n s))) 0)) (b ∷ s)
          → (outside class (c ∷ take n t) ≡ outside class (b ∷ take n s)) × (every class (c ∷ take n t) ≡ every class (b ∷ take n s))
      go i true f l q =
          let u : c ≡ b = cc in
          let w : take (suc (outside class (take n s))) t ≡ take (suc (outside class (take n s))) s = cc in
          let y = i (omega arith) w in
          rw (u, f) (ap suc y.0, y.1)
      go i false f l q =
          let u : c ≡ b = cc in
          rw (u, f) (refl, refl)

  pub text-alike : (s t : List ℕ) (m : ℕ) → text s ≡ bad m → m < length s → take (suc m) t ≡ take (suc m) s → text t ≡ bad m
  unfolding string_fault
  text-alike [] t m e h q = absurd (omega arith)
  text-alike (n ∷ s) [] m e h q = let z : ◌≡◌ {A = ℕ} 0 1 = cc in absurd (omega arith)
  text-alike (n ∷ s) (b ∷ t) m e h q = rw u (go (text (n ∷ t)) refl)
    where
      u : b ≡ n
      u = cc

      w : take m t ≡ take m s
      w = cc

      place : m ≡ string_fault least class (n ∷ s)
      place = placed-bad (string_fault least class) (only legal_text string) (n ∷ s) m e

      -- the place in the other is the same, and it is no text either
      alike : (c : Bool) → ltb n least ≡ c → (string_fault least class (n ∷ t) ≡ m) × ((v : List ℕ) (k : ℕ) → text (n ∷ t) ≡ good v k → ⊥)
      alike true f = (
        rw f (sym (place ∙ rw f)),
        λ v k g.
            let (l, x) = text-gives n t v k g in
            let a = (both_true (leb least (length (take n t))) (leb (length (take n t)) 255) (both_true (within least 255 (length (take n t)))
            (every class (take n t)) x).0).0 in
            omega (arith, leb-true least (length (take n t)) a, length-take n t, ltb-true n least f),
      )
      alike false f =
          let p : m ≡ suc (outside class (take n s)) = place ∙ rw f in
          let y = outside-alike n s t (omega arith) (rw p at w) in (
            rw f (ap suc y.0 ∙ sym p),
            λ v k g.
                let (l, x) = text-gives n t v k g in
                let a = both_true (within least 255 (length (take n t))) (every class (take n t)) x in
                let b : every class (take n s) ≡ true = sym y.1 ∙ a.1 in
                let i : n ≤ length s = omega (arith, outside-all (take n s) b, length-take n s) in
                let j : length (take n t) ≡ length (take n s) = omega (arith, length-take n s, length-take n t) in
                let d : legal_text (take n s) ≡ true = and-true (within least 255 (length (take n s))) (every class (take n s)) (rw j at a.0) b in
                let r : text (n ∷ s) ≡ good (take n s) (1 + n) = text-takes n s i d in
                let z : ◌≡◌ {A = ℕ} 0 1 = cc in
                omega arith,
          )

      go : (x : Parsed (List ℕ)) → text (n ∷ t) ≡ x → text (n ∷ t) ≡ bad m
      go (bad j) f = f ∙ ap bad (placed-bad (string_fault least class) (only legal_text string) (n ∷ t) j f ∙ (alike (ltb n least) refl).0)
      go (good v k) f = absurd ((alike (ltb n least) refl).1 v k f)

pub section-name-alike : (s t : List ℕ) (m : ℕ) → section_name s ≡ bad m → m < length s → take (suc m) t ≡ take (suc m) s → section_name t ≡ bad m
unfolding section_name legal_section_name
section-name-alike = text-alike 1 is_name_byte

pub tag-name-alike : (s t : List ℕ) (m : ℕ) → tag_name s ≡ bad m → m < length s → take (suc m) t ≡ take (suc m) s → tag_name t ≡ bad m
unfolding tag_name legal_tag_name
tag-name-alike = text-alike 1 is_tag_byte

pub tag-value-alike : (s t : List ℕ) (m : ℕ) → tag_value s ≡ bad m → m < length s → take (suc m) t ≡ take (suc m) s → tag_value t ≡ bad m
unfolding tag_value legal_tag_value
tag-value-alike = text-alike 0 is_tag_byte
