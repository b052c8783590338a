-- The converter of old sheets: committing what it writes answers what committing the old sheet answered.
-- Assumes nothing.
use Prim.Native.Nat.{ℕ, zero, suc, ◌+◌, ◌≤◌}
use native.Mathlib.Omega.{arith}
use mathlib.Core.Path.{◌≡◌, refl, ap, sym, ◌∙◌}
use mathlib.Core.Bool.{Bool, true, false, cond}
use mathlib.Core.Logic.{◌↔◌}
use mathlib.Core.List.{List, [], ◌∷◌, ◌++◌, map}
use lib.ListN.{length}
use lib.Dec.{ltb, leb, eqb}
use lib.Pow.{are_bytes}
use borrow.Author.Tests.{ltb-false, le-ltb, leb-true, ne_eqb}
use Rattle.number.proofs.Bytes.{both_true}
use Rattle.layout.specs.Recording.{Tag, every, distinct, legal_tag, legal_table, tag_names, table_bytes, most_tags}
use Rattle.layout.specs.Reading.{Parsed, bad, good, exactly, is_bad, fault_of}
use Rattle.layout.specs.Opening.{line, first_of, front_lines, opening_lines, opening_place, refusal}
use Rattle.layout.specs.Recorder.{no_room}
use Rattle.layout.specs.Saving.{Change, most_changes, change_names, sheet, changes_of, entry_part_bytes, sheet_bytes, conflicts, some, lowest, applied, too_many, user_tags, bad_sheet, look_place, new_table, commit_place, Commit, commit_answer, commit}
use Rattle.layout.specs.OldSheets.{OldSeen, saw, nobody_looked, OldChange, old_sheet, old_changes_of, bad_old_sheet, old_conflicts, old_table, old_commit_lines, old_commit_refusal, old_sheet_place, old_commit_place, old_commit, filled_seen, filled_in, converted, convert_lines, convert_refusal, convert_answer, convert}
use Rattle.layout.proofs.Lines.{line-pass, line-holds, lines-first, opening-pass, opens-passes}
use Rattle.layout.proofs.Orders.{without, no_lines, line_other, line-own, lines_other, lines-not}
use Rattle.layout.proofs.Exact.{all_three}
use Rattle.layout.proofs.Applied.{legal_entry}
use Rattle.layout.proofs.SheetBytes.{legal_row, legal_sheet_with, legal_sheet, sheet-read, sheet-given}
use Rattle.layout.proofs.OldSheetBytes.{old_seen_bytes, legal_old_seen, legal_old_sheet, old_sheet_bytes, old-sheet-read, old-sheet-given}
use Rattle.layout.proofs.Filled.{seeing, seeing-legal, seeing-bytes, filled-some, filled-lowest, filled-applied, filled-legal, sheet-most, filled_more}
use Rattle.layout.proofs.Saved.{refused-is, place_is, sheet_lines, commit-is, user-stands}
use Rattle.layout.proofs.Refusals.{convert_number, convert-place}

-- ── The converter's order ──

-- its lines past those of opening
convert-order : (f bytes : List ℕ) (room k : ℕ)
    → without k (opening_lines f) ≡ true
    → (convert f bytes room).refused ≡ k
    → (refusal f ≡ 0)
    × (first_of (line 10 (bad_old_sheet bytes) ∷ line 9 (no_room room (length (converted f bytes))) ∷ []) ≡ k)
unfolding convert_refusal convert_lines refusal
convert-order f bytes room k w e = lines_other (opening_lines f) _ k w (sym (convert_number f bytes room) ∙ e)

convert-opened : (f bytes : List ℕ) (room : ℕ)
    → refusal f ≡ 0
    → (convert f bytes room).refused ≡ first_of (line 10 (bad_old_sheet bytes) ∷ line 9 (no_room room (length (converted f bytes))) ∷ [])
unfolding convert_refusal convert_lines
convert-opened f bytes room o = convert_number f bytes room ∙ opening-pass f _ (opens-passes f o)

-- The converter accepts exactly where the file opens, the old sheet was well formed and there is room,
pub convert-accepted : (f bytes : List ℕ) (room : ℕ)
    → ((convert f bytes room).refused ≡ 0)
    ↔ ((refusal f ≡ 0) × (bad_old_sheet bytes ≡ false) × (length (converted f bytes) ≤ room))
unfolding opening_lines front_lines without
convert-accepted f bytes room = (
  λ a.
      let o = convert-order f bytes room 0 refl a in
      let p = line_other 10 _ _ 0 (omega arith) o.1 in
      let q = line_other 9 _ _ 0 (omega arith) p.1 in
      (o.0, p.0, ltb-false _ _ q.0),
  λ c.
      convert-opened f bytes room c.0
      ∙ line-pass 10 (bad_old_sheet bytes) _ c.1
      ∙ line-pass 9 (ltb room (length (converted f bytes))) _ (le-ltb _ _ c.2)
      ∙ no_lines,
)

-- and then hands out the old sheet, filled in from the file.
pub convert-hands : (f bytes : List ℕ) (room : ℕ) → (convert f bytes room).refused ≡ 0 → (convert f bytes room).sheet ≡ converted f bytes
unfolding convert convert_answer
convert-hands f bytes room a = go (convert_refusal f bytes room) _ _ a
  where
    go : (m place : ℕ) (s : List ℕ) → (convert_answer m place s).refused ≡ 0 → (convert_answer m place s).sheet ≡ s
    go zero place s e = refl
    go (suc m) place s e = absurd (omega arith)

-- ── What the old commit answered first ──

old-number : (f bytes : List ℕ) (room : ℕ) → (old_commit f bytes room).refused ≡ old_commit_refusal f bytes room
unfolding old_commit
old-number f bytes room = refused-is _ _ _

old-place : (f bytes : List ℕ) (room n : ℕ) → (old_commit f bytes room).refused ≡ suc n → (old_commit f bytes room).place ≡ old_commit_place (suc n) f bytes
unfolding old_commit
old-place f bytes room n e =
    place_is n (old_commit_refusal f bytes room) _ _ e
    ∙ ap (λ (m : ℕ). old_commit_place m f bytes) (sym (old-number f bytes room) ∙ e)

-- Where the file does not open, the converter answers opening's number, and so did the old commit,
pub convert-unopened : (f bytes : List ℕ) (room room' n : ℕ)
    → refusal f ≡ suc n
    → ((convert f bytes room).refused ≡ suc n)
    × ((old_commit f bytes room').refused ≡ suc n)
unfolding convert_refusal convert_lines old_commit_refusal old_commit_lines refusal
convert-unopened f bytes room room' n e =
    (convert_number f bytes room ∙ lines-first (opening_lines f) _ n e, old-number f bytes room' ∙ lines-first (opening_lines f) _ n e)

-- at opening's place;
pub convert-unopened-at : (f bytes : List ℕ) (room room' n : ℕ)
    → refusal f ≡ suc n
    → ((convert f bytes room).place ≡ opening_place (suc n) f)
    × ((old_commit f bytes room').place ≡ opening_place (suc n) f)
unfolding refusal opening_lines front_lines without old_commit_place old_sheet_place
convert-unopened-at f bytes room room' n e =
    let u = convert-unopened f bytes room room' n e in
    let ten = ne_eqb (suc n) 10 (λ z. lines-not (opening_lines f) 10 refl (λ y. omega arith) (e ∙ z)) in
    let eleven = ne_eqb (suc n) 11 (λ z. lines-not (opening_lines f) 11 refl (λ y. omega arith) (e ∙ z)) in
    (convert-place f bytes room n u.0 ∙ rw ten, old-place f bytes room' n u.1 ∙ rw (eleven, ten))

-- it is refused 10 where the file opens and the old sheet was malformed, and so was the old commit
convert-ten : (f bytes : List ℕ) (room : ℕ) → ((convert f bytes room).refused ≡ 10) ↔ ((refusal f ≡ 0) × (bad_old_sheet bytes ≡ true))
unfolding opening_lines front_lines without
convert-ten f bytes room = (
  λ a. let o = convert-order f bytes room 10 refl a in (o.0, line-own 10 _ _ (omega arith) refl o.1),
  λ c. convert-opened f bytes room c.0 ∙ line-holds 10 (bad_old_sheet bytes) _ c.1,
)

old-ten : (f bytes : List ℕ) (room : ℕ) → ((old_commit f bytes room).refused ≡ 10) ↔ ((refusal f ≡ 0) × (bad_old_sheet bytes ≡ true))
unfolding old_commit_refusal old_commit_lines refusal opening_lines front_lines without
old-ten f bytes room = (
  λ a.
      let o = lines_other (opening_lines f) _ 10 refl (sym (old-number f bytes room) ∙ a) in
      (o.0, line-own 10 _ _ (omega arith) refl o.1),
  λ c. old-number f bytes room ∙ opening-pass f _ (opens-passes f c.0) ∙ line-holds 10 (bad_old_sheet bytes) _ c.1,
)

-- it is refused 10 exactly where the old commit was,
pub convert-malformed : (f bytes : List ℕ) (room room' : ℕ) → ((convert f bytes room).refused ≡ 10) ↔ ((old_commit f bytes room').refused ≡ 10)
convert-malformed f bytes room room' =
    (λ a. (old-ten f bytes room').1 ((convert-ten f bytes room).0 a), λ a. (convert-ten f bytes room).1 ((old-ten f bytes room').0 a))

-- at the same place.
pub convert-malformed-at : (f bytes : List ℕ) (room room' : ℕ)
    → (convert f bytes room).refused ≡ 10
    → (convert f bytes room).place ≡ (old_commit f bytes room').place
unfolding old_commit_place
convert-malformed-at f bytes room room' a = convert-place f bytes room 9 a ∙ sym (old-place f bytes room' 9 ((convert-malformed f bytes room room').0 a))

-- ── The claim ──

-- what a commit answers, from what it has found out of the file and the sheet
unfoldable refusal_from : (f : List ℕ) → (malformed conflict : Bool) → (after : List Tag) → (room : ℕ) → ℕ
refusal_from f malformed conflict after room =
    first_of (opening_lines f ++ (line 10 malformed ∷ line 11 conflict ∷ line 17 (too_many after) ∷ line 9 (no_room room (length (table_bytes after))) ∷ []))

unfoldable answer_from : (f : List ℕ) → (malformed conflict : Bool) → (fault place : ℕ) → (after : List Tag) → (room : ℕ) → Commit
answer_from f malformed conflict fault place after room =
    let n = refusal_from f malformed conflict after room in
    commit_answer n (cond (eqb n 11) place (cond (eqb n 10) fault (opening_place n f))) after

commit-from : (f bytes : List ℕ) (room : ℕ)
    → commit f bytes room
    ≡ answer_from f (bad_sheet bytes) (some (conflicts (user_tags f)) (changes_of bytes)) (fault_of (exactly sheet bytes)) (lowest (conflicts (user_tags f)) (changes_of bytes)) (applied (changes_of bytes) (user_tags f)) room
unfolding commit commit_place look_place new_table answer_from refusal_from sheet_lines
commit-from f bytes room = ap (λ (n : ℕ). commit_answer n (commit_place n f bytes) (new_table f bytes)) (commit-is f bytes room)

old-from : (f bytes : List ℕ) (room : ℕ)
    → old_commit f bytes room
    ≡ answer_from f (bad_old_sheet bytes) (some (old_conflicts (user_tags f)) (old_changes_of bytes)) (fault_of (exactly old_sheet bytes)) (lowest (old_conflicts (user_tags f)) (old_changes_of bytes)) (applied (old_changes_of bytes) (user_tags f)) room
unfolding old_commit old_commit_refusal old_commit_place old_sheet_place old_commit_lines old_table answer_from refusal_from
old-from f bytes room = refl

-- no fault where all was read
no-fault : {A : Type 0} (p : Parsed A) → is_bad p ≡ false → fault_of p ≡ 0
unfolding fault_of
no-fault (bad m) h = let z : ◌≡◌ {A = ℕ} 0 1 = cc in absurd (omega arith)
no-fault (good a n) h = refl

user-legal : (f : List ℕ) → are_bytes f ≡ true → refusal f ≡ 0 → every legal_tag (user_tags f) ≡ true
unfolding legal_table
user-legal f h o = (all_three (leb (length (user_tags f)) most_tags) (every legal_tag (user_tags f)) (distinct (tag_names (user_tags f))) (user-stands f h o).0).1

-- What the converter writes is a sheet of today, and its changes are the old ones, filled in: no kind 2 stands in it,
pub converted-today : (f bytes : List ℕ)
    → are_bytes f ≡ true
    → are_bytes bytes ≡ true
    → refusal f ≡ 0
    → bad_old_sheet bytes ≡ false
    → (bad_sheet (converted f bytes) ≡ false)
    × (changes_of (converted f bytes) ≡ map (filled_in (user_tags f)) (old_changes_of bytes))
unfolding converted
converted-today f bytes h hb o g =
    sheet-read (map (filled_in (user_tags f)) (old_changes_of bytes)) (filled-legal (user_tags f) (old_changes_of bytes) (user-legal f h o) (old-sheet-given bytes hb g).0)

-- and committing it to the file that it was converted with answers what committing the old sheet answered, whatever the room: the same refusal, the same
-- place, the same table.
pub convert-commits : (f bytes : List ℕ) (room room' : ℕ)
    → are_bytes f ≡ true
    → are_bytes bytes ≡ true
    → (convert f bytes room).refused ≡ 0
    → commit f (convert f bytes room).sheet room' ≡ old_commit f bytes room'
convert-commits f bytes room room' h hb a =
    ap (λ (s : List ℕ). commit f s room') (convert-hands f bytes room a)
    ∙ commit-from f (converted f bytes) room'
    ∙ same_answer (r.0 ∙ sym c.1) (no-fault _ r.0 ∙ sym (no-fault _ c.1))
    (ap (some (conflicts ts)) r.1 ∙ filled-some ts cs)
    (ap (lowest (conflicts ts)) r.1 ∙ filled-lowest ts cs)
    (ap (λ (ds : List Change). applied ds ts) r.1 ∙ filled-applied ts cs ts)
    ∙ sym (old-from f bytes room')
  where
    ts : List Tag
    ts = user_tags f

    cs : List OldChange
    cs = old_changes_of bytes

    c : (refusal f ≡ 0) × (bad_old_sheet bytes ≡ false) × (length (converted f bytes) ≤ room)
    c = (convert-accepted f bytes room).0 a

    r : (bad_sheet (converted f bytes) ≡ false) × (changes_of (converted f bytes) ≡ map (filled_in ts) cs)
    r = converted-today f bytes h hb c.0 c.1

    same_answer : {m m' k k' : Bool} {e e' p p' : ℕ} {us us' : List Tag} → m ≡ m' → e ≡ e' → k ≡ k' → p ≡ p' → us ≡ us' → answer_from f m k e p us room' ≡ answer_from f m' k' e' p' us' room'
    same_answer x v y z w = cc

-- ── A sheet without kind 2 ──

-- a change of today in the words of an old one
unfoldable before : Change → OldChange
before = seeing (λ n. saw)

before-legal : (cs : List Change) → legal_sheet cs ≡ true → legal_old_sheet (map before cs) ≡ true
unfolding before legal_old_seen
before-legal cs h = seeing-legal legal_entry legal_old_seen (λ n. saw) (λ n e l. l) cs h

before-bytes : (cs : List Change) → old_sheet_bytes (map before cs) ≡ sheet_bytes cs
unfolding before sheet_bytes old_seen_bytes
before-bytes cs = seeing-bytes entry_part_bytes old_seen_bytes (λ n. saw) (λ n e. refl) cs

filled-before : (ts : List Tag) (cs : List Change) → map (filled_in ts) (map before cs) ≡ cs
unfolding filled_in filled_seen before seeing
filled-before ts [] = refl
filled-before ts (c ∷ cs) = ap (λ (ds : List Change). c ∷ ds) (filled-before ts cs)

-- what is a sheet today was one before, of the same changes
today-before : (bytes : List ℕ) → are_bytes bytes ≡ true → bad_sheet bytes ≡ false → (bad_old_sheet bytes ≡ false) × (old_changes_of bytes ≡ map before (changes_of bytes))
today-before bytes h g =
    let s = sheet-given bytes h g in
    rw (before-bytes (changes_of bytes), s.1) at (old-sheet-read (map before (changes_of bytes)) (before-legal (changes_of bytes) s.0))

-- A sheet of today comes back byte for byte.
pub convert-same : (f bytes : List ℕ) (room : ℕ)
    → are_bytes bytes ≡ true
    → refusal f ≡ 0
    → bad_sheet bytes ≡ false
    → length bytes ≤ room
    → ((convert f bytes room).refused ≡ 0)
    × ((convert f bytes room).sheet ≡ bytes)
unfolding converted
convert-same f bytes room hb o g r = (a, convert-hands f bytes room a ∙ e)
  where
    k : (bad_old_sheet bytes ≡ false) × (old_changes_of bytes ≡ map before (changes_of bytes))
    k = today-before bytes hb g

    e : converted f bytes ≡ bytes
    e = rw (k.1, filled-before (user_tags f) (changes_of bytes)) (sheet-given bytes hb g).1

    a : (convert f bytes room).refused ≡ 0
    a = (convert-accepted f bytes room).1 (o, k.0, rw e r)

-- somebody looked
unfoldable pub looked : OldChange → Bool
looked c = elim c.seen [ saw e ↦ true | nobody_looked ↦ false ]

before-looked : (cs : List Change) → every looked (map before cs) ≡ true
unfolding every looked before seeing
before-looked [] = refl
before-looked (c ∷ cs) = before-looked cs

looked-before : (cs : List OldChange) → every looked cs ≡ true → map before (map (filled_in []) cs) ≡ cs
unfolding every looked before seeing filled_in filled_seen
looked-before [] h = refl
looked-before (c ∷ cs) h =
    let b = both_true (looked c) (every looked cs) h in
    rw (looked-before cs b.1) (ap (λ (d : OldChange). d ∷ cs) (one c b.0))
  where
    one : (c : OldChange) → looked c ≡ true → before (filled_in [] c) ≡ c
    one c h = ap (λ (s : OldSeen). record { name = c.name; seen = s; new = c.new }) (go c.seen h)
      where
        go : (s : OldSeen) → elim s [ saw e ↦ true | nobody_looked ↦ false ] ≡ true → saw (filled_seen [] c.name s) ≡ s
        go (saw e) k = refl
        go nobody_looked k = let z : ◌≡◌ {A = ℕ} 0 1 = cc in absurd (omega arith)

-- Of the sheets that were well formed before, those in which somebody looked at every tag are the ones that are well formed today: in all others kind 2
-- is a fault.
pub withdrawn : (bytes : List ℕ) → are_bytes bytes ≡ true → (bad_sheet bytes ≡ false) ↔ ((bad_old_sheet bytes ≡ false) × (every looked (old_changes_of bytes) ≡ true))
unfolding every
withdrawn bytes h = (there, back)
  where
    there : bad_sheet bytes ≡ false → (bad_old_sheet bytes ≡ false) × (every looked (old_changes_of bytes) ≡ true)
    there g = let k = today-before bytes h g in (k.0, rw k.1 (before-looked (changes_of bytes)))

    back : ((bad_old_sheet bytes ≡ false) × (every looked (old_changes_of bytes) ≡ true)) → bad_sheet bytes ≡ false
    back (g, k) =
        let s = old-sheet-given bytes h g in
        let ds = map (filled_in []) (old_changes_of bytes) in
        let b : sheet_bytes ds ≡ bytes = sym (before-bytes ds) ∙ ap old_sheet_bytes (looked-before (old_changes_of bytes) k) ∙ s.1 in
        rw b at (sheet-read ds (filled-legal [] (old_changes_of bytes) refl s.0)).0

-- ── How much room is enough ──

legal-few : (cs : List OldChange) → legal_old_sheet cs ≡ true → leb (length cs) most_changes ≡ true
unfolding legal_sheet_with
legal-few cs h = (all_three (leb (length cs) most_changes) (every (legal_row legal_old_seen) cs) (distinct (change_names cs)) h).0

-- A converted sheet is at most 16,384 bytes longer than the old one, and never longer than 49,281 bytes.
pub converted-most : (f bytes : List ℕ)
    → are_bytes f ≡ true
    → are_bytes bytes ≡ true
    → refusal f ≡ 0
    → bad_old_sheet bytes ≡ false
    → (length (converted f bytes) ≤ length bytes + 16384)
    × (length (converted f bytes) ≤ 49281)
unfolding converted
converted-most f bytes h hb o g =
    let s = old-sheet-given bytes hb g in
    let u = user-legal f h o in
    let few = leb-true (length (old_changes_of bytes)) most_changes (legal-few (old_changes_of bytes) s.0) in
    (omega (arith, filled_more (user_tags f) (old_changes_of bytes) u, few, ap length s.1), sheet-most _ (filled-legal (user_tags f) (old_changes_of bytes) u s.0))
