-- To commit: no member's change is lost.
-- Assumes nothing.
use Prim.Native.Nat.{ℕ, zero, suc, ◌≤◌, ◌<◌}
use mathlib.Core.Path.{◌≡◌, refl, ap, sym, ◌∙◌}
use mathlib.Core.Bool.{Bool, true, false, not, cond, ◌&&◌, ◌||◌}
use mathlib.Core.Logic.{◌↔◌}
use mathlib.Core.List.{List, [], ◌∷◌, ◌++◌, flat_map, append_assoc, append_cancel_right}
use native.Mathlib.Omega.{arith}
use lib.ListN.{length, take, drop, get_or, take-append-drop}
use lib.Dec.{ltb, leb}
use lib.Pow.{are_bytes}
use borrow.Author.Tests.{ltb-false, leb-true, le-ltb}
use Rattle.number.proofs.Bytes.{both_true}
use Rattle.number.specs.Number.{number_of}
use Rattle.layout.specs.Recording.{Tag, Recording, Legal, most_tags, every, distinct, tag_names, legal_tag, legal_table, table_bytes, front_bytes, frame_bytes, index_bytes, frames_start, frames_end, user_start, encode}
use Rattle.layout.specs.Reading.{Parsed, bad, good, onward, behind, ◌then◌, only, fault_at, placed, times, number, exactly, table, is_bad, value_or}
use Rattle.layout.specs.Opening.{Line, line, first_of, front_lines, opening_lines, refusal, shown, user_offset, read_user, bad_user}
use Rattle.layout.specs.Recorder.{no_room}
use Rattle.layout.specs.Saving.{Change, number_of_changes, sheet_with, sheet, change_names, changes_of, look_up, conflicts, some, lowest, some_conflict, conflict_place, table_lines, user_tags, bad_sheet, look_lines, new_table, commit_lines, commit_place, commit_refusal, commit_answer, commit}
use Rattle.layout.proofs.Lists.{or-false, or_right, not-or, bytes_drop}
use Rattle.layout.proofs.Exact.{table-exact, exactly-gives}
use Rattle.layout.proofs.Lines.{line-pass, line-holds, opening-pass, opens-passes}
use Rattle.layout.proofs.Condition2.{legal-opens, legal-shown, opens-legal}
use Rattle.layout.proofs.Applied.{no_change, unnamed, those, removes, brings, applied-named, applied-others, applied-names, applied-none, applied-legal}
use Rattle.layout.proofs.Sheets.{sheet-legal}
use Rattle.layout.proofs.Orders.{without, no_lines, line_other, line-own, lines_other}

-- the recording with another user table
unfoldable pub with_user : Recording → List Tag → Recording
with_user r ts = record { sections = r.sections; system = r.system; frames = r.frames; user = ts }

-- ── Commit's order ──

-- the number that a commit answers is the first of its lines that holds
pub refused-is : (n place : ℕ) (ts : List Tag) → (commit_answer n place ts).refused ≡ n
unfolding commit_answer
refused-is zero place ts = refl
refused-is (suc n) place ts = refl

table_is : (n place : ℕ) (ts : List Tag) → (commit_answer n place ts).refused ≡ 0 → (commit_answer n place ts).table ≡ table_bytes ts
unfolding commit_answer
table_is zero place ts e = refl
table_is (suc n) place ts e = absurd (omega arith)

-- and refused, it has the place that was found
pub place_is : (m n place : ℕ) (ts : List Tag) → (commit_answer n place ts).refused ≡ suc m → (commit_answer n place ts).place ≡ place
unfolding commit_answer
place_is m zero place ts e = absurd (omega arith)
place_is m (suc n) place ts e = refl

place-eleven : (n : ℕ) (f bytes : List ℕ) → n ≡ 11 → commit_place n f bytes ≡ conflict_place (user_tags f) (changes_of bytes)
unfolding commit_place
place-eleven n f bytes e = rw e

-- the four lines that a commit has past those of opening
unfoldable pub sheet_lines : (f sheet : List ℕ) → (room : ℕ) → List Line
sheet_lines f bytes room =
    line 10 (bad_sheet bytes)
    ∷ line 11 (some_conflict (user_tags f) (changes_of bytes))
    ∷ line 17 (ltb most_tags (length (new_table f bytes)))
    ∷ line 9 (no_room room (length (table_bytes (new_table f bytes))))
    ∷ []

-- those of look and of a table are these, in this order
pub commit-is : (f bytes : List ℕ) (room : ℕ) → commit_refusal f bytes room ≡ first_of (opening_lines f ++ sheet_lines f bytes room)
unfolding commit_refusal commit_lines look_lines table_lines sheet_lines new_table
commit-is f bytes room = ap first_of (append_assoc (opening_lines f) (line 10 (bad_sheet bytes) ∷ []) _)

-- past the lines of opening
pub commit-opened : (f bytes : List ℕ) (room : ℕ) → refusal f ≡ 0 → commit_refusal f bytes room ≡ first_of (sheet_lines f bytes room)
commit-opened f bytes room o = commit-is f bytes room ∙ opening-pass f (sheet_lines f bytes room) (opens-passes f o)

pub commit-order : (f bytes : List ℕ) (room k : ℕ)
    → without k (opening_lines f) ≡ true
    → (commit f bytes room).refused ≡ k
    → (refusal f ≡ 0)
    × (first_of (sheet_lines f bytes room) ≡ k)
unfolding commit refusal
commit-order f bytes room k w e =
    lines_other (opening_lines f) (sheet_lines f bytes room) k w (sym (commit-is f bytes room) ∙ sym (refused-is _ _ _) ∙ e)

pub commit-lines : (f bytes : List ℕ) (room : ℕ)
    → (commit f bytes room).refused ≡ 0
    → (refusal f ≡ 0)
    × (bad_sheet bytes ≡ false)
    × (some_conflict (user_tags f) (changes_of bytes) ≡ false)
    × (length (new_table f bytes) ≤ most_tags)
    × (length (table_bytes (new_table f bytes)) ≤ room)
unfolding sheet_lines opening_lines front_lines without
commit-lines f bytes room a =
    let o = commit-order f bytes room 0 refl a in
    let p = line_other 10 _ _ 0 (omega arith) o.1 in
    let q = line_other 11 _ _ 0 (omega arith) p.1 in
    let r = line_other 17 _ _ 0 (omega arith) q.1 in
    let s = line_other 9 _ _ 0 (omega arith) r.1 in
    (o.0, p.0, q.0, ltb-false _ _ r.0, ltb-false _ _ s.0)

pub lines-commit : (f bytes : List ℕ) (room : ℕ)
    → refusal f ≡ 0
    → bad_sheet bytes ≡ false
    → some_conflict (user_tags f) (changes_of bytes) ≡ false
    → length (new_table f bytes) ≤ most_tags
    → length (table_bytes (new_table f bytes)) ≤ room
    → (commit f bytes room).refused ≡ 0
unfolding commit sheet_lines
lines-commit f bytes room o p q r s =
    refused-is (commit_refusal f bytes room) _ _
    ∙ commit-opened f bytes room o
    ∙ line-pass 10 (bad_sheet bytes) _ p
    ∙ line-pass 11 (some_conflict (user_tags f) (changes_of bytes)) _ q
    ∙ line-pass 17 (ltb most_tags (length (new_table f bytes))) _ (le-ltb _ _ r)
    ∙ line-pass 9 (ltb room (length (table_bytes (new_table f bytes)))) _ (le-ltb _ _ s)
    ∙ no_lines

-- ── Conflicts ──

no-conflict : (ts : List Tag) (cs : List Change) → some_conflict ts cs ≡ false → (i : ℕ) → i < length cs → conflicts ts (get_or cs i no_change) ≡ false
unfolding some
no-conflict ts [] e i h = absurd (omega arith)
no-conflict ts (c ∷ cs) e zero h = (or-false (conflicts ts c) (some_conflict ts cs) e).0
no-conflict ts (c ∷ cs) e (suc i) h = no-conflict ts cs (or-false (conflicts ts c) (some_conflict ts cs) e).1 i (omega arith)

none-conflicts : (ts : List Tag) (cs : List Change) → ((i : ℕ) → i < length cs → conflicts ts (get_or cs i no_change) ≡ false) → some_conflict ts cs ≡ false
unfolding some
none-conflicts ts [] p = refl
none-conflicts ts (c ∷ cs) p = not-or (conflicts ts c) (some_conflict ts cs) (p zero (omega arith)) (none-conflicts ts cs (λ i h. p (suc i) (omega arith)))

-- one that conflicts is enough
some-conflict : (ts : List Tag) (cs : List Change) (i : ℕ) → i < length cs → conflicts ts (get_or cs i no_change) ≡ true → some_conflict ts cs ≡ true
unfolding some
some-conflict ts [] i h e = absurd (omega arith)
some-conflict ts (c ∷ cs) zero h e = ap (λ (b : Bool). b || some_conflict ts cs) e
some-conflict ts (c ∷ cs) (suc i) h e = or_right (conflicts ts c) (some_conflict ts cs) (some-conflict ts cs i (omega arith) e)

-- the lowest place that conflicts
lowest-conflict : (ts : List Tag) (cs : List Change) → some_conflict ts cs ≡ true → (conflict_place ts cs < length cs) × (conflicts ts (get_or cs (conflict_place ts cs) no_change) ≡ true) × ((i : ℕ) → i < conflict_place ts cs → conflicts ts (get_or cs i no_change) ≡ false)
unfolding some lowest
lowest-conflict ts [] e = let z : ◌≡◌ {A = ℕ} 0 1 = cc in absurd (omega arith)
lowest-conflict ts (c ∷ cs) e = go (conflicts ts c) refl e (lowest-conflict ts cs)
  where
    Lowest : ℕ → List Change → Type 0
    Lowest p ds = (p < length ds) × (conflicts ts (get_or ds p no_change) ≡ true) × ((i : ℕ) → i < p → conflicts ts (get_or ds i no_change) ≡ false)

    below : (p : ℕ) → conflicts ts c ≡ false → ((i : ℕ) → i < p → conflicts ts (get_or cs i no_change) ≡ false) → (i : ℕ) → i < suc p → conflicts ts (get_or (c ∷ cs) i no_change) ≡ false
    below p n q zero h = n
    below p n q (suc i) h = q i (omega arith)

    go : (b : Bool) → conflicts ts c ≡ b → b || some_conflict ts cs ≡ true → (some_conflict ts cs ≡ true → Lowest (conflict_place ts cs) cs) → Lowest (cond b 0 (suc (conflict_place ts cs))) (c ∷ cs)
    go true p q l = (omega arith, p, λ i h. absurd (omega arith))
    go false p q l = (omega (arith, (l q).0), (l q).1, below (conflict_place ts cs) p (l q).2)

-- A commit is accepted exactly when the file opens, the sheet is well formed, no seen entry disagrees with the table, the new table has at most 1,000 tags,
-- and there is room for it.
pub commit-accepted : (f bytes : List ℕ) (room : ℕ)
    → ((commit f bytes room).refused ≡ 0)
    ↔ ((refusal f ≡ 0) × (bad_sheet bytes ≡ false) × ((i : ℕ) → i < length (changes_of bytes) → conflicts (user_tags f) (get_or (changes_of bytes) i no_change) ≡ false) × (length (new_table f bytes) ≤ most_tags) × (length (table_bytes (new_table f bytes)) ≤ room))
commit-accepted f bytes room = (
  λ a.
      let l = commit-lines f bytes room a in
      (l.0, l.1, no-conflict (user_tags f) (changes_of bytes) l.2, l.3, l.4),
  λ c. lines-commit f bytes room c.0 c.1 (none-conflicts (user_tags f) (changes_of bytes) c.2) c.3 c.4,
)

-- Then the answer is the new table in file form:
pub saved-table : (f bytes : List ℕ) (room : ℕ) → (commit f bytes room).refused ≡ 0 → (commit f bytes room).table ≡ table_bytes (new_table f bytes)
unfolding commit
saved-table f bytes room a = table_is _ _ _ a

-- each tag that the sheet names is what the sheet says of it,
pub saved-named : (f bytes : List ℕ) (room : ℕ) (i : ℕ)
    → (commit f bytes room).refused ≡ 0
    → i < length (changes_of bytes)
    → look_up (get_or (changes_of bytes) i no_change).name (new_table f bytes) ≡ (get_or (changes_of bytes) i no_change).new
unfolding new_table
saved-named f bytes room i a h = applied-named (changes_of bytes) (user_tags f) i (sheet-legal bytes (commit-lines f bytes room a).1).1 h

-- no other tag changed, in value or in order,
pub saved-others : (f bytes : List ℕ) → unnamed (changes_of bytes) (new_table f bytes) ≡ unnamed (changes_of bytes) (user_tags f)
unfolding new_table
saved-others f bytes = applied-others (changes_of bytes) (user_tags f)

-- and the new table's names are the old ones that the sheet does not remove, in their order, and then, in sheet order, those that the sheet gives a value
-- and the old table had not. So a changed tag keeps its place, removed tags vanish, and new ones come last.
pub saved-places : (f bytes : List ℕ)
    → tag_names (new_table f bytes) ≡ those (λ n. not (removes (changes_of bytes) n)) (tag_names (user_tags f)) ++ change_names (those (brings (user_tags f)) (changes_of bytes))
unfolding new_table
saved-places f bytes = applied-names (changes_of bytes) (user_tags f)

-- Where the file opens, the sheet is well formed and any seen entry disagrees with the table, a commit is refused 11,
pub commit-conflicts : (f bytes : List ℕ) (room : ℕ) (i : ℕ)
    → refusal f ≡ 0
    → bad_sheet bytes ≡ false
    → i < length (changes_of bytes)
    → conflicts (user_tags f) (get_or (changes_of bytes) i no_change) ≡ true
    → (commit f bytes room).refused ≡ 11
unfolding commit sheet_lines
commit-conflicts f bytes room i o p h c =
    refused-is (commit_refusal f bytes room) _ _
    ∙ commit-opened f bytes room o
    ∙ line-pass 10 (bad_sheet bytes) _ p
    ∙ line-holds 11 (some_conflict (user_tags f) (changes_of bytes)) _ (some-conflict (user_tags f) (changes_of bytes) i h c)

-- and names the lowest place whose seen entry disagrees with the table.
pub commit-conflict : (f bytes : List ℕ) (room : ℕ)
    → (commit f bytes room).refused ≡ 11
    → ((commit f bytes room).place < length (changes_of bytes))
    × (conflicts (user_tags f) (get_or (changes_of bytes) (commit f bytes room).place no_change) ≡ true)
    × ((i : ℕ) → i < (commit f bytes room).place → conflicts (user_tags f) (get_or (changes_of bytes) i no_change) ≡ false)
unfolding commit sheet_lines opening_lines front_lines without
commit-conflict f bytes room r =
    let o = commit-order f bytes room 11 refl r in
    let p = line_other 10 _ _ 11 (omega arith) o.1 in
    rw (place_is 10 (commit_refusal f bytes room) _ _ r, place-eleven (commit_refusal f bytes room) f bytes (sym (refused-is (commit_refusal f bytes room) _ _) ∙ r)) (lowest-conflict (user_tags f) (changes_of bytes) (line-own 11 _ _ (omega arith) refl p.1))

-- ── The file of a commit ──

-- the user table of a file that opens is legal, and the file ends with it
pub user-stands : (f : List ℕ) → are_bytes f ≡ true → refusal f ≡ 0 → (legal_table (user_tags f) ≡ true) × (drop (user_offset f) f ≡ table_bytes (user_tags f))
unfolding user_tags shown bad_user read_user value_or
user-stands f h o = go (exactly table (drop (user_offset f) f)) refl (opens-passes f o).user
  where
    go : (p : Parsed (List Tag)) → exactly table (drop (user_offset f) f) ≡ p → is_bad p ≡ false → (legal_table (value_or [] p) ≡ true) × (drop (user_offset f) f ≡ table_bytes (value_or [] p))
    go (bad m) e b = let z : ◌≡◌ {A = ℕ} 0 1 = cc in absurd (omega arith)
    go (good ts n) e b = exactly-gives legal_table table_bytes table table-exact (drop (user_offset f) f) ts n (bytes_drop (user_offset f) f h) e

-- another legal user table makes another legal recording, whose file differs only there
with_user-legal : (r : Recording) (ts : List Tag) → Legal r → legal_table ts ≡ true → Legal (with_user r ts)
unfolding with_user user_start frames_end frames_start
with_user-legal r ts l h =
    record {
      at_least_one_section = l.at_least_one_section;
      at_most_eight_sections = l.at_most_eight_sections;
      sections_legal = l.sections_legal;
      sections_differ = l.sections_differ;
      system_legal = l.system_legal;
      frames_few = l.frames_few;
      frames_legal = l.frames_legal;
      frames_ordered = l.frames_ordered;
      user_legal = h;
      user_offset_fits = l.user_offset_fits;
    }

-- everything ahead of the user table
unfoldable up_to_user : Recording → List ℕ
up_to_user r =
    front_bytes (length r.frames) (frames_end r) (user_start r) r.sections (table_bytes r.system)
    ++ flat_map frame_bytes r.frames
    ++ index_bytes (frames_start r) r.frames

with_user-bytes : (f front : List ℕ) (r : Recording) (ts : List Tag) → encode r ≡ f → front ++ table_bytes r.user ≡ f → encode (with_user r ts) ≡ front ++ table_bytes ts
unfolding with_user encode up_to_user user_start frames_end frames_start
with_user-bytes f front r ts e d = ap (λ (l : List ℕ). l ++ table_bytes ts) (append_cancel_right (up_to_user r) front (table_bytes r.user) (e ∙ sym d))

-- The file with the new table in the old one's place opens, with the same sections, system tags and frames.
pub saved-opens : (f bytes : List ℕ) (room : ℕ)
    → are_bytes f ≡ true
    → (commit f bytes room).refused ≡ 0
    → (refusal (take (user_offset f) f ++ (commit f bytes room).table) ≡ 0)
    × (shown (take (user_offset f) f ++ (commit f bytes room).table) ≡ with_user (shown f) (new_table f bytes))
unfolding commit new_table user_tags
saved-opens f bytes room h a = rw (table_is _ _ _ a, ← e) (legal-opens (with_user (shown f) ts) l, legal-shown (with_user (shown f) ts) l)
  where
    ts : List Tag
    ts = new_table f bytes

    o : refusal f ≡ 0
    o = (commit-lines f bytes room a).0

    l : Legal (with_user (shown f) ts)
    l =
        let p = sheet-legal bytes (commit-lines f bytes room a).1 in
        with_user-legal (shown f) ts (opens-legal f h o).0 (applied-legal (changes_of bytes) (user_tags f) p.0 p.1 (user-stands f h o).0 (commit-lines f bytes room a).3)

    e : encode (with_user (shown f) ts) ≡ take (user_offset f) f ++ table_bytes ts
    e = with_user-bytes f (take (user_offset f) f) (shown f) ts (opens-legal f h o).1 (rw (← (user-stands f h o).1) (take-append-drop (user_offset f) f))

-- a sheet of no changes is well formed
sheet-none : exactly sheet (0 ∷ []) ≡ good [] 1
unfolding exactly sheet sheet_with placed fault_at number_of_changes only ◌then◌ onward behind times number number_of distinct change_names
sheet-none = refl

table-few : (ts : List Tag) → legal_table ts ≡ true → length ts ≤ most_tags
unfolding legal_table
table-few ts h = leb-true _ _ (both_true _ _ (both_true (leb (length ts) most_tags && every legal_tag ts) (distinct (tag_names ts)) h).0).0

-- An empty sheet gives the same table.
pub commit-nothing : (f : List ℕ) (room : ℕ)
    → are_bytes f ≡ true
    → refusal f ≡ 0
    → length (drop (user_offset f) f) ≤ room
    → ((commit f (0 ∷ []) room).refused ≡ 0)
    × ((commit f (0 ∷ []) room).table ≡ drop (user_offset f) f)
unfolding changes_of value_or new_table commit
commit-nothing f room h o r = (a, table_is _ _ _ a ∙ ap table_bytes t ∙ sym u.1)
  where
    u : (legal_table (user_tags f) ≡ true) × (drop (user_offset f) f ≡ table_bytes (user_tags f))
    u = user-stands f h o

    c : changes_of (0 ∷ []) ≡ []
    c = rw sheet-none

    t : new_table f (0 ∷ []) ≡ user_tags f
    t = rw c (applied-none (user_tags f))

    a : (commit f (0 ∷ []) room).refused ≡ 0
    a = (commit-accepted f (0 ∷ []) room).1 (o, rw sheet-none, rw c (λ i q. absurd (omega arith)), rw t (table-few (user_tags f) u.0), rw (t, ← u.1) r)
