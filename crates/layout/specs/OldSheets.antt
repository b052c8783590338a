-- Sheets from before "nobody looked" was withdrawn: what they meant, and the converter, in the order 1 to 7, 10, 9.
use Rattle.std.specs.Prelude.{ℕ, zero, suc, Bool, true, not, cond, List, [], ◌∷◌, ◌++◌, map, length, eqb}
use Rattle.layout.specs.Recording.{Tag, table_bytes}
use Rattle.layout.specs.Reading.{Reader, ◌then◌, give, exactly, is_bad, value_or, fault_of}
use Rattle.layout.specs.Opening.{Line, line, first_of, opening_lines, opening_place}
use Rattle.layout.specs.Recorder.{no_room}
use Rattle.layout.specs.Saving.{Entry, ChangeOf, Change, kind, entry_of, sheet_with, sheet_bytes, look_up, same_entry, some, lowest, applied, too_many, user_tags, Commit, commit_answer}

-- ── What an old sheet meant ──

-- "a seen kind (0 absent, 1 a value, which follows, 2 nobody looked)"
pub data OldSeen : Type 0 where
  saw : Entry → OldSeen
  nobody_looked : OldSeen

abbrev pub OldChange : Type 0
OldChange = ChangeOf OldSeen

unfoldable pub old_seen_of : (kind : ℕ) → Reader OldSeen
old_seen_of kind = cond (eqb kind 2) (give nobody_looked) (entry_of kind then λ e. give (saw e))

unfoldable pub old_seen_part : Reader OldSeen
old_seen_part = kind 2 then old_seen_of

unfoldable pub old_sheet : Reader (List OldChange)
old_sheet = sheet_with old_seen_part

unfoldable pub old_changes_of : List ℕ → List OldChange
old_changes_of bytes = value_or [] (exactly old_sheet bytes)

abbrev pub bad_old_sheet : (sheet : List ℕ) → Bool
bad_old_sheet bytes = is_bad (exactly old_sheet bytes)

-- where nobody looked, whatever the table has agrees
unfoldable pub old_agrees : OldSeen → Entry → Bool
old_agrees (saw e) found = same_entry e found
old_agrees nobody_looked found = true

unfoldable pub old_conflicts : List Tag → OldChange → Bool
old_conflicts ts c = not (old_agrees c.seen (look_up c.name ts))

-- ── What a commit answered to it: 1 to 7, 10, 11, 17, 9 ──

unfoldable pub old_table : (f sheet : List ℕ) → List Tag
old_table f bytes = applied (old_changes_of bytes) (user_tags f)

unfoldable pub old_commit_lines : (f sheet : List ℕ) → (room : ℕ) → List Line
old_commit_lines f bytes room =
    opening_lines f
    ++ (line 10 (bad_old_sheet bytes)
    ∷ line 11 (some (old_conflicts (user_tags f)) (old_changes_of bytes))
    ∷ line 17 (too_many (old_table f bytes))
    ∷ line 9 (no_room room (length (table_bytes (old_table f bytes))))
    ∷ [])

unfoldable pub old_commit_refusal : (f sheet : List ℕ) → (room : ℕ) → ℕ
old_commit_refusal f bytes room = first_of (old_commit_lines f bytes room)

-- the place of 10, "the first fault", and those of opening; else 0
unfoldable pub old_sheet_place : (refused : ℕ) → (f sheet : List ℕ) → ℕ
old_sheet_place n f bytes = cond (eqb n 10) (fault_of (exactly old_sheet bytes)) (opening_place n f)

unfoldable pub old_commit_place : (refused : ℕ) → (f sheet : List ℕ) → ℕ
old_commit_place n f bytes = cond (eqb n 11) (lowest (old_conflicts (user_tags f)) (old_changes_of bytes)) (old_sheet_place n f bytes)

unfoldable pub old_commit : (f sheet : List ℕ) → (room : ℕ) → Commit
old_commit f bytes room =
    commit_answer (old_commit_refusal f bytes room) (old_commit_place (old_commit_refusal f bytes room) f bytes) (old_table f bytes)

-- ── The converter: "tests 1 to 7, then 10 for any other fault, then 9" ──

-- "with kind 0 or 1 filled in from that file"
unfoldable pub filled_seen : List Tag → (name : List ℕ) → OldSeen → Entry
filled_seen ts name (saw e) = e
filled_seen ts name nobody_looked = look_up name ts

unfoldable pub filled_in : List Tag → OldChange → Change
filled_in ts c = record { name = c.name; seen = filled_seen ts c.name c.seen; new = c.new }

-- "all other changes as they were"
unfoldable pub converted : (f sheet : List ℕ) → List ℕ
converted f bytes = sheet_bytes (map (filled_in (user_tags f)) (old_changes_of bytes))

unfoldable pub convert_lines : (f sheet : List ℕ) → (room : ℕ) → List Line
convert_lines f bytes room = opening_lines f ++ (line 10 (bad_old_sheet bytes) ∷ line 9 (no_room room (length (converted f bytes))) ∷ [])

unfoldable pub convert_refusal : (f sheet : List ℕ) → (room : ℕ) → ℕ
convert_refusal f bytes room = first_of (convert_lines f bytes room)

-- the refusal number, 0 for none; its place; and the converted sheet
pub record Convert : Type 0 where
  pub refused : ℕ
  pub place : ℕ
  pub sheet : List ℕ

unfoldable pub convert_answer : (refused place : ℕ) → List ℕ → Convert
convert_answer zero place bytes = record { refused = 0; place = 0; sheet = bytes }
convert_answer (suc n) place bytes = record { refused = suc n; place = place; sheet = [] }

unfoldable pub convert : (f sheet : List ℕ) → (room : ℕ) → Convert
convert f bytes room = convert_answer (convert_refusal f bytes room) (old_sheet_place (convert_refusal f bytes room) f bytes) (converted f bytes)
