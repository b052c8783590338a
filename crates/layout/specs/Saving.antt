-- "Saving tags": sheets; to look, in the order 1 to 7, 10; and to commit, in the order 1 to 7, 10, 11, 17, 9.
use Rattle.std.specs.Prelude.{ℕ, zero, suc, ◌+◌, ◌*◌, Bool, true, false, not, ◌||◌, cond, length, ltb, eqb}
use mathlib.Core.List.{List, [], ◌∷◌, ◌++◌, map, flat_map}
use Rattle.layout.specs.Recording.{Tag, most_tags, short_string, within, same, among, distinct, tag_names, table_bytes}
use Rattle.layout.specs.Reading.{Reader, ◌then◌, only, placed, give, exactly, times, number, tag_name, tag_value, keeping, counted_fault, is_bad, value_or, fault_of}
use Rattle.layout.specs.Opening.{Line, line, first_of, opening_lines, opening_place, shown}
use Rattle.layout.specs.Recorder.{no_room}

-- ── Sheets ──

-- what a table has under a name: nothing, or a value, which may be empty
pub data Entry : Type 0 where
  absent : Entry
  holds : List ℕ → Entry

-- a change: a name, what was seen and what is new. What was seen is an entry; before, it could also be that nobody looked, which OldSheets alone speaks of.
pub record ChangeOf (S : Type 0) : Type 0 where
  pub name : List ℕ
  pub seen : S
  pub new : Entry

abbrev pub Change : Type 0
Change = ChangeOf Entry

abbrev pub most_changes : ℕ
most_changes = 64

-- a kind byte
unfoldable pub kind : (most : ℕ) → Reader ℕ
kind most = only (within 0 most) (number 1)

-- what a kind byte asks for: "0 absent, 1 a value, which follows"; that it is no other, `kind` sees to
unfoldable pub entry_of : (kind : ℕ) → Reader Entry
entry_of kind = cond (eqb kind 1) (tag_value then λ v. give (holds v)) (give absent)

unfoldable pub entry_part : Reader Entry
entry_part = kind 1 then entry_of

-- "per change a name; a seen kind ..; a new kind ..", by the reader of what was seen
unfoldable pub change_with : {S : Type 0} → (seen : Reader S) → Reader (ChangeOf S)
change_with seen = tag_name then λ n. seen then λ s. entry_part then λ e. give (record { name = n; seen = s; new = e })

unfoldable pub change_names : {S : Type 0} → List (ChangeOf S) → List (List ℕ)
change_names = map (λ c. c.name)

unfoldable pub number_of_changes : Reader ℕ
number_of_changes = only (within 0 most_changes) (number 1)

unfoldable pub sheet_fault : {S : Type 0} → (seen : Reader S) → List ℕ → ℕ
sheet_fault seen = counted_fault number_of_changes tag_name (keeping (seen then λ s. entry_part)) 0

unfoldable pub sheet_with : {S : Type 0} → (seen : Reader S) → Reader (List (ChangeOf S))
sheet_with seen = placed (sheet_fault seen) (only (λ cs. distinct (change_names cs)) (number_of_changes then λ n. times n (change_with seen)))

-- a sheet: what was seen is an entry
unfoldable pub sheet : Reader (List Change)
sheet = sheet_with entry_part

unfoldable pub changes_of : List ℕ → List Change
changes_of bytes = value_or [] (exactly sheet bytes)

-- the bytes of a sheet
unfoldable pub entry_part_bytes : Entry → List ℕ
entry_part_bytes absent = 0 ∷ []
entry_part_bytes (holds v) = 1 ∷ short_string v

unfoldable pub change_bytes : {S : Type 0} → (seen : S → List ℕ) → ChangeOf S → List ℕ
change_bytes seen c = short_string c.name ++ seen c.seen ++ entry_part_bytes c.new

unfoldable pub sheet_bytes_with : {S : Type 0} → (seen : S → List ℕ) → List (ChangeOf S) → List ℕ
sheet_bytes_with seen cs = length cs ∷ flat_map (change_bytes seen) cs

unfoldable pub sheet_bytes : List Change → List ℕ
sheet_bytes = sheet_bytes_with entry_part_bytes

-- ── To compare: "All seen entries are compared with the table before the save" ──

-- what a table has under a name
unfoldable pub look_up : List ℕ → List Tag → Entry
look_up name [] = absent
look_up name (t ∷ ts) = cond (same name t.name) (holds t.value) (look_up name ts)

unfoldable pub same_entry : Entry → Entry → Bool
same_entry absent absent = true
same_entry absent (holds v) = false
same_entry (holds v) absent = false
same_entry (holds v) (holds w) = same v w

unfoldable pub conflicts : List Tag → Change → Bool
conflicts ts c = not (same_entry c.seen (look_up c.name ts))

-- whether at least one passes a test
unfoldable pub some : {A : Type 0} → (A → Bool) → List A → Bool
some test [] = false
some test (x ∷ xs) = test x || some test xs

-- the lowest place of one that does, from 0, where one does
unfoldable pub lowest : {A : Type 0} → (A → Bool) → List A → ℕ
lowest test [] = 0
lowest test (x ∷ xs) = cond (test x) 0 (suc (lowest test xs))

abbrev pub some_conflict : List Tag → List Change → Bool
some_conflict ts cs = some (conflicts ts) cs

-- "the lowest such place, from 0"
abbrev pub conflict_place : List Tag → List Change → ℕ
conflict_place ts cs = lowest (conflicts ts) cs

-- ── To apply ──

-- what a sheet says of a name, or what is there
unfoldable pub new_entry : {S : Type 0} → List (ChangeOf S) → Tag → Entry
new_entry [] t = holds t.value
new_entry (c ∷ cs) t = cond (same c.name t.name) c.new (new_entry cs t)

unfoldable pub tag_with : List ℕ → Entry → List Tag
tag_with name absent = []
tag_with name (holds v) = record { name = name; value = v } ∷ []

-- "Kept tags keep their order and a changed tag its place; removed tags vanish"
unfoldable pub kept_tags : {S : Type 0} → List (ChangeOf S) → List Tag → List Tag
kept_tags cs [] = []
kept_tags cs (t ∷ ts) = tag_with t.name (new_entry cs t) ++ kept_tags cs ts

-- "new ones come last in sheet order"
unfoldable pub new_tags : {S : Type 0} → List Tag → List (ChangeOf S) → List Tag
new_tags ts [] = []
new_tags ts (c ∷ cs) = cond (among c.name (tag_names ts)) [] (tag_with c.name c.new) ++ new_tags ts cs

unfoldable pub applied : {S : Type 0} → List (ChangeOf S) → List Tag → List Tag
applied cs ts = kept_tags cs ts ++ new_tags ts cs

-- ── A sheet on a table ──

-- 17 "more than 1,000 tags after a save"
abbrev pub too_many : List Tag → Bool
too_many ts = ltb most_tags (length ts)

-- what a table refuses of a sheet: 11 "a seen entry disagrees", 17
unfoldable pub table_lines : List Tag → List Change → List Line
table_lines ts cs = line 11 (some_conflict ts cs) ∷ line 17 (too_many (applied cs ts)) ∷ []

-- ── To look: "look runs 1 to 7, 10" ──

unfoldable pub user_tags : List ℕ → List Tag
user_tags f = (shown f).user

-- 10 "a change sheet is malformed"
abbrev pub bad_sheet : (sheet : List ℕ) → Bool
bad_sheet bytes = is_bad (exactly sheet bytes)

unfoldable pub look_lines : (f sheet : List ℕ) → List Line
look_lines f bytes = opening_lines f ++ (line 10 (bad_sheet bytes) ∷ [])

unfoldable pub look_refusal : (f sheet : List ℕ) → ℕ
look_refusal f bytes = first_of (look_lines f bytes)

-- the place of the refusal: 10's "the first fault", and those of opening; else 0
unfoldable pub look_place : (refused : ℕ) → (f sheet : List ℕ) → ℕ
look_place n f bytes = cond (eqb n 10) (fault_of (exactly sheet bytes)) (opening_place n f)

-- the refusal number, 0 for none; its place; and "for each change, agrees or conflicts"
pub record Look : Type 0 where
  pub refused : ℕ
  pub place : ℕ
  pub conflicting : List Bool

unfoldable pub look_answer : (refused place : ℕ) → List Bool → Look
look_answer zero place bs = record { refused = 0; place = 0; conflicting = bs }
look_answer (suc n) place bs = record { refused = suc n; place = place; conflicting = [] }

unfoldable pub look : (f sheet : List ℕ) → Look
look f bytes = look_answer (look_refusal f bytes) (look_place (look_refusal f bytes) f bytes) (map (conflicts (user_tags f)) (changes_of bytes))

-- the changes that conflict as a set: a number with a bit for each change, 1 where it conflicts, the first one's lowest
unfoldable pub bits : List Bool → ℕ
bits [] = 0
bits (b ∷ bs) = cond b 1 0 + 2 * bits bs

-- ── To commit: "commit runs 1 to 7, 10, 11, 17, 9" ──

unfoldable pub new_table : (f sheet : List ℕ) → List Tag
new_table f bytes = applied (changes_of bytes) (user_tags f)

unfoldable pub commit_lines : (f sheet : List ℕ) → (room : ℕ) → List Line
commit_lines f bytes room =
    look_lines f bytes
    ++ (table_lines (user_tags f) (changes_of bytes) ++ (line 9 (no_room room (length (table_bytes (new_table f bytes)))) ∷ []))

unfoldable pub commit_refusal : (f sheet : List ℕ) → (room : ℕ) → ℕ
commit_refusal f bytes room = first_of (commit_lines f bytes room)

-- the place of the refusal: 11's "the lowest such place", and those of look; else 0
unfoldable pub commit_place : (refused : ℕ) → (f sheet : List ℕ) → ℕ
commit_place n f bytes = cond (eqb n 11) (conflict_place (user_tags f) (changes_of bytes)) (look_place n f bytes)

-- the refusal number, 0 for none; its place; and the new user table in file form
pub record Commit : Type 0 where
  pub refused : ℕ
  pub place : ℕ
  pub table : List ℕ

unfoldable pub commit_answer : (refused place : ℕ) → List Tag → Commit
commit_answer zero place ts = record { refused = 0; place = 0; table = table_bytes ts }
commit_answer (suc n) place ts = record { refused = suc n; place = place; table = [] }

unfoldable pub commit : (f sheet : List ℕ) → (room : ℕ) → Commit
commit f bytes room = commit_answer (commit_refusal f bytes room) (commit_place (commit_refusal f bytes room) f bytes) (new_table f bytes)
