-- What look and commit answer, and what a commit leaves in the lent output.
use Rattle.std.specs.Prelude.{ℕ, zero, suc, ◌+◌, cond, List, map, length, Result, Ok, Err}
use Rattle.layout.specs.Reading.{exactly}
use Rattle.layout.specs.Opening.{refusal, opening_place, user_offset}
use Rattle.layout.specs.Recorder.{filled}
use Rattle.layout.specs.Saving.{conflicts, some_conflict, conflict_place, user_tags, Look, look, bits, Commit, commit}
use Rattle.layout.specs.Saving as Layout
use Rattle.parts.specs.declared.Fault.{Fault}
use Rattle.sheet.specs.Sheet.{sheet_up_to, sheet_of}
use Rattle.sheet.specs.Rows.{tags_at, changes_at}
use Rattle.apply.specs.Applied.{Applying, applying, applied_to}
use Rattle.refusal.specs.Refusal.{placed, unless}
use Rattle.refusal.specs.declared.Refusal.{Refusal}
use Rattle.refusal.specs.declared.Refusal.TheVariants.{Sheet, Conflict}
use Rattle.saving.specs.declared.Asked.{Asked}
use Rattle.saving.specs.declared.Looked.{Looked}

-- ── What all begin with ──

abbrev pub asked_as : (at tags changes : ℕ) → Result Asked Refusal
asked_as at n k = Ok (record { at = at; tags = n; changes = k })

-- the tags of the user table, behind its number, and the changes of the sheet; or the refusal with its place
unfoldable pub asked_by : (refused : ℕ) → (f : List ℕ) → Result ℕ Fault → Result Asked Refusal
asked_by zero f (Ok k) = asked_as (user_offset f + 4) (length (user_tags f)) k
asked_by zero f (Err p) = Err (Sheet p.place)
asked_by (suc n) f s = Err (placed (suc n) (opening_place (suc n) f))

-- of a sheet in which the kinds of what was seen go up to `most`
unfoldable pub asked_of : (most : ℕ) → (f sheet : List ℕ) → Result Asked Refusal
asked_of most f bytes = asked_by (refusal f) f (sheet_of (exactly (sheet_up_to most) bytes))

-- ── To look ──

-- the set of the changes that conflict, of the n tags and the changes that stand in these bytes
unfoldable pub set_in : (table : List ℕ) → (at n : ℕ) → (sheet : List ℕ) → (changes : ℕ) → ℕ
set_in table at n sheet k = bits (map (conflicts (tags_at table at n)) (changes_at sheet 1 k))

-- the number of changes and the set
abbrev pub looked : Look → Looked
looked l = record { changes = length l.conflicting; conflicts = bits l.conflicting }

unfoldable pub look_of : (file sheet : List ℕ) → Result Looked Refusal
look_of file sheet = unless (look file sheet).refused (look file sheet).place (looked (look file sheet))

-- ── To commit ──

-- the lowest change that conflicts, or the new table, of the n tags and the changes that stand in these bytes
unfoldable pub committed_in : (table : List ℕ) → (at n : ℕ) → (sheet : List ℕ) → (changes : ℕ) → (out : List ℕ) → Applying
committed_in table at n sheet k out =
    cond (some_conflict (tags_at table at n) (changes_at sheet 1 k))
    (applying (Err (Conflict (conflict_place (tags_at table at n) (changes_at sheet 1 k)))) out)
    (applied_to (Layout.applied (changes_at sheet 1 k) (tags_at table at n)) out)

-- the length of the new table, which is in the output
unfoldable pub committed_as : Commit → (out : List ℕ) → Applying
committed_as c out = applying (unless c.refused c.place (length c.table)) (filled out c.table)

unfoldable pub commit_of : (file sheet out : List ℕ) → Applying
commit_of file sheet out = committed_as (commit file sheet (length out)) out
