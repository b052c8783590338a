-- C is handed document 01's own numbers: the number of each call's refusal is that of the first line that holds, and 0 where none does; its place is the one
-- that goes with that number. That the number is at most 17, and no refusal one that document 01 does not have, says the crate `listed`.
-- Assumes nothing.
use Prim.Native.Nat.{ℕ, zero, suc}
use mathlib.Core.Path.{◌≡◌, refl, sym, ap, ◌∙◌}
use mathlib.Core.Bool.{Bool}
use mathlib.Core.List.{List}
use lib.ListN.{length}
use Rattle.std.specs.Prelude.{ℤ, Result, Ok, Err}
use Rattle.refusal.specs.declared.Refusal.{Refusal}
use Rattle.listed.proofs.Numbers.{opening-bare, look-bare, commit-bare, convert-bare, begin-bare}
use Rattle.listed.proofs.Calls.{step-refused, repair-refused}
use Rattle.opening.specs.declared.Held.{Held}
use Rattle.items.specs.declared.Found.{Found}
use Rattle.items.specs.declared.FrameRead.{FrameRead}
use Rattle.repair.specs.declared.Repaired.{Repaired}
use Rattle.saving.specs.declared.Looked.{Looked}
use Rattle.std.specs.Int.{w64}
use Rattle.std.proofs.Common.{of_z}
use Rattle.layout.specs.Recording.{Tag}
use Rattle.layout.specs.Opening.{first_of, opening_place, refusal}
use Rattle.layout.specs.Items.{item_refusal, item_part, frame_refusal, frame_shown}
use Rattle.layout.specs.Recorder.{State, Step, begin_place, begin_lines, add_lines, close_lines, answer, begin, add, close}
use Rattle.layout.specs.Repair.{Repair, repair_refusal, repair_answer, repair}
use Rattle.layout.specs.Saving.{new_table, look_place, look_refusal, look_answer, look, commit_place, commit_refusal, commit_answer, commit}
use Rattle.layout.specs.OldSheets.{converted, old_sheet_place, convert_refusal, convert_answer, convert}
use Rattle.refusal.specs.Refusal.{number_of, place_of, unless}
use Rattle.refusal.proofs.Numbers.{number_kept, place_kept}
use Rattle.opening.specs.Opened.{held_of, open_of}
use Rattle.items.specs.declared.Item.{Item}
use Rattle.reading.specs.Read.{item_of, find_of, found_as, frame_read_of, read_as}
use Rattle.recorder.specs.declared.Recorder.{Recorder}
use Rattle.recorder.specs.Recorded.{state_of, made_begun, made_of, taken_of, answered, begin_of, add_of, close_of}
use Rattle.repair.specs.Repaired.{answer_of, repair_of}
use Rattle.repair.specs.Repaired as repairing
use Rattle.saving.specs.Answers.{looked, look_of, committed_as, commit_of}
use Rattle.converting.specs.Answers.{converted_as, convert_of}
use Rattle.face_opening.specs.Face.{opened_flat}
use Rattle.face_reading.specs.Face.{part_flat, frame_flat}
use Rattle.face_recording.specs.declared.FstfRecorder.{FstfRecorder}
use Rattle.face_recording.specs.Face.{taken_flat, recorded_flat}
use Rattle.face_repair.specs.Face.{repaired_flat, made_flat}
use Rattle.face_tags.specs.Face.{looked_flat, committed_flat, outcome_flat, converted_flat, conversion_flat}

-- ── What an answer says ──

-- its number and its place; 0 and 0 where it is not refused
pub record Told : Type 0 where
  pub number : ℕ
  pub place : ℕ

abbrev handed : (number place : ℕ) → Told
handed n p = record { number = n; place = p }

says : {A : Type 0} → Result A Refusal → Told
says (Ok x) = handed 0 0
says (Err r) = handed (number_of r) (place_of r)

-- with no number goes the place 0
told : {A : Type 0} (p : ℕ → ℕ) → p 0 ≡ 0 → (x : A) (n : ℕ) → says (unless n (p n) x) ≡ handed n (p n)
unfolding says unless
told p b x zero = ap (λ q. handed 0 q) (sym b)
told p b x (suc k) = rw (number_kept (suc k) (p (suc k)), place_kept (suc k) (p (suc k))) refl

-- ── The calls ──

opened-says : (r : Result Held Refusal) → handed (opened_flat r).refused (opened_flat r).place ≡ says r
unfolding says
opened-says (Ok x) = refl
opened-says (Err r) = refl

pub fstf-open-told : (f : List ℕ) → handed (opened_flat (open_of f)).refused (opened_flat (open_of f)).place ≡ handed (refusal f) (opening_place (refusal f) f)
unfolding open_of
fstf-open-told f = opened-says (open_of f) ∙ told (λ n. opening_place n f) (opening-bare f).0 (held_of f) (refusal f)

part-says : (r : Result Found Refusal) → handed (part_flat r).refused (part_flat r).place ≡ says r
unfolding says
part-says (Ok x) = refl
part-says (Err r) = refl

pub fstf-part-told : (f : List ℕ) (it : Item)
    → handed (part_flat (find_of f it)).refused (part_flat (find_of f it)).place
    ≡ handed (item_refusal f (item_of it)) (opening_place (item_refusal f (item_of it)) f)
unfolding find_of
fstf-part-told f it =
    part-says (find_of f it)
    ∙ told (λ n. opening_place n f) (opening-bare f).0 (found_as (item_part f (item_of it))) (item_refusal f (item_of it))

frame-says : (r : Result FrameRead Refusal) → handed (frame_flat r).refused (frame_flat r).place ≡ says r
unfolding says
frame-says (Ok x) = refl
frame-says (Err r) = refl

pub fstf-frame-told : (f : List ℕ) (i : ℕ)
    → handed (frame_flat (frame_read_of f i)).refused (frame_flat (frame_read_of f i)).place ≡ handed (frame_refusal f i) (opening_place (frame_refusal f i) f)
unfolding frame_read_of
fstf-frame-told f i =
    frame-says (frame_read_of f i) ∙ told (λ n. opening_place n f) (opening-bare f).0 (read_as (frame_shown f i)) (frame_refusal f i)

repaired-says : (r : Result Repaired Refusal) → handed (repaired_flat r).refused (repaired_flat r).place ≡ says r
unfolding says
repaired-says (Ok x) = refl
repaired-says (Err r) = refl

pub fstf-repair-told : (f out : List ℕ)
    → handed (made_flat (repair_of f out)).answer.refused (made_flat (repair_of f out)).answer.place
    ≡ handed (repair_refusal f (length out)) (opening_place (repair_refusal f (length out)) f)
unfolding made_flat repair_of repairing.made_of answer_of repair
fstf-repair-told f out = repaired-says _ ∙ go (repair_refusal f (length out)) _ refl
  where
    go : (n : ℕ) (r : Repair) → r.refused ≡ 0 → says (answer_of (repair_answer n r).refused (opening_place n f) (repair_answer n r)) ≡ handed n (opening_place n f)
    go n r e = rw (repair-refused n r e) (told (λ n. opening_place n f) (opening-bare f).0 _ n)

looked-says : (r : Result Looked Refusal) → handed (looked_flat r).refused (looked_flat r).place ≡ says r
unfolding says
looked-says (Ok x) = refl
looked-says (Err r) = refl

pub fstf-look-told : (f s : List ℕ)
    → handed (looked_flat (look_of f s)).refused (looked_flat (look_of f s)).place ≡ handed (look_refusal f s) (look_place (look_refusal f s) f s)
unfolding look_of look look_answer says unless
fstf-look-told f s = looked-says (look_of f s) ∙ go (look_refusal f s) _
  where
    go : (n : ℕ) (bs : List Bool)
        → says (unless (look_answer n (look_place n f s) bs).refused (look_answer n (look_place n f s) bs).place (looked (look_answer n (look_place n f s) bs)))
        ≡ handed n (look_place n f s)
    go zero bs = told {A = ℕ} (λ n. look_place n f s) (look-bare f s).0 0 zero
    go (suc k) bs = told {A = ℕ} (λ n. look_place n f s) (look-bare f s).0 0 (suc k)

committed-says : (r : Result ℕ Refusal) → handed (committed_flat r).refused (committed_flat r).place ≡ says r
unfolding says
committed-says (Ok x) = refl
committed-says (Err r) = refl

pub fstf-commit-told : (f s out : List ℕ)
    → handed (outcome_flat (commit_of f s out)).answer.refused (outcome_flat (commit_of f s out)).answer.place
    ≡ handed (commit_refusal f s (length out)) (commit_place (commit_refusal f s (length out)) f s)
unfolding outcome_flat commit_of committed_as commit commit_answer says unless
fstf-commit-told f s out = committed-says (commit_of f s out).answer ∙ go (commit_refusal f s (length out)) (new_table f s)
  where
    go : (n : ℕ) (ts : List Tag)
        → says {A = ℕ} (unless (commit_answer n (commit_place n f s) ts).refused (commit_answer n (commit_place n f s) ts).place
        (length (commit_answer n (commit_place n f s) ts).table))
        ≡ handed n (commit_place n f s)
    go zero ts = told {A = ℕ} (λ n. commit_place n f s) (commit-bare f s).0 0 zero
    go (suc k) ts = told {A = ℕ} (λ n. commit_place n f s) (commit-bare f s).0 0 (suc k)

converted-says : (r : Result ℕ Refusal) → handed (converted_flat r).refused (converted_flat r).place ≡ says r
unfolding says
converted-says (Ok x) = refl
converted-says (Err r) = refl

pub fstf-convert-told : (f s out : List ℕ)
    → handed (conversion_flat (convert_of f s out)).answer.refused (conversion_flat (convert_of f s out)).answer.place
    ≡ handed (convert_refusal f s (length out)) (old_sheet_place (convert_refusal f s (length out)) f s)
unfolding conversion_flat convert_of converted_as convert convert_answer says unless
fstf-convert-told f s out = converted-says (convert_of f s out).answer ∙ go (convert_refusal f s (length out)) (converted f s)
  where
    go : (n : ℕ) (bytes : List ℕ)
        → says {A = ℕ} (unless (convert_answer n (old_sheet_place n f s) bytes).refused (convert_answer n (old_sheet_place n f s) bytes).place
        (length (convert_answer n (old_sheet_place n f s) bytes).sheet))
        ≡ handed n (old_sheet_place n f s)
    go zero bytes = told {A = ℕ} (λ n. old_sheet_place n f s) (convert-bare f s).0 0 zero
    go (suc k) bytes = told {A = ℕ} (λ n. old_sheet_place n f s) (convert-bare f s).0 0 (suc k)

step-told : (flat : FstfRecorder) (self : Recorder) (out : List ℕ) (st : State) (notes : List ℕ) (step : Step) → step.refused ≡ 0
    → (p : ℕ → ℕ) → p 0 ≡ 0 → (n : ℕ)
    → handed (recorded_flat flat (made_of (p n) self out (answer n st notes step))).answer.refused (recorded_flat flat (made_of (p n) self out (answer n st notes step))).answer.place
    ≡ handed n (p n)
unfolding recorded_flat taken_flat made_of taken_of answered answer says unless
step-told flat self out st notes step e p b zero = rw e (told {A = ℕ} p b 0 zero)
step-told flat self out st notes step e p b (suc k) = told {A = ℕ} p b 0 (suc k)

pub fstf-begin-told : (flat : FstfRecorder) (r : Recorder) (setup system notes out : List ℕ)
    → handed (recorded_flat flat (begin_of r setup system notes out)).answer.refused (recorded_flat flat (begin_of r setup system notes out)).answer.place
    ≡ handed (first_of (begin_lines (state_of r) setup system notes (length out)))
    (begin_place (first_of (begin_lines (state_of r) setup system notes (length out))) setup system)
unfolding begin_of made_begun begin answer
fstf-begin-told flat r setup system notes out =
    begun (first_of (begin_lines (state_of r) setup system notes (length out))) _ refl
  where
    begun : (n : ℕ) (step : Step) → step.refused ≡ 0
        → handed (recorded_flat flat (made_of (begin_place (answer n (state_of r) notes step).refused setup system) r out (answer n (state_of r) notes step))).answer.refused (recorded_flat flat (made_of (begin_place (answer n (state_of r) notes step).refused setup system) r out (answer n (state_of r) notes step))).answer.place
        ≡ handed n (begin_place n setup system)
    begun n step e = rw (step-refused n (state_of r) notes step e)
        (step-told flat r out (state_of r) notes step e (λ n. begin_place n setup system) (begin-bare setup system).0 n)

-- no number of the other calls carries a place
pub fstf-add-told : (flat : FstfRecorder) (r : Recorder) (time : ℤ) (exposure : ℕ) (sections notes out : List ℕ)
    → handed (recorded_flat flat (add_of r time exposure sections notes out)).answer.refused (recorded_flat flat (add_of r time exposure sections notes out)).answer.place
    ≡ handed (first_of (add_lines (state_of r) (of_z w64 time) exposure sections notes (length out))) 0
unfolding add_of add
fstf-add-told flat r time exposure sections notes out =
    step-told flat r out (state_of r) notes _ refl (λ n. 0) refl (first_of (add_lines (state_of r) (of_z w64 time) exposure sections notes (length out)))

pub fstf-close-told : (flat : FstfRecorder) (r : Recorder) (notes out : List ℕ)
    → handed (recorded_flat flat (close_of r notes out)).answer.refused (recorded_flat flat (close_of r notes out)).answer.place
    ≡ handed (first_of (close_lines (state_of r) notes (length out))) 0
unfolding close_of close
fstf-close-told flat r notes out =
    step-told flat r out (state_of r) notes _ refl (λ n. 0) refl (first_of (close_lines (state_of r) notes (length out)))
