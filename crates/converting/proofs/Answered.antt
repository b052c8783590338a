-- What the converter answers.
-- Assumes nothing.
use Rattle.std.specs.Prelude.{Result, Ok, Err}
use Prim.Native.Nat.{ℕ, suc, ◌<◌, ◌≤◌}
use native.Mathlib.Omega.{arith}
use mathlib.Core.Path.{◌≡◌, refl, ap, sym, ◌∙◌}
use mathlib.Core.Bool.{Bool, true, false, cond}
use mathlib.Core.List.{List, [], ◌∷◌, map}
use lib.ListN.{length, take, replicate, get_or}
use borrow.Author.Rules.{rules}
use borrow.Author.Tests.{lt-ltb, le-ltb}
use mir.Syntax.{w8}
use mir.Val.{Fits}
use Rattle.number.proofs.Bytes.{slice-bytes}
use Rattle.layout.specs.Reading.{exactly, value_or}
use Rattle.layout.specs.Opening.{line, first_of, front_lines, opening_lines, refusal, opening_place}
use Rattle.layout.specs.Recorder.{filled, no_room}
use Rattle.layout.specs.Saving.{sheet_bytes_with, sheet_bytes}
use Rattle.layout.specs.OldSheets.{old_seen_part, old_sheet, old_changes_of, bad_old_sheet, old_sheet_place, filled_in, convert_lines, convert_refusal, convert_answer, convert}
use Rattle.layout.specs.OldSheets as Layout
use Rattle.layout.proofs.Lines.{line-pass, line-holds, lines-first, opening-pass, opens-passes}
use Rattle.layout.proofs.Orders.{without, no_lines, lines-not}
use Rattle.layout.proofs.Outputs.{filled_is}
use Rattle.layout.proofs.OldSheetBytes.{old-sheet-given}
use Rattle.layout.proofs.Filled.{old-sheet-most}
use Rattle.layout.proofs.Positions.{convert-within}
use Rattle.refusal.specs.Refusal.{placed, unless}
use Rattle.refusal.specs.declared.Refusal.{Refusal}
use Rattle.refusal.specs.declared.Refusal.TheVariants.{NoRoom}
use Rattle.sheet.specs.Sheet.{sheet_up_to, sheet_of}
use Rattle.sheet.specs.Rows.{tags_at}
use Rattle.places.specs.Places.{placing, placed_by}
use Rattle.places.proofs.Walks.{tags-placed, places-long}
use Rattle.apply.specs.Applied.{applying, Written}
use Rattle.saving.specs.Answers.{asked_by, asked_of}
use Rattle.saving.specs.Begun.{Legal, Begun}
use Rattle.saving.specs.declared.Asked.{Asked}
use Rattle.saving.proofs.Requests.{Asks, asks, refused-asked, sheet-is-bad}
use Rattle.saving.proofs.Answered.{changes-count, begun}
use Rattle.converting.specs.Filling.{sheet_filled, Old}
use Rattle.converting.specs.Answers.{written_to, converted_in, converted_as, convert_of}
use Rattle.converting.proofs.OldReads.{old-read, old-leads}
use Rattle.converting.proofs.ByNames.{sheet-filled}

-- ── The work on a sheet ──

-- what was a sheet has a byte, and not too many
module _ (s : List ℕ) (k : ℕ) (b : (i : ℕ) → Fits w8 (get_or s i 0)) (o : Old s k) where
  pub sheet-there : 1 ≤ length s
  unfolding sheet_bytes_with
  sheet-there = omega (arith, ap length (old-sheet-given s (slice-bytes s b) o.whole).1)

  pub sheet-short : length s ≤ 49281
  sheet-short =
      let g = old-sheet-given s (slice-bytes s b) o.whole in
      omega (arith, ap length g.1, old-sheet-most (old_changes_of s) g.0)

pub fill-room : (table sheet ps out : List ℕ) (size : ℕ) → size ≡ length (sheet_filled table sheet ps) → size ≤ length out
    → length (sheet_filled table sheet ps) ≤ length out
fill-room table sheet ps out size h l = rw (← h) l

module _ (table : List ℕ) (at n : ℕ) (sheet ls₀ ps₀ ls ps : List ℕ) (words : ℕ) (b : Begun table at n sheet ls₀ ps₀) (o : Old sheet (length ps₀))
    (e : placing words ls ps ≡ placed_by table at n sheet ls₀ ps₀) where
  long : length ps ≡ length ps₀
  long = places-long table at n sheet ls₀ ps₀ ls ps words b.legal.few b.legal.apart e

  pub places-few : length ps ≤ 64
  places-few = let a = long in let c = b.legal.few in omega arith

  module _ (w : (i : ℕ) → Fits w8 (get_or sheet i 0)) where
    fills : sheet_filled table sheet ps ≡ sheet_bytes (map (filled_in (tags_at table at n)) (old_changes_of sheet))
    fills =
        let p = tags-placed table at n sheet ls₀ ps₀ ls ps words b.legal.few b.legal.apart e b.legal.behind b.blank b.legal.differ in
        sheet-filled table at n b.legal.behind sheet ps (slice-bytes sheet w) (rw long o) (rw long p.lists)

    module _ (out : List ℕ) (size : ℕ) (h : size ≡ length (sheet_filled table sheet ps)) where
      pub fill-short : length out < size → applying (Err NoRoom) out ≡ converted_in table at n sheet out
      unfolding converted_in written_to
      fill-short l = rw (← fills, ← h, lt-ltb (length out) size l)

      pub fill-written : (r : ℕ) (o₁ : List ℕ) → size ≤ length out → Written r out o₁ 0 (sheet_filled table sheet ps)
          → applying (Ok r) o₁ ≡ converted_in table at n sheet out
      unfolding converted_in written_to
      fill-written r o₁ l x =
          let a : r ≡ length (sheet_filled table sheet ps) = omega (arith, x.end) in
          let c : o₁ ≡ filled out (sheet_filled table sheet ps) = x.stored ∙ filled_is out (sheet_filled table sheet ps) (rw (← h) l) in
          rw (← fills, le-ltb (length out) (length (sheet_filled table sheet ps)) (rw (← h) l), a, c)

-- ── Places of no tag, as many as there are changes ──

pub old-all : (table : List ℕ) (at n : ℕ) (sheet : List ℕ) (k : ℕ) → Legal table at n sheet k → Old sheet k → Old sheet (length (take k (replicate {A = ℕ} 64 0)))
old-all table at n sheet k g o = rw (← changes-count table at n sheet k g) o

-- ── The answer ──

-- past the file and the sheet
first : (f bytes out : List ℕ) → refusal f ≡ 0 → bad_old_sheet bytes ≡ false
    → convert_refusal f bytes (length out) ≡ first_of (line 9 (no_room (length out) (length (Layout.converted f bytes))) ∷ [])
unfolding convert_refusal convert_lines
first f bytes out o h = opening-pass f _ (opens-passes f o) ∙ line-pass 10 _ _ h

-- refused with a number and its place
answer_at : (f bytes out : List ℕ) (n p : ℕ) (q : Refusal) → convert_refusal f bytes (length out) ≡ suc n → old_sheet_place (suc n) f bytes ≡ p
    → q ≡ placed (suc n) p → applying (Err q) out ≡ convert_of f bytes out
unfolding convert_of converted_as unless convert convert_answer filled
answer_at f bytes out n p q e h i = rw e (ap (λ (k : Refusal). applying (Err k) out) (i ∙ ap (λ (x : ℕ). placed (suc n) x) (sym h)))

pub convert-not : (f bytes out : List ℕ) (a : Result Asked Refusal) (q : Refusal) → a ≡ asked_of 2 f bytes → a ≡ Err q
    → applying (Err q) out ≡ convert_of f bytes out
unfolding asked_of convert_refusal convert_lines refusal old_sheet_place opening_lines front_lines without
convert-not f bytes out a q e g =
    refused-asked f (sheet_of (exactly (sheet_up_to 2) bytes)) q (refusal f) (sym e ∙ g)
    (λ n o i.
    let r = lines-first (opening_lines f) _ n o in
    answer_at f bytes out n (opening_place (suc n) f) q r (convert-within f bytes (length out) (suc n) r (not-ten n o)).0 i)
    (λ p o w i.
    let (b, c) = sheet-is-bad (exactly old_sheet bytes) p (sym (old-read bytes) ∙ w) in
    answer_at f bytes out 9 p.place q (opening-pass f _ (opens-passes f o) ∙ line-holds 10 _ _ b) c i)
  where
    not-ten : (n : ℕ) → refusal f ≡ suc n → suc n ≡ 10 → ⊥
    not-ten n o z = lines-not (opening_lines f) 10 refl (λ y. omega arith) (o ∙ z)

-- 9, or the sheet
written_as : (f bytes out : List ℕ) → refusal f ≡ 0 → bad_old_sheet bytes ≡ false → written_to (Layout.converted f bytes) out ≡ convert_of f bytes out
unfolding written_to convert_of converted_as unless convert convert_answer old_sheet_place opening_place
written_as f bytes out o h = go (no_room (length out) (length (Layout.converted f bytes))) refl
  where
    number : convert_refusal f bytes (length out) ≡ first_of (line 9 (no_room (length out) (length (Layout.converted f bytes))) ∷ [])
    number = first f bytes out o h

    go : (b : Bool) → no_room (length out) (length (Layout.converted f bytes)) ≡ b
        → cond b (applying (Err NoRoom) out) (applying (Ok (length (Layout.converted f bytes))) (filled out (Layout.converted f bytes)))
        ≡ convert_of f bytes out
    go true e = answer_at f bytes out 8 0 NoRoom (number ∙ line-holds 9 _ _ e) refl refl
    go false e = let r : convert_refusal f bytes (length out) ≡ 0 = number ∙ line-pass 9 _ _ e ∙ no_lines in rw r

-- the changes that are asked for
module _ (f bytes : List ℕ) (r : Result Asked Refusal) (a : Asked) (e : r ≡ asked_of 2 f bytes) (g : r ≡ Ok a) where
  old : Asks old_seen_part f bytes a.at a.tags a.changes
  unfolding asked_of old_sheet
  old = asks old_seen_part old-leads f bytes a (ap (asked_by (refusal f) f) (sym (old-read bytes)) ∙ sym e ∙ g)

  pub convert-legal : Legal f a.at a.tags bytes a.changes
  convert-legal = old.legal

  pub convert-old : Old bytes a.changes
  unfolding old_sheet old_changes_of value_or
  convert-old = let x = old.exact in record { whole = rw x; count = rw x old.count }

  pub convert-changes : (out o : List ℕ) (t : Result ℕ Refusal) → applying t o ≡ converted_in f a.at a.tags bytes out → applying t o ≡ convert_of f bytes out
  unfolding converted_in Layout.converted
  convert-changes out o t h = h ∙ rw old.tags (written_as f bytes out old.opens convert-old.whole)

pub ruleset laws = (
  rules,
  sheet-there,
  sheet-short,
  places-few,
  fill-short,
  fill-room,
  fill-written,
  old-all,
  begun,
  changes-count,
  convert-not,
  convert-legal,
  convert-old,
  convert-changes,
)
