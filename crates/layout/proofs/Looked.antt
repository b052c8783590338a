-- To look: what it shows of each change, and that a commit goes by it.
-- Assumes nothing.
use Prim.Native.Nat.{ℕ, zero, suc, ◌+◌, ◌*◌, ◌/◌, ◌%◌, ◌^◌, ◌<◌}
use native.Mathlib.Nat.{pow-suc}
use native.Mathlib.Omega.{arith}
use mathlib.Core.Path.{◌≡◌, refl, sym, ◌∙◌}
use mathlib.Core.Bool.{Bool, true, false, cond, ◌||◌}
use mathlib.Core.Logic.{◌↔◌}
use mathlib.Core.List.{List, [], ◌∷◌, ◌++◌, map}
use lib.ListN.{length, get_or, length-map}
use lib.Dec.{ltb, eqb}
use borrow.Author.Tests.{lt-ltb, ltb-true, ltb-false, ne_eqb, not-false}
use Rattle.layout.specs.Recording.{Tag, table_bytes}
use Rattle.layout.specs.Opening.{line, first_of, front_lines, opening_lines, refusal}
use Rattle.layout.specs.Recorder.{no_room}
use Rattle.layout.specs.Saving.{Change, changes_of, look_up, same_entry, conflicts, some, some_conflict, table_lines, user_tags, bad_sheet, look_lines, look_refusal, look_answer, look, bits, new_table, commit_lines, commit_refusal, commit_place, commit}
use Rattle.layout.proofs.Lists.{or-false, cond-false}
use Rattle.layout.proofs.Lines.{line-pass, line-holds, lines-first, opening-pass, opens-passes}
use Rattle.layout.proofs.Orders.{without, no_lines, line_other, line-own, lines_other, lines-not}
use Rattle.layout.proofs.Applied.{no_change, entry-same, same-entry}
use Rattle.layout.proofs.Refusals.{look-number, look-refused, commit-number, commit-place}
use Rattle.layout.proofs.Saved.{sheet_lines, commit-opened, commit-lines, commit-conflict}

-- ── The set ──

-- a number's bits, from the lowest on
unfoldable pub bit : (i n : ℕ) → ℕ
bit zero n = n % 2
bit (suc i) n = bit i (n / 2)

bit-none : (i : ℕ) → bit i 0 ≡ 0
unfolding bit
bit-none zero = refl
bit-none (suc i) = bit-none i

pub halved : (b : Bool) (n : ℕ) → (cond b 1 0 + 2 * n) / 2 ≡ n
halved true n = omega arith
halved false n = omega arith

pub lowest-is : (b : Bool) (n : ℕ) → (cond b 1 0 + 2 * n) % 2 ≡ cond b 1 0
lowest-is true n = omega arith
lowest-is false n = omega arith

-- Bit i of the set is 1 where change i conflicts, and 0 where it agrees or is not there,
pub bits_at : (bs : List Bool) (i : ℕ) → bit i (bits bs) ≡ cond (get_or bs i false) 1 0
unfolding bits bit
bits_at [] i = bit-none i
bits_at (b ∷ bs) zero = lowest-is b (bits bs)
bits_at (b ∷ bs) (suc i) = rw (halved b (bits bs)) (bits_at bs i)

-- and all of it fits into as many bits as there are changes.
pub bits-few : (bs : List Bool) → bits bs < 2 ^ length bs
unfolding bits
bits-few [] = omega arith
bits-few (true ∷ bs) = rw pow-suc (omega (arith, bits-few bs))
bits-few (false ∷ bs) = rw pow-suc (omega (arith, bits-few bs))

-- The set is not empty exactly when some change conflicts.
pub bits-some : (ts : List Tag) (cs : List Change) → ltb 0 (bits (map (conflicts ts) cs)) ≡ some_conflict ts cs
unfolding bits some
bits-some ts [] = refl
bits-some ts (c ∷ cs) = go (conflicts ts c) (bits (map (conflicts ts) cs)) (bits-some ts cs)
  where
    go : (b : Bool) (n : ℕ) → ltb 0 n ≡ some_conflict ts cs → ltb 0 (cond b 1 0 + 2 * n) ≡ (b || some_conflict ts cs)
    go true n e = lt-ltb 0 (1 + 2 * n) (omega arith)
    go false zero e = e
    go false (suc n) e = lt-ltb 0 (0 + 2 * suc n) (omega arith) ∙ sym (lt-ltb 0 (suc n) (omega arith)) ∙ e

-- what is shown of a change
shown-at : (ts : List Tag) (cs : List Change) (i : ℕ) → i < length cs → get_or (map (conflicts ts) cs) i false ≡ conflicts ts (get_or cs i no_change)
shown-at ts [] i h = absurd (omega arith)
shown-at ts (c ∷ cs) zero h = refl
shown-at ts (c ∷ cs) (suc i) h = shown-at ts cs i (omega arith)

-- no conflict is shown
none-shown : (ts : List Tag) (cs : List Change) → some_conflict ts cs ≡ false → (i : ℕ) → get_or (map (conflicts ts) cs) i false ≡ false
unfolding some
none-shown ts [] e i = refl
none-shown ts (c ∷ cs) e zero = (or-false (conflicts ts c) (some_conflict ts cs) e).0
none-shown ts (c ∷ cs) e (suc i) = none-shown ts cs (or-false (conflicts ts c) (some_conflict ts cs) e).1 i

-- ── To look ──

-- A change agrees exactly where its member saw what the table has.
pub agrees-saw : (ts : List Tag) (c : Change) → (conflicts ts c ≡ false) ↔ (c.seen ≡ look_up c.name ts)
unfolding conflicts
agrees-saw ts c = (λ h. same-entry c.seen (look_up c.name ts) (not-false (same_entry c.seen (look_up c.name ts)) h), λ e. rw (e, entry-same (look_up c.name ts)))

-- Look is accepted exactly when the file opens and the sheet is well formed,
pub look-accepted : (f bytes : List ℕ) → ((look f bytes).refused ≡ 0) ↔ ((refusal f ≡ 0) × (bad_sheet bytes ≡ false))
unfolding look_refusal look_lines refusal opening_lines front_lines without
look-accepted f bytes = (
  λ a.
      let o = lines_other (opening_lines f) (line 10 (bad_sheet bytes) ∷ []) 0 refl (sym (look-number f bytes) ∙ a) in
      (o.0, (line_other 10 (bad_sheet bytes) [] 0 (λ z. omega arith) o.1).0),
  λ c.
      look-number f bytes
      ∙ opening-pass f (line 10 (bad_sheet bytes) ∷ []) (opens-passes f c.0)
      ∙ line-pass 10 (bad_sheet bytes) [] c.1
      ∙ no_lines,
)

-- and then it says of each change whether it conflicts.
pub look-shows : (f bytes : List ℕ) → (look f bytes).refused ≡ 0 → (look f bytes).conflicting ≡ map (conflicts (user_tags f)) (changes_of bytes)
unfolding look look_answer
look-shows f bytes a = go (look_refusal f bytes) _ _ a
  where
    go : (m place : ℕ) (bs : List Bool) → (look_answer m place bs).refused ≡ 0 → (look_answer m place bs).conflicting ≡ bs
    go zero place bs e = refl
    go (suc m) place bs e = absurd (omega arith)

pub look-counts : (f bytes : List ℕ) → (look f bytes).refused ≡ 0 → length (look f bytes).conflicting ≡ length (changes_of bytes)
look-counts f bytes a = rw (look-shows f bytes a) (length-map (changes_of bytes) (conflicts (user_tags f)))

pub look-says : (f bytes : List ℕ) (i : ℕ)
    → (look f bytes).refused ≡ 0
    → i < length (changes_of bytes)
    → get_or (look f bytes).conflicting i false ≡ conflicts (user_tags f) (get_or (changes_of bytes) i no_change)
look-says f bytes i a h = rw (look-shows f bytes a) (shown-at (user_tags f) (changes_of bytes) i h)

-- ── To commit, beside the look at the same file and sheet ──

-- look has no 11
not-eleven : (f bytes : List ℕ) → (look f bytes).refused ≡ 11 → ⊥
unfolding look_refusal look_lines opening_lines front_lines without
not-eleven f bytes e = lines-not (look_lines f bytes) 11 refl (λ z. omega arith) (sym (look-number f bytes) ∙ e)

-- Where look is refused, commit is refused with the same number,
pub commit-as-look : (f bytes : List ℕ) (room n : ℕ) → (look f bytes).refused ≡ suc n → (commit f bytes room).refused ≡ suc n
unfolding commit_refusal commit_lines look_refusal
commit-as-look f bytes room n e = commit-number f bytes room ∙ lines-first (look_lines f bytes) _ n (sym (look-number f bytes) ∙ e)

-- at the same place;
pub commit-where-look : (f bytes : List ℕ) (room n : ℕ) → (look f bytes).refused ≡ suc n → (commit f bytes room).place ≡ (look f bytes).place
unfolding commit_place
commit-where-look f bytes room n e =
    commit-place f bytes room n (commit-as-look f bytes room n e)
    ∙ cond-false (eqb (suc n) 11) _ _ (ne_eqb (suc n) 11 (λ z. not-eleven f bytes (e ∙ z)))
    ∙ sym (look-refused f bytes n e).1

-- where look is accepted, commit answers by its own lines: 11, 17 and 9;
pub commit-behind-look : (f bytes : List ℕ) (room : ℕ)
    → (look f bytes).refused ≡ 0
    → (commit f bytes room).refused ≡ first_of (table_lines (user_tags f) (changes_of bytes) ++ (line 9 (no_room room (length (table_bytes (new_table f bytes)))) ∷ []))
unfolding sheet_lines table_lines new_table
commit-behind-look f bytes room a =
    let l = (look-accepted f bytes).0 a in
    commit-number f bytes room
    ∙ commit-opened f bytes room l.0
    ∙ line-pass 10 (bad_sheet bytes) _ l.1

-- so where commit is refused with any other number, look is refused with it.
pub look-as-commit : (f bytes : List ℕ) (room n : ℕ)
    → (commit f bytes room).refused ≡ suc n
    → (11 ≡ suc n → ⊥)
    → (17 ≡ suc n → ⊥)
    → (9 ≡ suc n → ⊥)
    → (look f bytes).refused ≡ suc n
unfolding table_lines
look-as-commit f bytes room n e h k m = go (look f bytes).refused refl
  where
    go : (r : ℕ) → (look f bytes).refused ≡ r → (look f bytes).refused ≡ suc n
    go zero a =
        let b = line_other 11 _ _ (suc n) h (sym (commit-behind-look f bytes room a) ∙ e) in
        let c = line_other 17 _ _ (suc n) k b.1 in
        let d = line_other 9 _ _ (suc n) m c.1 in
        let z : ◌≡◌ {A = ℕ} 0 (suc n) = sym no_lines ∙ d.1 in
        absurd (omega arith)
    go (suc r) a = a ∙ sym (commit-as-look f bytes room r a) ∙ e

-- a look that was refused would have commit's number
eleven-looks : (f bytes : List ℕ) (room : ℕ) → (commit f bytes room).refused ≡ 11 → (look f bytes).refused ≡ 0
eleven-looks f bytes room e = go (look f bytes).refused refl
  where
    go : (n : ℕ) → (look f bytes).refused ≡ n → (look f bytes).refused ≡ 0
    go zero h = h
    go (suc n) h = absurd (not-eleven f bytes (h ∙ sym (commit-as-look f bytes room n h) ∙ e))

-- a look that was refused shows nothing
shows-looks : (f bytes : List ℕ) → 0 < bits (look f bytes).conflicting → (look f bytes).refused ≡ 0
unfolding bits
shows-looks f bytes h = go (look f bytes).refused refl
  where
    go : (n : ℕ) → (look f bytes).refused ≡ n → (look f bytes).refused ≡ 0
    go zero e = e
    go (suc n) e = let z : 0 < bits [] = rw (look-refused f bytes n e).0 at h in absurd (omega arith)

-- "Commit is refused 11 exactly when look shows a conflict,
pub commit-looks : (f bytes : List ℕ) (room : ℕ) → ((commit f bytes room).refused ≡ 11) ↔ (0 < bits (look f bytes).conflicting)
unfolding table_lines without
commit-looks f bytes room = (
  λ e.
      let a = eleven-looks f bytes room e in
      let c = line-own 11 (some_conflict (user_tags f) (changes_of bytes)) _ (λ z. omega arith) refl (sym (commit-behind-look f bytes room a) ∙ e) in
      rw (look-shows f bytes a) (ltb-true 0 _ (bits-some (user_tags f) (changes_of bytes) ∙ c)),
  λ h.
      let a = shows-looks f bytes h in
      let s : 0 < bits (map (conflicts (user_tags f)) (changes_of bytes)) = rw (look-shows f bytes a) at h in
      commit-behind-look f bytes room a
      ∙ line-holds 11 _ _ (sym (bits-some (user_tags f) (changes_of bytes)) ∙ lt-ltb 0 _ s),
)

-- at the lowest conflicting place",
pub commit-lowest : (f bytes : List ℕ) (room : ℕ)
    → (commit f bytes room).refused ≡ 11
    → (get_or (look f bytes).conflicting (commit f bytes room).place false ≡ true)
    × ((i : ℕ) → i < (commit f bytes room).place → get_or (look f bytes).conflicting i false ≡ false)
commit-lowest f bytes room e =
    let a = eleven-looks f bytes room e in
    let (p, q, below) = commit-conflict f bytes room e in
    (look-says f bytes (commit f bytes room).place a p ∙ q, λ i h. look-says f bytes i a (omega arith) ∙ below i h)

-- which is the lowest bit of look's set;
pub commit-lowest-bit : (f bytes : List ℕ) (room : ℕ)
    → (commit f bytes room).refused ≡ 11
    → (bit (commit f bytes room).place (bits (look f bytes).conflicting) ≡ 1)
    × ((i : ℕ) → i < (commit f bytes room).place → bit i (bits (look f bytes).conflicting) ≡ 0)
commit-lowest-bit f bytes room e =
    let (q, below) = commit-lowest f bytes room e in
    (bits_at (look f bytes).conflicting (commit f bytes room).place ∙ rw q, λ i h. bits_at (look f bytes).conflicting i ∙ rw (below i h))

-- and where commit is accepted, look shows that every change agrees.
pub commit-agrees : (f bytes : List ℕ) (room : ℕ)
    → (commit f bytes room).refused ≡ 0
    → ((look f bytes).refused ≡ 0)
    × (bits (look f bytes).conflicting ≡ 0)
    × ((i : ℕ) → get_or (look f bytes).conflicting i false ≡ false)
commit-agrees f bytes room e =
    let (o, p, q, r, s) = commit-lines f bytes room e in
    let a = (look-accepted f bytes).1 (o, p) in
    let n = ltb-false 0 (bits (map (conflicts (user_tags f)) (changes_of bytes))) (bits-some (user_tags f) (changes_of bytes) ∙ q) in
    (a, rw (look-shows f bytes a) (omega arith), λ i. rw (look-shows f bytes a) (none-shown (user_tags f) (changes_of bytes) q i))
