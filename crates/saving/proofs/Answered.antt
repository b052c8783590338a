-- What look and commit answer.
-- Assumes nothing.
use Rattle.std.specs.Prelude.{Result, Ok, Err}
use Prim.Native.Nat.{ℕ, zero, suc, ◌-◌, ◌<◌, ◌≤◌}
use native.Mathlib.Omega.{arith}
use mathlib.Core.Path.{◌≡◌, refl, ap, sym, ◌∙◌}
use mathlib.Core.Bool.{Bool, true, false, cond}
use mathlib.Core.List.{List, [], ◌∷◌, map}
use lib.ListN.{length, take, replicate, length-replicate, get_or-replicate}
use lib.Seq.{length-take-le, get_or-take}
use lib.Count.{count_trailing_zeros, trailing_le}
use lib.Dec.{ltb}
use borrow.Author.Rules.{rules}
use mir.Syntax.{w64}
use mir.Val.{Fits}
use Rattle.layout.specs.Recording.{Tag, most_tags, table_bytes}
use Rattle.layout.specs.Opening.{line, first_of, opening_place}
use Rattle.layout.specs.Recorder.{filled, no_room}
use Rattle.layout.specs.Saving.{changes_of, conflicts, some_conflict, conflict_place, table_lines, user_tags, look_place, look, bits, new_table, commit_refusal, commit_place, commit_answer, commit}
use Rattle.layout.proofs.Lines.{line-pass, line-holds}
use Rattle.layout.proofs.Refusals.{look-number, look-refused, commit-number, commit-refused}
use Rattle.layout.proofs.Looked.{look-shows, look-counts, commit-as-look, commit-where-look, commit-behind-look}
use Rattle.refusal.specs.Refusal.{placed, unless}
use Rattle.refusal.specs.declared.Refusal.{Refusal}
use Rattle.refusal.specs.declared.Refusal.TheVariants.{NoRoom, Conflict, TableFull}
use Rattle.sheet.specs.Rows.{tags_at, changes_at}
use Rattle.places.specs.Places.{change_found, listing, listed_in, Placed, placing, placed_by}
use Rattle.places.proofs.Listed.{list_read}
use Rattle.places.proofs.Walks.{tags-placed, places-long, list-there, tags-listed}
use Rattle.look.specs.Look.{compare_of}
use Rattle.apply.specs.Applied.{applying, applied_to, tags_by}
use Rattle.apply.specs.Runs.{Leads}
use Rattle.saving.specs.Answers.{asked_of, set_in, look_of, committed_in, committed_as, commit_of}
use Rattle.saving.specs.Begun.{Legal, Begun}
use Rattle.saving.specs.declared.Asked.{Asked}
use Rattle.saving.proofs.ByPlaces.{conflicts-by, changes-few, tags-by}
use Rattle.saving.proofs.Sets.{set-fits, set-empty, set-lowest}
use Rattle.saving.proofs.Requests.{stands, asked-unopened, user-fits, asked-malformed, asked-changes, asked-legal, asked-refused}

-- ── Look's answer ──

pub look-not : (f bytes : List ℕ) (r : Result Asked Refusal) (q : Refusal) → r ≡ asked_of 1 f bytes → r ≡ Err q → Err q ≡ look_of f bytes
unfolding look_of unless
look-not f bytes r q e g =
    let (n, h, i) = asked-refused f bytes r q e g in
    let j : (look f bytes).refused ≡ suc n = look-number f bytes ∙ h in
    rw i (sym (rw (j, (look-refused f bytes n j).1)))

pub look-changes : (f bytes : List ℕ) (r : Result Asked Refusal) (a : Asked) (set : ℕ) → r ≡ asked_of 1 f bytes → r ≡ Ok a
    → set ≡ set_in f a.at a.tags bytes a.changes → Ok (record { changes = a.changes; conflicts = set }) ≡ look_of f bytes
unfolding look_of unless set_in
look-changes f bytes r a set e g h =
    let w = stands f bytes r a e g in
    let j : (look f bytes).refused ≡ 0 = look-number f bytes ∙ w.accepted in
    sym (rw (j, look-counts f bytes j, look-shows f bytes j, w.count, h, w.tags, w.changes))

-- ── Commit's answer ──

answer-refused : (n place : ℕ) (ts : List Tag) (out : List ℕ) → (n ≡ 0 → ⊥)
    → committed_as (commit_answer n place ts) out ≡ applying (Err (placed n place)) out
unfolding committed_as commit_answer unless filled
answer-refused zero place ts out z = absurd (z refl)
answer-refused (suc n) place ts out z = refl

answer-table : (place : ℕ) (ts : List Tag) (out : List ℕ) → committed_as (commit_answer 0 place ts) out ≡ applying (Ok (length (table_bytes ts)))
    (filled out (table_bytes ts))
unfolding committed_as commit_answer unless
answer-table place ts out = refl

-- the answer goes by the first line that holds
answer-by : (f bytes out : List ℕ) (r : ℕ) → commit_refusal f bytes (length out) ≡ r
    → commit_of f bytes out ≡ committed_as (commit_answer r (commit_place r f bytes) (new_table f bytes)) out
unfolding commit_of commit
answer-by f bytes out r e = ap (λ (z : ℕ). committed_as (commit_answer z (commit_place z f bytes) (new_table f bytes)) out) e

-- refused with a number and its place
answer_at : (f bytes out : List ℕ) (n p : ℕ) (q : Refusal) → commit_refusal f bytes (length out) ≡ n → (n ≡ 0 → ⊥) → commit_place n f bytes ≡ p
    → q ≡ placed n p
    → applying (Err q) out ≡ commit_of f bytes out
answer_at f bytes out n p q e z h i =
    sym (answer-by f bytes out n e ∙ answer-refused n (commit_place n f bytes) (new_table f bytes) out z
    ∙ ap (λ (k : Refusal). applying (Err k) out) (ap (placed n) h ∙ sym i))

-- 17, 9, or the new table
answer-applied : (place : ℕ → ℕ) (ts : List Tag) (out : List ℕ) → place 17 ≡ 0 → place 9 ≡ 0 → (r : ℕ)
    → r ≡ first_of (line 17 (ltb most_tags (length ts)) ∷ line 9 (no_room (length out) (length (table_bytes ts))) ∷ [])
    → committed_as (commit_answer r (place r) ts) out ≡ applied_to ts out
unfolding applied_to first_of
answer-applied place ts out p q r e = rw e (go (ltb most_tags (length ts)) (ltb (length out) (length (table_bytes ts))))
  where
    plainly : (n : ℕ) → (n ≡ 0 → ⊥) → place n ≡ 0 → committed_as (commit_answer n (place n) ts) out ≡ applying (Err (placed n 0)) out
    plainly n z h = answer-refused n (place n) ts out z ∙ ap (λ (k : ℕ). applying (Err (placed n k)) out) h

    go : (a b : Bool) → committed_as (commit_answer (first_of (line 17 a ∷ line 9 b ∷ [])) (place (first_of (line 17 a ∷ line 9 b ∷ []))) ts) out ≡
        cond a (applying (Err TableFull) out) (cond b (applying (Err NoRoom) out)
        (applying (Ok (length (table_bytes ts))) (filled out (table_bytes ts))))
    go true b = plainly 17 (λ z. omega arith) p
    go false true = plainly 9 (λ z. omega arith) q
    go false false = answer-table (place 0) ts out

-- what look refuses commit refuses
pub commit-not : (f bytes out : List ℕ) (a : Result Asked Refusal) (q : Refusal) → a ≡ asked_of 1 f bytes → a ≡ Err q
    → applying (Err q) out ≡ commit_of f bytes out
unfolding commit_of committed_as unless
commit-not f bytes out a q e g =
    let (n, h, i) = asked-refused f bytes a q e g in
    let r : (look f bytes).refused ≡ suc n = look-number f bytes ∙ h in
    let c = commit-as-look f bytes (length out) n r in
    ap (λ (k : Refusal). applying (Err k) out) i
    ∙ sym (rw (c, (commit-refused f bytes out n c).1, commit-where-look f bytes (length out) n r, (look-refused f bytes n r).1))

-- and past that it goes by the table
committed-by : (f bytes out : List ℕ) → (look f bytes).refused ≡ 0
    → cond (some_conflict (user_tags f) (changes_of bytes)) (applying (Err (Conflict (conflict_place (user_tags f) (changes_of bytes)))) out)
    (applied_to (new_table f bytes) out) ≡ commit_of f bytes out
unfolding commit_place look_place opening_place table_lines new_table
committed-by f bytes out a = go (some_conflict (user_tags f) (changes_of bytes)) refl
  where
    number : commit_refusal f bytes (length out) ≡ first_of (line 11 (some_conflict (user_tags f) (changes_of bytes))
        ∷ line 17 (ltb most_tags (length (new_table f bytes))) ∷ line 9 (no_room (length out) (length (table_bytes (new_table f bytes)))) ∷ [])
    number = sym (commit-number f bytes (length out)) ∙ commit-behind-look f bytes (length out) a

    go : (b : Bool) → some_conflict (user_tags f) (changes_of bytes) ≡ b
        → cond b (applying (Err (Conflict (conflict_place (user_tags f) (changes_of bytes)))) out) (applied_to (new_table f bytes) out)
        ≡ commit_of f bytes out
    go true e = answer_at f bytes out 11 _ _ (number ∙ line-holds 11 _ _ e) (λ z. omega arith) refl refl
    go false e =
        sym (answer-by f bytes out (commit_refusal f bytes (length out)) refl
        ∙ answer-applied (λ n. commit_place n f bytes) (new_table f bytes) out refl refl (commit_refusal f bytes (length out)) (number ∙ line-pass 11 _ _ e))

pub commit-changes : (f bytes out o : List ℕ) (b : Result Asked Refusal) (a : Asked) (r : Result ℕ Refusal) → b ≡ asked_of 1 f bytes → b ≡ Ok a
    → applying r o ≡ committed_in f a.at a.tags bytes a.changes out → applying r o ≡ commit_of f bytes out
unfolding committed_in new_table
commit-changes f bytes out o b a r e g h =
    let w = stands f bytes b a e g in
    h ∙ rw (w.tags, w.changes) (committed-by f bytes out (look-number f bytes ∙ w.accepted))

-- ── The work on a table ──

-- the places of the tags are known, and so is the set
module _ (table : List ℕ) (at n : ℕ) (sheet ls₀ ps₀ ls ps : List ℕ) (words : ℕ) (b : Begun table at n sheet ls₀ ps₀)
    (e : placing words ls ps ≡ placed_by table at n sheet ls₀ ps₀) where
  tags_placed : Placed table at n sheet (length ps₀) ps
  tags_placed = tags-placed table at n sheet ls₀ ps₀ ls ps words b.legal.few b.legal.apart e b.legal.behind b.blank b.legal.differ

  long : length ps ≡ length ps₀
  long = places-long table at n sheet ls₀ ps₀ ls ps words b.legal.few b.legal.apart e

  pub placed-few : length ps ≤ 64
  placed-few = let a = long in let c = b.legal.few in omega arith

  changes_few : length (changes_at sheet 1 (length ps₀)) ≤ 64
  changes_few = let f = changes-few sheet (length ps₀) in let h = b.legal.few in omega arith

  pub placed-set : (set : ℕ) → set ≡ compare_of table sheet ps → set ≡ set_in table at n sheet (length ps₀)
  unfolding compare_of set_in
  placed-set set h = h ∙ rw (conflicts-by table at n sheet (length ps₀) ps tags_placed long) (set-fits (tags_at table at n) (changes_at sheet 1 (length ps₀)) changes_few)

  module _ (set : ℕ) (h : set ≡ compare_of table sheet ps) where
    set_known : set ≡ bits (map (conflicts (tags_at table at n)) (changes_at sheet 1 (length ps₀)))
    unfolding set_in
    set_known = placed-set set h

    pub placed-conflict : (out : List ℕ) → 0 < set → applying (Err (Conflict (count_trailing_zeros 64 set))) out ≡ committed_in table at n sheet (length ps₀) out
    unfolding committed_in
    placed-conflict out l =
        let (s, p) = set-lowest (tags_at table at n) (changes_at sheet 1 (length ps₀)) set changes_few set_known l in
        rw (s, p)

    pub placed-applied : (out o : List ℕ) (r : Result ℕ Refusal) → set ≤ 0
        → applying r o ≡ applied_to (tags_by table at (record { changes = length ps; words = words; tags = n; end = length table }) sheet ps) out
        → applying r o ≡ committed_in table at n sheet (length ps₀) out
    unfolding committed_in
    placed-applied out o r l f =
        rw (set-empty (tags_at table at n) (changes_at sheet 1 (length ps₀)) set changes_few set_known l)
        (f ∙ ap (λ (ts : List Tag). applied_to ts out) (tags-by table at n sheet (length ps₀) ps tags_placed long
        (record { changes = length ps; words = words; tags = n; end = length table }) refl long))

  pub placed-words : words ≤ length ls
  placed-words = list-there table at n sheet ls₀ ps₀ ls ps words b.legal.few b.legal.apart e b.room

  -- the list leads through the table to its end
  pub placed-leads : Leads table at 0 (record { changes = length ps; words = words; tags = n; end = length table }) sheet (take words ls) 0
  placed-leads =
      let g = b.legal in
      let (a, c) = list_read (change_found sheet (length ps₀)) n table at 0 g.names g.size g.read in
      let d = g.end in
      let z : n - 0 ≡ n = omega arith in
      let x : (listed_in table at n sheet (length ps₀)).tags ≡ n = omega arith in
      let y : (listed_in table at n sheet (length ps₀)).end ≡ length table = omega arith in
      record {
        there = omega arith;
        few = g.tags;
        within = omega arith;
        listed = rw (z, long, tags-listed table at n sheet ls₀ ps₀ ls ps words g.few g.apart e b.room)
            (ap (λ (i : ℕ). listing (listed_in table at n sheet (length ps₀)).words i (length table)) (sym x)
            ∙ ap (listing (listed_in table at n sheet (length ps₀)).words (listed_in table at n sheet (length ps₀)).tags) (sym y));
      }

-- the number of a bit is small
pub bit-fits : (set : ℕ) → Fits w64 (count_trailing_zeros 64 set)
bit-fits set = let l = trailing_le 64 set in record { fits = omega arith }

-- ── Places of no tag, as many as there are changes ──

changes-long : (k : ℕ) → k ≤ 64 → length (take k (replicate {A = ℕ} 64 0)) ≡ k
changes-long k h = length-take-le k (replicate 64 0) (rw (length-replicate {A = ℕ} 64 0) h)

module _ (table : List ℕ) (at n : ℕ) (sheet : List ℕ) (k : ℕ) (g : Legal table at n sheet k) where
  pub changes-count : k ≡ length (take k (replicate {A = ℕ} 64 0))
  changes-count = sym (changes-long k g.few)

  pub begun : Begun table at n sheet (replicate 192 0) (take k (replicate 64 0))
  begun =
      let a = changes-long k g.few in
      let b = length-replicate {A = ℕ} 192 0 in
      let c = g.few in
      record {
        legal = rw a g;
        room = omega arith;
        blank = λ c l. get_or-take k (replicate 64 0) c 0 (omega arith) ∙ get_or-replicate {A = ℕ} 64 c 0 0 (omega arith);
      }

  pub set_all : (set : ℕ) → set ≡ set_in table at n sheet (length (take k (replicate {A = ℕ} 64 0))) → set ≡ set_in table at n sheet k
  set_all set e = rw (changes-long k g.few) at e

  pub committed-all : (out o : List ℕ) (r : Result ℕ Refusal) → applying r o ≡ committed_in table at n sheet (length (take k (replicate {A = ℕ} 64 0))) out
      → applying r o ≡ committed_in table at n sheet k out
  committed-all out o r e = rw (changes-long k g.few) at e

pub ruleset laws = (
  rules,
  asked-unopened,
  user-fits,
  asked-malformed,
  asked-changes,
  asked-legal,
  look-not,
  look-changes,
  commit-not,
  commit-changes,
  placed-set,
  bit-fits,
  placed-conflict,
  placed-applied,
  placed-few,
  placed-words,
  placed-leads,
  changes-count,
  begun,
  set_all,
  committed-all,
)
