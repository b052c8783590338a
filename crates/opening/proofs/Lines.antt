-- Opening: what the front's answer, the header and the tests that follow say of lines 1 to 7, and the numbers of what a file shows.
-- Assumes nothing.
use Prim.Native.Nat.{ℕ, zero, suc, ◌+◌, ◌-◌, ◌≤◌}
use native.Mathlib.Omega.{arith}
use mathlib.Core.Path.{◌≡◌, refl, ap, sym, ◌∙◌}
use mathlib.Core.Bool.{Bool, true, false, not, ◌||◌}
use mathlib.Core.List.{List, [], ◌∷◌, ◌++◌}
use lib.ListN.{length, take, drop, get_or, length-drop}
use lib.Dec.{ltb, eqb}
use lib.Pow.{are_bytes}
use borrow.Author.Rules.{rules}
use borrow.Author.Tests.{ltb-false, eq-eqb, ne_eqb}
use mir.Syntax.{w8}
use mir.Val.{Fits}
use Rattle.number.proofs.Bytes.{slice-bytes}
use Rattle.layout.specs.Recording.{Tag, largest_user_offset, in_order, same, index_bytes}
use Rattle.layout.specs.Reading.{bad, good, value_or, fault_of, exactly, onward, table, Definition}
use Rattle.layout.specs.Opening.{Line, line, first_of, header_count, index_offset, system_offset, user_offset, defined_in, read_user, walk_start, walk_of, counted, not_fstf, not_closed, bad_index, bad_user, user_fault, opening_place, front_lines, opening_lines, refusal, sections_from, shown}
use Rattle.layout.proofs.Lists.{bytes_drop}
use Rattle.layout.proofs.Lines.{line-pass, line-holds, FrontPasses, front-pass, passes-opens, lines-first}
use Rattle.layout.proofs.Walks.{walk-gives}
use Rattle.tables.specs.Tables.{table_place_of}
use Rattle.tables.specs.declared.TablePlace.{TablePlace}
use Rattle.std.specs.Prelude.{Result, Ok, Err}
use Rattle.parts.specs.declared.Fault.{Fault}
use Rattle.front.proofs.Fronts.{header_is, table-found, table_none}
use Rattle.refusal.specs.Refusal.{placed, unless}
use Rattle.refusal.specs.declared.Refusal.{Refusal}
use Rattle.refusal.specs.declared.Refusal.TheVariants.{NotClosed, Index, UserTable}
use Rattle.opening.specs.Opened.{not_closed_by, bad_index_in, bad_index_by, held_of, open_of}
use Rattle.front.specs.Front.{front_held, front_of}
use Rattle.header.specs.Header.{header_of}
use Rattle.header.specs.declared.Header.{Header}
use Rattle.front.specs.declared.FrontHeld.{FrontHeld}
use Rattle.opening.specs.declared.Held.{Held}
use Rattle.front.proofs.Passed.{front-passes, front-refuses, start-within, few-sections}

-- ── What the front's answer says ──

open-number : (f : List ℕ) (n : ℕ) → refusal f ≡ suc n → Err (placed (suc n) (opening_place (suc n) f)) ≡ open_of f
unfolding open_of unless
open-number f n e = rw e

pub open-front-refused : (f : List ℕ) (r : Result FrontHeld Refusal) (n : Refusal) → r ≡ front_of f → r ≡ Err n → Err n ≡ open_of f
unfolding refusal opening_lines
open-front-refused f r n p q =
    let (j, k, e) = front-refuses f n (sym p ∙ q) in
    ap Err k ∙ open-number f j (lines-first (front_lines f) _ j e)

-- ── The tests behind the front ──

-- the header's own words for lines 5 and 6
closed_is : (f : List ℕ) → not_fstf f ≡ false → not_closed_by f (header_of f) ≡ not_closed f
unfolding not_closed_by not_closed
closed_is f e = rw (header_is f e)

index_is : (f : List ℕ) → not_fstf f ≡ false → bad_index_by f (header_of f) (length (defined_in f)) (walk_start f) ≡ bad_index f
unfolding bad_index_by bad_index_in bad_index counted walk_of
index_is f e = rw (header_is f e)

-- the user table, by where the table at its offset ends
user-none : (f : List ℕ) (m : ℕ) → table (drop (user_offset f) f) ≡ bad m → (bad_user f ≡ true) × (user_fault f ≡ user_offset f + m)
unfolding bad_user user_fault read_user exactly onward fault_of
user-none f m e = rw e (refl, refl)

user-long : (f : List ℕ) (ts : List Tag) (m : ℕ) → user_offset f ≤ length f → table (drop (user_offset f) f) ≡ good ts m
    → (user_offset f + m ≡ length f → ⊥) → (bad_user f ≡ true) × (user_fault f ≡ user_offset f + m)
unfolding bad_user user_fault read_user exactly onward fault_of
user-long f ts m l e u = rw (e, ne_eqb m (length (drop (user_offset f) f)) (λ q. u (omega (arith, length-drop (user_offset f) f)))) (refl, refl)

user-read : (f : List ℕ) (ts : List Tag) (m : ℕ) → table (drop (user_offset f) f) ≡ good ts m → user_offset f + m ≡ length f → read_user f ≡ good ts m
unfolding read_user exactly onward
user-read f ts m e u = rw (e, eq-eqb m (length (drop (user_offset f) f)) (omega (arith, length-drop (user_offset f) f)))

-- as many sections are shown as are defined, and as many frames as are counted
sections-shown : (f : List ℕ) (ds : List Definition) → length (sections_from f ds) ≡ length ds
unfolding sections_from
sections-shown f [] = refl
sections-shown f (d ∷ ds) = ap suc (sections-shown f ds)

second-false : (a b c d e : Bool) → (a || b || c || d || e) ≡ false → b ≡ false
second-false a false c d e q = refl
second-false true true c d e q = q
second-false false true c d e q = q

fourth-false : (a b c d e : Bool) → (a || b || c || d || e) ≡ false → d ≡ false
fourth-false a b c false e q = refl
fourth-false true b c true e q = q
fourth-false false true c true e q = q
fourth-false false false true true e q = q
fourth-false false false false true e q = q

frames-shown : (f : List ℕ) → are_bytes f ≡ true → bad_index f ≡ false → length (counted f).frames ≡ header_count f
unfolding bad_index counted walk_of
frames-shown f b e =
    let few = (walk-gives (header_count f) (length (defined_in f)) (drop (walk_start f) f) (bytes_drop (walk_start f) f b)).few in
    let enough = ltb-false (length (counted f).frames) (header_count f)
    (second-false (ltb 1000000 (header_count f)) (ltb (length (counted f).frames) (header_count f))
    (not (eqb (walk_start f + (counted f).bytes) (index_offset f))) (not (in_order (counted f).frames))
    (not (same (take (user_offset f - index_offset f) (drop (index_offset f) f)) (index_bytes (walk_start f) (counted f).frames))) e) in
    omega arith

module _ (f : List ℕ) (r : Result FrontHeld Refusal) (held : FrontHeld) (h : Header) (p : r ≡ front_of f) (q : r ≡ Ok held) (s : h ≡ header_of f) where
  passes : FrontPasses f
  passes = (front-passes f held (sym p ∙ q)).0

  held-is : held ≡ front_held f
  held-is = (front-passes f held (sym p ∙ q)).1

  header : h ≡ record { count = header_count f; index = index_offset f; system = system_offset f; user = user_offset f }
  header = s ∙ header_is f passes.mark

  pub held-few : held.sections ≤ 8
  unfolding front_held
  held-few = rw held-is (few-sections f passes.sections)

  pub held_start : ((i : ℕ) → Fits w8 (get_or f i 0)) → held.start ≤ length f
  unfolding front_held
  held_start b = rw held-is (start-within f (slice-bytes f b) passes.system)

  pub open-not-closed : (b : Bool) → b ≡ not_closed_by f h → b ≡ true → Err NotClosed ≡ open_of f
  unfolding refusal opening_lines opening_place
  open-not-closed b t u = open-number f 4 (front-pass f _ passes
      ∙ line-holds 5 (not_closed f) _ (sym (closed_is f passes.mark) ∙ sym (ap (not_closed_by f) s) ∙ sym t ∙ u))

  module _ (b : Bool) (t : b ≡ not_closed_by f h) (u : b ≡ false) where
    is-closed : not_closed f ≡ false
    is-closed = sym (closed_is f passes.mark) ∙ sym (ap (not_closed_by f) s) ∙ sym t ∙ u

    user-there : user_offset f ≤ length f
    unfolding not_closed
    user-there = ltb-false (length f) (user_offset f) (fourth-false (eqb (index_offset f) 0) (eqb (user_offset f) 0) (ltb (length f) (index_offset f))
        (ltb (length f) (user_offset f)) (ltb largest_user_offset (user_offset f)) is-closed)

    pub user-within : h.user ≤ length f
    user-within = rw header user-there

    -- the front and line 5 are passed
    behind : (ls : List Line) → first_of (front_lines f ++ (line 5 (not_closed f) ∷ ls)) ≡ first_of ls
    behind ls = front-pass f (line 5 (not_closed f) ∷ ls) passes ∙ line-pass 5 (not_closed f) ls is-closed

    index_of : bad_index_by f h held.sections held.start ≡ bad_index f
    unfolding front_held
    index_of = rw (held-is, s) (index_is f passes.mark)

    pub open-bad-index : (c : Bool) → c ≡ bad_index_by f h held.sections held.start → c ≡ true → Err Index ≡ open_of f
    unfolding refusal opening_lines opening_place
    open-bad-index c v w = open-number f 5 (behind _ ∙ line-holds 6 (bad_index f) _ (sym index_of ∙ sym v ∙ w))

    module _ (c : Bool) (v : c ≡ bad_index_by f h held.sections held.start) (w : c ≡ false) where
      index-right : bad_index f ≡ false
      index-right = sym index_of ∙ sym v ∙ w

      refused-7 : (k : ℕ) → bad_user f ≡ true → user_fault f ≡ k → Err (UserTable k) ≡ open_of f
      unfolding refusal opening_lines opening_place
      refused-7 k e i = ap (λ (x : ℕ). Err (UserTable x)) (sym i)
          ∙ open-number f 6 (behind _ ∙ line-pass 6 (bad_index f) _ index-right ∙ line-holds 7 (bad_user f) _ e)

      module _ (y : Result TablePlace Fault) (d : y ≡ table_place_of h.user (table (drop h.user f))) where
        table_of : table_place_of (user_offset f) (table (drop (user_offset f) f)) ≡ y
        table_of = sym (d ∙ ap (λ (at : ℕ). table_place_of at (table (drop at f))) (ap (λ (x : Header). x.user) header))

        pub open-bad-user : (k : Fault) → y ≡ Err k → Err (UserTable k.place) ≡ open_of f
        open-bad-user k g =
            let (m, a, i) = table_none f (user_offset f) k (table_of ∙ g) in
            let (z, j) = user-none f m a in
            refused-7 k.place z (j ∙ i)

        module _ (o : TablePlace) (g : y ≡ Ok o) where
          pub open-long-user : (o.end ≡ length f → ⊥) → Err (UserTable o.end) ≡ open_of f
          open-long-user x =
              let (ts, m, a, i, j) = table-found f (user_offset f) o (table_of ∙ g) in
              let (z, k) = user-long f ts m user-there a (λ k. x (sym j ∙ k)) in
              refused-7 o.end z (k ∙ j)

          pub opened : ((i : ℕ) → Fits w8 (get_or f i 0)) → o.end ≡ length f → Ok
              (record {
                frames = h.count;
                sections = held.sections;
                system_tags = held.system_tags;
                user_tags = o.tags;
                system = held.system;
                start = held.start;
                index = h.index;
                user = h.user;
              }) ≡ open_of f
          unfolding open_of unless held_of shown front_held value_or bad_user
          opened bytes x =
              let (ts, m, a, i, j) = table-found f (user_offset f) o (table_of ∙ g) in
              let k : read_user f ≡ good ts m = user-read f ts m a (j ∙ x) in
              let n : refusal f ≡ 0 = passes-opens f (record { front = passes; closed = is-closed; index = index-right; user = rw k }) in
              rw (held-is, header, n, frames-shown f (slice-bytes f bytes) index-right, sections-shown f (defined_in f), k, i)

-- ── What the answers say, for those who call ──

pub open-opens : (f : List ℕ) (held : Held) → open_of f ≡ Ok held → (refusal f ≡ 0) × (held ≡ held_of f)
unfolding open_of unless
open-opens f held e = go (refusal f) e
  where
    go : (n : ℕ) → unless n (opening_place n f) (held_of f) ≡ Ok held → (n ≡ 0) × (held ≡ held_of f)
    go zero g = (refl, cc)
    go (suc n) g = let z : ◌≡◌ {A = ℕ} 0 1 = cc in absurd (omega arith)

pub open-refuses : (f : List ℕ) (n : Refusal) → open_of f ≡ Err n
    → (m : ℕ) × (n ≡ placed (suc m) (opening_place (suc m) f)) × (refusal f ≡ suc m)
unfolding open_of unless
open-refuses f n e = go (refusal f) refl e
  where
    go : (j : ℕ) → refusal f ≡ j → unless j (opening_place j f) (held_of f) ≡ Err n
        → (m : ℕ) × (n ≡ placed (suc m) (opening_place (suc m) f)) × (refusal f ≡ suc m)
    go zero q g = let z : ◌≡◌ {A = ℕ} 0 1 = cc in absurd (omega arith)
    go (suc j) q g = (j, cc, q)

pub ruleset laws = (
  rules,
  open-front-refused,
  held-few,
  held_start,
  open-not-closed,
  user-within,
  open-bad-index,
  open-bad-user,
  open-long-user,
  opened,
)
