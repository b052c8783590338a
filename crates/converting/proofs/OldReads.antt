-- A sheet in which the kinds of what was seen go up to 2 is read where an old one is: what differs is what is made of kind 2.
-- Assumes nothing.
use Rattle.std.specs.Prelude.{Ok}
use Prim.Native.Nat.{ℕ, zero, suc}
use native.Mathlib.Omega.{arith}
use mathlib.Core.Path.{◌≡◌, refl, ap, sym, ◌∙◌}
use mathlib.Core.Bool.{Bool, true, false, cond}
use mathlib.Core.List.{List, ◌∷◌, map}
use lib.ListN.{length, drop, length-map}
use lib.Dec.{eqb}
use borrow.Author.Tests.{eqb-true}
use Rattle.layout.specs.Recording.{distinct}
use Rattle.layout.specs.Reading.{Parsed, bad, good, Reader, onward, behind, give, ◌then◌, only, times, exactly, fault_at, placed, keeping, tag_name}
use Rattle.layout.specs.Saving.{Entry, absent, Change, kind, entry_of, entry_part, change_with, change_names, number_of_changes, sheet_fault, sheet_with}
use Rattle.layout.specs.OldSheets.{OldSeen, saw, nobody_looked, OldChange, old_seen_of, old_seen_part, old_sheet}
use Rattle.layout.proofs.Filled.{seeing, seeing-names}
use Rattle.rows.specs.Rows.{entry_up_to}
use Rattle.names.proofs.Readers.{LeadsEntry, no_value, entry_value, entry-leads, kind-leads}
use Rattle.parts.proofs.Taken.{give-parts}
use Rattle.sheet.specs.Sheet.{sheet_up_to, sheet_of}
use Rattle.sheet.proofs.Sheets.{counted-kept}

-- ── Readers of which one makes more of what both read ──

-- what was read, and something made of it
unfoldable mapped : {A B : Type 0} → (A → B) → Parsed A → Parsed B
mapped f (bad m) = bad m
mapped f (good a n) = good (f a) n

abbrev Maps : {A B : Type 0} → (A → B) → Reader A → Reader B → Type 0
Maps f p q = (t : List ℕ) → q t ≡ mapped f (p t)

behind-mapped : {A B : Type 0} (f : A → B) (n : ℕ) (p : Parsed A) → behind n (mapped f p) ≡ mapped f (behind n p)
unfolding mapped behind
behind-mapped f n (bad m) = refl
behind-mapped f n (good a m) = refl

same-maps : {A B : Type 0} (f : A → B) (p : Reader A) → Maps f p (p then λ a. give (f a))
unfolding mapped ◌then◌ onward behind give
same-maps {A} f p t = go (p t)
  where
    go : (r : Parsed A) → onward r (λ a n. behind n (give (f a) (drop n t))) ≡ mapped f r
    go (bad m) = refl
    go (good a n) = ap (good (f a)) (omega arith)

then-maps : {A A' B B' : Type 0} (f : A → A') (g : B → B') (p : Reader A) (p' : Reader A') (next : A → Reader B) (next' : A' → Reader B')
    → Maps f p p' → ((a : A) → Maps g (next a) (next' (f a))) → Maps g (p then next) (p' then next')
unfolding mapped ◌then◌ onward
then-maps {A} f g p p' next next' h k t = rw (h t) (go (p t))
  where
    go : (r : Parsed A) → onward (mapped f r) (λ a n. behind n (next' a (drop n t))) ≡ mapped g (onward r (λ a n. behind n (next a (drop n t))))
    go (bad m) = refl
    go (good a n) = ap (behind n) (k a (drop n t)) ∙ behind-mapped g n (next a (drop n t))

times-maps : {A B : Type 0} (f : A → B) (p : Reader A) (q : Reader B) → Maps f p q → (k : ℕ) → Maps (map f) (times k p) (times k q)
unfolding mapped times onward behind
times-maps f p q h zero t = refl
times-maps {A} f p q h (suc k) t = rw (h t) (go (p t) (times-maps f p q h k))
  where
    inner : (a : A) (n : ℕ) (r : Parsed (List A))
        → behind n (onward (mapped (map f) r) (λ rest m. good (f a ∷ rest) m)) ≡ mapped (map f) (behind n (onward r (λ rest m. good (a ∷ rest) m)))
    inner a n (bad m) = refl
    inner a n (good xs m) = refl

    go : (r : Parsed A) → Maps (map f) (times k p) (times k q)
        → onward (mapped f r) (λ b n. behind n (onward (times k q (drop n t)) (λ rest m. good (b ∷ rest) m)))
        ≡ mapped (map f) (onward r (λ a n. behind n (onward (times k p (drop n t)) (λ rest m. good (a ∷ rest) m))))
    go (bad m) ih = refl
    go (good a n) ih = rw (ih (drop n t)) (inner a n (times k p (drop n t)))

only-maps : {A B : Type 0} (f : A → B) (test : A → Bool) (test' : B → Bool) (p : Reader A) (q : Reader B) → ((a : A) → test' (f a) ≡ test a) → Maps f p q
    → Maps f (only test p) (only test' q)
unfolding mapped only onward
only-maps {A} f test test' p q h k t = rw (k t) (go (p t))
  where
    pick : (a : A) (n : ℕ) (b : Bool) → cond b (good (f a) n) (bad 0) ≡ mapped f (cond b (good a n) (bad 0))
    pick a n true = refl
    pick a n false = refl

    go : (r : Parsed A) → onward (mapped f r) (λ b n. cond (test' b) (good b n) (bad 0)) ≡ mapped f (onward r (λ a n. cond (test a) (good a n) (bad 0)))
    go (bad m) = refl
    go (good a n) = rw (h a) (pick a n (test a))

placed-maps : {A B : Type 0} (f : A → B) (at at' : List ℕ → ℕ) (p : Reader A) (q : Reader B) → ((t : List ℕ) → at' t ≡ at t) → Maps f p q
    → Maps f (placed at p) (placed at' q)
unfolding mapped placed fault_at
placed-maps {A} f at at' p q h k t = rw (k t, h t) (go (p t))
  where
    go : (r : Parsed A) → fault_at (at t) (mapped f r) ≡ mapped f (fault_at (at t) r)
    go (bad m) = refl
    go (good a n) = refl

exactly-maps : {A B : Type 0} (f : A → B) (p : Reader A) (q : Reader B) → Maps f p q → Maps f (exactly p) (exactly q)
unfolding mapped exactly onward
exactly-maps {A} f p q k t = rw (k t) (go (p t))
  where
    pick : (a : A) (n : ℕ) (b : Bool) → cond b (good (f a) n) (bad n) ≡ mapped f (cond b (good a n) (bad n))
    pick a n true = refl
    pick a n false = refl

    go : (r : Parsed A) → onward (mapped f r) (λ b n. cond (eqb n (length t)) (good b n) (bad n)) ≡ mapped f (onward r (λ a n. cond (eqb n (length t)) (good a n) (bad n)))
    go (bad m) = refl
    go (good a n) = pick a n (eqb n (length t))

keeping-maps : {A B : Type 0} (f : A → B) (p : Reader A) (q : Reader B) (b : ℕ) → Maps f p q → (t : List ℕ) → keeping q b t ≡ keeping p b t
unfolding mapped keeping ◌then◌ onward behind give
keeping-maps {A} f p q b k t = rw (k t) (go (p t))
  where
    go : (r : Parsed A) → onward (mapped f r) (λ a n. behind n (give b (drop n t))) ≡ onward r (λ a n. behind n (give b (drop n t)))
    go (bad m) = refl
    go (good a n) = refl

-- ── What was seen ──

-- where nobody looked, as if nothing was seen
unfoldable as_entry : OldSeen → Entry
as_entry (saw e) = e
as_entry nobody_looked = absent

give-maps : {A B : Type 0} (f : A → B) (a : A) → Maps f (give a) (give (f a))
unfolding mapped give
give-maps f a t = refl

back-maps : {A B : Type 0} (f : A → B) (g : B → A) (p : Reader A) → ((a : A) → g (f a) ≡ a) → Maps g (p then λ a. give (f a)) p
unfolding mapped
back-maps {A} f g p h t = rw (same-maps f p t) (go (p t))
  where
    go : (r : Parsed A) → r ≡ mapped g (mapped f r)
    go (bad m) = refl
    go (good a n) = ap (λ (x : A). good x n) (sym (h a))

kind-maps : (k : ℕ) → Maps as_entry (old_seen_of k) (entry_of k)
unfolding old_seen_of as_entry entry_of
kind-maps k = go (eqb k 2) refl
  where
    two : k ≡ 2 → Maps as_entry (give nobody_looked) (entry_of k)
    two e t = rw e (give-maps as_entry nobody_looked t)

    go : (b : Bool) → eqb k 2 ≡ b → Maps as_entry (cond b (give nobody_looked) (entry_of k then λ e. give (saw e))) (entry_of k)
    go true e = two (eqb-true k 2 e)
    go false e = back-maps saw as_entry (entry_of k) (λ a. refl)

alike-maps : {A : Type 0} (p : Reader A) → Maps (λ a. a) p p
unfolding mapped
alike-maps {A} p t = go (p t)
  where
    go : (r : Parsed A) → r ≡ mapped (λ a. a) r
    go (bad m) = refl
    go (good a n) = refl

seen-maps : Maps as_entry old_seen_part (entry_up_to 2)
unfolding old_seen_part entry_up_to
seen-maps = then-maps (λ k. k) as_entry (kind 2) (kind 2) old_seen_of entry_of (alike-maps (kind 2)) kind-maps

-- ── A change, and a sheet ──

abbrev as_change : OldChange → Change
as_change = seeing (λ n. as_entry)

change-maps : Maps as_change (change_with old_seen_part) (change_with (entry_up_to 2))
unfolding change_with seeing
change-maps =
    then-maps (λ n. n) as_change tag_name tag_name _ _ (alike-maps tag_name) (λ n.
    then-maps as_entry as_change old_seen_part (entry_up_to 2) _ _ seen-maps (λ s.
    then-maps (λ e. e) as_change entry_part entry_part _ _ (alike-maps entry_part) (λ e. give-maps as_change (record { name = n; seen = s; new = e }))))

sheet-maps : Maps (map as_change) old_sheet (sheet_up_to 2)
unfolding old_sheet sheet_up_to sheet_with sheet_fault
sheet-maps =
    placed-maps (map as_change) (sheet_fault old_seen_part) (sheet_fault (entry_up_to 2)) _ _ faults
    (only-maps (map as_change) (λ cs. distinct (change_names cs)) (λ cs. distinct (change_names cs)) _ _ (λ cs. ap distinct (seeing-names (λ n. as_entry) cs))
    (then-maps (λ n. n) (map as_change) number_of_changes number_of_changes _ _ (alike-maps number_of_changes) (λ n. times-maps as_change (change_with old_seen_part) (change_with (entry_up_to 2)) change-maps n)))
  where
    faults : (t : List ℕ) → sheet_fault (entry_up_to 2) t ≡ sheet_fault old_seen_part t
    faults t = sym (counted-kept number_of_changes tag_name (old_seen_part then λ s. entry_part) (keeping (entry_up_to 2 then λ s. entry_part)) 0
        (keeping-maps (λ e. e) (old_seen_part then λ s. entry_part) (entry_up_to 2 then λ s. entry_part) 0
        (then-maps as_entry (λ e. e) old_seen_part (entry_up_to 2) _ _ seen-maps (λ s. alike-maps entry_part))) t)

of-mapped : {A B : Type 0} (f : A → B) (r : Parsed (List A)) → sheet_of (mapped (map f) r) ≡ sheet_of r
unfolding mapped sheet_of
of-mapped f (bad m) = refl
of-mapped f (good xs n) = ap Ok (length-map xs f)

-- An old sheet has as many changes, or its first fault, where kinds up to 2 are read.
pub old-read : (s : List ℕ) → sheet_of (exactly (sheet_up_to 2) s) ≡ sheet_of (exactly old_sheet s)
old-read s = ap sheet_of (exactly-maps (map as_change) old_sheet (sheet_up_to 2) sheet-maps s) ∙ of-mapped as_change (exactly old_sheet s)

-- ── What follows the name of an old change ──

old-seen-leads : (kind m : ℕ) (t : List ℕ) (x : OldSeen) → old_seen_of kind t ≡ good x m → (r : List ℕ) × (entry_value kind t ≡ good r m)
unfolding old_seen_of give
old-seen-leads kind m t x e = go (eqb kind 2) refl e
  where
    other : kind ≡ 2 → eqb kind 1 ≡ false
    other z = rw z

    go : (a : Bool) → eqb kind 2 ≡ a → cond a (give nobody_looked) (entry_of kind then λ e. give (saw e)) t ≡ good x m
        → (r : List ℕ) × (entry_value kind t ≡ good r m)
    go true p h = no_value kind m t (other (eqb-true kind 2 p)) cc
    go false p h = give-parts (entry_of kind) saw t x m h (λ en i o. entry-leads kind m t en i)

pub old-leads : LeadsEntry old_seen_part
unfolding old_seen_part
old-leads = kind-leads old_seen_of old-seen-leads 2
