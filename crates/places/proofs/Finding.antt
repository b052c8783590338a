-- Names of rows one by one, and the row of a name.
-- Assumes nothing.
use Rattle.std.specs.Prelude.{Option, Some, None}
use Prim.Native.Nat.{ℕ, zero, suc, ◌+◌, ◌-◌, ◌<◌, ◌≤◌}
use native.Mathlib.Omega.{arith}
use mathlib.Core.Path.{◌≡◌, refl, ap, sym, ◌∙◌}
use mathlib.Core.Bool.{Bool, true, false, cond, not}
use mathlib.Core.List.{List, [], ◌∷◌}
use lib.ListN.{length, take, drop, get_or}
use lib.Seq.{drop-drop}
use Rattle.layout.specs.Recording.{same, among, distinct}
use Rattle.layout.specs.Reading.{Parsed, Reader, bad, good}
use Rattle.rows.specs.Rows.{row_name, row_of}
use Rattle.names.specs.Names.{found_at, found, names}
use Rattle.rows.specs.declared.Row.{Row}
use Rattle.rows.specs.declared.RowPlace.{RowPlace}
use Rattle.names.specs.declared.NameFound.{NameFound}
use Rattle.rows.proofs.Laws.{row-parts, row-broken}
use Rattle.names.proofs.Laws.{names-good, found-same}
use Rattle.number.proofs.Bytes.{both_true}
use Rattle.layout.proofs.Lists.{same_true, or_right}

-- ── Rows found by their name ──

pub found-more : (name : List ℕ) (n : ℕ) (p : Reader (List ℕ)) (s : List ℕ) (i at : ℕ) (v : List ℕ) (m : ℕ) → p (drop at s) ≡ good v m
    → found name (suc n) p s i at ≡ cond (same name v) (found_at i at) (found name n p s (i + 1) (at + m))
unfolding found
found-more name n p s i at v m e = rw (e, found)

pub found_none : (name : List ℕ) (n : ℕ) (p : Reader (List ℕ)) (s : List ℕ) (i at : ℕ) {j : ℕ} → p (drop at s) ≡ bad j
    → found name (suc n) p s i at ≡ None
unfolding found
found_none name n p s i at e = rw (e, found)

pub no_found : (name : List ℕ) (p : Reader (List ℕ)) (s : List ℕ) (i at : ℕ) → found name 0 p s i at ≡ None
unfolding found
no_found name p s i at = refl

-- ── Names of rows, one by one ──

pub names_more : (n : ℕ) (p : Reader (List ℕ)) (t : List ℕ) (v : List ℕ) (m : ℕ) → p t ≡ good v m → names (suc n) p t ≡ v ∷ names n p (drop m t)
unfolding names
names_more n p t v m e = rw (e, names)

pub names-none : (n : ℕ) (p : Reader (List ℕ)) (t : List ℕ) {j : ℕ} → p t ≡ bad j → names (suc n) p t ≡ []
unfolding names
names-none n p t e = rw (e, names)

pub no_names : (p : Reader (List ℕ)) (t : List ℕ) → names 0 p t ≡ []
unfolding names
no_names p t = refl

pub names-few : (n : ℕ) (p : Reader (List ℕ)) (t : List ℕ) → length (names n p t) ≤ n
names-few zero p t = rw (no_names p t) (omega arith)
names-few (suc n) p t = go (p t) refl (names-few n p)
  where
    go : (r : Parsed (List ℕ)) → p t ≡ r → ((u : List ℕ) → length (names n p u) ≤ n) → length (names (suc n) p t) ≤ suc n
    go (bad j) e ih = rw (names-none n p t e) (omega arith)
    go (good v m) e ih = let l = ih (drop m t) in rw (names_more n p t v m e) (omega arith)

pub names-done : (k : Row) (s : List ℕ) (at left : ℕ) → left ≤ 0 → names left (row_name k) (drop at s) ≡ []
names-done k s at zero h = no_names (row_name k) (drop at s)
names-done k s at (suc left) h = absurd (omega arith)

pub names-stop : (k : Row) (s : List ℕ) (at left : ℕ) (r : Option RowPlace) → r ≡ row_of at (row_name k (drop at s)) → r ≡ None
    → names left (row_name k) (drop at s) ≡ []
names-stop k s at zero r e f = no_names (row_name k) (drop at s)
names-stop k s at (suc left) r e f = names-none left (row_name k) (drop at s) (row-broken (row_name k (drop at s)) at (sym e ∙ f)).1

pub names-step : (k : Row) (s : List ℕ) (at left : ℕ) (p : RowPlace) (r : Option RowPlace) → r ≡ row_of at (row_name k (drop at s)) → r ≡ Some p
    → 0 < left → names left (row_name k) (drop at s) ≡ take p.name (drop (at + 1) s) ∷ names (left - 1) (row_name k) (drop p.end s)
names-step k s at left p r e f h =
    let (l, m, x, w) = row-parts k s at p.name p.end (sym e ∙ f) in
    names-good k s at left m (take p.name (drop (at + 1) s)) h x
    ∙ ap (λ (y : ℕ). take p.name (drop (at + 1) s) ∷ names (left - 1) (row_name k) (drop y s)) (sym w)

-- ── A row that is found ──

pub false-true : false ≡ true → ⊥
false-true e = let z : ◌≡◌ {A = ℕ} 0 1 = cc in omega arith

among-at : (v : List ℕ) (ns : List (List ℕ)) (c : ℕ) → c < length ns → same v (get_or ns c []) ≡ true → among v ns ≡ true
unfolding among
among-at v [] c l e = absurd (omega arith)
among-at v (n ∷ ns) zero l e = rw e
among-at v (n ∷ ns) (suc c) l e = or_right (same v n) (among v ns) (among-at v ns c (omega arith) e)

-- rows of which the first was read
pub names-next : (n : ℕ) (p : Reader (List ℕ)) (s : List ℕ) (at : ℕ) (v : List ℕ) (m : ℕ) → p (drop at s) ≡ good v m
    → names (suc n) p (drop at s) ≡ v ∷ names n p (drop (at + m) s)
names-next n p s at v m e = names_more n p (drop at s) v m e ∙ rw (drop-drop m at s)

-- it has the name, and its number, and stands no further ahead than the first
pub found-parts : {G : Type 0} (v : List ℕ) (n : ℕ) (p : Reader (List ℕ)) (s : List ℕ) (i at j q : ℕ) → found v n p s i at ≡ found_at j q
    → ((c : ℕ) → j ≡ i + c → c < length (names n p (drop at s)) → same v (get_or (names n p (drop at s)) c []) ≡ true → at ≤ q → G) → G
found-parts v zero p s i at j q e w = let o = no_found v p s i at in let z : ◌≡◌ {A = ℕ} 0 1 = cc in absurd (omega arith)
found-parts {G} v (suc n) p s i at j q e w = go (p (drop at s)) refl (found-parts {G = G} v n p s (i + 1))
  where
    go : (r : Parsed (List ℕ)) → p (drop at s) ≡ r → ((at j q : ℕ) → found v n p s (i + 1) at ≡ found_at j q
        → ((c : ℕ) → j ≡ i + 1 + c → c < length (names n p (drop at s)) → same v (get_or (names n p (drop at s)) c []) ≡ true → at ≤ q → G) → G) → G
    go (bad j) f ih = let o = found_none v n p s i at f in let z : ◌≡◌ {A = ℕ} 0 1 = cc in absurd (omega arith)
    go (good x m) f ih = pick (same v x) refl (sym (found-more v n p s i at x m f) ∙ e)
      where
        pick : (b : Bool) → same v x ≡ b → cond b (found_at i at) (found v n p s (i + 1) (at + m)) ≡ found_at j q → G
        pick true h g =
            let (a, b) = found-same i at j q g in
            w 0 (omega arith) (rw (names-next n p s at x m f) (omega arith)) (rw (names-next n p s at x m f) h) (omega arith)
        pick false h g =
            ih (at + m) j q g (λ c a l t o. w (suc c) (omega arith) (rw (names-next n p s at x m f) (omega arith))
            (rw (names-next n p s at x m f) t) (omega arith))

-- where no two names are equal, the row of a name is the one that is found
pub found-only : (v : List ℕ) (n : ℕ) (p : Reader (List ℕ)) (s : List ℕ) (i at c : ℕ) → distinct (names n p (drop at s)) ≡ true
    → c < length (names n p (drop at s)) → same v (get_or (names n p (drop at s)) c []) ≡ true → (q : ℕ) × (found v n p s i at ≡ found_at (i + c) q)
unfolding distinct
found-only v zero p s i at c d l t = let o : length (names 0 p (drop at s)) ≡ 0 = ap length (no_names p (drop at s)) in absurd (omega arith)
found-only v (suc n) p s i at c d l t = go (p (drop at s)) refl (found-only v n p s (i + 1))
  where
    go : (r : Parsed (List ℕ)) → p (drop at s) ≡ r → ((at c : ℕ) → distinct (names n p (drop at s)) ≡ true → c < length (names n p (drop at s))
        → same v (get_or (names n p (drop at s)) c []) ≡ true → (q : ℕ) × (found v n p s (i + 1) at ≡ found_at (i + 1 + c) q))
        → (q : ℕ) × (found v (suc n) p s i at ≡ found_at (i + c) q)
    go (bad j) f ih = let o : length (names (suc n) p (drop at s)) ≡ 0 = ap length (names-none n p (drop at s) f) in absurd (omega arith)
    go (good x m) f ih = pick c (same v x) refl (rw (names-next n p s at x m f) at l) (rw (names-next n p s at x m f) at t)
      where
        apart : (not (among x (names n p (drop (at + m) s))) ≡ true) × (distinct (names n p (drop (at + m) s)) ≡ true)
        apart = both_true (not (among x (names n p (drop (at + m) s)))) (distinct (names n p (drop (at + m) s))) (rw (names-next n p s at x m f) at d)

        pick : (c : ℕ) (b : Bool) → same v x ≡ b → c < length (x ∷ names n p (drop (at + m) s))
            → same v (get_or (x ∷ names n p (drop (at + m) s)) c []) ≡ true → (q : ℕ) × (found v (suc n) p s i at ≡ found_at (i + c) q)
        pick zero true h k u = (at, found-more v n p s i at x m f ∙ rw h (ap (λ (z : ℕ). found_at z at) (omega arith)))
        pick zero false h k u = absurd (false-true (sym h ∙ u))
        pick (suc c) true h k u =
            let a : v ≡ x = same_true v x h in
            let b : among x (names n p (drop (at + m) s)) ≡ true = rw a at (among-at v (names n p (drop (at + m) s)) c (omega arith) u) in
            absurd (false-true (sym (ap not b) ∙ apart.0))
        pick (suc c) false h k u =
            let (q, g) = ih (at + m) c apart.1 (omega arith) u in
            (q, found-more v n p s i at x m f ∙ rw h (g ∙ ap (λ (z : ℕ). found_at z q) (omega arith)))

-- ── Rows that break off: the whole ones say all ──

pub names-whole : (k : ℕ) (p : Reader (List ℕ)) (t : List ℕ) → names (length (names k p t)) p t ≡ names k p t
names-whole zero p t = rw (no_names p t) (no_names p t)
names-whole (suc k) p t = go (p t) refl (names-whole k p)
  where
    go : (r : Parsed (List ℕ)) → p t ≡ r → ((u : List ℕ) → names (length (names k p u)) p u ≡ names k p u)
        → names (length (names (suc k) p t)) p t ≡ names (suc k) p t
    go (bad j) e ih = rw (names-none k p t e) (no_names p t)
    go (good v m) e ih = rw (names_more k p t v m e) (names_more (length (names k p (drop m t))) p t v m e
        ∙ ap (λ (l : List (List ℕ)). v ∷ l) (ih (drop m t)))

pub found-whole : (name : List ℕ) (k : ℕ) (p : Reader (List ℕ)) (s : List ℕ) (i at : ℕ)
    → found name (length (names k p (drop at s))) p s i at ≡ found name k p s i at
found-whole name zero p s i at = rw (no_names p (drop at s))
found-whole name (suc k) p s i at = go (p (drop at s)) refl (found-whole name k p s (i + 1))
  where
    go : (r : Parsed (List ℕ)) → p (drop at s) ≡ r → ((at : ℕ)
        → found name (length (names k p (drop at s))) p s (i + 1) at ≡ found name k p s (i + 1) at)
        → found name (length (names (suc k) p (drop at s))) p s i at ≡ found name (suc k) p s i at
    go (bad j) e ih = rw (names-none k p (drop at s) e) (no_found name p s i at ∙ sym (found_none name k p s i at e))
    go (good v m) e ih =
        rw (names-next k p s at v m e)
        (found-more name (length (names k p (drop (at + m) s))) p s i at v m e
        ∙ ap (λ (f : Option NameFound). cond (same name v) (found_at i at) f) (ih (at + m))
        ∙ sym (found-more name k p s i at v m e))
