-- What a sheet does to a table: each tag that it names becomes what it says, the others stay as they are and in their order, and a legal table stays legal.
-- Assumes nothing.
use Prim.Native.Nat.{ℕ, zero, suc, ◌≤◌, ◌<◌}
use native.Mathlib.Omega.{arith}
use mathlib.Core.Path.{◌≡◌, refl, ap, ◌∙◌}
use mathlib.Core.Bool.{Bool, true, false, not, cond, ◌&&◌, ◌||◌}
use mathlib.Core.List.{List, [], ◌∷◌, ◌++◌, append-nil, append_assoc}
use lib.ListN.{length, get_or}
use lib.Dec.{leb}
use borrow.Author.Tests.{le-leb, not-true}
use Rattle.number.proofs.Bytes.{both_true, and-true}
use Rattle.layout.specs.Recording.{Tag, most_tags, every, same, among, distinct, legal_tag_name, legal_tag_value, legal_tag, tag_names, legal_table}
use Rattle.layout.specs.Saving.{Entry, absent, holds, Change, change_names, look_up, same_entry, new_entry, tag_with, kept_tags, new_tags, applied}
use Rattle.layout.proofs.Lists.{or-false, or_right, cond-true, cond-false, same_refl, same_true}

abbrev pub no_change : Change
no_change = record { name = []; seen = absent; new = absent }

-- the tags of a table that a sheet does not name, in their order
unfoldable pub unnamed : List Change → List Tag → List Tag
unnamed cs [] = []
unnamed cs (t ∷ ts) = cond (among t.name (change_names cs)) (unnamed cs ts) (t ∷ unnamed cs ts)

-- ── Entries ──

pub entry-same : (e : Entry) → same_entry e e ≡ true
unfolding same_entry
entry-same absent = refl
entry-same (holds v) = same_refl v

pub same-entry : (e d : Entry) → same_entry e d ≡ true → e ≡ d
unfolding same_entry
same-entry absent absent h = refl
same-entry absent (holds w) h = let z : ◌≡◌ {A = ℕ} 0 1 = cc in absurd (omega arith)
same-entry (holds v) absent h = let z : ◌≡◌ {A = ℕ} 0 1 = cc in absurd (omega arith)
same-entry (holds v) (holds w) h = ap holds (same_true v w h)

-- ── Names ──

-- a name that is not there differs from every name that is
pub among-other : (n m : List ℕ) (ns : List (List ℕ)) → among n ns ≡ false → among m ns ≡ true → same n m ≡ false
among-other n m ns p q = go (same n m) refl
  where
    go : (b : Bool) → same n m ≡ b → b ≡ false
    go true e = let s : n ≡ m = same_true n m e in cc
    go false e = refl

pub same-sym : (n m : List ℕ) → same n m ≡ false → same m n ≡ false
same-sym n m h = go (same m n) refl
  where
    go : (b : Bool) → same m n ≡ b → b ≡ false
    go true e = let s : m ≡ n = same_true m n e in cc
    go false e = refl

-- the name of change i is among the names
pub among-at : (cs : List Change) (i : ℕ) → i < length cs → among (get_or cs i no_change).name (change_names cs) ≡ true
unfolding among change_names
among-at [] i h = absurd (omega arith)
among-at (c ∷ cs) zero h = rw same_refl
among-at (c ∷ cs) (suc i) h = or_right (same (get_or cs i no_change).name c.name) _ (among-at cs i (omega arith))

-- ── One tag ──

look_up-past : (n m : List ℕ) (e : Entry) (ts : List Tag) → same n m ≡ false → look_up n (tag_with m e ++ ts) ≡ look_up n ts
unfolding look_up tag_with
look_up-past n m absent ts d = refl
look_up-past n m (holds v) ts d = rw d

among-past : (n m : List ℕ) (e : Entry) (ts : List Tag) → same n m ≡ false → among n (tag_names (tag_with m e ++ ts)) ≡ among n (tag_names ts)
unfolding among tag_names tag_with
among-past n m absent ts d = refl
among-past n m (holds v) ts d = rw d

-- what is not among the names is absent
look_up-absent : (n : List ℕ) (ts : List Tag) → among n (tag_names ts) ≡ false → look_up n ts ≡ absent
unfolding look_up among tag_names
look_up-absent n [] h = refl
look_up-absent n (t ∷ ts) h =
    let o = or-false (same n t.name) (among n (tag_names ts)) h in
    cond-false (same n t.name) (holds t.value) (look_up n ts) o.0 ∙ look_up-absent n ts o.1

-- a new tag is put in only where the table has none of its name
new-step : (ts : List Tag) (c : Change) (cs : List Change) → new_tags ts (c ∷ cs) ≡ tag_with c.name (cond (among c.name (tag_names ts)) absent c.new) ++ new_tags ts cs
unfolding new_tags tag_with
new-step ts c cs = go (among c.name (tag_names ts))
  where
    go : (b : Bool) → cond b [] (tag_with c.name c.new) ++ new_tags ts cs ≡ tag_with c.name (cond b absent c.new) ++ new_tags ts cs
    go true = refl
    go false = refl

-- ── What the sheet says of a name ──

-- changes of distinct names: the one of a tag's name says what becomes of that tag,
new_entry-at : (cs : List Change) (i : ℕ) (t : Tag) → distinct (change_names cs) ≡ true → i < length cs → (get_or cs i no_change).name ≡ t.name → new_entry cs t ≡ (get_or cs i no_change).new
unfolding new_entry distinct change_names
new_entry-at [] i t d h e = absurd (omega arith)
new_entry-at (c ∷ cs) zero t d h e = cond-true (same c.name t.name) c.new (new_entry cs t) (rw e (same_refl t.name))
new_entry-at (c ∷ cs) (suc i) t d h e =
    let b = both_true (not (among c.name (change_names cs))) (distinct (change_names cs)) d in
    let o : same c.name (get_or cs i no_change).name ≡ false = among-other c.name (get_or cs i no_change).name (change_names cs) (not-true _ b.0) (among-at cs i (omega arith)) in
    cond-false (same c.name t.name) c.new (new_entry cs t) (rw e at o) ∙ new_entry-at cs i t b.1 (omega arith) e

-- and where there is none the tag stays
new_entry-other : (cs : List Change) (t : Tag) → among t.name (change_names cs) ≡ false → new_entry cs t ≡ holds t.value
unfolding new_entry among change_names
new_entry-other [] t h = refl
new_entry-other (c ∷ cs) t h =
    let o = or-false (same t.name c.name) (among t.name (change_names cs)) h in
    cond-false (same c.name t.name) c.new (new_entry cs t) (same-sym t.name c.name o.0) ∙ new_entry-other cs t o.1

-- ── Looking up a name that the sheet names ──

-- what is found of a name whose tags become e, with d behind them
unfoldable found : Bool → Entry → Entry → Entry
found true (holds v) d = holds v
found true absent d = d
found false e d = d

found-again : (b : Bool) (e d : Entry) → found true e (found b e d) ≡ found true e d
unfolding found
found-again true absent d = refl
found-again true (holds v) d = refl
found-again false absent d = refl
found-again false (holds v) d = refl

found-alone : (e : Entry) → found true e absent ≡ e
unfolding found
found-alone absent = refl
found-alone (holds v) = refl

look_up-own : (n m : List ℕ) (e : Entry) (ts : List Tag) → same n m ≡ true → look_up n (tag_with m e ++ ts) ≡ found true e (look_up n ts)
unfolding look_up tag_with found
look_up-own n m absent ts d = refl
look_up-own n m (holds v) ts d = rw d

look_up-kept : (n : List ℕ) (e : Entry) (cs : List Change) (ts rest : List Tag) → ((t : Tag) → n ≡ t.name → new_entry cs t ≡ e) → look_up n (kept_tags cs ts ++ rest) ≡ found (among n (tag_names ts)) e (look_up n rest)
unfolding kept_tags among tag_names found
look_up-kept n e cs [] rest p = refl
look_up-kept n e cs (t ∷ ts) rest p = rw append_assoc (go (same n t.name) refl (look_up-kept n e cs ts rest p))
  where
    go : (b : Bool) → same n t.name ≡ b → look_up n (kept_tags cs ts ++ rest) ≡ found (among n (tag_names ts)) e (look_up n rest) → look_up n (tag_with t.name (new_entry cs t) ++ (kept_tags cs ts ++ rest)) ≡ found (b || among n (tag_names ts)) e (look_up n rest)
    go true s i = look_up-own n t.name (new_entry cs t) _ s ∙ rw (p t (same_true n t.name s), i) (found-again (among n (tag_names ts)) e (look_up n rest))
    go false s i = look_up-past n t.name (new_entry cs t) _ s ∙ i

-- the new tags have no name that the table has,
new-old : (n : List ℕ) (ts : List Tag) (cs : List Change) → among n (tag_names ts) ≡ true → among n (tag_names (new_tags ts cs)) ≡ false
unfolding new_tags among tag_names
new-old n ts [] h = refl
new-old n ts (c ∷ cs) h = go (among c.name (tag_names ts)) refl (new-old n ts cs h)
  where
    go : (b : Bool) → among c.name (tag_names ts) ≡ b → among n (tag_names (new_tags ts cs)) ≡ false → among n (tag_names (cond b [] (tag_with c.name c.new) ++ new_tags ts cs)) ≡ false
    go true e i = i
    go false e i = among-past n c.name c.new (new_tags ts cs) (same-sym c.name n (among-other c.name n (tag_names ts) e h)) ∙ i

-- and none that the sheet does not name
new-other : (n : List ℕ) (ts : List Tag) (cs : List Change) → among n (change_names cs) ≡ false → among n (tag_names (new_tags ts cs)) ≡ false
unfolding new_tags among tag_names change_names
new-other n ts [] h = refl
new-other n ts (c ∷ cs) h =
    let o = or-false (same n c.name) (among n (change_names cs)) h in
    rw (new-step ts c cs) (among-past n c.name _ (new_tags ts cs) o.0 ∙ new-other n ts cs o.1)

look_up-new : (ts : List Tag) (cs : List Change) (i : ℕ) → distinct (change_names cs) ≡ true → i < length cs → among (get_or cs i no_change).name (tag_names ts) ≡ false → look_up (get_or cs i no_change).name (new_tags ts cs) ≡ (get_or cs i no_change).new
unfolding distinct change_names
look_up-new ts [] i d h o = absurd (omega arith)
look_up-new ts (c ∷ cs) zero d h o =
    let b = both_true (not (among c.name (change_names cs))) (distinct (change_names cs)) d in
    rw (new-step ts c cs, o) (look_up-own c.name c.name c.new (new_tags ts cs) (same_refl c.name) ∙ rw (look_up-absent c.name (new_tags ts cs) (new-other c.name ts cs (not-true _ b.0))) (found-alone c.new))
look_up-new ts (c ∷ cs) (suc i) d h o =
    let b = both_true (not (among c.name (change_names cs))) (distinct (change_names cs)) d in
    let n = (get_or cs i no_change).name in
    rw (new-step ts c cs) (look_up-past n c.name _ (new_tags ts cs) (same-sym c.name n (among-other c.name n (change_names cs) (not-true _ b.0) (among-at cs i (omega arith)))) ∙ look_up-new ts cs i b.1 (omega arith) o)

-- Each tag that the sheet names is what it says.
pub applied-named : (cs : List Change) (ts : List Tag) (i : ℕ) → distinct (change_names cs) ≡ true → i < length cs → look_up (get_or cs i no_change).name (applied cs ts) ≡ (get_or cs i no_change).new
unfolding applied found
applied-named cs ts i d h = look_up-kept n (get_or cs i no_change).new cs ts (new_tags ts cs) (λ t e. new_entry-at cs i t d h e) ∙ go (among n (tag_names ts)) refl
  where
    n : List ℕ
    n = (get_or cs i no_change).name

    go : (b : Bool) → among n (tag_names ts) ≡ b → found b (get_or cs i no_change).new (look_up n (new_tags ts cs)) ≡ (get_or cs i no_change).new
    go true e = rw (look_up-absent n (new_tags ts cs) (new-old n ts cs e)) (found-alone (get_or cs i no_change).new)
    go false e = look_up-new ts cs i d h e

-- ── The tags that the sheet does not name ──

unnamed-append : (cs : List Change) (xs ys : List Tag) → unnamed cs (xs ++ ys) ≡ unnamed cs xs ++ unnamed cs ys
unfolding unnamed
unnamed-append cs [] ys = refl
unnamed-append cs (x ∷ xs) ys = go (among x.name (change_names cs)) (unnamed-append cs xs ys)
  where
    go : (b : Bool) → unnamed cs (xs ++ ys) ≡ unnamed cs xs ++ unnamed cs ys → cond b (unnamed cs (xs ++ ys)) (x ∷ unnamed cs (xs ++ ys)) ≡ cond b (unnamed cs xs) (x ∷ unnamed cs xs) ++ unnamed cs ys
    go true i = i
    go false i = ap (λ (l : List Tag). x ∷ l) i

-- a tag of a name that the sheet names
unnamed-named : (cs : List Change) (n : List ℕ) (e : Entry) → among n (change_names cs) ≡ true → unnamed cs (tag_with n e) ≡ []
unfolding unnamed tag_with
unnamed-named cs n absent h = refl
unnamed-named cs n (holds v) h = rw h

unnamed-kept : (cs : List Change) (ts : List Tag) → unnamed cs (kept_tags cs ts) ≡ unnamed cs ts
unfolding unnamed kept_tags tag_with
unnamed-kept cs [] = refl
unnamed-kept cs (t ∷ ts) = unnamed-append cs (tag_with t.name (new_entry cs t)) (kept_tags cs ts) ∙ go (among t.name (change_names cs)) refl (unnamed-kept cs ts)
  where
    go : (b : Bool) → among t.name (change_names cs) ≡ b → unnamed cs (kept_tags cs ts) ≡ unnamed cs ts → unnamed cs (tag_with t.name (new_entry cs t)) ++ unnamed cs (kept_tags cs ts) ≡ cond b (unnamed cs ts) (t ∷ unnamed cs ts)
    go true e i = rw (unnamed-named cs t.name (new_entry cs t) e, i)
    go false e i = rw (new_entry-other cs t e, i, e)

-- all the new tags have names of the sheet
unnamed-new : (cs : List Change) (ts : List Tag) (ds : List Change) → ((i : ℕ) → i < length ds → among (get_or ds i no_change).name (change_names cs) ≡ true) → unnamed cs (new_tags ts ds) ≡ []
unfolding unnamed new_tags
unnamed-new cs ts [] p = refl
unnamed-new cs ts (d ∷ ds) p =
    rw (new-step ts d ds) (unnamed-append cs (tag_with d.name _) (new_tags ts ds) ∙ rw (unnamed-named cs d.name _ (p 0 (omega arith)), unnamed-new cs ts ds (λ i h. p (suc i) (omega arith))))

-- No other tag changes, in value or in order.
pub applied-others : (cs : List Change) (ts : List Tag) → unnamed cs (applied cs ts) ≡ unnamed cs ts
unfolding applied
applied-others cs ts = unnamed-append cs (kept_tags cs ts) (new_tags ts cs) ∙ rw (unnamed-kept cs ts, unnamed-new cs ts cs (among-at cs)) (append-nil (unnamed cs ts))

-- ── The order of the names ──

-- those that pass a test, in their order
unfoldable pub those : {A : Type 0} → (A → Bool) → List A → List A
those ok [] = []
those ok (x ∷ xs) = cond (ok x) (x ∷ those ok xs) (those ok xs)

unfoldable pub is_absent : Entry → Bool
is_absent absent = true
is_absent (holds v) = false

-- whether the sheet's change of a name removes it
unfoldable pub removes : List Change → List ℕ → Bool
removes [] n = false
removes (c ∷ cs) n = cond (same c.name n) (is_absent c.new) (removes cs n)

-- whether a change gives a value to a name that the table has not
unfoldable pub brings : List Tag → Change → Bool
brings ts c = not (among c.name (tag_names ts)) && not (is_absent c.new)

-- a tag is removed where the sheet makes it absent
removes-is : (cs : List Change) (t : Tag) → is_absent (new_entry cs t) ≡ removes cs t.name
unfolding new_entry removes is_absent
removes-is [] t = refl
removes-is (c ∷ cs) t = go (same c.name t.name) (removes-is cs t)
  where
    go : (b : Bool) → is_absent (new_entry cs t) ≡ removes cs t.name → is_absent (cond b c.new (new_entry cs t)) ≡ cond b (is_absent c.new) (removes cs t.name)
    go true i = refl
    go false i = i

-- the names with one tag more, or none
names-with : (n : List ℕ) (e : Entry) (ts : List Tag) → tag_names (tag_with n e ++ ts) ≡ cond (not (is_absent e)) (n ∷ tag_names ts) (tag_names ts)
unfolding tag_names tag_with is_absent
names-with n absent ts = refl
names-with n (holds v) ts = refl

-- the kept tags' names, and those behind them
names-kept : (cs : List Change) (ts rest : List Tag) → tag_names (kept_tags cs ts ++ rest) ≡ those (λ n. not (removes cs n)) (tag_names ts) ++ tag_names rest
unfolding kept_tags tag_names those
names-kept cs [] rest = refl
names-kept cs (t ∷ ts) rest =
    rw (append_assoc (tag_with t.name (new_entry cs t)) (kept_tags cs ts) rest) (names-with t.name (new_entry cs t) (kept_tags cs ts ++ rest)
    ∙ rw (removes-is cs t) (go (not (removes cs t.name)) (names-kept cs ts rest)))
  where
    olds : List (List ℕ)
    olds = those (λ n. not (removes cs n)) (tag_names ts)

    go : (b : Bool) → tag_names (kept_tags cs ts ++ rest) ≡ olds ++ tag_names rest → cond b (t.name ∷ tag_names (kept_tags cs ts ++ rest)) (tag_names (kept_tags cs ts ++ rest)) ≡ cond b (t.name ∷ olds) olds ++ tag_names rest
    go true i = ap (λ (l : List (List ℕ)). t.name ∷ l) i
    go false i = i

-- the new tags' names
names-new : (ts : List Tag) (cs : List Change) → tag_names (new_tags ts cs) ≡ change_names (those (brings ts) cs)
unfolding new_tags tag_names change_names those brings
names-new ts [] = refl
names-new ts (c ∷ cs) = go (among c.name (tag_names ts)) (names-new ts cs)
  where
    has : (b : Bool) → tag_names (new_tags ts cs) ≡ change_names (those (brings ts) cs) → cond b (c.name ∷ tag_names (new_tags ts cs)) (tag_names (new_tags ts cs)) ≡ change_names (cond b (c ∷ those (brings ts) cs) (those (brings ts) cs))
    has true i = ap (λ (l : List (List ℕ)). c.name ∷ l) i
    has false i = i

    go : (b : Bool) → tag_names (new_tags ts cs) ≡ change_names (those (brings ts) cs) → tag_names (cond b [] (tag_with c.name c.new) ++ new_tags ts cs) ≡ change_names (cond (not b && not (is_absent c.new)) (c ∷ those (brings ts) cs) (those (brings ts) cs))
    go true i = i
    go false i = names-with c.name c.new (new_tags ts cs) ∙ has (not (is_absent c.new)) i

-- The names of the new table: the old ones that stay, in their order, then the new ones, in sheet order.
pub applied-names : (cs : List Change) (ts : List Tag) → tag_names (applied cs ts) ≡ those (λ n. not (removes cs n)) (tag_names ts) ++ change_names (those (brings ts) cs)
unfolding applied
applied-names cs ts = names-kept cs ts (new_tags ts cs) ∙ rw (names-new ts cs)

-- A sheet of no changes leaves the table as it is.
pub applied-none : (ts : List Tag) → applied {S = Entry} [] ts ≡ ts
unfolding applied kept_tags new_tags new_entry tag_with
applied-none [] = refl
applied-none (t ∷ ts) = ap (λ (l : List Tag). t ∷ l) (applied-none ts)

-- ── A legal table stays legal ──

-- a change that a sheet may hold
unfoldable pub legal_entry : Entry → Bool
legal_entry absent = true
legal_entry (holds v) = legal_tag_value v

unfoldable pub legal_change : Change → Bool
legal_change c = legal_tag_name c.name && legal_entry c.new

legal-with : (n : List ℕ) (e : Entry) (ts : List Tag) → legal_tag_name n ≡ true → legal_entry e ≡ true → every legal_tag ts ≡ true → every legal_tag (tag_with n e ++ ts) ≡ true
unfolding every legal_tag legal_entry tag_with
legal-with n absent ts p q h = h
legal-with n (holds v) ts p q h = and-true _ _ (and-true _ _ p q) h

new_entry-legal : (cs : List Change) (t : Tag) → every legal_change cs ≡ true → legal_tag_value t.value ≡ true → legal_entry (new_entry cs t) ≡ true
unfolding new_entry every legal_change legal_entry
new_entry-legal [] t h v = v
new_entry-legal (c ∷ cs) t h v = go (same c.name t.name) (new_entry-legal cs t b.1 v)
  where
    b : (legal_change c ≡ true) × (every legal_change cs ≡ true)
    b = both_true (legal_change c) (every legal_change cs) h

    go : (s : Bool) → legal_entry (new_entry cs t) ≡ true → legal_entry (cond s c.new (new_entry cs t)) ≡ true
    go true i = (both_true (legal_tag_name c.name) (legal_entry c.new) b.0).1
    go false i = i

kept-legal : (cs : List Change) (ts rest : List Tag) → every legal_change cs ≡ true → every legal_tag ts ≡ true → every legal_tag rest ≡ true → every legal_tag (kept_tags cs ts ++ rest) ≡ true
unfolding kept_tags every legal_tag
kept-legal cs [] rest p h r = r
kept-legal cs (t ∷ ts) rest p h r =
    let b = both_true (legal_tag_name t.name && legal_tag_value t.value) (every legal_tag ts) h in
    let l = both_true (legal_tag_name t.name) (legal_tag_value t.value) b.0 in
    rw append_assoc (legal-with t.name (new_entry cs t) (kept_tags cs ts ++ rest) l.0 (new_entry-legal cs t p l.1) (kept-legal cs ts rest p b.1 r))

new-legal : (ts : List Tag) (cs : List Change) → every legal_change cs ≡ true → every legal_tag (new_tags ts cs) ≡ true
unfolding new_tags every legal_change legal_entry
new-legal ts [] p = refl
new-legal ts (c ∷ cs) p = rw (new-step ts c cs) (legal-with c.name _ (new_tags ts cs) l.0 (go (among c.name (tag_names ts))) (new-legal ts cs b.1))
  where
    b : (legal_change c ≡ true) × (every legal_change cs ≡ true)
    b = both_true (legal_change c) (every legal_change cs) p

    l : (legal_tag_name c.name ≡ true) × (legal_entry c.new ≡ true)
    l = both_true (legal_tag_name c.name) (legal_entry c.new) b.0

    go : (s : Bool) → legal_entry (cond s absent c.new) ≡ true
    go true = refl
    go false = l.1

-- one more tag, of a name that the table does not have
distinct-with : (n : List ℕ) (e : Entry) (ts : List Tag) → among n (tag_names ts) ≡ false → distinct (tag_names ts) ≡ true → distinct (tag_names (tag_with n e ++ ts)) ≡ true
unfolding distinct tag_names tag_with
distinct-with n absent ts p h = h
distinct-with n (holds v) ts p h = rw p h

-- the kept tags have no name that the table does not have
kept-other : (n : List ℕ) (cs : List Change) (ts rest : List Tag) → among n (tag_names ts) ≡ false → among n (tag_names rest) ≡ false → among n (tag_names (kept_tags cs ts ++ rest)) ≡ false
unfolding kept_tags among tag_names
kept-other n cs [] rest p r = r
kept-other n cs (t ∷ ts) rest p r =
    let o = or-false (same n t.name) (among n (tag_names ts)) p in
    rw append_assoc (among-past n t.name (new_entry cs t) (kept_tags cs ts ++ rest) o.0 ∙ kept-other n cs ts rest o.1 r)

kept-distinct : (cs : List Change) (ts rest : List Tag) → distinct (tag_names ts) ≡ true → distinct (tag_names rest) ≡ true → ((n : List ℕ) → among n (tag_names ts) ≡ true → among n (tag_names rest) ≡ false) → distinct (tag_names (kept_tags cs ts ++ rest)) ≡ true
unfolding kept_tags distinct among tag_names
kept-distinct cs [] rest d r p = r
kept-distinct cs (t ∷ ts) rest d r p =
    let b = both_true (not (among t.name (tag_names ts))) (distinct (tag_names ts)) d in
    let o : among t.name (tag_names rest) ≡ false = p t.name (rw same_refl) in
    rw append_assoc
    (distinct-with t.name (new_entry cs t) (kept_tags cs ts ++ rest)
    (kept-other t.name cs ts rest (not-true _ b.0) o)
    (kept-distinct cs ts rest b.1 r (λ n h. p n (or_right (same n t.name) _ h))))

new-distinct : (ts : List Tag) (cs : List Change) → distinct (change_names cs) ≡ true → distinct (tag_names (new_tags ts cs)) ≡ true
unfolding new_tags distinct change_names tag_names
new-distinct ts [] d = refl
new-distinct ts (c ∷ cs) d =
    let b = both_true (not (among c.name (change_names cs))) (distinct (change_names cs)) d in
    rw (new-step ts c cs) (distinct-with c.name _ (new_tags ts cs) (new-other c.name ts cs (not-true _ b.0)) (new-distinct ts cs b.1))

-- A legal table and a well-formed sheet give a legal table, where its tags are not too many.
pub applied-legal : (cs : List Change) (ts : List Tag) → every legal_change cs ≡ true → distinct (change_names cs) ≡ true → legal_table ts ≡ true → length (applied cs ts) ≤ most_tags → legal_table (applied cs ts) ≡ true
unfolding applied legal_table
applied-legal cs ts p d h few =
    let b = both_true (leb (length ts) most_tags && every legal_tag ts) (distinct (tag_names ts)) h in
    let l = both_true (leb (length ts) most_tags) (every legal_tag ts) b.0 in
    and-true _ _
    (and-true _ _ (le-leb _ _ few) (kept-legal cs ts (new_tags ts cs) p l.1 (new-legal ts cs p)))
    (kept-distinct cs ts (new_tags ts cs) b.1 (new-distinct ts cs d) (λ n e. new-old n ts cs e))
