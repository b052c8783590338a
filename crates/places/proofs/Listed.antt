-- The list of the tags that changes name: word by word, and that in a table without equal names it has three words at most for each change.
-- Assumes nothing.
use Rattle.std.specs.Prelude.{Option, Some, None, is_some}
use Prim.Native.Nat.{ℕ, zero, suc, ◌+◌, ◌*◌, ◌-◌, ◌<◌, ◌≤◌}
use native.Mathlib.Omega.{arith}
use mathlib.Core.Path.{◌≡◌, refl, ap, sym, ◌∙◌}
use mathlib.Core.Bool.{Bool, true, false, cond, not, ◌||◌}
use mathlib.Core.List.{List, [], ◌∷◌, ◌++◌}
use lib.ListN.{length, drop, length-append}
use lib.Seq.{drop-drop}
use Rattle.number.proofs.Bytes.{both_true}
use Rattle.layout.specs.Recording.{same, among, distinct}
use Rattle.layout.specs.Reading.{Parsed, bad, good, times}
use Rattle.layout.proofs.Lists.{same_true}
use Rattle.parts.proofs.Times.{times-parts}
use Rattle.rows.specs.Rows.{row_name}
use Rattle.rows.specs.declared.Row.TheVariants as row
use Rattle.names.specs.declared.NameFound.{NameFound}
use Rattle.names.proofs.Laws.{among-found}
use Rattle.names.proofs.Finding.{same-sym}
use Rattle.places.specs.Places.{tag_names_at, change_names_at, change_found, Listed, listing, words_for, ahead, listed_by, listed_in, left_after, listed_to}
use Rattle.places.proofs.Finding.{names-none, no_names, names-next, false-true}

-- ── Tag by tag ──

pub list-end : (change : List ℕ → Option NameFound) (t : List ℕ) (at i : ℕ) → listed_by change 0 t at i ≡ listing [] i at
unfolding listed_by
list-end change t at i = refl

pub list-broken : (change : List ℕ → Option NameFound) (n : ℕ) (t : List ℕ) (at i : ℕ) {j : ℕ} → row_name row.Tag (drop at t) ≡ bad j
    → listed_by change (suc n) t at i ≡ listing [] i at
unfolding listed_by
list-broken change n t at i e = rw (e, listed_by)

pub list-more : (change : List ℕ → Option NameFound) (n : ℕ) (t : List ℕ) (at i : ℕ) (v : List ℕ) (m : ℕ) → row_name row.Tag (drop at t) ≡ good v m
    → listed_by change (suc n) t at i ≡ ahead (words_for (change v) i at) (listed_by change n t (at + m) (i + 1))
unfolding listed_by
list-more change n t at i v m e = rw (e, listed_by)

-- where n tags were read, they are all whole, and end there
pub list_read : (change : List ℕ → Option NameFound) (n : ℕ) (t : List ℕ) (at i : ℕ) (vs : List (List ℕ)) (m : ℕ)
    → times n (row_name row.Tag) (drop at t) ≡ good vs m → ((listed_by change n t at i).tags ≡ i + n) × ((listed_by change n t at i).end ≡ at + m)
unfolding ahead times
list_read change zero t at i vs m e =
    let a : ◌≡◌ {A = ℕ} 0 m = cc in
    rw (list-end change t at i) (omega arith, omega arith)
list_read change (suc n) t at i vs m e =
    times-parts (row_name row.Tag) n (drop at t) vs m e (λ v j us k f g h o.
    let (a, b) = list_read change n t (at + j) (i + 1) us k (rw (← drop-drop j at t) g) in
    rw (list-more change n t at i v j f) (omega arith, omega arith))

-- ── No more than there are changes ──

-- how many names are among others
unfoldable shared : (others ns : List (List ℕ)) → ℕ
shared cs [] = 0
shared cs (v ∷ ns) = cond (among v cs) 1 0 + shared cs ns

shared-none : (ns : List (List ℕ)) → shared [] ns ≡ 0
unfolding shared among
shared-none [] = refl
shared-none (v ∷ ns) = let a = shared-none ns in omega arith

shared-more : (c : List ℕ) (cs ns : List (List ℕ)) → shared (c ∷ cs) ns ≤ shared (c ∷ []) ns + shared cs ns
unfolding shared among
shared-more c cs [] = omega arith
shared-more c cs (v ∷ ns) = go (same v c) (among v cs) (shared-more c cs ns)
  where
    go : (a b : Bool) → shared (c ∷ cs) ns ≤ shared (c ∷ []) ns + shared cs ns
        → cond (a || b) 1 0 + shared (c ∷ cs) ns ≤ cond (a || false) 1 0 + shared (c ∷ []) ns + (cond b 1 0 + shared cs ns)
    go true true ih = omega arith
    go true false ih = omega arith
    go false true ih = omega arith
    go false false ih = omega arith

shared-absent : (c : List ℕ) (ns : List (List ℕ)) → among c ns ≡ false → shared (c ∷ []) ns ≡ 0
unfolding shared among
shared-absent c [] h = refl
shared-absent c (v ∷ ns) h = go (same c v) refl h (shared-absent c ns)
  where
    go : (a : Bool) → same c v ≡ a → (a || among c ns) ≡ false → (among c ns ≡ false → shared (c ∷ []) ns ≡ 0)
        → cond (same v c || false) 1 0 + shared (c ∷ []) ns ≡ 0
    go true e h ih = absurd (false-true (sym h))
    go false e h ih = let a = ih h in rw (same-sym v c, e) (omega arith)

shared-one : (c : List ℕ) (ns : List (List ℕ)) → distinct ns ≡ true → shared (c ∷ []) ns ≤ 1
unfolding shared among distinct
shared-one c [] d = omega arith
shared-one c (v ∷ ns) d = go (same v c) refl (both_true (not (among v ns)) (distinct ns) d) (shared-one c ns)
  where
    not-true : (x : Bool) → not x ≡ true → x ≡ false
    not-true true q = absurd (false-true q)
    not-true false q = refl

    go : (a : Bool) → same v c ≡ a → (not (among v ns) ≡ true) × (distinct ns ≡ true) → (distinct ns ≡ true → shared (c ∷ []) ns ≤ 1)
        → cond (a || false) 1 0 + shared (c ∷ []) ns ≤ 1
    go true e (x, y) ih =
        let a : shared (c ∷ []) ns ≡ 0 = rw (← same_true v c e) (shared-absent v ns (not-true (among v ns) x)) in
        omega arith
    go false e (x, y) ih = let a = ih y in omega arith

shared-few : (cs ns : List (List ℕ)) → distinct ns ≡ true → shared cs ns ≤ length cs
shared-few [] ns d = let a = shared-none ns in omega arith
shared-few (c ∷ cs) ns d =
    let a = shared-more c cs ns in
    let b = shared-one c ns d in
    let e = shared-few cs ns d in
    omega arith

words-length : (f : Option NameFound) (i tag : ℕ) → length (words_for f i tag) ≡ 3 * cond (is_some f) 1 0
unfolding words_for
words-length (Some f) i tag = refl
words-length None i tag = refl

list-shared : (sheet : List ℕ) (k n : ℕ) (t : List ℕ) (at i : ℕ)
    → length (listed_by (change_found sheet k) n t at i).words ≡ 3 * shared (change_names_at sheet k) (tag_names_at t at n)
unfolding ahead shared
list-shared sheet k zero t at i = rw (list-end (change_found sheet k) t at i, no_names (row_name row.Tag) (drop at t))
list-shared sheet k (suc n) t at i = go (row_name row.Tag (drop at t)) refl (list-shared sheet k n t)
  where
    go : (r : Parsed (List ℕ)) → row_name row.Tag (drop at t) ≡ r
        → ((at i : ℕ) → length (listed_by (change_found sheet k) n t at i).words ≡ 3 * shared (change_names_at sheet k) (tag_names_at t at n))
        → length (listed_by (change_found sheet k) (suc n) t at i).words ≡ 3 * shared (change_names_at sheet k) (tag_names_at t at (suc n))
    go (bad j) e ih = rw (list-broken (change_found sheet k) n t at i e, names-none n (row_name row.Tag) (drop at t) e)
    go (good v m) e ih =
        let a = ih (at + m) (i + 1) in
        let b = words-length (change_found sheet k v) i at in
        let c = length-append (words_for (change_found sheet k v) i at) (listed_by (change_found sheet k) n t (at + m) (i + 1)).words in
        rw (
          list-more (change_found sheet k) n t at i v m e,
          names-next n (row_name row.Tag) t at v m e,
          among-found v k (row_name row.Change) sheet 0 1,
        ) (omega arith)

pub list-few : (sheet : List ℕ) (k n : ℕ) (t : List ℕ) (at : ℕ) → distinct (tag_names_at t at n) ≡ true
    → length (listed_in t at n sheet k).words ≤ 3 * length (change_names_at sheet k)
list-few sheet k n t at d =
    let a = list-shared sheet k n t at 0 in
    let b = shared-few (change_names_at sheet k) (tag_names_at t at n) d in
    omega arith

-- ── Up to as many as there are changes ──

pub to_end : (change : List ℕ → Option NameFound) (k : ℕ) (t : List ℕ) (at i : ℕ) → listed_to change k 0 t at i ≡ []
unfolding listed_to
to_end change k t at i = refl

pub to-all : (change : List ℕ → Option NameFound) (n : ℕ) (t : List ℕ) (at i : ℕ) → listed_to change 0 n t at i ≡ []
unfolding listed_to
to-all change zero t at i = refl
to-all change (suc n) t at i = refl

pub to-broken : (change : List ℕ → Option NameFound) (k n : ℕ) (t : List ℕ) (at i : ℕ) {j : ℕ} → row_name row.Tag (drop at t) ≡ bad j
    → listed_to change k n t at i ≡ []
unfolding listed_to
to-broken change k zero t at i e = refl
to-broken change zero (suc n) t at i e = refl
to-broken change (suc k) (suc n) t at i e = rw (e, listed_to)

pub to-more : (change : List ℕ → Option NameFound) (k n : ℕ) (t : List ℕ) (at i : ℕ) (v : List ℕ) (m : ℕ) → row_name row.Tag (drop at t) ≡ good v m
    → listed_to change (suc k) (suc n) t at i ≡ words_for (change v) i at ++ listed_to change (left_after (change v) (suc k)) n t (at + m) (i + 1)
unfolding listed_to
to-more change k n t at i v m e = rw (e, listed_to)

-- three words for each change that finds its tag
pub after-words : (f : Option NameFound) (i tag k : ℕ) → 0 < k → length (words_for f i tag) + 3 * left_after f k ≡ 3 * k
unfolding words_for left_after
after-words (Some f) i tag k h = omega arith
after-words None i tag k h = omega arith

no_words : (l : List ℕ) → length l ≤ 0 → [] ≡ l
no_words [] h = refl
no_words (x ∷ l) h = absurd (omega arith)

-- where there are no more of them, these are all
pub to_whole : (change : List ℕ → Option NameFound) (n k : ℕ) (t : List ℕ) (at i : ℕ) → length (listed_by change n t at i).words ≤ 3 * k
    → listed_to change k n t at i ≡ (listed_by change n t at i).words
unfolding ahead words_for left_after
to_whole change zero k t at i h = to_end change k t at i ∙ sym (ap (λ (z : Listed). z.words) (list-end change t at i))
to_whole change (suc n) zero t at i h = to-all change (suc n) t at i ∙ no_words _ (omega arith)
to_whole change (suc n) (suc k) t at i h = go (row_name row.Tag (drop at t)) refl (to_whole change n)
  where
    go : (r : Parsed (List ℕ)) → row_name row.Tag (drop at t) ≡ r
        → ((k : ℕ) (t : List ℕ) (at i : ℕ) → length (listed_by change n t at i).words ≤ 3 * k → listed_to change k n t at i ≡ (listed_by change n t at i).words)
        → listed_to change (suc k) (suc n) t at i ≡ (listed_by change (suc n) t at i).words
    go (bad j) e ih = to-broken change (suc k) (suc n) t at i e ∙ sym (ap (λ (z : Listed). z.words) (list-broken change n t at i e))
    go (good v m) e ih =
        to-more change k n t at i v m e ∙ pick (change v) (rw (list-more change n t at i v m e) at h)
        ∙ sym (ap (λ (z : Listed). z.words) (list-more change n t at i v m e))
      where
        pick : (f : Option NameFound) → length (ahead (words_for f i at) (listed_by change n t (at + m) (i + 1))).words ≤ 3 * suc k
            → words_for f i at ++ listed_to change (left_after f (suc k)) n t (at + m) (i + 1) ≡ (ahead (words_for f i at)
            (listed_by change n t (at + m) (i + 1))).words
        pick None l = ih (suc k) t (at + m) (i + 1) l
        pick (Some f) l =
            let j : suc k - 1 ≡ k = omega arith in
            rw j (ap (λ (z : List ℕ). i ∷ at ∷ f.place ∷ z) (ih k t (at + m) (i + 1) (omega arith)))
