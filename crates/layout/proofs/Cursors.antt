-- The cursor and the browser are one: moved k times from the first tag, the cursor shows what the browser gives for number k, over any bytes.
-- Assumes nothing.
use Prim.Native.Nat.{ℕ, zero, suc, ◌+◌, ◌-◌, ◌<◌, ◌≤◌}
use native.Mathlib.Omega.{arith}
use mathlib.Core.Path.{◌≡◌, refl, ap, sym, ◌∙◌}
use mathlib.Core.Bool.{Bool, true, false, cond}
use mathlib.Core.List.{List, [], ◌∷◌, ◌++◌, flat_map}
use lib.ListN.{length, take, drop, get_or, length-append}
use lib.Seq.{drop-drop, length-take-le}
use lib.Dec.{ltb}
use borrow.Author.Tests.{ltb-true, ltb-false}
use Rattle.number.specs.Number.{number_of}
use Rattle.layout.specs.Recording.{Tag, short_string, tag_bytes, most_tags, within, distinct, tag_names, legal_tag_name, legal_tag_value}
use Rattle.layout.specs.Reading.{Parsed, bad, good, give, ◌then◌, only, times, exactly, number, block, string, tag_name, tag_value, number_of_tags, table_fault, table}
use Rattle.layout.specs.Reading as read
use Rattle.layout.specs.Items.{no_tag, name_start, value_start}
use Rattle.layout.specs.Browser.{Browsed, tag_at, browse}
use Rattle.layout.specs.Browser as browser
use Rattle.layout.specs.Cursor.{Cursor, at, end, refused, stands_at, first_tag, next_tag}
use Rattle.layout.proofs.Readers.{onward-good, cond-good, then-good, number-good, block-good, times-suc-good, exactly-good, placed-good}

-- ── What is said ──

-- what a cursor shows: the browser's answer
unfoldable pub shows : Cursor → Browsed
shows (at name value left) = browser.tag name value
shows end = browser.end
shows (refused n p) = browser.refused n p

-- the cursor moved k times
unfoldable pub moved : (bytes : List ℕ) → (k : ℕ) → Cursor → Cursor
moved bytes zero c = c
moved bytes (suc k) c = moved bytes k (next_tag bytes c)

moved-end : (bytes : List ℕ) (k : ℕ) → moved bytes k end ≡ end
unfolding moved next_tag
moved-end bytes zero = refl
moved-end bytes (suc k) = moved-end bytes k

moved-refused : (bytes : List ℕ) (k n p : ℕ) → moved bytes k (refused n p) ≡ refused n p
unfolding moved next_tag
moved-refused bytes zero n p = refl
moved-refused bytes (suc k) n p = moved-refused bytes k n p

-- ── How many bytes a tag takes ──

only-good : {A : Type 0} (ok : A → Bool) (p : read.Reader A) (s : List ℕ) (x : A) (n : ℕ) → only ok p s ≡ good x n → p s ≡ good x n
unfolding only
only-good {A} ok p s x n e = outer (onward-good (p s) (λ a m. cond (ok a) (good a m) (bad 0)) x n e)
  where
    inner : (a : A) (m : ℕ) → p s ≡ good a m → ((ok a ≡ true) × (a ≡ x) × (m ≡ n)) → p s ≡ good x n
    inner a m f (t, g, h) = cc

    outer : ((a : A) × (m : ℕ) × (p s ≡ good a m) × (cond (ok a) (good a m) (bad 0) ≡ good x n)) → p s ≡ good x n
    outer (a, m, f, g) = inner a m f (cond-good 0 (ok a) a x m n g)

string-taken : (s v : List ℕ) (n : ℕ) → string s ≡ good v n → n ≡ 1 + length v
unfolding string
string-taken s v n e = outer (then-good (number 1) block s v n (placed-good length (number 1 then block) s v n e))
  where
    inner : (a m k : ℕ) → n ≡ m + k → ((1 ≤ length s) × (number_of (take 1 s) ≡ a) × (1 ≡ m)) → ((a ≤ length (drop m s)) × (take a (drop m s) ≡ v) × (a ≡ k)) → n ≡ 1 + length v
    inner a m k h (l, i, j) (o, p, q) =
        let r : length v ≡ a = ap length (sym p) ∙ length-take-le a (drop m s) o in
        omega arith

    outer : ((a : ℕ) × (m : ℕ) × (k : ℕ) × (number 1 s ≡ good a m) × (block a (drop m s) ≡ good v k) × (n ≡ m + k)) → n ≡ 1 + length v
    outer (a, m, k, f, g, h) = inner a m k h (number-good 1 s a m f) (block-good a (drop m s) v k g)

-- one byte and the name, one byte and the value
tag-taken : (s : List ℕ) (t : Tag) (n : ℕ) → read.tag s ≡ good t n → n ≡ 1 + length t.name + 1 + length t.value
unfolding read.tag tag_name tag_value give
tag-taken s t n e = name (then-good tag_name (λ a. tag_value then λ v. give (record { name = a; value = v })) s t n e)
  where
    value : (a : List ℕ) (m k : ℕ) → m ≡ 1 + length a → n ≡ m + k → ((v : List ℕ) × (i : ℕ) × (j : ℕ) × (tag_value (drop m s) ≡ good v i) × (give (record { name = a; value = v }) (drop i (drop m s)) ≡ good t j) × (k ≡ i + j)) → n ≡ 1 + length t.name + 1 + length t.value
    value a m k h l (v, i, j, o, p, q) =
        let y : i ≡ 1 + length v = string-taken (drop m s) v i (only-good legal_tag_value string (drop m s) v i (placed-good _ (only legal_tag_value string) (drop m s) v i o)) in
        let z : 0 ≡ j = cc in
        let w : record { name = a; value = v } ≡ t = cc in
        let x : length a ≡ length t.name = ap (λ (t : Tag). length t.name) w in
        let u : length v ≡ length t.value = ap (λ (t : Tag). length t.value) w in
        omega arith

    name : ((a : List ℕ) × (m : ℕ) × (k : ℕ) × (tag_name s ≡ good a m) × ((tag_value then λ v. give (record { name = a; value = v })) (drop m s) ≡ good t k) × (n ≡ m + k)) → n ≡ 1 + length t.name + 1 + length t.value
    name (a, m, k, f, g, h) =
        value a m k (string-taken s a m (only-good legal_tag_name string s a m (placed-good _ (only legal_tag_name string) s a m f))) h (then-good tag_value (λ v. give (record { name = a; value = v })) (drop m s) t k g)

-- ── Where a cursor stands ──

pub stands-none : (bytes : List ℕ) (place : ℕ) → stands_at bytes place 0 ≡ end
unfolding stands_at
stands-none bytes place = refl

pub stands-bad : (bytes : List ℕ) (place left m : ℕ) → read.tag (drop place bytes) ≡ bad m → stands_at bytes place (suc left) ≡ end
unfolding stands_at
stands-bad bytes place left m e = rw (e, stands_at)

pub stands-tag : (bytes : List ℕ) (place left : ℕ) (t : Tag) (n : ℕ) → read.tag (drop place bytes) ≡ good t n → stands_at bytes place (suc left) ≡ at (record { start = place + 1; len = length t.name }) (record { start = place + 1 + length t.name + 1; len = length t.value }) left
unfolding stands_at
stands-tag bytes place left t n e = rw (e, stands_at)

-- ── From tag to tag ──

-- the cursor at tag k of those that stand from a place on
unfoldable tag_of : (place : ℕ) → List Tag → (k : ℕ) → Cursor
tag_of place [] k = end
tag_of place (t ∷ ts) zero = at (record { start = place + 1; len = length t.name }) (record { start = place + 1 + length t.name + 1; len = length t.value }) (length ts)
tag_of place (t ∷ ts) (suc k) = tag_of (place + length (tag_bytes t)) ts k

length-tag : (t : Tag) → length (tag_bytes t) ≡ 1 + length t.name + 1 + length t.value
unfolding tag_bytes short_string
length-tag t = rw length-append (omega arith)

moved-from : (bytes : List ℕ) (ts : List Tag) (place m k : ℕ) → times (length ts) read.tag (drop place bytes) ≡ good ts m → moved bytes k (stands_at bytes place (length ts)) ≡ tag_of place ts k
unfolding moved next_tag tag_of
moved-from bytes [] place m k e = rw (stands-none bytes place) (moved-end bytes k)
moved-from bytes (t ∷ ts) place m k e = go k (λ j k. moved-from bytes ts (place + length (tag_bytes t)) j k) (times-suc-good read.tag (length ts) (drop place bytes) (t ∷ ts) m e)
  where
    Rest : Type 0
    Rest = (j k : ℕ) → times (length ts) read.tag (drop (place + length (tag_bytes t)) bytes) ≡ good ts j → moved bytes k (stands_at bytes (place + length (tag_bytes t)) (length ts)) ≡ tag_of (place + length (tag_bytes t)) ts k

    first : (n j k : ℕ) → Rest → read.tag (drop place bytes) ≡ good t n → times (length ts) read.tag (drop n (drop place bytes)) ≡ good ts j → moved bytes k (stands_at bytes place (suc (length ts))) ≡ tag_of place (t ∷ ts) k
    first n j zero rest f g = stands-tag bytes place (length ts) t n f
    first n j (suc k) rest f g =
        let q : n ≡ 1 + length t.name + 1 + length t.value = tag-taken (drop place bytes) t n f in
        let b : place + n ≡ place + length (tag_bytes t) = omega (arith, length-tag t) in
        let a : place + 1 + length t.name + 1 + length t.value ≡ place + length (tag_bytes t) = omega (arith, length-tag t) in
        rw (stands-tag bytes place (length ts) t n f, a) (rest j k (rw (← b, ← drop-drop n place bytes) g))

    go : (k : ℕ) → Rest → ((x : Tag) × (xs : List Tag) × (n : ℕ) × (j : ℕ) × (read.tag (drop place bytes) ≡ good x n) × (times (length ts) read.tag (drop n (drop place bytes)) ≡ good xs j) × (x ∷ xs ≡ t ∷ ts) × (n + j ≡ m)) → moved bytes k (stands_at bytes place (suc (length ts))) ≡ tag_of place (t ∷ ts) k
    go k rest (x, xs, n, j, f, g, h, i) =
        let a : x ≡ t = cc in
        let b : xs ≡ ts = cc in
        first n j k rest (f ∙ ap (λ (t : Tag). good t n) a) (g ∙ ap (λ (ts : List Tag). good ts j) b)

-- it stands behind the tags ahead of it
tag-of : (place : ℕ) (ts : List Tag) (k : ℕ) → k < length ts → tag_of place ts k ≡ at (record { start = place + length (flat_map tag_bytes (take k ts)) + 1; len = length (get_or ts k no_tag).name }) (record { start = place + length (flat_map tag_bytes (take k ts)) + 1 + length (get_or ts k no_tag).name + 1; len = length (get_or ts k no_tag).value }) (length ts - k - 1)
unfolding tag_of flat_map
tag-of place [] k h = absurd (omega arith)
tag-of place (t ∷ ts) zero h =
    let a : place + 0 ≡ place = omega arith in
    let b : suc (length ts) - 0 - 1 ≡ length ts = omega arith in
    rw (a, b)
tag-of place (t ∷ ts) (suc k) h =
    let a : place + length (tag_bytes t ++ flat_map tag_bytes (take k ts)) ≡ place + length (tag_bytes t) + length (flat_map tag_bytes (take k ts)) = omega (arith, length-append (tag_bytes t) (flat_map tag_bytes (take k ts))) in
    let b : suc (length ts) - suc k - 1 ≡ length ts - k - 1 = omega arith in
    rw (a, b) (tag-of (place + length (tag_bytes t)) ts k (omega arith))

tag-past : (place : ℕ) (ts : List Tag) (k : ℕ) → length ts ≤ k → tag_of place ts k ≡ end
unfolding tag_of
tag-past place [] k h = refl
tag-past place (t ∷ ts) zero h = absurd (omega arith)
tag-past place (t ∷ ts) (suc k) h = tag-past (place + length (tag_bytes t)) ts k (omega arith)

times-length : {A : Type 0} (p : read.Reader A) (k : ℕ) (s : List ℕ) (xs : List A) (m : ℕ) → times k p s ≡ good xs m → length xs ≡ k
unfolding times
times-length p zero s xs m e = let y : [] ≡ xs = cc in rw (← y)
times-length {A} p (suc k) s ys m e = go (λ s xs m. times-length p k s xs m) (times-suc-good p k s ys m e)
  where
    go : ((s : List ℕ) (xs : List A) (m : ℕ) → times k p s ≡ good xs m → length xs ≡ k) → ((x : A) × (xs : List A) × (n : ℕ) × (j : ℕ) × (p s ≡ good x n) × (times k p (drop n s) ≡ good xs j) × (x ∷ xs ≡ ys) × (n + j ≡ m)) → length ys ≡ suc k
    go rest (x, xs, n, j, f, g, h, i) = ap length (sym h) ∙ ap suc (rest (drop n s) xs j g)

-- the tags of a table stand behind its number
tags-read : (bytes : List ℕ) (ts : List Tag) (n : ℕ) → table bytes ≡ good ts n → (m : ℕ) × (times (length ts) read.tag (drop 4 bytes) ≡ good ts m)
unfolding table number_of_tags
tags-read bytes ts n e = outer (then-good (only (within 0 most_tags) (number 4)) (λ n. times n read.tag) bytes ts n (only-good (λ ts. distinct (tag_names ts)) (only (within 0 most_tags) (number 4) then λ n. times n read.tag) bytes ts n (placed-good table_fault _ bytes ts n e)))
  where
    inner : (a m k : ℕ) → times a read.tag (drop m bytes) ≡ good ts k → ((4 ≤ length bytes) × (number_of (take 4 bytes) ≡ a) × (4 ≡ m)) → (m : ℕ) × (times (length ts) read.tag (drop 4 bytes) ≡ good ts m)
    inner a m k g (l, i, j) =
        let b : length ts ≡ a = times-length read.tag a (drop m bytes) ts k g in
        (k, rw (b, j) g)

    outer : ((a : ℕ) × (m : ℕ) × (k : ℕ) × (only (within 0 most_tags) (number 4) bytes ≡ good a m) × (times a read.tag (drop m bytes) ≡ good ts k) × (n ≡ m + k)) → (m : ℕ) × (times (length ts) read.tag (drop 4 bytes) ≡ good ts m)
    outer (a, m, k, f, g, h) = inner a m k g (number-good 4 bytes a m (only-good (within 0 most_tags) (number 4) bytes a m f))

-- ── The claims ──

-- Moved k times from the first tag, the cursor shows what the browser gives for number k, whatever the bytes.
pub cursor-browses : (bytes : List ℕ) (k : ℕ) → shows (moved bytes k (first_tag bytes)) ≡ browse bytes k
unfolding first_tag browse shows tag_at name_start value_start
cursor-browses bytes k = go (exactly table bytes) refl
  where
    at_tag : (ts : List Tag) (b : Bool) → ltb k (length ts) ≡ b → shows (tag_of 4 ts k) ≡ cond b (tag_at ts k) browser.end
    at_tag ts true h = rw (tag-of 4 ts k (ltb-true k (length ts) h))
    at_tag ts false h = rw (tag-past 4 ts k (ltb-false k (length ts) h))

    go : (p : Parsed (List Tag)) → exactly table bytes ≡ p → shows (moved bytes k (first_tag bytes)) ≡ browse bytes k
    go (bad m) e = rw (e, first_tag, browse, moved-refused bytes k 7 m)
    go (good ts n) e =
        let (m, t) = tags-read bytes ts n (exactly-good table bytes ts n e).0 in
        rw (e, first_tag, browse, moved-from bytes ts 4 m k t) (at_tag ts (ltb k (length ts)) refl)

-- Over a legal table, the cursor at tag k has the tags behind it left.
pub cursor-left : (bytes : List ℕ) (ts : List Tag) (n k : ℕ) → exactly table bytes ≡ good ts n → k < length ts → moved bytes k (first_tag bytes) ≡ at (record { start = name_start 0 ts k; len = length (get_or ts k no_tag).name }) (record { start = value_start 0 ts k; len = length (get_or ts k no_tag).value }) (length ts - k - 1)
unfolding first_tag name_start value_start
cursor-left bytes ts n k e h =
    let (m, t) = tags-read bytes ts n (exactly-good table bytes ts n e).0 in
    rw (e, first_tag, moved-from bytes ts 4 m k t) (tag-of 4 ts k h)
