-- Where the tags of a legal table stand: as the layout says, behind the table's number and the tags ahead.
-- Assumes nothing.
use Prim.Native.Nat.{ℕ, suc, ◌+◌, ◌-◌, ◌<◌, ◌≤◌}
use native.Mathlib.Omega.{arith}
use mathlib.Core.Path.{◌≡◌, refl, sym, ◌∙◌}
use mathlib.Core.Bool.{Bool, true, false, cond}
use mathlib.Core.List.{List, [], ◌∷◌, flat_map}
use lib.ListN.{length, take, drop, get_or, length-append}
use lib.Seq.{drop-drop, length-take-le}
use lib.Dec.{leb}
use borrow.Author.Tests.{lt-ltb, le-ltb, leb-true, leb-false}
use Rattle.number.specs.Number.{read_at}
use Rattle.layout.specs.Recording.{Tag, short_string, tag_bytes, most_tags, within, distinct, tag_names}
use Rattle.layout.specs.Reading.{bad, good, ◌then◌, only, times, give, number, string, tag_name, tag_value, number_of_tags, tag, table_fault, table}
use Rattle.layout.specs.Items.{no_tag, name_start, value_start}
use Rattle.parts.specs.Parts.{end_of}
use Rattle.rows.specs.Rows.{row_name}
use Rattle.std.specs.Prelude.{None}
use Rattle.tables.specs.Tables.{tag_at, parts_of, tag_from, tag_found}
use Rattle.rows.specs.declared.Row.TheVariants as row
use Rattle.layout.proofs.Readers.{placed-good}
use Rattle.strings.proofs.Laws.{no-string, string-cons}
use Rattle.strings.proofs.Named.{name-keeps, value_keeps}
use Rattle.parts.proofs.Readers.{number-there, number_cut}
use Rattle.parts.proofs.Taken.{then-parts, give-parts, only_parts}
use Rattle.names.proofs.Readers.{tag-row}
use Rattle.parts.proofs.Times.{times-at, times-led, times-taken, times-length}

-- ── How many bytes are taken ──

pub string-taken : (t v : List ℕ) (n : ℕ) → string t ≡ good v n → n ≡ length (short_string v)
unfolding short_string
string-taken [] v n e = let z : ◌≡◌ {A = ℕ} 0 1 = cc no-string in absurd (omega arith)
string-taken (b ∷ t) v n e = go (leb b (length t)) refl (sym (string-cons b t) ∙ e)
  where
    go : (c : Bool) → leb b (length t) ≡ c → cond c (good (take b t) (1 + b)) (bad (suc (length t))) ≡ good v n → n ≡ suc (length v)
    go true p h =
        let i : take b t ≡ v = cc in
        let j : 1 + b ≡ n = cc in
        rw (← i, length-take-le b t (leb-true b (length t) p)) (omega arith)
    go false p h = let z : ◌≡◌ {A = ℕ} 0 1 = cc in absurd (omega arith)

pub tag-taken : (t : List ℕ) (x : Tag) (n : ℕ) → tag t ≡ good x n → n ≡ length (tag_bytes x)
unfolding tag tag_bytes
tag-taken t x n e =
    then-parts tag_name (λ n. tag_value then λ v. give (record { name = n; value = v })) t x n e (λ v a b f g h.
    give-parts tag_value (λ w. record { name = v; value = w }) (drop a t) x b g (λ w i o.
    let p : a ≡ length (short_string v) = string-taken t v a (name-keeps.text t v a f) in
    let q : b ≡ length (short_string w) = string-taken (drop a t) w b (value_keeps.text (drop a t) w b i) in
    rw (o, length-append (short_string v) (short_string w)) (omega arith)))

-- ── A legal table ──

-- a number that was read
pub number-parts : (w : ℕ) (s : List ℕ) (at c n : ℕ) → 0 < w → w ≤ 8 → number w (drop at s) ≡ good c n
    → (at + w ≤ length s) × (c ≡ read_at s at w) × (n ≡ w)
number-parts w s at c n z h e = go (leb w (length s - at)) refl
  where
    go : (b : Bool) → leb w (length s - at) ≡ b → (at + w ≤ length s) × (c ≡ read_at s at w) × (n ≡ w)
    go true p =
        let l : w ≤ length s - at = leb-true w (length s - at) p in
        let q : number w (drop at s) ≡ good (read_at s at w) w = number-there w s at h (omega arith) l in
        (omega arith, cc, cc)
    go false p =
        let q : number w (drop at s) ≡ bad 0 = number_cut w s at (leb-false w (length s - at) p) in
        let o : ◌≡◌ {A = ℕ} 0 1 = cc in
        absurd (omega arith)

-- its number, and its tags behind it
pub table-read : {G : Type 0} (s : List ℕ) (at n : ℕ) (ts : List Tag) → table (drop at s) ≡ good ts n
    → ((k : ℕ) → at + 4 ≤ length s → read_at s at 4 ≡ length ts → times (length ts) tag (drop (at + 4) s) ≡ good ts k → n ≡ 4 + k → G) → G
unfolding table number_of_tags
table-read s at n ts e w =
    then-parts (only (within 0 most_tags) (number 4)) (λ n. times n tag) (drop at s) ts n
    (only_parts (λ ts. distinct (tag_names ts)) (only (within 0 most_tags) (number 4) then λ n. times n tag) (drop at s) ts n (placed-good table_fault _ (drop at s) ts n e)).0
    (λ c a k f g h.
    let (l, r, q) = number-parts 4 s at c a (omega arith) (omega arith) (only_parts (within 0 most_tags) (number 4) (drop at s) c a f).0 in
    let o : length ts ≡ c = times-length tag c (drop a (drop at s)) ts k g in
    w k l (sym r ∙ sym o) (rw (o, ← q, ← drop-drop a at s) g) (rw (← q) h))

pub tag-found-at : (s : List ℕ) (at n i : ℕ) (ts : List Tag) → table (drop at s) ≡ good ts n → i < length ts
    → tag_found s at i ≡ tag_at (name_start at ts i) (length (get_or ts i no_tag).name) (value_start at ts i) (length (get_or ts i no_tag).value)
unfolding tag_found tag_from parts_of name_start value_start end_of
tag-found-at s at n i ts e h =
    table-read s at n ts e (λ k l r g o.
    times-at tag no_tag (length ts) (drop (at + 4) s) ts k i g h (λ j b p q.
    let a : j ≡ length (flat_map tag_bytes (take i ts)) = times-taken tag tag_bytes tag-taken i (drop (at + 4) s) (take i ts) j p in
    let t : tag (drop (at + 4 + j) s) ≡ good (get_or ts i no_tag) b = rw (← drop-drop j (at + 4) s) q in
    rw (r, lt-ltb i (length ts) h, times-led tag (row_name row.Tag) (λ t. t.name) tag-row i (drop (at + 4) s) (take i ts) j p, t, ← a)))

pub tag-found-past : (s : List ℕ) (at n i : ℕ) (ts : List Tag) → table (drop at s) ≡ good ts n → length ts ≤ i → tag_found s at i ≡ None
unfolding tag_found
tag-found-past s at n i ts e h = table-read s at n ts e (λ k l r g o. rw (r, le-ltb i (length ts) h))
