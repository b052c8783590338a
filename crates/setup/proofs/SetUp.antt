-- The sections of a set-up list, read by their length bytes: what stands in a row, and the rows one behind the other.
-- Assumes nothing.
use Rattle.std.specs.Prelude.{Option, Some, None, is_some}
use Prim.Native.Nat.{ℕ, zero, suc, ◌+◌, ◌-◌, ◌<◌, ◌≤◌}
use native.Mathlib.Omega.{arith}
use mathlib.Core.Path.{◌≡◌, refl, ap, sym, ◌∙◌}
use mathlib.Core.Bool.{Bool, true, false, not, ◌&&◌, ◌||◌, cond}
use mathlib.Core.List.{List, [], ◌∷◌}
use lib.ListN.{length, take, drop, get_or, length-drop}
use lib.Seq.{drop-drop}
use lib.Dec.{leb, eqb}
use borrow.Author.Rules.{rules}
use borrow.Author.Tests.{leb-true, eqb-true, eqb-false, not-false, not-true}
use Rattle.std.specs.Option.{option_eq}
use Rattle.number.specs.Number.{number_of, read_at}
use Rattle.number.proofs.Bytes.{both_true}
use Rattle.number.proofs.Laws.{read_is}
use Rattle.layout.specs.Recording.{Section, within, is_name_byte, every, distinct, legal_section_name, section_names}
use Rattle.layout.specs.Reading.{Parsed, bad, good, Reader, onward, only, times, exactly, number, block, string, string_fault, section_name, ◌then◌, give, is_bad, value_or, taken}
use Rattle.layout.specs.Recorder.{configured, set_up_section, set_up_list, sections_of, bad_set_up}
use Rattle.layout.proofs.Lists.{or-false}
use Rattle.layout.proofs.Readers.{number-good, block-good, exactly-good, then-takes, times-suc-takes}
use Rattle.layout.proofs.Fronts.{read-good}
use Rattle.strings.specs.Strings.{text_of}
use Rattle.parts.specs.Parts.{end_of}
use Rattle.rows.specs.Rows.{row_name, row_of, rest}
use Rattle.names.specs.Names.{distinct_names}
use Rattle.rows.specs.declared.Row.TheVariants.{SetUp}
use Rattle.rows.specs.declared.RowPlace.{RowPlace}
use Rattle.strings.proofs.Laws.{string-parts, part_length, text-placed}
use Rattle.rows.proofs.Laws.{row-parts, row-broken}
use Rattle.parts.proofs.Readers.{then-bad, then-onward, end_later, number_cut}
use Rattle.parts.proofs.Times.{times-parts, times-length, times-led}
use Rattle.parts.proofs.Taken.{then-parts, give-parts, then-give, number_read, number-then}
use Rattle.names.proofs.Readers.{set-up-row, distinct-set-up}
use Rattle.setup.specs.SetUp.{rows}
use Rattle.parts.proofs.Exactly.{ends-broken, ends-exact, ends-other}

-- ── A row ──

-- a section of a set-up list at a place: its name of n bytes behind the length byte, then its configuration behind two
pub record RowRead (s : List ℕ) (at n end : ℕ) : Type 0 where
  pub size : ℕ
  pub ends : end ≡ at + 3 + n + size
  pub inside : end ≤ length s
  pub byte : n ≡ get_or s at 0
  pub named : string (drop at s) ≡ good (take n (drop (at + 1) s)) (1 + n)
  pub read : set_up_section (drop at s) ≡ good (record { name = take n (drop (at + 1) s); configuration = take size (drop (at + 3 + n) s) })
      (3 + n + size)

row-read-parts : (s : List ℕ) (at n end m : ℕ) → at + 1 + n ≤ length s → row_name SetUp (drop at s) ≡ good (take n (drop (at + 1) s)) m
    → end ≡ at + m → RowRead s at n end
unfolding row_name rest set_up_section configured text_of
row-read-parts s at n end m l q w =
    then-parts string (λ name. (number 2 then block) then λ r. give name) (drop at s) (take n (drop (at + 1) s)) m q
    (λ v a k f g h. give-parts (number 2 then block) (λ r. v) (drop a (drop at s)) (take n (drop (at + 1) s)) k g
    (λ x gx y. then-parts (number 2) block (drop a (drop at s)) x k gx
    (λ c b j f₂ g₂ h₂. inner v a k x c b j f h gx y (number-good 2 (drop a (drop at s)) c b f₂)
    (block-good c (drop b (drop a (drop at s))) x j g₂) h₂)))
  where
    named : (v : List ℕ) (a : ℕ) → string (drop at s) ≡ good v a → take n (drop (at + 1) s) ≡ v → (n ≡ get_or s at 0) × (a ≡ 1 + n)
    named v a f y =
        let i : length v ≡ n = sym (ap length y) ∙ part_length s at n l in
        let p : (at + 1 + length v ≤ length s) × (length v ≡ get_or s at 0)
        × (string (drop at s) ≡ good (take (length v) (drop (at + 1) s)) (1 + length v)) = string-parts s at (length v) (rw f) in
        (cc, cc)

    inner : (v : List ℕ) (a k : ℕ) (x : List ℕ) (c b j : ℕ) → string (drop at s) ≡ good v a → m ≡ a + k
        → (number 2 then block) (drop a (drop at s)) ≡ good x k → take n (drop (at + 1) s) ≡ v
        → ((2 ≤ length (drop a (drop at s))) × (number_of (take 2 (drop a (drop at s))) ≡ c) × (2 ≡ b))
        → ((c ≤ length (drop b (drop a (drop at s)))) × (take c (drop b (drop a (drop at s))) ≡ x) × (c ≡ j)) → k ≡ b + j → RowRead s at n end
    inner v a k x c b j f h gx y (u₁, u₂, u₃) (w₁, w₂, w₃) h₂ =
        let o = named v a f y in
        let p₁ : at + a ≡ at + 1 + n = omega (arith, o.1) in
        let p₂ : at + 1 + n + b ≡ at + 3 + n = omega arith in
        let d₁ : drop a (drop at s) ≡ drop (at + 1 + n) s = drop-drop a at s ∙ ap (λ (i : ℕ). drop i s) p₁ in
        let d₂ : drop b (drop a (drop at s)) ≡ drop (at + 3 + n) s = ap (drop b) d₁ ∙ drop-drop b (at + 1 + n) s ∙ ap (λ (i : ℕ). drop i s) p₂ in
        let l₁ : 2 ≤ length s - (at + 1 + n) = rw (← length-drop (at + 1 + n) s, ← d₁) u₁ in
        let l₂ : c ≤ length s - (at + 3 + n) = rw (← length-drop (at + 3 + n) s, ← d₂) w₁ in
        let t : set_up_section (drop at s) ≡ good (record { name = v; configuration = x }) (a + k) =
        then-takes string (λ n. (number 2 then block) then λ c. give (record { name = n; configuration = c })) (drop at s) v
        (record { name = v; configuration = x }) a k f (then-give (number 2 then block) (λ c. record { name = v; configuration = c })
        (drop a (drop at s)) x k gx) in
        let z : x ≡ take c (drop (at + 3 + n) s) = sym w₂ ∙ ap (take c) d₂ in
        let i : a + k ≡ 3 + n + c = omega (arith, o.1) in
        record {
          size = c;
          ends = omega (arith, o.1);
          inside = omega (arith, o.1);
          byte = o.0;
          named = f ∙ rw (y, o.1);
          read = rw (y, ← z, ← i) t;
        }

pub row_read : (s : List ℕ) (at : ℕ) (p : RowPlace) (r : Option RowPlace) → r ≡ row_of at (row_name SetUp (drop at s)) → r ≡ Some p
    → RowRead s at p.name p.end
row_read s at p r e h =
    let (l, m, q, w) = row-parts SetUp s at p.name p.end (sym e ∙ h) in
    row-read-parts s at p.name p.end m l q w

pub row-none : (s : List ℕ) (at : ℕ) (r : Option RowPlace) → r ≡ row_of at (row_name SetUp (drop at s)) → r ≡ None
    → (m : ℕ) × (set_up_section (drop at s) ≡ bad m)
row-none s at r e h = go (set_up_section (drop at s)) refl (row-broken (row_name SetUp (drop at s)) at (sym e ∙ h))
  where
    go : (x : Parsed Section) → set_up_section (drop at s) ≡ x → ((i : ℕ) × (row_name SetUp (drop at s) ≡ bad i)) → (m : ℕ) × (x ≡ bad m)
    go (bad m) f g = (m, refl)
    go (good x n) f (i, g) = let z : ◌≡◌ {A = ℕ} 0 1 = cc (set-up-row (drop at s) x n f) in absurd (omega arith)

-- ── Rows one behind the other ──

pub rows-done : (left : ℕ) (t : List ℕ) → left ≤ 0 → rows left t ≡ []
unfolding rows
rows-done zero t h = refl
rows-done (suc left) t h = absurd (omega arith)

pub rows-stop : (left : ℕ) (t : List ℕ) {m : ℕ} → set_up_section t ≡ bad m → rows left t ≡ []
unfolding rows
rows-stop zero t e = refl
rows-stop (suc left) t e = rw (e, rows)

rows_next : (left : ℕ) (t : List ℕ) (x : Section) (m : ℕ) → set_up_section t ≡ good x m → rows (suc left) t ≡ x ∷ rows left (drop m t)
unfolding rows
rows_next left t x m e = rw (e, rows)

pub rows_step : (left later : ℕ) (s : List ℕ) (at m : ℕ) (x : Section) → left ≡ later + 1 → set_up_section (drop at s) ≡ good x m
    → rows left (drop at s) ≡ x ∷ rows later (drop (at + m) s)
rows_step left later s at m x h e =
    let p : left ≡ suc later = omega arith in
    rw (p, rows_next later (drop at s) x m e, drop-drop m at s)

pub rows-times : (n : ℕ) (t : List ℕ) (ss : List Section) (m : ℕ) → times n set_up_section t ≡ good ss m → rows n t ≡ ss
unfolding rows times
rows-times zero t ss m e = cc
rows-times (suc n) t ss m e = times-parts set_up_section n t ss m e
    (λ x j ys i f g h k. rows_next n t x j f ∙ ap (λ (l : List Section). x ∷ l) (rows-times n (drop j t) ys i g) ∙ sym h)

-- ── A set-up list, whole ──

-- a row that is led over by its length bytes is a section
row_back : (t : List ℕ) (v : List ℕ) (n : ℕ) → row_name SetUp t ≡ good v n → (x : Section) × (set_up_section t ≡ good x n)
unfolding row_of
row_back t v n e =
    let r = row_read t 0 (record { name = length v; end = 0 + n }) (row_of 0 (row_name SetUp t)) refl (rw e) in
    let f : 3 + length v + r.size ≡ n = omega (arith, r.ends) in
    (record { name = take (length v) (drop (0 + 1) t); configuration = take r.size (drop (0 + 3 + length v) t) }, r.read ∙ rw f)

led-back : (k : ℕ) (t : List ℕ) (vs : List (List ℕ)) (m : ℕ) → times k (row_name SetUp) t ≡ good vs m
    → (ss : List Section) × (times k set_up_section t ≡ good ss m)
unfolding times
led-back zero t vs m e = ([], cc)
led-back (suc k) t vs m e =
    times-parts (row_name SetUp) k t vs m e (λ v n ys j f g h i. let (x, p) = row_back t v n f in let (xs, q) = led-back k (drop n t) ys j g in
    (x ∷ xs, times-suc-takes set_up_section k t x xs n j p q ∙ rw (← i)))

-- the length bytes lead over exactly the sections
rows_end : (k : ℕ) (t : List ℕ) (at : ℕ) → end_of at (times k (row_name SetUp) t) ≡ end_of at (times k set_up_section t)
unfolding end_of
rows_end k t at = go (times k set_up_section t) refl
  where
    none : (y : Parsed (List (List ℕ))) (i : ℕ) → times k (row_name SetUp) t ≡ y → times k set_up_section t ≡ bad i → end_of at y ≡ None
    none (bad m) i f e = refl
    none (good vs m) i f e = let (ss, q) = led-back k t vs m f in let z : ◌≡◌ {A = ℕ} 0 1 = cc in absurd (omega arith)

    go : (x : Parsed (List Section)) → times k set_up_section t ≡ x → end_of at (times k (row_name SetUp) t) ≡ end_of at x
    go (bad i) e = none (times k (row_name SetUp) t) i refl e
    go (good ss m) e = rw (times-led set_up_section (row_name SetUp) (λ x. x.name) set-up-row k t ss m e)

-- where a list with a count ends
list-end : (s : List ℕ) → 1 ≤ length s → end_of 1 (times (read_at s 0 1) (row_name SetUp) (drop 1 s)) ≡ end_of 0 (set_up_list (drop 0 s))
unfolding set_up_list
list-end s h =
    rows_end (read_at s 0 1) (drop 1 s) 1
    ∙ sym (ap (end_of 0) (then-onward (number 1) (λ k. times k set_up_section) (drop 0 s) (read_at s 0 1) 1 (number_read s 0 1 (omega arith) h))
    ∙ end_later (times (read_at s 0 1) set_up_section (drop 1 s)) 0 1)

pub no-list : (s : List ℕ) → length s < 1 → set_up_list s ≡ bad 0
unfolding set_up_list
no-list s h = then-bad (number 1) (λ k. times k set_up_section) s (number_cut 1 s 0 (omega arith))

-- ── 10 ──

pub list-empty : (s : List ℕ) → length s ≡ 0 → true ≡ is_bad (exactly set_up_list s)
unfolding exactly onward
list-empty s h = rw (no-list s (omega arith))

-- a reader ends where the bytes do, and nothing is left over
ends-is : {A : Type 0} (p : Reader A) (s : List ℕ) (x : Option ℕ) → x ≡ end_of 0 (p (drop 0 s))
    → not (option_eq eqb x (Some (length s))) ≡ is_bad (exactly p s)
ends-is p s None e = ends-broken p s None e refl
ends-is p s (Some q) e = go (eqb q (length s)) refl
  where
    go : (b : Bool) → eqb q (length s) ≡ b → not (eqb q (length s)) ≡ is_bad (exactly p s)
    go true h = rw h (ends-exact p s (Some q) q e refl (eqb-true q (length s) h))
    go false h = rw h (ends-other p s (Some q) q e refl (eqb-false q (length s) h))

pub list-is : (s : List ℕ) (n : ℕ) (x : Option ℕ) → 1 ≤ length s → n ≡ read_at s 0 1 → x ≡ end_of 1 (times n (row_name SetUp) (drop 1 s))
    → not (option_eq eqb x (Some (length s))) ≡ is_bad (exactly set_up_list s)
list-is s n x h c e = ends-is set_up_list s x (e ∙ rw c (list-end s h))

-- ── 3 ──

-- a complete list: its sections, and the bytes that they take behind the count
pub record Listed (s : List ℕ) : Type 0 where
  pub taken : ℕ
  pub read : times (read_at s 0 1) set_up_section (drop 1 s) ≡ good (sections_of s) taken
  pub all : length s ≡ 1 + taken

pub listed : (s : List ℕ) → is_bad (exactly set_up_list s) ≡ false → Listed s
unfolding sections_of set_up_list
listed s h =
    let e = read-good [] (exactly set_up_list s) h in
    let g = exactly-good set_up_list s (sections_of s) (taken (exactly set_up_list s)) e in
    let (l, m, r, k) = number-then 1 (λ k. times k set_up_section) s (sections_of s) (taken (exactly set_up_list s)) g.0 in
    let c : read_at s 0 1 ≡ number_of (take 1 s) = read_is s 0 1 (omega arith) l in
    record { taken = m; read = rw c r; all = omega (arith, g.1) }

module _ (s : List ℕ) (n : ℕ) (whole : is_bad (exactly set_up_list s) ≡ false) (count : n ≡ read_at s 0 1) where
  pub sections-count : length (sections_of s) ≡ n
  sections-count = times-length set_up_section (read_at s 0 1) (drop 1 s) (sections_of s) (listed s whole).taken (listed s whole).read ∙ sym count

  pub sections-rows : rows n (drop 1 s) ≡ sections_of s
  sections-rows = rw count (rows-times (read_at s 0 1) (drop 1 s) (sections_of s) (listed s whole).taken (listed s whole).read)

  differ-is : distinct_names s 1 n SetUp ≡ distinct (section_names (sections_of s))
  differ-is = rw count (distinct-set-up s 1 (read_at s 0 1) (listed s whole).taken (sections_of s) (listed s whole).read)

  -- its tests, as the rows are walked
  set-up-is : bad_set_up (sections_of s)
      ≡ (not (within 1 8 n) || not (every legal_section_name (section_names (rows n (drop 1 s)))) || not (distinct_names s 1 n SetUp))
  unfolding bad_set_up
  set-up-is = rw (sections-count, sections-rows, differ-is)

  pub set-up-count : within 1 8 n ≡ false → true ≡ bad_set_up (sections_of s)
  set-up-count h = sym (set-up-is ∙ rw h)

  module _ (h : within 1 8 n ≡ true) (q : Bool) (e : q ≡ every legal_section_name (section_names (rows n (drop 1 s)))) where
    pub set-up-illegal : q ≡ false → true ≡ bad_set_up (sections_of s)
    set-up-illegal k = sym (set-up-is ∙ rw (h, ← e, k))

    pub set-up-differ : (d : Bool) → d ≡ distinct_names s 1 n SetUp → q ≡ true → not d ≡ bad_set_up (sections_of s)
    set-up-differ d f k = sym (set-up-is ∙ rw (h, ← e, k, ← f))

-- a list that is legal is complete, and has one to eight sections
pub record Legal (s : List ℕ) : Type 0 where
  pub whole : is_bad (exactly set_up_list s) ≡ false
  pub some : 1 ≤ read_at s 0 1
  pub few : read_at s 0 1 ≤ 8

pub legal-list : (s : List ℕ) → bad_set_up (sections_of s) ≡ false → Legal s
unfolding sections_of bad_set_up value_or
legal-list s h =
    let w = whole (exactly set_up_list s) h in
    let t = or-false (not counts || not (every legal_section_name (section_names (sections_of s)))) (not (distinct (section_names (sections_of s)))) h in
    let u = or-false (not counts) (not (every legal_section_name (section_names (sections_of s)))) t.0 in
    let v = both_true (leb 1 (length (sections_of s))) (leb (length (sections_of s)) 8) (not-false counts u.0) in
    let e = sections-count s n w refl in
    record {
      whole = w;
      some = omega (arith, leb-true 1 (length (sections_of s)) v.0);
      few = omega (arith, leb-true (length (sections_of s)) 8 v.1);
    }
  where
    n : ℕ
    n = read_at s 0 1

    counts : Bool
    counts = within 1 8 (length (sections_of s))

    whole : (x : Parsed (List Section)) → bad_set_up (value_or [] x) ≡ false → is_bad x ≡ false
    whole (good ss m) e = refl
    whole (bad i) e = let z : ◌≡◌ {A = ℕ} 0 1 = cc in absurd (omega arith)

-- ── The names, one after the other ──

-- what a test of a short string says of it
tested-name : (ok : List ℕ → Bool) (t v : List ℕ) (n : ℕ) → string t ≡ good v n → is_some (text_of (only ok string t)) ≡ ok v
unfolding only onward text_of
tested-name ok t v n e = rw e (go (ok v))
  where
    go : (b : Bool) → is_some (text_of (cond b (good v n) (bad 0))) ≡ b
    go false = refl
    go true = refl

module _ (s : List ℕ) (at left : ℕ) (all : Bool) (e : every legal_section_name (section_names (rows left (drop at s))) ≡ all) where
  pub names-done : left ≤ 0 → true ≡ all
  unfolding every section_names
  names-done h = rw (rows-done left (drop at s) h) at e

  pub names-stop : (r : Option RowPlace) → r ≡ row_of at (row_name SetUp (drop at s)) → r ≡ None → true ≡ all
  unfolding every section_names
  names-stop r f g = rw (rows-stop left (drop at s) (row-none s at r f g).1) at e

  module _ (later : ℕ) (p : RowPlace) (r : Option RowPlace) (f : r ≡ row_of at (row_name SetUp (drop at s))) (g : r ≡ Some p) (h : left ≡ later + 1) where
    name-there : is_some (text_of (section_name (drop at s))) ≡ legal_section_name (take p.name (drop (at + 1) s))
    unfolding section_name
    name-there =
        ap is_some (text-placed (string_fault 1 is_name_byte) (only legal_section_name string) (drop at s))
        ∙ tested-name legal_section_name (drop at s) (take p.name (drop (at + 1) s)) (1 + p.name) (row_read s at p r f g).named

    names-next : (legal_section_name (take p.name (drop (at + 1) s)) && every legal_section_name (section_names (rows later (drop p.end s)))) ≡ all
    unfolding every section_names
    names-next =
        let o = row_read s at p r f g in
        let i : at + (3 + p.name + o.size) ≡ p.end = omega (arith, o.ends) in
        let x : Section = record { name = take p.name (drop (at + 1) s); configuration = take o.size (drop (at + 3 + p.name) s) } in
        let q : rows left (drop at s) ≡ x ∷ rows later (drop p.end s) = rows_step left later s at (3 + p.name + o.size) x h o.read ∙ rw i in
        rw q at e

    pub names-wrong : (t : Option ℕ) (b : Bool) → t ≡ text_of (section_name (drop at s)) → is_some t ≡ not b → b ≡ true → false ≡ all
    names-wrong t b u w v =
        let i : legal_section_name (take p.name (drop (at + 1) s)) ≡ false = sym name-there ∙ ap is_some (sym u) ∙ w ∙ ap not v in
        rw i at names-next

    pub names-step : (t : Option ℕ) (b : Bool) → t ≡ text_of (section_name (drop at s)) → is_some t ≡ not b → b ≡ false
        → every legal_section_name (section_names (rows later (drop p.end s))) ≡ all
    names-step t b u w v =
        let i : legal_section_name (take p.name (drop (at + 1) s)) ≡ true = sym name-there ∙ ap is_some (sym u) ∙ w ∙ ap not v in
        rw i at names-next

pub ruleset laws = (rules, not-true, not-false, list-empty, list-is, set-up-count, set-up-illegal, set-up-differ, names-done, names-stop, names-wrong, names-step)
