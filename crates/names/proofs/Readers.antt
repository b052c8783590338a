-- That a row's length bytes lead over it as the layout's readers do.
-- Assumes nothing.
use Prim.Native.Nat.{ℕ, zero, suc, ◌+◌}
use native.Mathlib.Omega.{arith}
use mathlib.Core.Path.{◌≡◌, refl, ap, sym, ◌∙◌}
use mathlib.Core.Bool.{Bool, true, false, cond}
use mathlib.Core.List.{List, [], ◌∷◌}
use lib.ListN.{length, take, drop}
use lib.Dec.{leb, eqb}
use Rattle.number.specs.Number.{number_of}
use Rattle.layout.specs.Recording.{Section, Tag, within, distinct, tag_names, section_names}
use Rattle.layout.specs.Reading.{Reader, bad, good, ◌then◌, times, give, number, block, string, section_name, tag_name, tag_value, Definition, definition, defined_names, tag}
use Rattle.layout.specs.Recorder.{configured, set_up_section}
use Rattle.layout.specs.Saving.{Entry, absent, holds, ChangeOf, change_with, change_names, entry_of, kind, entry_part}
use Rattle.layout.proofs.Readers.{then-takes}
use Rattle.strings.proofs.Named.{section-keeps, name-keeps, value_keeps}
use Rattle.rows.specs.Rows.{entry, entry_up_to, rest, row_name}
use Rattle.names.specs.Names.{names, distinct_names}
use Rattle.rows.specs.declared.Row.{Row}
use Rattle.rows.specs.declared.Row.TheVariants as row
use Rattle.parts.proofs.Times.{times-parts, times-led}
use Rattle.parts.proofs.Taken.{then-parts, give-parts, only_parts, then-give}

-- ── A row of each kind is led over by its length bytes ──

row-of : (k : Row) (t v r : List ℕ) (n m : ℕ) → string t ≡ good v n → rest k (drop n t) ≡ good r m → row_name k t ≡ good v (n + m)
unfolding row_name
row-of k t v r n m e f = then-takes string (λ w. rest k then λ z. give w) t v v n m e (then-give (rest k) (λ z. v) (drop n t) r m f)

-- what reader q reads, what follows the name in a row of kind k leads over
abbrev Leads : {A : Type 0} → Row → Reader A → Type 0
Leads {A} k q = (t : List ℕ) (x : A) (n : ℕ) → q t ≡ good x n → (r : List ℕ) × (rest k t ≡ good r n)

named-row : {A B : Type 0} (k : Row) (p : Reader (List ℕ)) (q : Reader A) (make : List ℕ → A → B)
    → ((t v : List ℕ) (n : ℕ) → p t ≡ good v n → string t ≡ good v n) → Leads k q → (name : B → List ℕ)
    → ((v : List ℕ) (x : A) → name (make v x) ≡ v) → (t : List ℕ) (y : B) (m : ℕ) → (p then λ v. q then λ x. give (make v x)) t ≡ good y m
    → row_name k t ≡ good (name y) m
named-row k p q make ps leads name nm t y m e =
    then-parts p (λ v. q then λ x. give (make v x)) t y m e (λ v n j f g h.
    give-parts q (make v) (drop n t) y j g (λ x i o.
    let (r, l) = leads (drop n t) x j i in
    row-of k t v r n j (ps t v n f) l
    ∙ ap (λ (w : List ℕ). good w (n + j)) (sym (ap name o ∙ nm v x)) ∙ ap (good (name y)) (sym h)))

pub tag-row : (t : List ℕ) (x : Tag) (n : ℕ) → tag t ≡ good x n → row_name row.Tag t ≡ good x.name n
unfolding tag rest
tag-row =
    named-row row.Tag tag_name tag_value (λ n v. record { name = n; value = v }) name-keeps.text
    (λ t x n e. (x, value_keeps.text t x n e)) (λ t. t.name) (λ v x. refl)

-- a number takes as many bytes as a block of its width
number-block : (w : ℕ) (t : List ℕ) (x n : ℕ) → number w t ≡ good x n → block w t ≡ good (take w t) n
unfolding number block
number-block w t x n e = go (leb w (length t)) e
  where
    go : (b : Bool) → cond b (good (number_of (take w t)) w) (bad 0) ≡ good x n → cond b (good (take w t) w) (bad 0) ≡ good (take w t) n
    go true h = let j : w ≡ n = cc in ap (good (take w t)) j
    go false h = let z : ◌≡◌ {A = ℕ} 0 1 = cc in absurd (omega arith)

pub definition-row : (t : List ℕ) (x : Definition) (n : ℕ) → definition t ≡ good x n → row_name row.Definition t ≡ good x.name n
unfolding definition rest
definition-row =
    named-row row.Definition section_name (number 8) (λ n at. record { name = n; offset = at }) section-keeps.text
    (λ t x n e. (take 8 t, number-block 8 t x n e)) (λ d. d.name) (λ v x. refl)

pub set-up-row : (t : List ℕ) (x : Section) (n : ℕ) → set_up_section t ≡ good x n → row_name row.SetUp t ≡ good x.name n
unfolding set_up_section configured rest
set-up-row =
    named-row row.SetUp string configured (λ n c. record { name = n; configuration = c }) (λ t v n e. e)
    (λ t x n e. (x, e)) (λ s. s.name) (λ v x. refl)

-- the value of an entry, or none, by its kind
unfoldable pub entry_value : ℕ → Reader (List ℕ)
entry_value kind = cond (eqb kind 1) string (give [])

pub no_value : (kind m : ℕ) (t : List ℕ) → eqb kind 1 ≡ false → m ≡ 0 → (r : List ℕ) × (entry_value kind t ≡ good r m)
unfolding entry_value give
no_value kind m t e z = ([], rw (e, z))

pub entry-leads : (kind m : ℕ) (t : List ℕ) (x : Entry) → entry_of kind t ≡ good x m → (r : List ℕ) × (entry_value kind t ≡ good r m)
unfolding entry_of entry_value give
entry-leads kind m t x e = go (eqb kind 1) refl e
  where
    go : (b : Bool) → eqb kind 1 ≡ b → cond b (tag_value then λ v. give (holds v)) (give absent) t ≡ good x m → (r : List ℕ) × (entry_value kind t ≡ good r m)
    go true q h = give-parts tag_value holds t x m h (λ v i o. (v, rw q (value_keeps.text t v m i)))
    go false q h = no_value kind m t q cc

-- what reader p reads, an entry leads over
abbrev pub LeadsEntry : {A : Type 0} → Reader A → Type 0
LeadsEntry {A} p = (t : List ℕ) (x : A) (m : ℕ) → p t ≡ good x m → (r : List ℕ) × (entry t ≡ good r m)

pub kind-leads : {A : Type 0} (q : ℕ → Reader A) → ((kind m : ℕ) (t : List ℕ) (x : A) → q kind t ≡ good x m
    → (r : List ℕ) × (entry_value kind t ≡ good r m)) → (most : ℕ) → LeadsEntry (kind most then q)
unfolding entry entry_value kind
kind-leads q leads most t x m e =
    then-parts (kind most) q t x m e (λ j n k f g h.
    let (r, l) = leads j k (drop n t) x g in
    (r, then-takes (number 1) (λ i. cond (eqb i 1) string (give [])) t j r n k (only_parts (within 0 most) (number 1) t j n f).0 l ∙ ap (good r) (sym h)))

-- an entry of a change, whatever its kinds go up to
pub up-to-leads : (most : ℕ) → LeadsEntry (entry_up_to most)
unfolding entry_up_to
up-to-leads = kind-leads entry_of entry-leads

-- a change, by the reader of what was seen
pub change-row : {S : Type 0} (p : Reader S) → LeadsEntry p → (t : List ℕ) (x : ChangeOf S) (n : ℕ) → change_with p t ≡ good x n
    → row_name row.Change t ≡ good x.name n
unfolding change_with entry_part rest
change-row {S} p leads t x n e =
    then-parts tag_name (λ name. p then λ s. entry_part then λ e. give
    (record { name = name; seen = s; new = e })) t x n e (λ v a b f g h.
    then-parts p (λ s. entry_part then λ e. give (record { name = v; seen = s; new = e })) (drop a t) x b g
    (λ s c d i j k.
    give-parts entry_part (λ e. record { name = v; seen = s; new = e }) (drop c (drop a t)) x d j (λ en l o.
    let (y, p) = leads (drop a t) s c i in
    let (z, q) = kind-leads entry_of entry-leads 1 (drop c (drop a t)) en d l in
    row-of row.Change t v z a (c + d) (name-keeps.text t v a f) (then-takes entry (λ seen. entry) (drop a t) y z c d p q)
    ∙ ap (λ (w : List ℕ). good w (a + (c + d))) (sym (ap (λ (u : ChangeOf S). u.name) o)) ∙ ap (good x.name) (omega arith))))

-- ── Rows that were read ──

pub names-times : (n : ℕ) (p : Reader (List ℕ)) (t : List ℕ) (vs : List (List ℕ)) (m : ℕ) → times n p t ≡ good vs m → names n p t ≡ vs
unfolding times names
names-times zero p t vs m e = cc
names-times (suc n) p t vs m e =
    times-parts p n t vs m e (λ v i us j f g h o. rw (h, f, names) (ap (λ (l : List (List ℕ)). v ∷ l) (names-times n p (drop i t) us j g)))

-- where the rows parse, their names are compared
pub distinct-rows : (s : List ℕ) (at n m : ℕ) (k : Row) (vs : List (List ℕ)) → times n (row_name k) (drop at s) ≡ good vs m
    → distinct_names s at n k ≡ distinct vs
unfolding distinct_names
distinct-rows s at n m k vs e = ap distinct (names-times n (row_name k) (drop at s) vs m e)

pub distinct-tags : (s : List ℕ) (at n m : ℕ) (ts : List Tag) → times n tag (drop at s) ≡ good ts m
    → distinct_names s at n row.Tag ≡ distinct (tag_names ts)
unfolding tag_names
distinct-tags s at n m ts e = distinct-rows s at n m row.Tag (tag_names ts)
    (times-led tag (row_name row.Tag) (λ t. t.name) tag-row n (drop at s) ts m e)

pub distinct-definitions : (s : List ℕ) (at n m : ℕ) (ds : List Definition) → times n definition (drop at s) ≡ good ds m
    → distinct_names s at n row.Definition ≡ distinct (defined_names ds)
unfolding defined_names
distinct-definitions s at n m ds e = distinct-rows s at n m row.Definition (defined_names ds)
    (times-led definition (row_name row.Definition) (λ d. d.name) definition-row n (drop at s) ds m e)

pub distinct-set-up : (s : List ℕ) (at n m : ℕ) (ss : List Section) → times n set_up_section (drop at s) ≡ good ss m
    → distinct_names s at n row.SetUp ≡ distinct (section_names ss)
unfolding section_names
distinct-set-up s at n m ss e = distinct-rows s at n m row.SetUp (section_names ss)
    (times-led set_up_section (row_name row.SetUp) (λ s. s.name) set-up-row n (drop at s) ss m e)

pub distinct-changes : {S : Type 0} (p : Reader S) → LeadsEntry p → (s : List ℕ) (at n m : ℕ) (cs : List (ChangeOf S))
    → times n (change_with p) (drop at s) ≡ good cs m → distinct_names s at n row.Change ≡ distinct (change_names cs)
unfolding change_names
distinct-changes p leads s at n m cs e = distinct-rows s at n m row.Change (change_names cs)
    (times-led (change_with p) (row_name row.Change) (λ c. c.name) (change-row p leads) n (drop at s) cs m e)
