-- A reader is exact if it reads back what was encoded, whatever follows, and if what it reads is legal and stands encoded at the front.
-- Every reader of the layout is exact. Assumes nothing.
use Prim.Native.Nat.{ℕ, suc, ◌^◌, ◌<◌}
use native.Mathlib.Omega.{arith}
use mathlib.Core.Path.{◌≡◌, refl, ap, sym, ◌∙◌}
use mathlib.Core.Bool.{Bool, true, false, ◌&&◌}
use mathlib.Core.Logic.{◌↔◌}
use mathlib.Core.List.{List, [], ◌∷◌, ◌++◌, flat_map, append_assoc, append-nil}
use lib.ListN.{length, drop, drop_of_length-le}
use lib.Dec.{ltb, leb, eqb}
use lib.Pow.{are_bytes}
use borrow.Author.Tests.{ltb-true, lt-ltb, leb-true, le-leb, eqb-true, eq-eqb}
use Rattle.number.specs.Number.{bytes_of}
use Rattle.layout.specs.Recording.{Section, Tag, Frame, short_string, tag_bytes, table_bytes, sized_bytes, frame_head_bytes, frame_bytes, frame_mark, longest_section, most_sections, most_tags, within, every, distinct, legal_section_name, legal_tag_name, legal_tag_value, is_name_byte, is_tag_byte, tag_names, legal_tag, legal_table, legal_frame}
use Rattle.layout.specs.Reading.{Parsed, bad, good, is_bad, value_or, Reader, times, exactly, number, string, string_fault, section_name, tag_name, tag_value, number_of_tags, table_fault, number_of_sections, Definition, definition, defined_names, definitions, tag, table, sized, frame}
use Rattle.layout.specs.Recorder.{configured, set_up_section, set_up_list}
use Rattle.number.proofs.Bytes.{both_true, and-true}
use Rattle.layout.proofs.Readers.{Reads, reads-alike, give-reads, number-reads, block_reads, only-reads, placed-reads, then-reads, times-reads, exactly-good, exactly-is}

pub record Exact {A : Type 0} (ok : A → Bool) (bytes : A → List ℕ) (p : Reader A) : Type 0 where
  pub takes : (x : A) (rest : List ℕ) → ok x ≡ true → p (bytes x ++ rest) ≡ good x (length (bytes x))
  pub gives : (s : List ℕ) (x : A) (n : ℕ) → are_bytes s ≡ true → p s ≡ good x n → (ok x ≡ true) × (n ≡ length (bytes x)) × (s ≡ bytes x ++ drop n s)

-- the same in the words of the laws of readers
pub reads : {A : Type 0} {ok : A → Bool} {bytes : A → List ℕ} {p : Reader A} → Exact ok bytes p → Reads (λ x. ok x ≡ true) bytes p
reads e = record { takes = e.takes; gives = e.gives }

pub exact : {A : Type 0} {Ok : A → Type 0} {ok : A → Bool} {bytes bytes' : A → List ℕ} {p : Reader A} → Reads Ok bytes p → ((x : A) → Ok x ↔ (ok x ≡ true)) → ((x : A) → Ok x → bytes x ≡ bytes' x) → Exact ok bytes' p
exact e oks alike = let r = reads-alike e oks alike in record { takes = r.takes; gives = r.gives }

-- ── How exact readers are put together ──

pub number-exact : (w : ℕ) → Exact (λ n. ltb n (256 ^ w)) (bytes_of w) (number w)
number-exact w = exact (number-reads w) (λ n. (lt-ltb n (256 ^ w), ltb-true n (256 ^ w))) (λ n h. refl)

pub times-exact : {A : Type 0} (ok : A → Bool) (bytes : A → List ℕ) (p : Reader A) (k : ℕ) → Exact ok bytes p → Exact (λ xs. eqb (length xs) k && every ok xs) (flat_map bytes) (times k p)
times-exact ok bytes p k e =
    exact (times-reads ok k (reads e))
    (λ xs. (
      λ h. and-true (eqb (length xs) k) (every ok xs) (eq-eqb (length xs) k h.0) h.1,
      λ h. let b = both_true (eqb (length xs) k) (every ok xs) h in (eqb-true (length xs) k b.0, b.1),
    ))
    (λ xs h. refl)

-- ── The readers of the layout ──

-- a number of one byte is that byte
pub one_byte : (n : ℕ) → n < 256 → bytes_of 1 n ≡ n ∷ []
unfolding bytes_of
one_byte n h = ap (λ (b : ℕ). b ∷ []) (omega arith)

pub string-exact : Exact (λ s. leb (length s) 255) short_string string
unfolding short_string string
string-exact =
    exact (placed-reads length (then-reads length (number-reads 1) block_reads (λ n s h k. sym k)))
    (λ s. (λ h. le-leb (length s) 255 (omega (arith, h.0)), λ h. (omega (arith, leb-true (length s) 255 h), refl)))
    (λ s h. ap (λ (l : List ℕ). l ++ s) (one_byte (length s) (omega (arith, h.0))))

-- what has at most so many bytes, and more besides
short : (low high n : ℕ) (other : Bool) → within low high n && other ≡ true → leb n high ≡ true
short low high n other h = (both_true (leb low n) (leb n high) (both_true (within low high n) other h).0).1

-- a count that is within its limits: nothing is asked of the lower one where it is 0
pub within-zero : (high n : ℕ) → leb n high ≡ true → within 0 high n ≡ true
within-zero high n h = and-true (leb 0 n) (leb n high) (le-leb 0 n (omega arith)) h

-- a test of three parts
pub all_three : (a b c : Bool) → a && b && c ≡ true → (a ≡ true) × (b ≡ true) × (c ≡ true)
all_three a b c h =
    let i = both_true (a && b) c h in
    let j = both_true a b i.0 in
    (j.0, j.1, i.1)

pub three-true : (a b c : Bool) → a ≡ true → b ≡ true → c ≡ true → a && b && c ≡ true
three-true a b c p q r = and-true (a && b) c (and-true a b p q) r

pub name-short : (n : List ℕ) → legal_tag_name n ≡ true → leb (length n) 255 ≡ true
unfolding legal_tag_name
name-short n = short 1 255 (length n) (every is_tag_byte n)

pub value-short : (v : List ℕ) → legal_tag_value v ≡ true → leb (length v) 255 ≡ true
unfolding legal_tag_value
value-short v = short 0 255 (length v) (every is_tag_byte v)

pub tag-exact : Exact legal_tag tag_bytes tag
unfolding legal_tag tag_bytes tag tag_name tag_value
tag-exact =
    exact
    (then-reads (λ t. t.name) (placed-reads (string_fault 1 is_tag_byte) (only-reads legal_tag_name (reads string-exact)))
    (λ n. then-reads (λ t. t.value) (placed-reads (string_fault 0 is_tag_byte) (only-reads legal_tag_value (reads string-exact))) (λ v. give-reads (record { name = n; value = v })) (λ v t o g. sym (ap (λ (t : Tag). t.value) g)))
    (λ n t o g. sym (ap (λ (t : Tag). t.name) g.1)))
    (λ t. (
      λ h. and-true (legal_tag_name t.name) (legal_tag_value t.value) h.0.1 h.1.0.1,
      λ h. let b = both_true (legal_tag_name t.name) (legal_tag_value t.value) h in ((name-short t.name b.0, b.0), ((value-short t.value b.1, b.1), refl)),
    ))
    (λ t h. rw append-nil)

pub table-exact : Exact legal_table table_bytes table
unfolding legal_table table_bytes table number_of_tags
table-exact =
    exact (placed-reads table_fault (only-reads (λ ts. distinct (tag_names ts)) (then-reads length (only-reads (within 0 most_tags) (number-reads 4)) (λ n. times-reads legal_tag n (reads tag-exact)) (λ n ts o g. sym g.0))))
    (λ ts. (
      λ h. three-true (leb (length ts) most_tags) (every legal_tag ts) (distinct (tag_names ts)) (both_true (leb 0 (length ts)) (leb (length ts) most_tags) h.0.0.1).1 h.0.1.1 h.1,
      λ h. let b = all_three (leb (length ts) most_tags) (every legal_tag ts) (distinct (tag_names ts)) h in
          (((omega (arith, leb-true (length ts) most_tags b.0), within-zero most_tags (length ts) b.0), (refl, b.1)), b.2),
    ))
    (λ ts h. refl)

pub sized-exact : Exact (λ s. leb (length s) longest_section) sized_bytes sized
unfolding sized_bytes sized
sized-exact =
    exact (then-reads length (only-reads (within 0 longest_section) (number-reads 4)) block_reads (λ n s o g. sym g))
    (λ s. (λ h. (both_true (leb 0 (length s)) (leb (length s) longest_section) h.0.1).1, λ h. ((omega (arith, leb-true (length s) longest_section h), within-zero longest_section (length s) h), refl)))
    (λ s h. refl)

-- what a legal frame is, in facts
pub frame-legal : (k : ℕ) (f : Frame) → ((f.time < 256 ^ 8) × (f.exposure < 256 ^ 4) × (length f.sections ≡ k) × (every (λ s. leb (length s) longest_section) f.sections ≡ true)) ↔ (legal_frame k f ≡ true)
unfolding legal_frame
frame-legal k f = (
  λ h. and-true (t && e && n) ss (three-true t e n (le-leb (suc f.time) (2 ^ 64) h.0) (le-leb (suc f.exposure) (2 ^ 32) h.1) (eq-eqb (length f.sections) k h.2)) h.3,
  λ h. let i = both_true (t && e && n) ss h in
      let j = all_three t e n i.0 in
      (leb-true (suc f.time) (2 ^ 64) j.0, leb-true (suc f.exposure) (2 ^ 32) j.1, eqb-true (length f.sections) k j.2, i.1),
)
  where
    t : Bool
    t = leb (suc f.time) (2 ^ 64)

    e : Bool
    e = leb (suc f.exposure) (2 ^ 32)

    n : Bool
    n = eqb (length f.sections) k

    ss : Bool
    ss = every (λ s. leb (length s) longest_section) f.sections

pub frame-exact : (k : ℕ) → Exact (legal_frame k) frame_bytes (frame k)
unfolding frame_bytes frame_head_bytes frame
frame-exact k =
    exact
    (then-reads (λ f. frame_mark) (only-reads (λ mark. eqb mark frame_mark) (number-reads 4)) (λ mark. then-reads (λ f. f.time) (number-reads 8) (λ t. then-reads (λ f. f.exposure) (number-reads 4) (λ e. then-reads (λ f. f.sections) (times-reads (λ s. leb (length s) longest_section) k (reads sized-exact)) (λ ss. give-reads (record { time = t; exposure = e; sections = ss }))
    (λ ss f o g. sym (ap (λ (f : Frame). f.sections) g)))
    (λ e f o g. sym (ap (λ (f : Frame). f.exposure) g.1)))
    (λ t f o g. sym (ap (λ (f : Frame). f.time) g.1.1)))
    (λ mark f o g. eqb-true mark frame_mark o.1))
    (λ f. (
      λ h. (frame-legal k f).0 (h.1.0, h.1.1.0, h.1.1.1.0.0, h.1.1.1.0.1),
      λ h. let l = (frame-legal k f).1 h in ((omega arith, refl), (l.0, (l.1, ((l.2, l.3), refl)))),
    ))
    (λ f h. simp (append_assoc, append-nil))

-- the definitions as they stand in a file, with their offsets
unfoldable pub definition_bytes : Definition → List ℕ
definition_bytes d = short_string d.name ++ bytes_of 8 d.offset

unfoldable pub legal_definition : Definition → Bool
legal_definition d = legal_section_name d.name && ltb d.offset (256 ^ 8)

unfoldable pub legal_definitions : List Definition → Bool
legal_definitions ds = within 1 most_sections (length ds) && every legal_definition ds && distinct (defined_names ds)

pub section_name-short : (n : List ℕ) → legal_section_name n ≡ true → leb (length n) 255 ≡ true
unfolding legal_section_name
section_name-short n = short 1 255 (length n) (every is_name_byte n)

pub definition-exact : Exact legal_definition definition_bytes definition
unfolding legal_definition definition_bytes definition section_name
definition-exact =
    exact
    (then-reads (λ d. d.name) (placed-reads (string_fault 1 is_name_byte) (only-reads legal_section_name (reads string-exact)))
    (λ n. then-reads (λ d. d.offset) (number-reads 8) (λ at. give-reads (record { name = n; offset = at })) (λ at d o g. sym (ap (λ (d : Definition). d.offset) g)))
    (λ n d o g. sym (ap (λ (d : Definition). d.name) g.1)))
    (λ d. (
      λ h. and-true (legal_section_name d.name) (ltb d.offset (256 ^ 8)) h.0.1 (lt-ltb d.offset (256 ^ 8) h.1.0),
      λ h. let b = both_true (legal_section_name d.name) (ltb d.offset (256 ^ 8)) h in ((section_name-short d.name b.0, b.0), (ltb-true d.offset (256 ^ 8) b.1, refl)),
    ))
    (λ d h. rw append-nil)

pub definitions-exact : Exact legal_definitions (λ ds. length ds ∷ flat_map definition_bytes ds) definitions
unfolding legal_definitions definitions number_of_sections
definitions-exact =
    exact (only-reads (λ ds. distinct (defined_names ds)) (then-reads length (only-reads (within 1 most_sections) (number-reads 1)) (λ n. times-reads legal_definition n (reads definition-exact)) (λ n ds o g. sym g.0)))
    (λ ds. (
      λ h. three-true (within 1 most_sections (length ds)) (every legal_definition ds) (distinct (defined_names ds)) h.0.0.1 h.0.1.1 h.1,
      λ h. let b = all_three (within 1 most_sections (length ds)) (every legal_definition ds) (distinct (defined_names ds)) h in
          let l = both_true (leb 1 (length ds)) (leb (length ds) most_sections) b.0 in
          (((omega (arith, leb-true (length ds) most_sections l.1), b.0), (refl, b.1)), b.2),
    ))
    (λ ds h. ap (λ (l : List ℕ). l ++ flat_map definition_bytes ds) (one_byte (length ds) (omega (arith, h.0.0.0))))

-- a set-up list
unfoldable pub set_up_section_bytes : Section → List ℕ
set_up_section_bytes s = short_string s.name ++ bytes_of 2 (length s.configuration) ++ s.configuration

unfoldable pub set_up_section_fits : Section → Bool
set_up_section_fits s = leb (length s.name) 255 && leb (length s.configuration) 65535

pub set_up_section-exact : Exact set_up_section_fits set_up_section_bytes set_up_section
unfolding set_up_section_fits set_up_section_bytes set_up_section configured
set_up_section-exact =
    exact
    (then-reads (λ s. s.name) (reads string-exact)
    (λ n. then-reads (λ s. s.configuration) (then-reads length (number-reads 2) block_reads (λ k c o g. sym g)) (λ c. give-reads (record { name = n; configuration = c })) (λ c s o g. sym (ap (λ (s : Section). s.configuration) g)))
    (λ n s o g. sym (ap (λ (s : Section). s.name) g.1)))
    (λ s. (
      λ h. and-true (leb (length s.name) 255) (leb (length s.configuration) 65535) h.0 (le-leb (length s.configuration) 65535 (omega (arith, h.1.0.0))),
      λ h. let b = both_true (leb (length s.name) 255) (leb (length s.configuration) 65535) h in (b.0, ((omega (arith, leb-true (length s.configuration) 65535 b.1), refl), refl)),
    ))
    (λ s h. simp (append_assoc, append-nil))

pub set_up_list-exact : Exact (λ ss. leb (length ss) 255 && every set_up_section_fits ss) (λ ss. length ss ∷ flat_map set_up_section_bytes ss) set_up_list
unfolding set_up_list
set_up_list-exact =
    exact (then-reads length (number-reads 1) (λ n. times-reads set_up_section_fits n (reads set_up_section-exact)) (λ n ss o g. sym g.0))
    (λ ss. (
      λ h. and-true (leb (length ss) 255) (every set_up_section_fits ss) (le-leb (length ss) 255 (omega (arith, h.0))) h.1.1,
      λ h. let b = both_true (leb (length ss) 255) (every set_up_section_fits ss) h in (omega (arith, leb-true (length ss) 255 b.0), (refl, b.1)),
    ))
    (λ ss h. ap (λ (l : List ℕ). l ++ flat_map set_up_section_bytes ss) (one_byte (length ss) (omega (arith, h.0))))

-- ── Where nothing may follow ──

-- what an exact reader reads exactly is the encoding
pub exactly-gives : {A : Type 0} (ok : A → Bool) (bytes : A → List ℕ) (p : Reader A) → Exact ok bytes p → (s : List ℕ) (x : A) (n : ℕ) → are_bytes s ≡ true → exactly p s ≡ good x n → (ok x ≡ true) × (s ≡ bytes x)
exactly-gives ok bytes p e s x n h q =
    let g = exactly-good p s x n q in
    let r = e.gives s x n h g.0 in
    (r.0, r.2 ∙ ap (λ (l : List ℕ). bytes x ++ l) (drop_of_length-le s {i = n} (omega (arith, g.1))) ∙ append-nil (bytes x))

pub exactly-takes : {A : Type 0} (ok : A → Bool) (bytes : A → List ℕ) (p : Reader A) → Exact ok bytes p → (x : A) → ok x ≡ true → exactly p (bytes x) ≡ good x (length (bytes x))
exactly-takes ok bytes p e x h = exactly-is p (bytes x) x (rw append-nil at (e.takes x [] h))

-- What is written of something legal is well formed, with nothing behind it, and is read back;
pub whole-read : {A : Type 0} (ok : A → Bool) (bytes : A → List ℕ) (p : Reader A) → Exact ok bytes p → (else x : A) → ok x ≡ true
    → (is_bad (exactly p (bytes x)) ≡ false) × (value_or else (exactly p (bytes x)) ≡ x)
unfolding value_or
whole-read ok bytes p exact else x h = let e = exactly-takes ok bytes p exact x h in (rw e, rw e)

-- and what is well formed, with nothing behind it, is what is written of something legal, which is read.
pub whole-given : {A : Type 0} (ok : A → Bool) (bytes : A → List ℕ) (p : Reader A) → Exact ok bytes p → (else : A) (s : List ℕ) → are_bytes s ≡ true
    → is_bad (exactly p s) ≡ false → (ok (value_or else (exactly p s)) ≡ true) × (bytes (value_or else (exactly p s)) ≡ s)
unfolding value_or
whole-given {A} ok bytes p exact else s h k = go (exactly p s) refl k
  where
    go : (r : Parsed A) → exactly p s ≡ r → is_bad r ≡ false → (ok (value_or else r) ≡ true) × (bytes (value_or else r) ≡ s)
    go (bad m) e b = let z : ◌≡◌ {A = ℕ} 0 1 = cc in absurd (omega arith)
    go (good x n) e b = let g = exactly-gives ok bytes p exact s x n h e in (g.0, sym g.1)
