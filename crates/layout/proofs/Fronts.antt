-- Everything up to the first frame: its lengths, what is read back of it, and that a file whose first four lines pass begins with it.
-- Assumes nothing.
use Prim.Native.Nat.{ℕ, ◌+◌, ◌-◌, ◌^◌, ◌≤◌, ◌<◌}
use native.Mathlib.Omega.{arith}
use mathlib.Core.Path.{◌≡◌, refl, ap, sym, ◌∙◌}
use mathlib.Core.Bool.{true, false, not, ◌&&◌, ◌||◌}
use mathlib.Core.List.{List, [], ◌∷◌, ◌++◌, flat_map, append_assoc}
use lib.ListN.{length, take, drop, get_or, length-append, length-drop, take-append-drop}
use lib.Seq.{take_at, drop_at, drop-drop, length-take-le, take-append_seam, drop-append_seam, drop-cons}
use lib.Dec.{ltb, leb, eqb}
use lib.Pow.{are_bytes}
use borrow.Author.Tests.{ltb-false, leb-true, eqb-true, not-false, lt-ltb, le-ltb, le-leb, eq-eqb}
use Rattle.number.specs.Number.{bytes_of, number_of}
use Rattle.number.proofs.Bytes.{both_true, and-true, length-bytes_of, number_of-bytes_of, bytes_of-number_of}
use Rattle.layout.specs.Recording.{Section, Tag, count_place, index_place, system_place, user_place, header_length, most_sections, longest_configuration, file_mark, revision, header_bytes, definition_list_bytes, definitions_end, definitions_bytes, configurations_bytes, table_bytes, front_bytes, within, every, same, distinct, legal_section_name, section_names, legal_table, legal_section}
use Rattle.layout.specs.Reading.{Parsed, bad, good, Definition, defined_names, definitions, table, is_bad, value_or, taken}
use Rattle.layout.specs.Opening.{field, header_count, index_offset, system_offset, user_offset, read_definitions, defined_in, read_system, walk_start, not_fstf, other_revision, steps, offsets_legal, last_offset, bad_sections, bad_system, next_offset, sections_from}
use Rattle.layout.proofs.Lists.{or-false, not-or, same_refl, same_true, bytes_drop, bytes_take}
use Rattle.layout.proofs.Exact.{definition_bytes, legal_definition, legal_definitions, definitions-exact, table-exact}
use Rattle.layout.proofs.Lines.{FrontPasses}

-- ── Lengths ──

pub length-header : (c i s u : ℕ) → length (header_bytes c i s u) ≡ header_length
unfolding header_bytes file_mark
length-header c i s u = simp (length-append, length-bytes_of)

-- a definition takes the same bytes whatever its offset
pub length-definitions : (a b : ℕ) (ss : List Section) → length (definition_list_bytes a ss) ≡ length (definition_list_bytes b ss)
unfolding definition_list_bytes
length-definitions a b [] = refl
length-definitions a b (s ∷ ss) =
    simp (length-append, length-bytes_of) (rw (length-definitions (a + length s.configuration) (b + length s.configuration) ss))

pub length-definitions_bytes : (ss : List Section) → header_length + length (definitions_bytes ss) ≡ definitions_end ss
unfolding definitions_bytes definitions_end
length-definitions_bytes ss = omega (arith, length-definitions (definitions_end ss) 0 ss)

pub definitions-some : (ss : List Section) → 1 ≤ length (definitions_bytes ss)
unfolding definitions_bytes
definitions-some ss = omega arith

-- where the system table starts
abbrev pub system_at : List Section → ℕ
system_at ss = definitions_end ss + length (configurations_bytes ss)

pub length_front : (c i u : ℕ) (ss : List Section) (system : List ℕ) → length (front_bytes c i u ss system) ≡ system_at ss + length system
unfolding front_bytes
length_front c i u ss system = simp (length-append, length-header) (omega (arith, length-definitions_bytes ss))

-- ── The header ──

-- a number that stands at its place is read back
pub field_at : (before behind : List ℕ) (place w n : ℕ) → length before ≡ place → n < 256 ^ w → field place w (before ++ (bytes_of w n ++ behind)) ≡ n
unfolding field
field_at before behind place w n e h = rw (drop_at before _ place e, take_at (bytes_of w n) behind w (length-bytes_of w n)) (number_of-bytes_of w n h)

-- a number that was read stands at the front of what begins at its place
pub field-front : (place w : ℕ) (f : List ℕ) → are_bytes f ≡ true → place + w ≤ length f → drop place f ≡ bytes_of w (field place w f) ++ drop (place + w) f
unfolding field
field-front place w f h e =
    let l : length (take w (drop place f)) ≡ w = length-take-le w (drop place f) (simp length-drop (omega arith)) in
    let b : bytes_of (length (take w (drop place f))) (number_of (take w (drop place f))) ≡ take w (drop place f) = bytes_of-number_of (take w (drop place f)) (bytes_take w (drop place f) (bytes_drop place f h)) in
    let c : bytes_of w (number_of (take w (drop place f))) ≡ take w (drop place f) = ap (λ (n : ℕ). bytes_of n (number_of (take w (drop place f)))) (sym l) ∙ b in
    rw (c, ← drop-drop w place f) (sym (take-append-drop w (drop place f)))

pub record HeaderRead (c i s u : ℕ) (f : List ℕ) : Type 0 where
  pub count : header_count f ≡ c
  pub index : index_offset f ≡ i
  pub system : system_offset f ≡ s
  pub user : user_offset f ≡ u
  pub mark : take 4 f ≡ file_mark
  pub version : get_or f 4 0 ≡ revision

-- the header's fields are read back, whatever follows
pub header_read : (c i s u : ℕ) (rest : List ℕ) → c < 256 ^ 4 → i < 256 ^ 8 → s < 256 ^ 8 → u < 256 ^ 8 → HeaderRead c i s u (header_bytes c i s u ++ rest)
unfolding header_bytes header_count index_offset system_offset user_offset file_mark
header_read c i s u rest hc hi hs hu =
    let m : List ℕ = file_mark ++ (revision ∷ []) in
    record {
      count = ap (field count_place 4) (simp append_assoc) ∙ field_at m (bytes_of 8 i ++ (bytes_of 8 s ++ (bytes_of 8 u ++ rest))) count_place 4 c refl hc;
      index = ap (field index_place 8) (simp append_assoc) ∙ field_at (m ++ bytes_of 4 c) (bytes_of 8 s ++ (bytes_of 8 u ++ rest)) index_place 8 i (simp (length-append, length-bytes_of)) hi;
      system = ap (field system_place 8) (simp append_assoc) ∙ field_at (m ++ bytes_of 4 c ++ bytes_of 8 i) (bytes_of 8 u ++ rest) system_place 8 s (simp (length-append, length-bytes_of)) hs;
      user = ap (field user_place 8) (simp append_assoc) ∙ field_at (m ++ bytes_of 4 c ++ bytes_of 8 i ++ bytes_of 8 s) rest user_place 8 u (simp (length-append, length-bytes_of)) hu;
      mark = refl;
      version = refl;
    }

-- what stands before a file's definitions is the header of the fields that are read from it
pub header-back : (f : List ℕ) → are_bytes f ≡ true → header_length ≤ length f → take 4 f ≡ file_mark → get_or f 4 0 ≡ revision → f ≡ header_bytes (header_count f) (index_offset f) (system_offset f) (user_offset f) ++ drop header_length f
unfolding header_bytes header_count index_offset system_offset user_offset
header-back f h l m v =
    let r : drop 4 f ≡ get_or f 4 0 ∷ drop 5 f = drop-cons f 4 0 (omega arith) in
    let a : drop 5 f ≡ bytes_of 4 (header_count f) ++ drop 9 f = field-front count_place 4 f h (omega arith) in
    let b : drop 9 f ≡ bytes_of 8 (index_offset f) ++ drop 17 f = field-front index_place 8 f h (omega arith) in
    let c : drop 17 f ≡ bytes_of 8 (system_offset f) ++ drop 25 f = field-front system_place 8 f h (omega arith) in
    let d : drop 25 f ≡ bytes_of 8 (user_offset f) ++ drop 33 f = field-front user_place 8 f h (omega arith) in
    simp append_assoc (sym (take-append-drop 4 f) ∙ rw (m, r, v, a, b, c, d))

-- ── Definitions and configurations ──

-- the definitions of some sections whose configurations start at `at`
unfoldable pub defined_at : ℕ → List Section → List Definition
defined_at at [] = []
defined_at at (s ∷ ss) = record { name = s.name; offset = at } ∷ defined_at (at + length s.configuration) ss

pub defined-bytes : (at : ℕ) (ss : List Section) → flat_map definition_bytes (defined_at at ss) ≡ definition_list_bytes at ss
unfolding defined_at definition_list_bytes definition_bytes flat_map
defined-bytes at [] = refl
defined-bytes at (s ∷ ss) = rw (defined-bytes (at + length s.configuration) ss)

pub length-defined : (at : ℕ) (ss : List Section) → length (defined_at at ss) ≡ length ss
unfolding defined_at
length-defined at [] = refl
length-defined at (s ∷ ss) = rw (length-defined (at + length s.configuration) ss)

pub defined-names : (at : ℕ) (ss : List Section) → defined_names (defined_at at ss) ≡ section_names ss
unfolding defined_at defined_names section_names
defined-names at [] = refl
defined-names at (s ∷ ss) = ap (λ (ns : List (List ℕ)). s.name ∷ ns) (defined-names (at + length s.configuration) ss)

pub configurations-none : length (configurations_bytes []) ≡ 0
unfolding configurations_bytes flat_map
configurations-none = refl

pub length-configurations : (s : Section) (ss : List Section) → length (configurations_bytes (s ∷ ss)) ≡ length s.configuration + length (configurations_bytes ss)
unfolding configurations_bytes flat_map
length-configurations s ss = length-append s.configuration (configurations_bytes ss)

-- a legal section has a legal name and a configuration that is not too long
pub section-name : (s : Section) → legal_section s ≡ true → legal_section_name s.name ≡ true
unfolding legal_section
section-name s h = (both_true (legal_section_name s.name) (leb (length s.configuration) longest_configuration) h).0

pub section-short : (s : Section) → legal_section s ≡ true → length s.configuration ≤ longest_configuration
unfolding legal_section
section-short s h = leb-true _ _ (both_true (legal_section_name s.name) (leb (length s.configuration) longest_configuration) h).1

pub defined-legal : (at : ℕ) (ss : List Section) → every legal_section ss ≡ true → at + length (configurations_bytes ss) < 256 ^ 8 → every legal_definition (defined_at at ss) ≡ true
unfolding every defined_at legal_definition
defined-legal at [] h e = refl
defined-legal at (s ∷ ss) h e =
    let l = both_true (legal_section s) (every legal_section ss) h in
    let b : at + length s.configuration + length (configurations_bytes ss) < 256 ^ 8 = omega (arith, length-configurations s ss) in
    and-true _ _ (and-true _ _ (section-name s l.0) (lt-ltb at (256 ^ 8) (omega arith))) (defined-legal (at + length s.configuration) ss l.1 b)

-- offsets run on by at most a configuration
defined-steps : (at n : ℕ) (ss : List Section) → every legal_section ss ≡ true → n ≤ longest_configuration → steps at (defined_at (at + n) ss) ≡ true
unfolding every defined_at steps
defined-steps at n [] h e = refl
defined-steps at n (s ∷ ss) h e =
    let l = both_true (legal_section s) (every legal_section ss) h in
    let t : steps (at + n) (defined_at (at + n + length s.configuration) ss) ≡ true = defined-steps (at + n) (length s.configuration) ss l.1 (section-short s l.0) in
    and-true _ _ (and-true _ _ (le-leb at (at + n) (omega arith)) (le-leb (at + n - at) longest_configuration (omega arith))) t

defined-offsets : (at : ℕ) (ss : List Section) → every legal_section ss ≡ true → offsets_legal at (defined_at at ss) ≡ true
unfolding every defined_at offsets_legal
defined-offsets at [] h = refl
defined-offsets at (s ∷ ss) h =
    let l = both_true (legal_section s) (every legal_section ss) h in
    and-true _ _ (eq-eqb at at refl) (defined-steps at (length s.configuration) ss l.1 (section-short s l.0))

-- from the last offset to the configurations' end is at most a configuration
defined-last : (at n : ℕ) (ss : List Section) → every legal_section ss ≡ true → n ≤ longest_configuration → (last_offset at (defined_at (at + n) ss) ≤ at + n + length (configurations_bytes ss)) × (at + n + length (configurations_bytes ss) ≤ last_offset at (defined_at (at + n) ss) + longest_configuration)
unfolding every defined_at last_offset
defined-last at n [] h e = (omega arith, omega (arith, configurations-none))
defined-last at n (s ∷ ss) h e =
    let l = both_true (legal_section s) (every legal_section ss) h in
    let t = defined-last (at + n) (length s.configuration) ss l.1 (section-short s l.0) in
    (omega (arith, t.0, length-configurations s ss), omega (arith, t.1, length-configurations s ss))

next-defined : (at : ℕ) (ss : List Section) → next_offset (at + length (configurations_bytes ss)) (defined_at at ss) ≡ at
unfolding defined_at next_offset
next-defined at [] = omega (arith, configurations-none)
next-defined at (s ∷ ss) = refl

-- the sections come back from their definitions and configurations
sections-read : (f : List ℕ) (at : ℕ) (ss : List Section) (rest : List ℕ) → system_offset f ≡ at + length (configurations_bytes ss) → drop at f ≡ configurations_bytes ss ++ rest → sections_from f (defined_at at ss) ≡ ss
unfolding defined_at sections_from configurations_bytes flat_map
sections-read f at [] rest e d = refl
sections-read f at (s ∷ ss) rest e d =
    let n : ℕ = length s.configuration in
    let e' : system_offset f ≡ at + n + length (configurations_bytes ss) = omega (arith, length-configurations s ss) in
    let g : drop at f ≡ s.configuration ++ (configurations_bytes ss ++ rest) = d ∙ append_assoc s.configuration (configurations_bytes ss) rest in
    let d' : drop (at + n) f ≡ configurations_bytes ss ++ rest = sym (drop-drop n at f) ∙ rw (g, drop-append_seam) in
    let i : sections_from f (defined_at (at + n) ss) ≡ ss = sections-read f (at + n) ss rest e' d' in
    let m : next_offset (system_offset f) (defined_at (at + n) ss) - at ≡ n = rw (e', next-defined (at + n) ss) (omega arith) in
    let t : take (next_offset (system_offset f) (defined_at (at + n) ss) - at) (drop at f) ≡ s.configuration = rw (m, g, take-append_seam) in
    rw (t, i)

-- ── What is read back of a front ──

-- legal sections whose system table has a place in 8 bytes
pub record LegalSections (ss : List Section) : Type 0 where
  pub some : 1 ≤ length ss
  pub few : length ss ≤ most_sections
  pub legal : every legal_section ss ≡ true
  pub differ : distinct (section_names ss) ≡ true

defined-all-legal : (ss : List Section) (at : ℕ) → LegalSections ss → at + length (configurations_bytes ss) < 256 ^ 8 → legal_definitions (defined_at at ss) ≡ true
unfolding legal_definitions
defined-all-legal ss at l h =
    rw (length-defined, defined-names)
    (and-true (within 1 most_sections (length ss) && every legal_definition (defined_at at ss)) (distinct (section_names ss))
    (and-true (within 1 most_sections (length ss)) (every legal_definition (defined_at at ss))
    (and-true (leb 1 (length ss)) (leb (length ss) most_sections) (le-leb _ _ l.some) (le-leb _ _ l.few))
    (defined-legal at ss l.legal h))
    l.differ)

-- the definitions of legal sections are read back
defined-read : (ss : List Section) (rest : List ℕ) → LegalSections ss → system_at ss < 256 ^ 8 → definitions (definitions_bytes ss ++ rest) ≡ good (defined_at (definitions_end ss) ss) (length (definitions_bytes ss))
unfolding definitions_bytes
defined-read ss rest l h =
    let t = definitions-exact.takes (defined_at (definitions_end ss) ss) rest (defined-all-legal ss (definitions_end ss) l h) in
    rw (length-defined, defined-bytes) at t

pub record FrontRead (c i u : ℕ) (ss : List Section) (ts : List Tag) (rest f : List ℕ) : Type 0 where
  pub count : header_count f ≡ c
  pub index : index_offset f ≡ i
  pub user : user_offset f ≡ u
  pub passes : FrontPasses f
  pub sections : sections_from f (defined_in f) ≡ ss
  pub defined : length (defined_in f) ≡ length ss
  pub system : read_system f ≡ good ts (length (table_bytes ts))
  pub start : walk_start f ≡ system_at ss + length (table_bytes ts)
  pub behind : drop (walk_start f) f ≡ rest

pub not-fstf : (f : List ℕ) → header_length < length f → take 4 f ≡ file_mark → not_fstf f ≡ false
unfolding not_fstf
not-fstf f l m = not-or _ _ (le-ltb (length f) (header_length + 1) (omega arith)) (rw (m, same_refl))

pub first-revision : (f : List ℕ) → get_or f 4 0 ≡ revision → other_revision f ≡ false
unfolding other_revision
first-revision f v = rw v

sections-pass : (f : List ℕ) (ds : List Definition) (n : ℕ) → read_definitions f ≡ good ds n → offsets_legal (header_length + n) ds ≡ true → bad_sections f ≡ false
unfolding bad_sections defined_in value_or taken
sections-pass f ds n r o = rw r (rw o)

system-pass : (f : List ℕ) (ts : List Tag) (n : ℕ) → read_system f ≡ good ts n → last_offset 0 (defined_in f) ≤ system_offset f → system_offset f ≤ last_offset 0 (defined_in f) + longest_configuration → bad_system f ≡ false
unfolding bad_system
system-pass f ts n r a b = not-or _ _ (not-or _ _ (le-ltb (system_offset f) (last_offset 0 (defined_in f)) a) (le-ltb (last_offset 0 (defined_in f) + longest_configuration) (system_offset f) b)) (rw r)

-- what is read, and where
pub definitions-at : (f s : List ℕ) → drop header_length f ≡ s → read_definitions f ≡ definitions s
unfolding read_definitions
definitions-at f s e = ap definitions e

pub defined-in : (f : List ℕ) (ds : List Definition) (n : ℕ) → read_definitions f ≡ good ds n → defined_in f ≡ ds
unfolding defined_in value_or
defined-in f ds n e = rw e

pub system-at : (f s : List ℕ) (at : ℕ) → system_offset f ≡ at → drop at f ≡ s → read_system f ≡ table s
unfolding read_system
system-at f s at o e = rw (o, e)

pub start-at : (f : List ℕ) (ts : List Tag) (n at : ℕ) → system_offset f ≡ at → read_system f ≡ good ts n → walk_start f ≡ at + n
unfolding walk_start taken
start-at f ts n at o e = rw (o, e)

-- the last of some sections' offsets
sections-last : (at : ℕ) (ss : List Section) → 1 ≤ length ss → every legal_section ss ≡ true → (last_offset 0 (defined_at at ss) ≤ at + length (configurations_bytes ss)) × (at + length (configurations_bytes ss) ≤ last_offset 0 (defined_at at ss) + longest_configuration)
unfolding defined_at last_offset every
sections-last at [] p h = absurd (omega arith)
sections-last at (s ∷ ss) p h =
    let l = both_true (legal_section s) (every legal_section ss) h in
    let t = defined-last at (length s.configuration) ss l.1 (section-short s l.0) in
    (omega (arith, t.0, length-configurations s ss), omega (arith, t.1, length-configurations s ss))

front-read-of : (c i u : ℕ) (ss : List Section) (ts : List Tag) (rest f : List ℕ) → HeaderRead c i (system_at ss) u f → header_length < length f → drop header_length f ≡ definitions_bytes ss ++ (configurations_bytes ss ++ (table_bytes ts ++ rest)) → LegalSections ss → legal_table ts ≡ true → system_at ss < 256 ^ 8 → FrontRead c i u ss ts rest f
front-read-of c i u ss ts rest f h n d l t b =
    let at : ℕ = definitions_end ss in
    let rd : read_definitions f ≡ good (defined_at at ss) (length (definitions_bytes ss)) = definitions-at f _ d ∙ defined-read ss (configurations_bytes ss ++ (table_bytes ts ++ rest)) l b in
    let di : defined_in f ≡ defined_at at ss = defined-in f _ _ rd in
    let cs : drop at f ≡ configurations_bytes ss ++ (table_bytes ts ++ rest) = ap (λ (m : ℕ). drop m f) (sym (length-definitions_bytes ss)) ∙ sym (drop-drop (length (definitions_bytes ss)) header_length f) ∙ rw (d, drop-append_seam) in
    let sy : drop (system_at ss) f ≡ table_bytes ts ++ rest = sym (drop-drop (length (configurations_bytes ss)) at f) ∙ rw (cs, drop-append_seam) in
    let rs : read_system f ≡ good ts (length (table_bytes ts)) = system-at f _ _ h.system sy ∙ table-exact.takes ts rest t in
    let ws : walk_start f ≡ system_at ss + length (table_bytes ts) = start-at f _ _ _ h.system rs in
    let last = sections-last at ss l.some l.legal in
    record {
      count = h.count;
      index = h.index;
      user = h.user;
      passes = record {
        mark = not-fstf f n h.mark;
        version = first-revision f h.version;
        sections = sections-pass f (defined_at at ss) (length (definitions_bytes ss)) rd (rw (length-definitions_bytes ss) (defined-offsets at ss l.legal));
        system = system-pass f ts (length (table_bytes ts)) rs (rw (di, h.system) last.0) (rw (di, h.system) last.1);
      };
      sections = rw di (sections-read f at ss (table_bytes ts ++ rest) h.system cs);
      defined = rw di (length-defined at ss);
      system = rs;
      start = ws;
      behind = rw ws (sym (drop-drop (length (table_bytes ts)) (system_at ss) f) ∙ rw (sy, drop-append_seam));
    }

-- Everything that opening goes by up to the frames is read back, whatever follows.
pub front_read : (c i u : ℕ) (ss : List Section) (ts : List Tag) (rest : List ℕ) → c < 256 ^ 4 → i < 256 ^ 8 → u < 256 ^ 8 → LegalSections ss → legal_table ts ≡ true → system_at ss < 256 ^ 8 → FrontRead c i u ss ts rest (front_bytes c i u ss (table_bytes ts) ++ rest)
unfolding front_bytes
front_read c i u ss ts rest hc hi hu l t b =
    let s : List ℕ = definitions_bytes ss ++ (configurations_bytes ss ++ (table_bytes ts ++ rest)) in
    let e : front_bytes c i u ss (table_bytes ts) ++ rest ≡ header_bytes c i (system_at ss) u ++ s = simp append_assoc in
    rw e (front-read-of c i u ss ts rest (header_bytes c i (system_at ss) u ++ s) (header_read c i (system_at ss) u s hc hi b hu) (simp (length-append, length-header) (omega (arith, definitions-some ss))) (drop_at (header_bytes c i (system_at ss) u) s header_length (length-header c i (system_at ss) u)) l t b)

-- ── What a file's front is ──

-- what definitions with legal offsets say of a file: `at` is the offset ahead of theirs
record Configured (f : List ℕ) (at : ℕ) (ds : List Definition) : Type 0 where
  low : at ≤ next_offset (system_offset f) ds
  near : next_offset (system_offset f) ds ≤ at + longest_configuration
  high : next_offset (system_offset f) ds ≤ system_offset f
  again : defined_at (next_offset (system_offset f) ds) (sections_from f ds) ≡ ds
  bytes : configurations_bytes (sections_from f ds) ++ drop (system_offset f) f ≡ drop (next_offset (system_offset f) ds) f
  size : next_offset (system_offset f) ds + length (configurations_bytes (sections_from f ds)) ≡ system_offset f
  legal : every legal_section (sections_from f ds) ≡ true

definition-name : (d : Definition) → legal_definition d ≡ true → legal_section_name d.name ≡ true
unfolding legal_definition
definition-name d h = (both_true (legal_section_name d.name) (ltb d.offset (256 ^ 8)) h).0

configured-one : (f : List ℕ) (at : ℕ) (d : Definition) (ds : List Definition) → system_offset f ≤ length f → legal_definition d ≡ true → at ≤ d.offset → d.offset - at ≤ longest_configuration → Configured f d.offset ds → Configured f at (d ∷ ds)
unfolding next_offset sections_from defined_at configurations_bytes flat_map every legal_section
configured-one f at d ds fits l a b i =
    let n : ℕ = next_offset (system_offset f) ds in
    let m : length (take (n - d.offset) (drop d.offset f)) ≡ n - d.offset = length-take-le (n - d.offset) (drop d.offset f) (simp length-drop (omega arith)) in
    let e : d.offset + (n - d.offset) ≡ n = omega arith in
    record {
      low = a;
      near = omega arith;
      high = omega arith;
      again = rw (m, e) (ap (λ (l : List Definition). d ∷ l) i.again);
      bytes =
          append_assoc (take (n - d.offset) (drop d.offset f)) (configurations_bytes (sections_from f ds)) (drop (system_offset f) f)
          ∙ ap (λ (t : List ℕ). take (n - d.offset) (drop d.offset f) ++ t) (i.bytes ∙ ap (λ (k : ℕ). drop k f) (sym e) ∙ sym (drop-drop (n - d.offset) d.offset f))
          ∙ take-append-drop (n - d.offset) (drop d.offset f);
      size = omega (arith, length-append (take (n - d.offset) (drop d.offset f)) (configurations_bytes (sections_from f ds)), m, e, i.size);
      legal = and-true _ _ (and-true _ _ (definition-name d l) (le-leb (length (take (n - d.offset) (drop d.offset f))) longest_configuration (omega arith))) i.legal;
    }

configured : (f : List ℕ) (at : ℕ) (ds : List Definition) → system_offset f ≤ length f → every legal_definition ds ≡ true → steps at ds ≡ true → last_offset at ds ≤ system_offset f → system_offset f ≤ last_offset at ds + longest_configuration → Configured f at ds
unfolding next_offset sections_from defined_at every steps last_offset configurations_bytes flat_map
configured f at [] fits l s a b = record { low = a; near = b; high = omega arith; again = refl; bytes = refl; size = omega arith; legal = refl }
configured f at (d ∷ ds) fits l s a b =
    let k = both_true (legal_definition d) (every legal_definition ds) l in
    let t = both_true (leb at d.offset && leb (d.offset - at) longest_configuration) (steps d.offset ds) s in
    let v = both_true (leb at d.offset) (leb (d.offset - at) longest_configuration) t.0 in
    configured-one f at d ds fits k.0 (leb-true _ _ v.0) (leb-true _ _ v.1) (configured f d.offset ds fits k.1 t.1 a b)

-- the first offset is `end`
configured-from : (f : List ℕ) (end : ℕ) (ds : List Definition) → system_offset f ≤ length f → 1 ≤ length ds → every legal_definition ds ≡ true → offsets_legal end ds ≡ true → last_offset 0 ds ≤ system_offset f → system_offset f ≤ last_offset 0 ds + longest_configuration → Configured f end ds × (next_offset (system_offset f) ds ≡ end)
unfolding every offsets_legal last_offset next_offset
configured-from f end [] fits p l o a b = absurd (omega arith)
configured-from f end (d ∷ ds) fits p l o a b =
    let k = both_true (legal_definition d) (every legal_definition ds) l in
    let t = both_true (eqb d.offset end) (steps d.offset ds) o in
    let e : d.offset ≡ end = eqb-true d.offset end t.0 in
    (configured-one f end d ds fits k.0 (omega arith) (omega arith) (configured f d.offset ds fits k.1 t.1 a b), e)

pub table-some : (ts : List Tag) → 4 ≤ length (table_bytes ts)
unfolding table_bytes
table-some ts = simp (length-append, length-bytes_of) (omega arith)

-- what was read, and its bytes
pub read-good : {A : Type 0} (else : A) (p : Parsed A) → is_bad p ≡ false → p ≡ good (value_or else p) (taken p)
unfolding value_or taken
read-good else (bad m) h = let z : ◌≡◌ {A = ℕ} 0 1 = cc in absurd (omega arith)
read-good else (good a n) h = refl

-- the sections and the system tags that a file shows
abbrev pub sections_in : List ℕ → List Section
sections_in f = sections_from f (defined_in f)

abbrev pub system_in : List ℕ → List Tag
system_in f = value_or [] (read_system f)

pub record FrontGiven (f : List ℕ) : Type 0 where
  pub sections : LegalSections (sections_in f)
  pub table : legal_table (system_in f) ≡ true
  pub defined : length (defined_in f) ≡ length (sections_in f)
  pub start : walk_start f ≡ system_at (sections_in f) + length (table_bytes (system_in f))
  pub bytes : f ≡ front_bytes (header_count f) (index_offset f) (user_offset f) (sections_in f) (table_bytes (system_in f)) ++ drop (walk_start f) f

-- the header passes
header-given : (f : List ℕ) → are_bytes f ≡ true → FrontPasses f → f ≡ header_bytes (header_count f) (index_offset f) (system_offset f) (user_offset f) ++ drop header_length f
unfolding not_fstf other_revision
header-given f h p =
    let m = or-false (ltb (length f) (header_length + 1)) (not (same (take 4 f) file_mark)) p.mark in
    let l : header_length + 1 ≤ length f = ltb-false (length f) (header_length + 1) m.0 in
    header-back f h (omega arith) (same_true (take 4 f) file_mark (not-false (same (take 4 f) file_mark) m.1)) (eqb-true (get_or f 4 0) revision (not-false (eqb (get_or f 4 0) revision) p.version))

sections-given : (f : List ℕ) → bad_sections f ≡ false → (read_definitions f ≡ good (defined_in f) (taken (read_definitions f))) × (offsets_legal (header_length + taken (read_definitions f)) (defined_in f) ≡ true)
unfolding bad_sections defined_in
sections-given f h =
    let p = or-false (is_bad (read_definitions f)) (not (offsets_legal (header_length + taken (read_definitions f)) (defined_in f))) h in
    (read-good [] (read_definitions f) p.0, not-false (offsets_legal (header_length + taken (read_definitions f)) (defined_in f)) p.1)

system-given : (f : List ℕ) → bad_system f ≡ false → (read_system f ≡ good (system_in f) (taken (read_system f))) × (last_offset 0 (defined_in f) ≤ system_offset f) × (system_offset f ≤ last_offset 0 (defined_in f) + longest_configuration)
unfolding bad_system
system-given f h =
    let p = or-false (ltb (system_offset f) (last_offset 0 (defined_in f)) || ltb (last_offset 0 (defined_in f) + longest_configuration) (system_offset f)) (is_bad (read_system f)) h in
    let q = or-false (ltb (system_offset f) (last_offset 0 (defined_in f))) (ltb (last_offset 0 (defined_in f) + longest_configuration) (system_offset f)) p.0 in
    (read-good [] (read_system f) p.1, ltb-false _ _ q.0, ltb-false _ _ q.1)

definitions-parts : (ds : List Definition) → legal_definitions ds ≡ true → (1 ≤ length ds) × (length ds ≤ most_sections) × (every legal_definition ds ≡ true) × (distinct (defined_names ds) ≡ true)
unfolding legal_definitions
definitions-parts ds l =
    let p = both_true (within 1 most_sections (length ds) && every legal_definition ds) (distinct (defined_names ds)) l in
    let q = both_true (within 1 most_sections (length ds)) (every legal_definition ds) p.0 in
    let w = both_true (leb 1 (length ds)) (leb (length ds) most_sections) q.0 in
    (leb-true 1 (length ds) w.0, leb-true (length ds) most_sections w.1, q.1, p.1)

-- where something stands, the file has not ended
pub stands-within : (at : ℕ) (f s t : List ℕ) → 1 ≤ length s → drop at f ≡ s ++ t → at ≤ length f
stands-within at f s t p e = omega (arith, ap length e, length-append s t, length-drop at f)

-- the sections that legal definitions of n bytes show, and their bytes
record DefinedGiven (f : List ℕ) (ds : List Definition) (n : ℕ) : Type 0 where
  legal : LegalSections (sections_from f ds)
  count : length ds ≡ length (sections_from f ds)
  bytes : definitions_bytes (sections_from f ds) ≡ length ds ∷ flat_map definition_bytes ds
  end : definitions_end (sections_from f ds) ≡ header_length + n
  system : system_at (sections_from f ds) ≡ system_offset f

defined-given : (f : List ℕ) (ds : List Definition) (n : ℕ) → legal_definitions ds ≡ true → n ≡ length (length ds ∷ flat_map definition_bytes ds) → Configured f (header_length + n) ds → next_offset (system_offset f) ds ≡ header_length + n → DefinedGiven f ds n
unfolding definitions_bytes definitions_end
defined-given f ds n l e c first =
    let ss : List Section = sections_from f ds in
    let p = definitions-parts ds l in
    let a : defined_at (header_length + n) ss ≡ ds = rw first at c.again in
    let k : length ds ≡ length ss = sym (ap length a) ∙ length-defined (header_length + n) ss in
    let b : definition_list_bytes (header_length + n) ss ≡ flat_map definition_bytes ds = sym (defined-bytes (header_length + n) ss) ∙ ap (flat_map definition_bytes) a in
    let d : definitions_end ss ≡ header_length + n = omega (arith, e, length-definitions (header_length + n) 0 ss, ap length b) in
    record {
      legal = record {
        some = omega (arith, p.0);
        few = omega (arith, p.1);
        legal = c.legal;
        differ = ap distinct (sym (defined-names (header_length + n) ss) ∙ ap defined_names a) ∙ p.3;
      };
      count = k;
      bytes = ap (λ (at : ℕ). length ss ∷ definition_list_bytes at ss) d ∙ rw (b, k);
      end = d;
      system = omega (arith, c.size, first, d);
    }

-- the bytes of a file, part behind part
front_bytes_lem : (f : List ℕ) (c i u : ℕ) (ss : List Section) (ts : List Tag) (n m : ℕ) → f ≡ header_bytes c i (system_offset f) u ++ drop header_length f → system_at ss ≡ system_offset f → drop header_length f ≡ definitions_bytes ss ++ drop n (drop header_length f) → configurations_bytes ss ++ drop (system_offset f) f ≡ drop (header_length + n) f → drop (system_offset f) f ≡ table_bytes ts ++ drop m (drop (system_offset f) f) → f ≡ front_bytes c i u ss (table_bytes ts) ++ drop (system_offset f + m) f
unfolding front_bytes
front_bytes_lem f c i u ss ts n m hd sy d cs t =
    let d' : drop header_length f ≡ definitions_bytes ss ++ (configurations_bytes ss ++ (table_bytes ts ++ drop (system_offset f + m) f)) =
    d ∙ ap (λ (l : List ℕ). definitions_bytes ss ++ l) (drop-drop n header_length f ∙ sym cs ∙ ap (λ (l : List ℕ). configurations_bytes ss ++ l) (t ∙ ap (λ (l : List ℕ). table_bytes ts ++ l) (drop-drop m (system_offset f) f))) in
    hd ∙ rw sy (simp append_assoc (ap (λ (l : List ℕ). header_bytes c i (system_offset f) u ++ l) d'))

-- A file whose first four lines pass begins with the front of the sections and system tags that it shows.
pub front-given : (f : List ℕ) → are_bytes f ≡ true → FrontPasses f → FrontGiven f
unfolding read_definitions read_system walk_start
front-given f h p =
    let ds : List Definition = defined_in f in
    let n : ℕ = taken (read_definitions f) in
    let s = sections-given f p.sections in
    let y = system-given f p.system in
    let g = definitions-exact.gives (drop header_length f) ds n (bytes_drop header_length f h) s.0 in
    let t = table-exact.gives (drop (system_offset f) f) (system_in f) (taken (read_system f)) (bytes_drop (system_offset f) f h) y.0 in
    let fits : system_offset f ≤ length f = stands-within (system_offset f) f (table_bytes (system_in f)) _ (omega (arith, table-some (system_in f))) t.2 in
    let l = definitions-parts ds g.0 in
    let c = configured-from f (header_length + n) ds fits l.0 l.2 s.1 y.1 y.2 in
    let v = defined-given f ds n g.0 g.1 c.0 c.1 in
    record {
      sections = v.legal;
      table = t.0;
      defined = v.count;
      start = omega (arith, t.1, v.system);
      bytes = front_bytes_lem f (header_count f) (index_offset f) (user_offset f) (sections_in f) (system_in f) n (taken (read_system f)) (header-given f h p) v.system (rw v.bytes g.2) (c.0.bytes ∙ ap (λ (k : ℕ). drop k f) c.1) t.2;
    }
