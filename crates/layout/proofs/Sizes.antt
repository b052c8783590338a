-- How long the parts of a legal file are, and that what stands before the frames is far below the limit of a file's length.
-- Assumes nothing.
use Prim.Native.Nat.{ℕ, ◌+◌, ◌*◌, ◌≤◌}
use native.Mathlib.Omega.{arith}
use mathlib.Core.Path.{◌≡◌}
use mathlib.Core.Bool.{Bool, true, ◌&&◌}
use mathlib.Core.List.{List, [], ◌∷◌, flat_map}
use lib.ListN.{length, length-append}
use lib.Dec.{leb}
use borrow.Author.Tests.{leb-true}
use Rattle.number.proofs.Bytes.{both_true, length-bytes_of}
use Rattle.layout.specs.Recording.{Section, Tag, most_sections, most_tags, longest_configuration, largest_table, short_string, definition_list_bytes, definitions_end, configurations_bytes, tag_bytes, table_bytes, front_bytes, entry_bytes, within, every, distinct, legal_section_name, legal_section, legal_tag_name, legal_tag_value, legal_tag, legal_table, tag_names, is_name_byte, is_tag_byte}
use Rattle.layout.proofs.Fronts.{length-definitions, length_front, section-name, section-short}

-- ── Fixed lengths ──

pub length-entry : (first time offset len : ℕ) → length (entry_bytes first time offset len) ≡ 16
unfolding entry_bytes
length-entry first time offset len = simp (length-append, length-bytes_of)

length-definition : (at : ℕ) (s : Section) (ss : List Section) → length (definition_list_bytes at (s ∷ ss)) ≡ 9 + length s.name + length (definition_list_bytes (at + length s.configuration) ss)
unfolding definition_list_bytes short_string
length-definition at s ss = simp (length-append, length-bytes_of) (omega arith)

-- ── Limits ──

-- encodings of at most k bytes each
pub flat_map-most : {A : Type 0} (ok : A → Bool) (bytes : A → List ℕ) (k : ℕ) → ((x : A) → ok x ≡ true → length (bytes x) ≤ k) → (xs : List A) → every ok xs ≡ true → length (flat_map bytes xs) ≤ k * length xs
unfolding flat_map every
flat_map-most ok bytes k h [] e = omega arith
flat_map-most ok bytes k h (x ∷ xs) e =
    let b = both_true (ok x) (every ok xs) e in
    omega (arith, length-append (bytes x) (flat_map bytes xs), h x b.0, flat_map-most ok bytes k h xs b.1)

pub within-most : (low high n : ℕ) → within low high n ≡ true → n ≤ high
within-most low high n h = leb-true n high (both_true (leb low n) (leb n high) h).1

tag-most : (t : Tag) → legal_tag t ≡ true → length (tag_bytes t) ≤ 512
unfolding legal_tag legal_tag_name legal_tag_value tag_bytes short_string
tag-most t h =
    let b = both_true (legal_tag_name t.name) (legal_tag_value t.value) h in
    let n = both_true (within 1 255 (length t.name)) (every is_tag_byte t.name) b.0 in
    let v = both_true (within 0 255 (length t.value)) (every is_tag_byte t.value) b.1 in
    let l : length t.name ≤ 255 = within-most 1 255 (length t.name) n.0 in
    let m : length t.value ≤ 255 = within-most 0 255 (length t.value) v.0 in
    simp length-append (omega arith)

pub table-most : (ts : List Tag) → legal_table ts ≡ true → length (table_bytes ts) ≤ largest_table
unfolding legal_table table_bytes
table-most ts h =
    let a = both_true (leb (length ts) most_tags && every legal_tag ts) (distinct (tag_names ts)) h in
    let b = both_true (leb (length ts) most_tags) (every legal_tag ts) a.0 in
    let l : length ts ≤ most_tags = leb-true (length ts) most_tags b.0 in
    let m : length (flat_map tag_bytes ts) ≤ 512 * length ts = flat_map-most legal_tag tag_bytes 512 tag-most ts b.1 in
    simp (length-append, length-bytes_of) (omega arith)

name-most : (s : Section) → legal_section s ≡ true → length s.name ≤ 255
unfolding legal_section_name
name-most s h = within-most 1 255 (length s.name) (both_true (within 1 255 (length s.name)) (every is_name_byte s.name) (section-name s h)).0

definitions-most : (ss : List Section) → every legal_section ss ≡ true → length (definition_list_bytes 0 ss) ≤ 264 * length ss
unfolding every
definitions-most [] h = unfold definition_list_bytes in omega arith
definitions-most (s ∷ ss) h =
    let b = both_true (legal_section s) (every legal_section ss) h in
    omega (arith, length-definition 0 s ss, length-definitions (0 + length s.configuration) 0 ss, definitions-most ss b.1, name-most s b.0)

configurations-most : (ss : List Section) → every legal_section ss ≡ true → length (configurations_bytes ss) ≤ longest_configuration * length ss
unfolding configurations_bytes
configurations-most ss h = flat_map-most legal_section (λ s. s.configuration) longest_configuration section-short ss h

-- the opening piece is shorter than two million bytes
pub front-most : (count index user : ℕ) (ss : List Section) (ts : List Tag) → length ss ≤ most_sections → every legal_section ss ≡ true → legal_table ts ≡ true → length (front_bytes count index user ss (table_bytes ts)) ≤ 2000000
unfolding definitions_end
front-most count index user ss ts k h t =
    omega (arith, length_front count index user ss (table_bytes ts), definitions-most ss h, configurations-most ss h, table-most ts t)
