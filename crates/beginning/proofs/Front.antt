-- The opening piece: where its parts stand, and how they are stored one behind the other.
-- Assumes nothing.
use Rattle.std.specs.Prelude.{Option, Some, None}
use Prim.Native.Nat.{ℕ, zero, suc, ◌+◌, ◌*◌, ◌-◌, ◌^◌, ◌<◌, ◌≤◌}
use native.Mathlib.Omega.{arith}
use mathlib.Core.Path.{◌≡◌, refl, ap, sym, ◌∙◌}
use mathlib.Core.Bool.{false}
use mathlib.Core.List.{List, [], ◌∷◌, ◌++◌, flat_map}
use lib.ListN.{length, take, drop, length-drop, length-append}
use lib.Seq.{sets, length-sets, drop-cons, length-take-le, take-length, append_snoc}
use borrow.Author.Rules.{rules}
use mir.Syntax.{w64}
use mir.Val.{Fits}
use Rattle.number.specs.Number.{bytes_of, read_at, write_at}
use Rattle.number.proofs.Bytes.{length-bytes_of}
use Rattle.layout.specs.Recording.{Section, short_string, header_bytes, file_mark, definition_list_bytes, definitions_end, definitions_bytes, configurations_bytes, front_bytes}
use Rattle.layout.specs.Reading.{good, times}
use Rattle.layout.specs.Recorder.{set_up_section, sections_of, bad_set_up, first_piece}
use Rattle.layout.proofs.Exact.{one_byte}
use Rattle.layout.proofs.Fronts.{length-definitions, length-header}
use Rattle.parts.specs.Parts.{copied}
use Rattle.parts.proofs.Laws.{copied-there}
use Rattle.rows.specs.Rows.{row_name, row_of}
use Rattle.rows.specs.declared.Row.TheVariants.{SetUp}
use Rattle.rows.specs.declared.RowPlace.{RowPlace}
use Rattle.parts.proofs.Times.{times-parts}
use Rattle.names.proofs.Readers.{set-up-row}
use Rattle.setup.specs.SetUp.{rows}
use Rattle.beginning.specs.Front.{start_bytes, head_bytes, table_start}
use Rattle.parts.proofs.Output.{length-write, sets_behind, write-behind, copy-behind}
use Rattle.layout.proofs.Outputs.{sets-append, write-is}
use Rattle.setup.proofs.SetUp.{RowRead, row_read, row-none, rows-done, rows-stop, rows_step, listed, legal-list, sections-rows, sections-count}

-- ── One section more ──

module _ (s : List ℕ) (at : ℕ) (row : RowPlace) (r : Option RowPlace) (f : r ≡ row_of at (row_name SetUp (drop at s))) (g : r ≡ Some row) where
  abbrev o : RowRead s at row.name row.end
  o = row_read s at row r f g

  abbrev size : ℕ
  size = row.end - (at + 3 + row.name)

  abbrev name : List ℕ
  name = take row.name (drop (at + 1) s)

  abbrev configuration : List ℕ
  configuration = take size (drop (at + 3 + row.name) s)

  size_is : o.size ≡ size
  size_is = omega (arith, o.ends)

  name-length : length name ≡ row.name
  name-length = length-take-le row.name (drop (at + 1) s) (rw (length-drop (at + 1) s) (omega (arith, o.ends, o.inside)))

  configuration-length : length configuration ≡ size
  configuration-length = length-take-le size (drop (at + 3 + row.name) s) (rw (length-drop (at + 3 + row.name) s) (omega (arith, o.ends, o.inside)))

  -- its name with the length byte, as it stands in the list
  name-bytes : short_string name ≡ take (1 + row.name) (drop at s)
  unfolding short_string
  name-bytes =
      let e : 1 + row.name ≡ suc row.name = omega arith in
      let k : at + 1 ≡ suc at = omega arith in
      let l : at < length s = omega (arith, o.ends, o.inside) in
      rw (name-length, e, drop-cons s at 0 l, ← o.byte, k)

  pub ends-within : row.end ≤ length s + 1
  ends-within = omega (arith, o.inside)

  pub place-fits : length s < 2 ^ 64 → Fits w64 (at + 3)
  place-fits b = record { fits = omega (arith, o.ends, o.inside) }

  pub behind-name-fits : length s < 2 ^ 64 → Fits w64 (at + 3 + row.name)
  behind-name-fits b = record { fits = omega (arith, o.ends, o.inside) }

  pub behind-name : at + 3 + row.name ≤ row.end
  behind-name = omega (arith, o.ends)

  pub name-there : at + 1 + row.name ≤ length s
  name-there = omega (arith, o.ends, o.inside)

  -- with so many rows from there on
  module _ (left : ℕ) (h : 0 < left) where
    -- the section that stands there, and those behind it
    next-rows : rows left (drop at s) ≡ record { name = name; configuration = configuration } ∷ rows (left - 1) (drop row.end s)
    next-rows =
        let i : at + (3 + row.name + o.size) ≡ row.end = omega (arith, o.ends) in
        rows_step left (left - 1) s at (3 + row.name + o.size) (record { name = name; configuration = take o.size (drop (at + 3 + row.name) s) }) (omega arith) o.read
        ∙ rw (i, size_is)

    next-definitions : (a : ℕ) → definition_list_bytes a (rows left (drop at s)) ≡ take (1 + row.name) (drop at s) ++ bytes_of 8 a
        ++ definition_list_bytes (a + size) (rows (left - 1) (drop row.end s))
    unfolding definition_list_bytes
    next-definitions a = rw (next-rows, definition_list_bytes, name-bytes, configuration-length)

    next-configurations : configurations_bytes (rows left (drop at s)) ≡ configuration ++ configurations_bytes (rows (left - 1) (drop row.end s))
    unfolding configurations_bytes flat_map
    next-configurations = rw next-rows

    definition-length : (a : ℕ) → length (definition_list_bytes a (rows left (drop at s))) ≡ 9 + row.name + length
        (definition_list_bytes (a + size) (rows (left - 1) (drop row.end s)))
    definition-length a =
        let l : length (take (1 + row.name) (drop at s)) ≡ 1 + row.name = length-take-le (1 + row.name) (drop at s)
        (rw (length-drop at s) (omega (arith, o.ends, o.inside))) in
        rw (next-definitions a) (simp (length-append, length-bytes_of, l) (omega arith))

    configurations-length : length (configurations_bytes (rows left (drop at s))) ≡ size + length (configurations_bytes (rows (left - 1) (drop row.end s)))
    configurations-length = rw next-configurations (length-append configuration (configurations_bytes (rows (left - 1) (drop row.end s)))
        ∙ ap (λ (i : ℕ). i + length (configurations_bytes (rows (left - 1) (drop row.end s)))) configuration-length)

    -- ── Where the definitions end ──

    pub ends-step : (x all later : ℕ) → x + length (definition_list_bytes 0 (rows left (drop at s))) ≡ all → left ≡ later + 1
        → x + 9 + row.name + length (definition_list_bytes 0 (rows later (drop row.end s))) ≡ all
    ends-step x all later e l =
        let k : later ≡ left - 1 = omega arith in
        rw k (omega (arith, definition-length 0, length-definitions (0 + size) 0 (rows (left - 1) (drop row.end s))))

    pub ends_more : (x k later : ℕ) → x + 6 * left ≤ 33 + 6 * k + at → left ≡ later + 1 → x + 9 + row.name + 6 * later ≤ 33 + 6 * k + row.end
    ends_more x k later e l = omega (arith, o.ends)

    pub ends-fits : (x k : ℕ) → x + 6 * left ≤ 33 + 6 * k + at → k ≤ 8 → length s * 1 < 2 ^ 63 → Fits w64 (x + 9)
    ends-fits x k e l b = record { fits = omega (arith, o.ends, o.inside) }

    pub ends-name-fits : (x k : ℕ) → x + 6 * left ≤ 33 + 6 * k + at → k ≤ 8 → length s * 1 < 2 ^ 63 → Fits w64 (x + 9 + row.name)
    ends-name-fits x k e l b = record { fits = omega (arith, o.ends, o.inside) }

    -- ── The definitions ──

    pub definition-room : (out : List ℕ) (to offset : ℕ) → to + length (definition_list_bytes offset (rows left (drop at s))) ≤ length out
        → to + 1 + row.name + 8 ≤ length out
    definition-room out to offset e = omega (arith, definition-length offset)

    pub to-fits : (out lent : List ℕ) (to offset : ℕ) → to + length (definition_list_bytes offset (rows left (drop at s))) ≤ length out
        → length out ≡ length lent → length lent < 2 ^ 64 → Fits w64 (to + 1)
    to-fits out lent to offset e k b = record { fits = omega (arith, definition-length offset) }

    pub to-name-fits : (out lent : List ℕ) (to offset : ℕ) → to + length (definition_list_bytes offset (rows left (drop at s))) ≤ length out
        → length out ≡ length lent → length lent < 2 ^ 64 → Fits w64 (to + 1 + row.name)
    to-name-fits out lent to offset e k b = record { fits = omega (arith, definition-length offset) }

    pub to-offset-fits : (out lent : List ℕ) (to offset : ℕ) → to + length (definition_list_bytes offset (rows left (drop at s))) ≤ length out
        → length out ≡ length lent → length lent < 2 ^ 64 → Fits w64 (to + 1 + row.name + 8)
    to-offset-fits out lent to offset e k b = record { fits = omega (arith, definition-length offset) }

    pub size_fits : (out lent : List ℕ) (offset : ℕ) → offset + length (configurations_bytes (rows left (drop at s))) ≤ length out
        → length out ≡ length lent → length lent < 2 ^ 64 → Fits w64 (offset + (row.end - (at + 3 + row.name)))
    size_fits out lent offset e k b = record { fits = omega (arith, configurations-length) }

    pub defined-step : (out x all : List ℕ) (to offset later : ℕ) → sets out to (definition_list_bytes offset (rows left (drop at s))) ≡ all
        → x ≡ sets out to (take (1 + row.name) (drop at s) ++ bytes_of 8 offset) → left ≡ later + 1
        → sets x (to + 1 + row.name + 8) (definition_list_bytes (offset + (row.end - (at + 3 + row.name))) (rows later (drop row.end s))) ≡ all
    defined-step out x all to offset later e p j =
        let i : later ≡ left - 1 = omega arith in
        let part = take (1 + row.name) (drop at s) ++ bytes_of 8 offset in
        let l : length (take (1 + row.name) (drop at s)) ≡ 1 + row.name = length-take-le (1 + row.name) (drop at s)
        (rw (length-drop at s) (omega (arith, o.ends, o.inside))) in
        let k : to + length part ≡ to + 1 + row.name + 8 = simp (length-append, length-bytes_of, l) (omega arith) in
        rw i (sym (sets-append out to part (definition_list_bytes (offset + size) (rows (left - 1) (drop row.end s))) ∙ rw (k, ← p))
        ∙ rw (← next-definitions offset) e)

    pub defined-room : (out x : List ℕ) (to offset later : ℕ) → length x ≡ length out → left ≡ later + 1
        → to + length (definition_list_bytes offset (rows left (drop at s))) ≤ length out
        → to + 1 + row.name + 8 + length (definition_list_bytes (offset + (row.end - (at + 3 + row.name))) (rows later (drop row.end s))) ≤ length x
    defined-room out x to offset later p l e =
        let k : later ≡ left - 1 = omega arith in
        rw k (omega (arith, definition-length offset))

    pub configured-room : (out x : List ℕ) (offset later : ℕ) → length x ≡ length out → left ≡ later + 1
        → offset + length (configurations_bytes (rows left (drop at s))) ≤ length out
        → offset + (row.end - (at + 3 + row.name)) + length (configurations_bytes (rows later (drop row.end s))) ≤ length x
    configured-room out x offset later p l e =
        let k : later ≡ left - 1 = omega arith in
        rw k (omega (arith, configurations-length))

    -- ── The configurations ──

    pub configured-step : (out x all : List ℕ) (to later : ℕ) → to + length (configurations_bytes (rows left (drop at s))) ≤ length out
        → x ≡ copied s (at + 3 + row.name) out to (row.end - (at + 3 + row.name)) → sets out to (configurations_bytes (rows left (drop at s))) ≡ all
        → left ≡ later + 1 → sets x (to + (row.end - (at + 3 + row.name))) (configurations_bytes (rows later (drop row.end s))) ≡ all
    configured-step out x all to later q p e l =
        let k : later ≡ left - 1 = omega arith in
        let w : x ≡ sets out to configuration = p ∙ copied-there s out (at + 3 + row.name) to size (omega (arith, o.ends, o.inside))
        (omega (arith, configurations-length)) in
        rw k (sym (sets-append out to configuration (configurations_bytes (rows (left - 1) (drop row.end s))) ∙ rw (configuration-length, ← w))
        ∙ rw (← next-configurations) e)

-- ── Where the rows stop ──

module _ (s : List ℕ) (at left : ℕ) where
  pub ends-done : (x all : ℕ) → left ≤ 0 → x + length (definition_list_bytes 0 (rows left (drop at s))) ≡ all → x ≡ all
  unfolding definition_list_bytes
  ends-done x all h e = omega (arith, rw (rows-done left (drop at s) h) at e)

  pub ends-stop : (x all : ℕ) (r : Option RowPlace) → 0 < left → r ≡ row_of at (row_name SetUp (drop at s)) → r ≡ None
      → x + length (definition_list_bytes 0 (rows left (drop at s))) ≡ all → x ≡ all
  unfolding definition_list_bytes
  ends-stop x all r h f g e = omega (arith, rw (rows-stop left (drop at s) (row-none s at r f g).1) at e)

  pub defined-done : (out all : List ℕ) (to offset : ℕ) → left ≤ 0 → sets out to (definition_list_bytes offset (rows left (drop at s))) ≡ all
      → out ≡ all
  unfolding definition_list_bytes
  defined-done out all to offset h e = rw (rows-done left (drop at s) h) at e

  pub defined-stop : (out all : List ℕ) (to offset : ℕ) (r : Option RowPlace) → 0 < left → r ≡ row_of at (row_name SetUp (drop at s)) → r ≡ None
      → sets out to (definition_list_bytes offset (rows left (drop at s))) ≡ all → out ≡ all
  unfolding definition_list_bytes
  defined-stop out all to offset r h f g e = rw (rows-stop left (drop at s) (row-none s at r f g).1) at e

  pub configured-done : (out all : List ℕ) (to : ℕ) → left ≤ 0 → sets out to (configurations_bytes (rows left (drop at s))) ≡ all → out ≡ all
  unfolding configurations_bytes flat_map
  configured-done out all to h e = rw (rows-done left (drop at s) h) at e

  pub configured-stop : (out all : List ℕ) (to : ℕ) (r : Option RowPlace) → 0 < left → r ≡ row_of at (row_name SetUp (drop at s)) → r ≡ None
      → sets out to (configurations_bytes (rows left (drop at s))) ≡ all → out ≡ all
  unfolding configurations_bytes flat_map
  configured-stop out all to r h f g e = rw (rows-stop left (drop at s) (row-none s at r f g).1) at e

pub ends-start : (ss : List Section) → 34 + length (definition_list_bytes 0 ss) ≡ definitions_end ss
unfolding definitions_end
ends-start ss = omega arith

pub definition-written : (s out a b : List ℕ) (place name offset to : ℕ) → place + 1 + name ≤ length s → to + 1 + name + 8 ≤ length out
    → a ≡ copied s place out to (1 + name) → b ≡ write_at a (to + 1 + name) 8 offset
    → b ≡ sets out to (take (1 + name) (drop place s) ++ bytes_of 8 offset)
definition-written s out a b place name offset to h k p q =
    let part = take (1 + name) (drop place s) in
    let w : a ≡ sets out to part = p ∙ copied-there s out place to (1 + name) (omega arith) (omega arith) in
    let l : length part ≡ 1 + name = length-take-le (1 + name) (drop place s) (rw (length-drop place s) (omega arith)) in
    write-behind out a b part to (to + 1 + name) 8 w (omega arith) (omega arith) offset q

-- ── The whole piece ──

-- the bytes that a section takes in the list
set-up-taken : (t : List ℕ) (x : Section) (j : ℕ) → set_up_section t ≡ good x j → j ≡ 3 + length x.name + length x.configuration
unfolding row_of
set-up-taken t x j e =
    let q = set-up-row t x j e in
    let o = row_read t 0 (record { name = length x.name; end = 0 + j }) (row_of 0 (row_name SetUp t)) refl (rw q) in
    let l : length (take o.size (drop (0 + 3 + length x.name) t)) ≡ o.size =
    length-take-le o.size (drop (0 + 3 + length x.name) t)
    (rw (length-drop (0 + 3 + length x.name) t) (omega (arith, o.ends, o.inside))) in
    let k : x.configuration ≡ take o.size (drop (0 + 3 + length x.name) t) =
    same x j (take (length x.name) (drop (0 + 1) t)) (take o.size (drop (0 + 3 + length x.name) t)) (3 + length x.name + o.size)
    (sym e ∙ o.read) in
    omega (arith, o.ends, ap length k)
  where
    same : (x : Section) (j : ℕ) (n c : List ℕ) (m : ℕ) → good x j ≡ good (record { name = n; configuration = c }) m → x.configuration ≡ c
    same x j n c m e = let f : x ≡ record { name = n; configuration = c } = cc in ap (λ (x : Section). x.configuration) f

-- each has six bytes more in the file
more-by-six : (k : ℕ) (t : List ℕ) (ss : List Section) (m : ℕ) → times k set_up_section t ≡ good ss m
    → length (definition_list_bytes 0 ss) + length (configurations_bytes ss) ≡ m + 6 * k
unfolding times definition_list_bytes configurations_bytes flat_map short_string
more-by-six zero t ss m e =
    let p : ss ≡ [] = cc in
    let q : m ≡ 0 = cc in
    rw (p, q)
more-by-six (suc k) t ss m e = times-parts set_up_section k t ss m e
    (λ x j ys i f g h w. rw h (step x j ys i w (set-up-taken t x j f) (more-by-six k (drop j t) ys i g)))
  where
    step : (x : Section) (j : ℕ) (ys : List Section) (i : ℕ) → m ≡ j + i → j ≡ 3 + length x.name + length x.configuration
        → length (definition_list_bytes 0 ys) + length (configurations_bytes ys) ≡ i + 6 * k
        → length (definition_list_bytes 0 (x ∷ ys)) + length (configurations_bytes (x ∷ ys)) ≡ m + 6 * suc k
    step x j ys i w u v =
        simp (length-append, length-bytes_of) (omega (arith, length-definitions (0 + length x.configuration) 0 ys, v))

pub table-start : (s : List ℕ) (n : ℕ) → bad_set_up (sections_of s) ≡ false → n ≡ read_at s 0 1 → 33 + length s + 6 * n ≡ table_start (sections_of s)
unfolding table_start definitions_end
table-start s n h e =
    let l = legal-list s h in
    let o = listed s l.whole in
    omega (arith, more-by-six (read_at s 0 1) (drop 1 s) (sections_of s) o.taken o.read, o.all)

pub six-fit : (s : List ℕ) (n : ℕ) → bad_set_up (sections_of s) ≡ false → n ≡ read_at s 0 1 → Fits w64 (6 * n)
six-fit s n h e = let l = legal-list s h in record { fits = omega arith }

pub start_fits : (s : List ℕ) (n : ℕ) → bad_set_up (sections_of s) ≡ false → n ≡ read_at s 0 1 → length s * 1 < 2 ^ 63 → Fits w64 (33 + length s + 6 * n)
start_fits s n h e b = let l = legal-list s h in record { fits = omega arith }

pub count-few : (s : List ℕ) (n : ℕ) → n ≡ read_at s 0 1 → bad_set_up (sections_of s) ≡ false → n ≤ 8
count-few s n e h = let l = legal-list s h in omega arith

mark-bytes : bytes_of 4 1179931462 ≡ file_mark
unfolding bytes_of file_mark
mark-bytes = refl

revision-byte : bytes_of 1 1 ≡ 1 ∷ []
unfolding bytes_of
revision-byte = refl

pub start-written : (out a b c : List ℕ) → 9 ≤ length out → a ≡ write_at out 0 4 1179931462 → b ≡ write_at a 4 1 1 → c ≡ write_at b 5 4 0
    → c ≡ sets out 0 start_bytes
unfolding start_bytes
start-written out a b c h p q r =
    let m = bytes_of 4 1179931462 in
    let v = bytes_of 1 1 in
    let w₁ : a ≡ sets out 0 m = p ∙ write-is out 0 4 1179931462 (omega arith) in
    let w₂ : b ≡ sets out 0 (m ++ v) = write-behind out a b m 0 4 1 w₁ (simp length-bytes_of) (omega arith) 1 q in
    write-behind out b c (m ++ v) 0 5 4 w₂ (simp (length-append, length-bytes_of)) (omega arith) 0 r ∙ rw (mark-bytes, revision-byte)

start-length : length start_bytes ≡ 9
unfolding start_bytes file_mark
start-length = simp (length-append, length-bytes_of)

header-start : (system : ℕ) → start_bytes ++ bytes_of 8 0 ++ bytes_of 8 system ++ bytes_of 8 0 ≡ header_bytes 0 0 system 0
unfolding header_bytes start_bytes
header-start system = refl

pub header-written : (out c d e f : List ℕ) (system : ℕ) → 33 ≤ length out → c ≡ sets out 0 start_bytes → d ≡ write_at c 9 8 0
    → e ≡ write_at d 17 8 system → f ≡ write_at e 25 8 0 → f ≡ sets out 0 (header_bytes 0 0 system 0)
header-written out c d e f system h r s t u =
    let w₄ : d ≡ sets out 0 (start_bytes ++ bytes_of 8 0) = write-behind out c d start_bytes 0 9 8 r (rw start-length) (omega arith) 0 s in
    let w₅ : e ≡ sets out 0 (start_bytes ++ bytes_of 8 0 ++ bytes_of 8 system) =
    write-behind out d e (start_bytes ++ bytes_of 8 0) 0 17 8 w₄ (simp (length-append, length-bytes_of, start-length)) (omega arith) system t in
    write-behind out e f (start_bytes ++ bytes_of 8 0 ++ bytes_of 8 system) 0 25 8 w₅ (simp (length-append, length-bytes_of, start-length))
    (omega arith) 0 u
    ∙ ap (sets out 0) (header-start system)

piece-parts : (s system : List ℕ) (place n first : ℕ) → place ≡ table_start (sections_of s) → n ≡ length (sections_of s) → n < 256
    → first ≡ definitions_end (sections_of s) → head_bytes place first n (sections_of s) ++ configurations_bytes (sections_of s)
    ++ take (length system) (drop 0 system) ≡ first_piece s system
unfolding head_bytes first_piece front_bytes definitions_bytes table_start
piece-parts s system place n first p q l e =
    let t : take (length system) (drop 0 system) ≡ system = take-length system in
    rw (one_byte n l, t, append_snoc (header_bytes 0 0 place 0) n (definition_list_bytes first (sections_of s)), p, q, e)

pub head-written : (s out a b c : List ℕ) (n first system : ℕ) → 34 + length (definition_list_bytes first (rows n (drop 1 s))) ≤ length out
    → a ≡ sets out 0 (header_bytes 0 0 system 0) → b ≡ write_at a 33 1 n → c ≡ sets b 34 (definition_list_bytes first (rows n (drop 1 s)))
    → c ≡ sets out 0 (head_bytes system first n (rows n (drop 1 s)))
unfolding head_bytes
head-written s out a b c n first system h p q r =
    let hd = header_bytes 0 0 system 0 in
    let l : length hd ≡ 33 = length-header 0 0 system 0 in
    let w : b ≡ sets out 0 (hd ++ bytes_of 1 n) = write-behind out a b hd 0 33 1 p (omega arith) (omega arith) n q in
    let k : length (hd ++ bytes_of 1 n) ≡ 34 = simp (length-append, length-bytes_of) (omega arith) in
    sets_behind out b c (hd ++ bytes_of 1 n) (definition_list_bytes first (rows n (drop 1 s))) 0 34 w (omega arith) r

pub head-header-room : (s out : List ℕ) (n first : ℕ) → 34 + length (definition_list_bytes first (rows n (drop 1 s))) ≤ length out → 33 ≤ length out
head-header-room s out n first h = omega arith

-- what stands in the output is as long as the output
module _ (out a b : List ℕ) (n system size : ℕ) (header : a ≡ sets out 0 (header_bytes 0 0 system 0)) (counted : b ≡ write_at a 33 1 n) where
  pub head-room : size ≤ length out → size ≤ length b
  head-room h = omega (arith, ap length counted ∙ length-write a 33 1 n ∙ ap length header ∙ length-sets out 0 (header_bytes 0 0 system 0))

-- the parts of the piece lie behind each other, and all within the output
module _ (s system out : List ℕ) (place n first : ℕ) (h : bad_set_up (sections_of s) ≡ false) (start : place ≡ table_start (sections_of s))
    (fits : place + length system ≤ length out) (count : n ≡ read_at s 0 1) (defined : first ≡ definitions_end (rows n (drop 1 s))) where
  listed-rows : rows n (drop 1 s) ≡ sections_of s
  listed-rows = sections-rows s n (legal-list s h).whole count

  first-is : first ≡ definitions_end (sections_of s)
  first-is = defined ∙ ap definitions_end listed-rows

  ends_there : 34 + length (definition_list_bytes first (rows n (drop 1 s))) ≡ first
  ends_there = ap (λ (i : ℕ). 34 + i) (length-definitions first 0 (rows n (drop 1 s))) ∙ ends-start (rows n (drop 1 s)) ∙ sym defined

  starts-there : first + length (configurations_bytes (rows n (drop 1 s))) ≡ place
  unfolding table_start
  starts-there = rw (listed-rows, first-is) (sym start)

  pub definitions-room : 34 + length (definition_list_bytes first (rows n (drop 1 s))) ≤ length out
  definitions-room = omega (arith, ends_there, starts-there)

  pub configurations-room : first + length (configurations_bytes (rows n (drop 1 s))) ≤ length out
  configurations-room = omega (arith, starts-there)

  module _ (c : List ℕ) (head : c ≡ sets out 0 (head_bytes place first n (rows n (drop 1 s)))) where
    pub configurations-room-later : first + length (configurations_bytes (rows n (drop 1 s))) ≤ length c
    configurations-room-later = omega (arith, configurations-room, ap length head ∙ length-sets out 0 (head_bytes place first n (rows n (drop 1 s))))

    head-length : length (head_bytes place first n (rows n (drop 1 s))) ≡ first
    unfolding head_bytes
    head-length = simp (length-append, length-header, length-bytes_of) (omega (arith, ends_there))

    pub front-written : (d e : List ℕ) → d ≡ sets c first (configurations_bytes (rows n (drop 1 s))) → e ≡ copied system 0 d place (length system)
        → e ≡ sets out 0 (first_piece s system)
    front-written d e configured copy =
        let hd = head_bytes place first n (rows n (drop 1 s)) in
        let cs = configurations_bytes (rows n (drop 1 s)) in
        let w : d ≡ sets out 0 (hd ++ cs) = sets_behind out c d hd cs 0 first head (omega (arith, head-length)) configured in
        let l : length (hd ++ cs) ≡ place = omega (arith, length-append hd cs, head-length, starts-there) in
        let p : hd ++ cs ++ take (length system) (drop 0 system) ≡ first_piece s system =
        rw listed-rows (piece-parts s system place n first start (sym (sections-count s n (legal-list s h).whole count))
        (omega (arith, count-few s n count h)) first-is) in
        copy-behind out d e (hd ++ cs) 0 place (length system) w (omega arith) fits system 0 (omega arith) copy ∙ ap (sets out 0) p

pub ruleset laws = (
  rules,
  ends-step,
  ends_more,
  ends-within,
  ends-fits,
  ends-name-fits,
  place-fits,
  behind-name-fits,
  behind-name,
  name-there,
  definition-room,
  to-fits,
  to-name-fits,
  to-offset-fits,
  size_fits,
  defined-step,
  defined-room,
  configured-room,
  configured-step,
  ends-done,
  ends-stop,
  defined-done,
  defined-stop,
  configured-done,
  configured-stop,
  ends-start,
  definition-written,
  table-start,
  six-fit,
  start_fits,
  count-few,
  start-written,
  header-written,
  head-written,
  head-header-room,
  head-room,
  definitions-room,
  configurations-room,
  configurations-room-later,
  front-written,
)
