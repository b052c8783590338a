-- Reading what stands at a place. A reader takes the bytes from that place on and answers the value and how many bytes it takes; or, where it fails,
-- the place of the first fault, from where it began.
use Rattle.std.specs.Prelude.{ℕ, zero, suc, ◌+◌, Bool, true, false, cond, List, [], ◌∷◌, ◌++◌, map, length, take, drop, leb, ltb, eqb}
use Rattle.number.specs.Number.{number_of}
use Rattle.layout.specs.Recording.{Tag, Frame, frame_mark, most_sections, most_tags, longest_section, within, among, distinct, is_name_byte, is_tag_byte, legal_section_name, legal_tag_name, legal_tag_value, tag_names}

pub data Parsed (A : Type 0) : Type 0 where
  bad : (fault : ℕ) → Parsed A
  good : A → ℕ → Parsed A

abbrev pub Reader : Type 0 → Type 0
Reader A = List ℕ → Parsed A

-- ── How readers are put together ──

unfoldable pub onward : {A B : Type 0} → Parsed A → (A → ℕ → Parsed B) → Parsed B
onward (bad m) next = bad m
onward (good a n) next = next a n

-- what was read, or its fault, n bytes further on
unfoldable pub behind : {A : Type 0} → ℕ → Parsed A → Parsed A
behind n (bad m) = bad (n + m)
behind n (good a m) = good a (n + m)

-- a value that takes no bytes
unfoldable pub give : {A : Type 0} → A → Reader A
give a s = good a 0

-- first p, then, from what follows it, the reader that its value asks for
infixr 20 ◌then◌
unfoldable pub ◌then◌ : {A B : Type 0} → Reader A → (A → Reader B) → Reader B
◌then◌ p next s = onward (p s) (λ a n. behind n (next a (drop n s)))

-- p, where its value passes the test; where it does not, the fault is "the start of the field concerned"
unfoldable pub only : {A : Type 0} → (A → Bool) → Reader A → Reader A
only ok p s = onward (p s) (λ a n. cond (ok a) (good a n) (bad 0))

-- p, k times in a row
unfoldable pub times : {A : Type 0} → ℕ → Reader A → Reader (List A)
times zero p s = good [] 0
times (suc k) p s = onward (p s) (λ a n. behind n (onward (times k p (drop n s)) (λ rest m. good (a ∷ rest) m)))

-- nothing may follow; "for bytes left over the first of them"
unfoldable pub exactly : {A : Type 0} → Reader A → Reader A
exactly p s = onward (p s) (λ a n. cond (eqb n (length s)) (good a n) (bad n))

-- the fault is at another place
unfoldable pub fault_at : {A : Type 0} → ℕ → Parsed A → Parsed A
fault_at at (bad m) = bad at
fault_at at (good a n) = good a n

-- p; where it fails, the place of the fault is found in another way
unfoldable pub placed : {A : Type 0} → (List ℕ → ℕ) → Reader A → Reader A
placed at p s = fault_at (at s) (p s)

abbrev pub is_bad : {A : Type 0} → Parsed A → Bool
is_bad (bad m) = true
is_bad (good a n) = false

-- what was read, or `else` where nothing was
unfoldable pub value_or : {A : Type 0} → A → Parsed A → A
value_or else (bad m) = else
value_or else (good a n) = a

-- the bytes that it took
unfoldable pub taken : {A : Type 0} → Parsed A → ℕ
taken (bad m) = 0
taken (good a n) = n

-- the place of the fault, 0 where there is none
unfoldable pub fault_of : {A : Type 0} → Parsed A → ℕ
fault_of (bad m) = m
fault_of (good a n) = 0

-- ── What stands in a file ──

-- a number of w bytes
unfoldable pub number : ℕ → Reader ℕ
number w s = cond (leb w (length s)) (good (number_of (take w s)) w) (bad 0)

-- n bytes
unfoldable pub block : ℕ → Reader (List ℕ)
block n s = cond (leb n (length s)) (good (take n s) n) (bad 0)

-- a short string of any bytes: it fails where they run out, "their length"
unfoldable pub string : Reader (List ℕ)
string = placed length (number 1 then block)

-- the place of the first byte that is not of a class
unfoldable pub outside : (ℕ → Bool) → List ℕ → ℕ
outside class [] = 0
outside class (b ∷ s) = cond (class b) (suc (outside class s)) 0

-- "the first byte that breaks its rule, or their length if bytes ran out": the length byte where it says too few
unfoldable pub string_fault : (least : ℕ) → (ℕ → Bool) → List ℕ → ℕ
string_fault least class [] = 0
string_fault least class (n ∷ s) = cond (ltb n least) 0 (suc (outside class (take n s)))

unfoldable pub section_name : Reader (List ℕ)
section_name = placed (string_fault 1 is_name_byte) (only legal_section_name string)

unfoldable pub tag_name : Reader (List ℕ)
tag_name = placed (string_fault 1 is_tag_byte) (only legal_tag_name string)

unfoldable pub tag_value : Reader (List ℕ)
tag_value = placed (string_fault 0 is_tag_byte) (only legal_tag_value string)

-- p, and a number that it leaves as it is
unfoldable pub keeping : {A : Type 0} → Reader A → ℕ → Reader ℕ
keeping p n = p then λ x. give n

-- "the first fault [..] reading front to back" of k rows, each a name and what follows it: the name, then, "for a name used twice the start of the second",
-- and then the rest, which may go by a number that the row ahead leaves. Behind the last row it is the first byte left over.
unfoldable pub rows_fault : (k : ℕ) → (name : Reader (List ℕ)) → (rest : ℕ → Reader ℕ) → (before : ℕ) → (ahead : List (List ℕ)) → List ℕ → ℕ
rows_fault zero name rest before ahead s = 0
rows_fault (suc k) name rest before ahead s =
    elim (name s) [
      | bad m ↦ m
      | good n m ↦ cond (among n ahead) 0 (m + elim (rest before (drop m s)) [ bad j ↦ j | good next j ↦ j + rows_fault k name rest next (ahead ++ (n ∷ [])) (drop j (drop m s)) ])
    ]

-- the first fault of a number of rows, and then the rows
unfoldable pub counted_fault : (count : Reader ℕ) → (name : Reader (List ℕ)) → (rest : ℕ → Reader ℕ) → (before : ℕ) → List ℕ → ℕ
counted_fault count name rest before s = elim (count s) [ bad m ↦ m | good k n ↦ n + rows_fault k name rest before [] (drop n s) ]

-- a section's definition: its name and the offset of its configuration
pub record Definition : Type 0 where
  pub name : List ℕ
  pub offset : ℕ

unfoldable pub definition : Reader Definition
definition = section_name then λ n. number 8 then λ at. give (record { name = n; offset = at })

unfoldable pub defined_names : List Definition → List (List ℕ)
defined_names = map (λ d. d.name)

unfoldable pub number_of_sections : Reader ℕ
number_of_sections = only (within 1 most_sections) (number 1)

unfoldable pub definitions : Reader (List Definition)
definitions = only (λ ds. distinct (defined_names ds)) (number_of_sections then λ k. times k definition)

unfoldable pub tag : Reader Tag
tag = tag_name then λ n. tag_value then λ v. give (record { name = n; value = v })

unfoldable pub number_of_tags : Reader ℕ
number_of_tags = only (within 0 most_tags) (number 4)

unfoldable pub table_fault : List ℕ → ℕ
table_fault = counted_fault number_of_tags tag_name (keeping tag_value) 0

unfoldable pub table : Reader (List Tag)
table = placed table_fault (only (λ ts. distinct (tag_names ts)) (number_of_tags then λ n. times n tag))

-- a section in a frame: its size and its bytes
unfoldable pub sized : Reader (List ℕ)
sized = only (within 0 longest_section) (number 4) then block

-- a whole frame of k sections, "whatever its time"
unfoldable pub frame : (k : ℕ) → Reader Frame
frame k =
    only (λ mark. eqb mark frame_mark) (number 4) then λ mark. number 8 then λ t. number 4 then λ e.
    times k sized then λ ss. give (record { time = t; exposure = e; sections = ss })

-- ── The walk ──

-- the frames it takes, and their bytes all together
pub record Walk : Type 0 where
  pub frames : List Frame
  pub bytes : ℕ

unfoldable pub stopped : Walk
stopped = record { frames = []; bytes = 0 }

unfoldable pub longer : Frame → ℕ → Walk → Walk
longer f n w = record { frames = f ∷ w.frames; bytes = n + w.bytes }

-- "The walk takes whole frames one behind the other and stops at the first place without one", or after `most`
unfoldable pub walk : (most k : ℕ) → List ℕ → Walk
walk zero k s = stopped
walk (suc most) k s = elim (frame k s) [ bad m ↦ stopped | good f n ↦ longer f n (walk most k (drop n s)) ]
