-- How much the rows add, and that it is stored piece by piece.
-- Assumes nothing.
use Rattle.std.specs.Prelude.{Option, Some, None}
use Prim.Native.Nat.{ℕ, ◌+◌, ◌-◌, ◌*◌, ◌<◌, ◌≤◌}
use native.Mathlib.Omega.{arith}
use mathlib.Core.Path.{◌≡◌, ap, sym, ◌∙◌}
use mathlib.Core.List.{List, [], ◌++◌, flat_map}
use lib.ListN.{length, take, drop, get_or, length-append, length-drop}
use lib.Seq.{length-take-le}
use borrow.Author.Rules.{rules}
use mir.Syntax.{w8, w64}
use mir.Val.{Fits}
use Rattle.layout.specs.Recording.{Tag, tag_bytes}
use Rattle.layout.proofs.Lists.{flat_map-append}
use Rattle.pieces.specs.Pieces.{piece_at}
use Rattle.pieces.specs.Added.{added_by, walked_in, row_adds, tags_in, piece_bytes, Makes}
use Rattle.pieces.specs.declared.Side.{Side}
use Rattle.pieces.specs.declared.Side.TheVariants as side
use Rattle.pieces.specs.declared.Piece.{Piece}
use Rattle.pieces.proofs.Added.{tags-none, tags-one, piece-makes, added-done, added-stop, added_next}
use Rattle.apply.specs.declared.Walk.{Walk}
use Rattle.apply.specs.Applied.{kept_from, size_of, plus}
use Rattle.apply.specs.Runs.{Leads, Keeps}
use Rattle.apply.specs.declared.Part.{Part}
use Rattle.apply.specs.declared.Size.{Size}
use Rattle.apply.proofs.Runs.{Ran, kept-none, lead-last, lead-one, lead-two, lead-forward, lead-number, part-broken, part-fits, first_fits, lead-fits, part-keeps, kept-onward, last-forward}

-- ── Sizes ──

size-eq : (a b c d : ℕ) → a ≡ c → b ≡ d → ◌≡◌ {A = Size} (record { tags = a; bytes = b }) (record { tags = c; bytes = d })
size-eq a b c d e f = cc

-- as many bytes as the two parts have
pub piece-length : (s : List ℕ) (at : ℕ) (t : List ℕ) (f v n : ℕ) → at + f ≤ length s → v + n ≤ length t → f + n ≡ length (piece_bytes s at t f v n)
unfolding piece_bytes
piece-length s at t f v n g h =
    sym (length-append (take f (drop at s)) (take n (drop v t))
    ∙ rw (length-take-le f (drop at s) (simp length-drop (omega arith)), length-take-le n (drop v t) (simp length-drop (omega arith))))

makes-length : (s : List ℕ) (at : ℕ) (t : List ℕ) (f v n : ℕ) (ts : List Tag) → Makes s at t f v n ts → f + n ≡ length (flat_map tag_bytes ts)
makes-length s at t f v n ts m = piece-length s at t f v n m.first_there m.second_there ∙ ap length m.bytes

size-end : (a b : ℕ) (ts : List Tag) (all : Size) → ts ≡ [] → plus a b (size_of ts) ≡ all → record { tags = a; bytes = b } ≡ all
unfolding plus size_of flat_map
size-end a b ts all e f = sym (rw e (size-eq (a + 0) (b + 0) a b (omega arith) (omega arith))) ∙ f

size-more : (a b c d : ℕ) (ts us vs : List Tag) (all : Size) → us ≡ ts ++ vs → c ≡ length ts → d ≡ length (flat_map tag_bytes ts)
    → plus a b (size_of us) ≡ all → plus (a + c) (b + d) (size_of vs) ≡ all
unfolding plus size_of
size-more a b c d ts us vs all e f g h =
    let l : length us ≡ length ts + length vs = ap length e ∙ length-append ts vs in
    let m : length (flat_map tag_bytes us) ≡ length (flat_map tag_bytes ts) + length (flat_map tag_bytes vs) =
    ap (λ (z : List Tag). length (flat_map tag_bytes z)) e ∙ ap length (flat_map-append tag_bytes ts vs)
    ∙ length-append (flat_map tag_bytes ts) (flat_map tag_bytes vs) in
    size-eq _ _ _ _ (omega arith) (omega arith) ∙ h

pub size-start : (ts : List Tag) → plus 0 0 (size_of ts) ≡ size_of ts
unfolding plus size_of
size-start ts = size-eq _ _ _ _ (omega arith) (omega arith)

module _ (x : Side) (s t others : List ℕ) (place passed a b : ℕ) (all : Size)
    (e : plus a b (size_of (added_by x s t place (drop passed others))) ≡ all) where
  pub size-done : length others ≤ passed → record { tags = a; bytes = b } ≡ all
  size-done h = size-end a b _ all (added-done x s t others place passed h) e

  pub size-stop : (r : Option Piece) → r ≡ piece_at x s place t (get_or others passed 0) → r ≡ None → record { tags = a; bytes = b } ≡ all
  size-stop r f g = size-end a b _ all (added-stop x s t others place passed (get_or others passed 0) r f g) e

module _ (x : Side) (s t others : List ℕ) (place passed : ℕ) (p : Piece) (r : Option Piece) (g : r ≡ piece_at x s place t (get_or others passed 0))
    (h : r ≡ Some p) (w : (i : ℕ) → Fits w8 (get_or s i 0)) (y : (i : ℕ) → Fits w8 (get_or t i 0)) where
  makes : Makes (walked_in x s t) place t p.first p.value p.second (row_adds x s t place (get_or others passed 0))
  makes = piece-makes x s t place (get_or others passed 0) p r g h w y

  pub more-fits : Fits w64 (p.first + p.second)
  more-fits = let a = makes.short in record { fits = omega arith }

  pub bytes-more : (b : ℕ) → b ≤ 512 * passed → b + (p.first + p.second) ≤ 512 * (passed + 1)
  bytes-more b l = let a = makes.short in omega arith

  pub bytes_fit : (b : ℕ) → b ≤ 512 * passed → length others ≤ 64 → passed < length others → Fits w64 (b + (p.first + p.second))
  bytes_fit b l few z = let a = makes.short in record { fits = omega arith }

  pub size_step : (a b c : ℕ) (all : Size) → plus a b (size_of (added_by x s t place (drop passed others))) ≡ all → passed < length others
      → c ≡ tags_in (p.first + p.second)
      → plus (a + c) (b + (p.first + p.second)) (size_of (added_by x s t p.end (drop (passed + 1) others))) ≡ all
  size_step a b c all i z e =
      size-more a b c (p.first + p.second) (row_adds x s t place (get_or others passed 0)) _ _ all
      (added_next x s t others place passed p r g h z) (e ∙ makes.count) (makes-length _ place t p.first p.value p.second _ makes) i

-- what is counted so far of what the changes add, and what is left
pub record Counting (t others : List ℕ) (place passed tags bytes : ℕ) : Type 0 where
  pub few : tags ≤ passed
  pub short : bytes ≤ 512 * passed
  pub rest : plus tags bytes (size_of (added_by side.New t t place (drop passed others))) ≡ size_of (added_by side.New t t 1 others)

pub counting_start : (t others : List ℕ) → Counting t others 1 0 0 0
counting_start t others = record { few = omega arith; short = omega arith; rest = size-start (added_by side.New t t 1 others) }

pub counting_step : (t others : List ℕ) (place passed tags bytes : ℕ) → Counting t others place passed tags bytes → (p : Piece) (r : Option Piece) (c : ℕ)
    → r ≡ piece_at side.New t place t (get_or others passed 0) → r ≡ Some p → ((i : ℕ) → Fits w8 (get_or t i 0)) → passed < length others
    → c ≡ tags_in (p.first + p.second) → c ≤ 1 → Counting t others p.end (passed + 1) (tags + c) (bytes + (p.first + p.second))
counting_step t others place passed tags bytes g p r c e f w z i l =
    let a = g.few in
    record {
      few = omega arith;
      short = bytes-more side.New t t others place passed p r e f w w bytes g.short;
      rest = size_step side.New t t others place passed p r e f w w tags bytes c _ g.rest z i;
    }

module _ (t others : List ℕ) (place passed tags bytes : ℕ) (g : Counting t others place passed tags bytes) where
  abbrev Counted : Type 0
  Counted = (record { tags = tags; bytes = bytes } ≡ size_of (added_by side.New t t 1 others)) × (tags ≤ length others) × (bytes ≤ 512 * length others)

  pub counted-all : length others ≤ passed → passed ≤ length others → Counted
  counted-all h l =
      let a = g.few in
      let b = g.short in
      (size-done side.New t t others place passed tags bytes _ g.rest h, omega arith, omega arith)

  pub counted-stop : (r : Option Piece) → r ≡ piece_at side.New t place t (get_or others passed 0) → r ≡ None → passed < length others → Counted
  counted-stop r e f l =
      let a = g.few in
      let b = g.short in
      (size-stop side.New t t others place passed tags bytes _ g.rest r e f, omega arith, omega arith)

-- ── What is kept ──

pub kept-start : (t s : List ℕ) (at n k : ℕ) → plus 0 0 (size_of (kept_from t at (n - 0) s k)) ≡ size_of (kept_from t at n s k)
kept-start t s at n k = let z : n - 0 ≡ n = omega arith in rw z (size-start (kept_from t at n s k))

module _ (t : List ℕ) (place passed : ℕ) (walk : Walk) (s list : List ℕ) (i : ℕ) (tags bytes : ℕ) (few : tags ≤ passed) (short : bytes ≤ 512 * passed) where
  module _ (part : Part) (g : Keeps t place passed walk s list i part) where
    pub kept-fewer : tags + part.tags ≤ get_or list i 0 + 1
    kept-fewer = let a = g.fewer in omega arith

    pub kept-shorter : bytes + (part.piece.first + part.piece.second) ≤ 512 * (get_or list i 0 + 1)
    kept-shorter = let a = g.short in omega arith

    pub kept_step : (all : Size) → plus tags bytes (size_of (kept_from t place (walk.tags - passed) s walk.changes)) ≡ all
        → plus (tags + part.tags) (bytes + (part.piece.first + part.piece.second))
        (size_of (kept_from t part.piece.end (walk.tags - (get_or list i 0 + 1)) s walk.changes)) ≡ all
    kept_step all e =
        size-more tags bytes part.tags (part.piece.first + part.piece.second) g.made _ _ all g.adds g.count
        (piece-length t place s part.piece.first part.piece.value part.piece.second g.first_there g.second_there ∙ ap length g.bytes) e

  module _ (g : Leads t place passed walk s list i) where
    pub last-fewer : tags + (walk.tags - passed) ≤ 1000
    last-fewer = let a = g.within in let b = g.few in omega arith

    module _ (w : (i : ℕ) → Fits w8 (get_or t i 0)) (y : (i : ℕ) → Fits w8 (get_or s i 0)) (h : length list < i + 3) where
      run : Ran t s walk.changes place (walk.tags - passed) walk.end 0
      run = lead-last t place passed walk s list i g w y h

      pub last-shorter : bytes + (walk.end - place) ≤ 512000
      last-shorter = let a = run.short in let b = run.count in let c = g.few in let d = g.within in omega arith

      pub last-bytes-fit : Fits w64 (bytes + (walk.end - place))
      last-bytes-fit = let a = last-shorter in record { fits = omega arith }

      pub last-size : (all : Size) → plus tags bytes (size_of (kept_from t place (walk.tags - passed) s walk.changes)) ≡ all
          → record { tags = tags + (walk.tags - passed); bytes = bytes + (walk.end - place) } ≡ all
      last-size all e =
          let a = run.count in
          let b = run.there in
          let f = run.forward in
          let l = length-take-le (walk.end - place) (drop place t) (simp length-drop (omega arith)) in
          size-end _ _ _ all (kept-none t s walk.changes walk.end) (size-more tags bytes (walk.tags - passed) (walk.end - place) run.made _ _ all run.adds
          (omega arith) (sym l ∙ ap length run.bytes) e)

-- what is counted so far of what is kept, and what is left
pub record Sizing (t : List ℕ) (at place passed : ℕ) (walk : Walk) (s list : List ℕ) (i tags bytes : ℕ) : Type 0 where
  pub leads : Leads t place passed walk s list i
  pub few : tags ≤ passed
  pub short : bytes ≤ 512 * passed
  pub rest : plus tags bytes (size_of (kept_from t place (walk.tags - passed) s walk.changes)) ≡ size_of (kept_from t at walk.tags s walk.changes)

pub sizing_start : (t : List ℕ) (at : ℕ) (walk : Walk) (s list : List ℕ) → Leads t at 0 walk s list 0 → Sizing t at at 0 walk s list 0 0 0
sizing_start t at walk s list g = record { leads = g; few = omega arith; short = omega arith; rest = kept-start t s at walk.tags walk.changes }

pub sizing_step : (t : List ℕ) (at place passed : ℕ) (walk : Walk) (s list : List ℕ) (i j tags bytes : ℕ) (part : Part)
    → Sizing t at place passed walk s list i tags bytes → Keeps t place passed walk s list i part → j ≡ i + 3
    → Sizing t at part.piece.end (get_or list i 0 + 1) walk s list j (tags + part.tags) (bytes + (part.piece.first + part.piece.second))
sizing_step t at place passed walk s list i j tags bytes part z g e = record {
  leads = kept-onward t place passed walk s list i part g j e;
  few = kept-fewer t place passed walk s list i tags bytes z.few z.short part g;
  short = kept-shorter t place passed walk s list i tags bytes z.few z.short part g;
  rest = kept_step t place passed walk s list i tags bytes z.few z.short part g _ z.rest;
}

pub sizing_end : (t : List ℕ) (at place passed : ℕ) (walk : Walk) (s list : List ℕ) (i tags bytes : ℕ) → Sizing t at place passed walk s list i tags bytes
    → ((j : ℕ) → Fits w8 (get_or t j 0)) → ((j : ℕ) → Fits w8 (get_or s j 0)) → length list < i + 3
    → (record { tags = tags + (walk.tags - passed); bytes = bytes + (walk.end - place) } ≡ size_of (kept_from t at walk.tags s walk.changes))
    × (tags + (walk.tags - passed) ≤ 1000) × (bytes + (walk.end - place) ≤ 512000)
sizing_end t at place passed walk s list i tags bytes z w y h = (
  last-size t place passed walk s list i tags bytes z.few z.short z.leads w y h _ z.rest,
  last-fewer t place passed walk s list i tags bytes z.few z.short z.leads,
  last-shorter t place passed walk s list i tags bytes z.few z.short z.leads w y h,
)

pub ruleset laws = (
  rules,
  tags-none,
  tags-one,
  more-fits,
  counting_start,
  sizing_start,
  lead-one,
  lead-two,
  lead-forward,
  lead-number,
  part-broken,
  part-fits,
  first_fits,
  lead-fits,
  part-keeps,
)
