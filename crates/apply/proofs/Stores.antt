-- What is kept and what is new is stored piece by piece.
-- Assumes nothing.
use Rattle.std.specs.Prelude.{Option, Some, None}
use Prim.Native.Nat.{ℕ, ◌+◌, ◌-◌, ◌<◌, ◌≤◌}
use native.Mathlib.Omega.{arith}
use mathlib.Core.Path.{◌≡◌, refl, ap, sym, ◌∙◌}
use mathlib.Core.List.{List, [], ◌++◌, flat_map, append-nil}
use lib.ListN.{length, take, drop, get_or, length-append, length-drop}
use lib.Seq.{length-take-le, sets, length-sets}
use borrow.Author.Rules.{rules}
use mir.Syntax.{w8}
use mir.Val.{Fits}
use Rattle.layout.specs.Recording.{Tag, tag_bytes}
use Rattle.layout.proofs.Lists.{flat_map-append}
use Rattle.layout.proofs.Outputs
use Rattle.parts.specs.Parts.{copied}
use Rattle.parts.proofs.Laws.{copied-there}
use Rattle.apply.specs.declared.Walk.{Walk}
use Rattle.pieces.specs.Pieces.{piece_at}
use Rattle.pieces.specs.Added.{added_by, walked_in, row_adds, piece_bytes, Makes}
use Rattle.pieces.specs.declared.Side.TheVariants as side
use Rattle.pieces.specs.declared.Piece.{Piece}
use Rattle.pieces.proofs.Added.{piece-makes, added-done, added-stop, added_next}
use Rattle.apply.specs.Applied.{kept_from, Written}
use Rattle.apply.specs.Runs.{Leads, Keeps}
use Rattle.apply.specs.declared.Part.{Part}
use Rattle.apply.proofs.Runs.{Ran, kept-none, lead-last}
use Rattle.apply.proofs.Sizes.{piece-length}

-- one part stored behind another
pub sets-append : (o : List ℕ) (at : ℕ) (x y : List ℕ) → sets (sets o at x) (at + length x) y ≡ sets o at (x ++ y)
sets-append o at x y = sym (Outputs.sets-append o at x y)

pub put_both : (s t o o₁ o₂ : List ℕ) (place to f v n : ℕ) → place + f ≤ length s → v + n ≤ length t → to + (f + n) ≤ length o
    → o₁ ≡ copied s place o to f → o₂ ≡ copied t v o₁ (to + f) n → o₂ ≡ sets o to (piece_bytes s place t f v n)
unfolding piece_bytes
put_both s t o o₁ o₂ place to f v n g h k e i =
    let a : length (take f (drop place s)) ≡ f = length-take-le f (drop place s) (simp length-drop (omega arith)) in
    let b : o₁ ≡ sets o to (take f (drop place s)) = e ∙ copied-there s o place to f g (omega arith) in
    let c : length o₁ ≡ length o = ap length b ∙ length-sets o to (take f (drop place s)) in
    i
    ∙ copied-there t o₁ v (to + f) n h (omega arith)
    ∙ ap (λ (z : List ℕ). sets z (to + f) (take n (drop v t))) b
    ∙ ap (λ (m : ℕ). sets (sets o to (take f (drop place s))) (to + m) (take n (drop v t))) (sym a)
    ∙ sets-append o to (take f (drop place s)) (take n (drop v t))

-- what is left to store, and what was stored
pub record Storing (to : ℕ) (rest out before : List ℕ) (start : ℕ) (bytes : List ℕ) : Type 0 where
  pub room : start + length bytes ≤ length before
  pub place : to + length rest ≡ start + length bytes
  pub long : length out ≡ length before
  pub stored : sets out to rest ≡ sets before start bytes

-- nothing is left
pub storing-end : (to : ℕ) (rest out before : List ℕ) (start : ℕ) (bytes : List ℕ) → rest ≡ [] → Storing to rest out before start bytes
    → Written to before out start bytes
storing-end to rest out before start bytes e s =
    let l : length rest ≡ 0 = ap length e in
    let p = s.place in
    record { end = omega arith; stored = sym (ap (λ (x : List ℕ). sets out to x) e) ∙ s.stored }

-- one more piece
pub storing-more : (to n : ℕ) (some rest more out out₁ before : List ℕ) (start : ℕ) (bytes : List ℕ) → more ≡ some ++ rest → n ≡ length some
    → out₁ ≡ sets out to some → Storing to more out before start bytes → Storing (to + n) rest out₁ before start bytes
storing-more to n some rest more out out₁ before start bytes e f h g =
    let c : length more ≡ length some + length rest = ap length e ∙ length-append some rest in
    let d = g.place in
    let k = g.long in
    let i : length out₁ ≡ length out = ap length h ∙ length-sets out to some in
    record {
      room = g.room;
      place = omega arith;
      long = omega arith;
      stored = rw (h, f) (sets-append out to some rest ∙ sym (ap (λ (z : List ℕ). sets out to z) e) ∙ g.stored);
    }

-- a piece, which is all there, with the rest behind it
module _ (to : ℕ) (more rest out before : List ℕ) (start : ℕ) (bytes : List ℕ) (g : Storing to more out before start bytes) (s : List ℕ) (place : ℕ)
    (t : List ℕ) (f v n : ℕ) (e : more ≡ piece_bytes s place t f v n ++ rest) (h : place + f ≤ length s) (k : v + n ≤ length t) where
  pieces_room : to + (f + n) ≤ length out
  pieces_room =
      let a = piece-length s place t f v n h k in
      let c = ap length e ∙ length-append (piece_bytes s place t f v n) rest in
      let d = g.place in
      let l = g.long in
      let r = g.room in
      omega arith

  pieces-stored : (z : ℕ) (out₁ : List ℕ) → z ≡ to + (f + n) → out₁ ≡ sets out to (piece_bytes s place t f v n) → Storing z rest out₁ before start bytes
  pieces-stored z out₁ i j = rw i (storing-more to (f + n) (piece_bytes s place t f v n) rest more out out₁ before start bytes e
      (piece-length s place t f v n h k) j g)

-- ── What is kept ──

pub keep-start : (t s out : List ℕ) (at n k start : ℕ) → start + length (flat_map tag_bytes (kept_from t at n s k)) ≤ length out
    → Storing start (flat_map tag_bytes (kept_from t at (n - 0) s k)) out out start (flat_map tag_bytes (kept_from t at n s k))
keep-start t s out at n k start h =
    let z : n - 0 ≡ n = omega arith in
    rw z (record { room = h; place = refl; long = refl; stored = refl })

module _ (t : List ℕ) (place passed : ℕ) (walk : Walk) (s list : List ℕ) (i : ℕ) (to : ℕ) (out before : List ℕ) (start : ℕ) (bytes : List ℕ)
    (g : Storing to (flat_map tag_bytes (kept_from t place (walk.tags - passed) s walk.changes)) out before start bytes) where
  module _ (part : Part) (j : Keeps t place passed walk s list i part) where
    keep-first : place + part.piece.first ≤ length t
    keep-first = j.first_there

    keep-second : part.piece.value + part.piece.second ≤ length s
    keep-second = j.second_there

    joins : flat_map tag_bytes (kept_from t place (walk.tags - passed) s walk.changes) ≡ piece_bytes t place s part.piece.first part.piece.value
        part.piece.second ++ flat_map tag_bytes (kept_from t part.piece.end (walk.tags - (get_or list i 0 + 1)) s walk.changes)
    joins = ap (flat_map tag_bytes) j.adds ∙ flat_map-append tag_bytes j.made _
        ∙ ap (λ (l : List ℕ). l ++ flat_map tag_bytes (kept_from t part.piece.end (walk.tags - (get_or list i 0 + 1)) s walk.changes)) (sym j.bytes)

    pub keep-room : (place + part.piece.first ≤ length t) × (part.piece.value + part.piece.second ≤ length s)
        × (to + (part.piece.first + part.piece.second) ≤ length out)
    keep-room = (keep-first, keep-second, pieces_room to _ _ out before start bytes g t place s part.piece.first part.piece.value part.piece.second joins keep-first keep-second)

    pub keep-step : (z : ℕ) (out₁ : List ℕ) → z ≡ to + (part.piece.first + part.piece.second)
        → out₁ ≡ sets out to (piece_bytes t place s part.piece.first part.piece.value part.piece.second)
        → Storing z (flat_map tag_bytes (kept_from t part.piece.end (walk.tags - (get_or list i 0 + 1)) s walk.changes)) out₁ before start bytes
    keep-step = pieces-stored to _ _ out before start bytes g t place s part.piece.first part.piece.value part.piece.second joins keep-first keep-second

  module _ (j : Leads t place passed walk s list i) (w : (i : ℕ) → Fits w8 (get_or t i 0)) (y : (i : ℕ) → Fits w8 (get_or s i 0)) (h : length list < i + 3) where
    run : Ran t s walk.changes place (walk.tags - passed) walk.end 0
    run = lead-last t place passed walk s list i j w y h

    ends : flat_map tag_bytes (kept_from t place (walk.tags - passed) s walk.changes) ≡ piece_bytes t place s (walk.end - place) 0 0 ++ []
    unfolding piece_bytes flat_map
    ends = ap (flat_map tag_bytes) (run.adds ∙ ap (λ (l : List Tag). run.made ++ l) (kept-none t s walk.changes walk.end))
        ∙ flat_map-append tag_bytes run.made [] ∙ ap (λ (l : List ℕ). l ++ []) (sym run.bytes ∙ sym (append-nil (take (walk.end - place) (drop place t))))

    last-first : place + (walk.end - place) ≤ length t
    last-first = let a = run.there in let b = run.forward in omega arith

    pub last-room : (place + (walk.end - place) ≤ length t) × (0 + 0 ≤ length s) × (to + (walk.end - place + 0) ≤ length out)
    last-room = (last-first, omega arith, pieces_room to _ _ out before start bytes g t place s (walk.end - place) 0 0 ends last-first (omega arith))

    pub last_written : (z : ℕ) (out₁ : List ℕ) → z ≡ to + (walk.end - place + 0) → out₁ ≡ sets out to (piece_bytes t place s (walk.end - place) 0 0)
        → Written z before out₁ start bytes
    last_written z out₁ e f = storing-end z [] out₁ before start bytes refl
        (pieces-stored to _ _ out before start bytes g t place s (walk.end - place) 0 0 ends last-first (omega arith) z out₁ e f)

-- ── What is new ──

pub write-start : (t others out : List ℕ) (at start : ℕ) → start + length (flat_map tag_bytes (added_by side.New t t at others)) ≤ length out
    → Storing start (flat_map tag_bytes (added_by side.New t t at others)) out out start (flat_map tag_bytes (added_by side.New t t at others))
write-start t others out at start h = record { room = h; place = refl; long = refl; stored = refl }

module _ (t others : List ℕ) (place passed to : ℕ) (out before : List ℕ) (start : ℕ) (bytes : List ℕ)
    (g : Storing to (flat_map tag_bytes (added_by side.New t t place (drop passed others))) out before start bytes) where
  pub write_done : length others ≤ passed → Written to before out start bytes
  unfolding flat_map
  write_done h = storing-end to _ out before start bytes (ap (flat_map tag_bytes) (added-done side.New t t others place passed h)) g

  module _ (r : Option Piece) (a : r ≡ piece_at side.New t place t (get_or others passed 0)) where
    pub write-stop : r ≡ None → Written to before out start bytes
    unfolding flat_map
    write-stop e = storing-end to _ out before start bytes
        (ap (flat_map tag_bytes) (added-stop side.New t t others place passed (get_or others passed 0) r a e)) g

    module _ (p : Piece) (b : r ≡ Some p) (w : (j : ℕ) → Fits w8 (get_or t j 0)) (l : passed < length others) where
      makes : Makes t place t p.first p.value p.second (row_adds side.New t t place (get_or others passed 0))
      unfolding walked_in
      makes = piece-makes side.New t t place (get_or others passed 0) p r a b w w

      adds : flat_map tag_bytes (added_by side.New t t place (drop passed others)) ≡ piece_bytes t place t p.first p.value p.second ++ flat_map tag_bytes
          (added_by side.New t t p.end (drop (passed + 1) others))
      adds = ap (flat_map tag_bytes) (added_next side.New t t others place passed p r a b l)
          ∙ flat_map-append tag_bytes (row_adds side.New t t place (get_or others passed 0)) _
          ∙ ap (λ (l : List ℕ). l ++ flat_map tag_bytes (added_by side.New t t p.end (drop (passed + 1) others))) (sym makes.bytes)

      pub write-room : (place + p.first ≤ length t) × (p.value + p.second ≤ length t) × (to + (p.first + p.second) ≤ length out)
      write-room = (
        makes.first_there,
        makes.second_there,
        pieces_room to _ _ out before start bytes g t place t p.first p.value p.second adds makes.first_there makes.second_there,
      )

      pub write_step : (z : ℕ) (out₁ : List ℕ) → z ≡ to + (p.first + p.second) → out₁ ≡ sets out to (piece_bytes t place t p.first p.value p.second)
          → Storing z (flat_map tag_bytes (added_by side.New t t p.end (drop (passed + 1) others))) out₁ before start bytes
      write_step = pieces-stored to _ _ out before start bytes g t place t p.first p.value p.second adds makes.first_there makes.second_there

pub ruleset laws = (rules, put_both, keep-start, write-start, write_done, write-stop)
