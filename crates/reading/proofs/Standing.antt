-- What the readers read of that which stands at a place: encodings in a row, numbers, definitions, index entries.
-- Assumes nothing.
use Prim.Native.Nat.{ℕ, zero, suc, ◌+◌, ◌*◌, ◌^◌, ◌<◌, ◌≤◌}
use native.Mathlib.Omega.{arith}
use mathlib.Core.Path.{◌≡◌, refl, ap, sym, ◌∙◌}
use mathlib.Core.Bool.{Bool, true}
use mathlib.Core.List.{List, [], ◌∷◌, ◌++◌, flat_map, append-nil}
use lib.ListN.{length, take, drop, get_or, length-append, take-append-drop}
use lib.Seq.{length-take-le, take_at, take-suc}
use borrow.Author.Tests.{eq-eqb}
use Rattle.number.specs.Number.{bytes_of, read_at}
use Rattle.number.proofs.Bytes.{and-true, length-bytes_of, number_of-bytes_of}
use Rattle.number.proofs.Laws.{read_is}
use Rattle.layout.specs.Recording.{Section, Frame, definition_list_bytes, configurations_bytes, frame_bytes, entry_bytes, entries_bytes, every}
use Rattle.layout.specs.Reading.{good, Reader, times, Definition}
use Rattle.layout.specs.Items.{no_section, no_frame}
use Rattle.layout.proofs.Lists.{flat_map-append, every_take}
use Rattle.layout.proofs.Exact.{Exact, times-exact, definition_bytes}
use Rattle.layout.proofs.Fronts.{defined_at, defined-bytes, length-defined, length-definitions, length-configurations}
use Rattle.layout.proofs.Sizes.{length-entry}
use Rattle.layout.proofs.Places.{Stands, stands-front, stands-back, stands_at_lem, stands_one, every_one}

-- ── Encodings in a row ──

module _ {A : Type 0} {ok : A → Bool} {bytes : A → List ℕ} {p : Reader A} (e : Exact ok bytes p) where
  -- those ahead of number i are led over,
  pub ahead-read : {f : List ℕ} {at : ℕ} (xs : List A) (i : ℕ) → i ≤ length xs → every ok xs ≡ true → Stands f at (flat_map bytes xs)
      → times i p (drop at f) ≡ good (take i xs) (length (flat_map bytes (take i xs)))
  ahead-read {f} {at} xs i h k s =
      let t : flat_map bytes xs ≡ flat_map bytes (take i xs) ++ flat_map bytes (drop i xs) =
      ap (flat_map bytes) (sym (take-append-drop i xs)) ∙ flat_map-append bytes (take i xs) (drop i xs) in
      let u = stands-front (flat_map bytes (take i xs)) (flat_map bytes (drop i xs)) (rw t at s) in
      rw u.stands ((times-exact ok bytes p i e).takes (take i xs) u.rest
      (and-true _ _ (eq-eqb (length (take i xs)) i (length-take-le i xs h)) (every_take ok i xs k)))

  -- and number i is read behind them
  pub one-read : {f : List ℕ} {at : ℕ} (xs : List A) (i : ℕ) (d : A) → i < length xs → every ok xs ≡ true → Stands f at (flat_map bytes xs)
      → p (drop (at + length (flat_map bytes (take i xs))) f) ≡ good (get_or xs i d) (length (bytes (get_or xs i d)))
  one-read {f} {at} xs i d h k s =
      let u = stands_one bytes xs i d h s in
      rw u.stands (e.takes (get_or xs i d) u.rest (every_one ok xs i d k h))

-- one more of them
pub flat_map-next : {A : Type 0} (bytes : A → List ℕ) (xs : List A) (i : ℕ) (d : A) → i < length xs
    → length (flat_map bytes (take (suc i) xs)) ≡ length (flat_map bytes (take i xs)) + length (bytes (get_or xs i d))
unfolding flat_map
flat_map-next bytes xs i d h =
    rw (
      take-suc xs i d h,
      flat_map-append bytes (take i xs) (get_or xs i d ∷ []),
      length-append (flat_map bytes (take i xs)) (bytes (get_or xs i d) ++ []),
      append-nil (bytes (get_or xs i d)),
    )

-- ── Numbers ──

pub number-stands : {f : List ℕ} {at : ℕ} (w n : ℕ) → w ≤ 8 → n < 256 ^ w → Stands f at (bytes_of w n) → read_at f at w ≡ n
number-stands {f} {at} w n h k s =
    let m : at + w ≤ length f = omega (arith, s.inside, length-bytes_of w n) in
    rw (read_is f at w h m, s.stands, take_at (bytes_of w n) s.rest w (length-bytes_of w n)) (number_of-bytes_of w n k)

-- ── Definitions ──

pub defined-take : (at i : ℕ) (ss : List Section) → take i (defined_at at ss) ≡ defined_at at (take i ss)
unfolding defined_at
defined-take at zero ss = refl
defined-take at (suc i) [] = refl
defined-take at (suc i) (s ∷ ss) = rw (defined-take (at + length s.configuration) i ss)

-- the definitions ahead of one take the same bytes wherever the configurations start
pub defined-ahead : (at i : ℕ) (ss : List Section) → length (flat_map definition_bytes (take i (defined_at at ss))) ≡ length
    (definition_list_bytes 0 (take i ss))
defined-ahead at i ss = rw (defined-take at i ss, defined-bytes at (take i ss)) (length-definitions at 0 (take i ss))

abbrev pub no_definition : Definition
no_definition = record { name = []; offset = 0 }

-- a section's definition: its name, and where its configuration starts behind those ahead
pub defined-one : (at i : ℕ) (ss : List Section) → i < length ss
    → get_or (defined_at at ss) i no_definition ≡ record { name = (get_or ss i no_section).name; offset = at + length (configurations_bytes (take i ss)) }
unfolding defined_at configurations_bytes flat_map
defined-one at i [] h = absurd (omega arith)
defined-one at zero (s ∷ ss) h = ap (λ (n : ℕ). record { name = s.name; offset = n }) (omega arith)
defined-one at (suc i) (s ∷ ss) h = defined-one (at + length s.configuration) i ss (omega arith)
    ∙ ap (λ (n : ℕ). record { name = (get_or ss i no_section).name; offset = n }) (omega (arith, length-configurations s (take i ss)))

-- the next one starts where this one ends
pub defined-next : (at i : ℕ) (ss : List Section) → i < length ss
    → length (definition_list_bytes 0 (take (suc i) ss)) ≡ length (definition_list_bytes 0 (take i ss)) + length
    (definition_bytes (record { name = (get_or ss i no_section).name; offset = at + length (configurations_bytes (take i ss)) }))
defined-next at i ss h =
    rw (← defined-ahead at (suc i) ss, ← defined-ahead at i ss, ← defined-one at i ss h)
    (flat_map-next definition_bytes (defined_at at ss) i no_definition (rw length-defined h))

pub configurations-next : (i : ℕ) (ss : List Section) → i < length ss
    → length (configurations_bytes (take (suc i) ss)) ≡ length (configurations_bytes (take i ss)) + length (get_or ss i no_section).configuration
unfolding configurations_bytes
configurations-next i ss h = flat_map-next (λ s. s.configuration) ss i no_section h

-- ── Index entries ──

pub entry-stands : {f : List ℕ} {place : ℕ} (first at : ℕ) (fs : List Frame) (i : ℕ) → i < length fs → Stands f place (entries_bytes first at fs)
    → Stands f (place + 16 * i) (entry_bytes first (get_or fs i no_frame).time (at + length (flat_map frame_bytes (take i fs)))
    (length (frame_bytes (get_or fs i no_frame))))
unfolding entries_bytes flat_map
entry-stands first at [] i h s = absurd (omega arith)
entry-stands {f} {place} first at (x ∷ xs) zero h s =
    let e : at ≡ at + 0 = omega arith in
    stands_at_lem {at = place} (place + 16 * 0) (omega arith) (rw (← e)
    (stands-front (entry_bytes first x.time at (length (frame_bytes x))) (entries_bytes first (at + length (frame_bytes x)) xs) s))
entry-stands {f} {place} first at (x ∷ xs) (suc i) h s =
    let e : at + length (frame_bytes x) + length (flat_map frame_bytes (take i xs)) ≡ at + length (frame_bytes x ++ flat_map frame_bytes (take i xs)) =
    rw length-append (omega arith) in
    let u = entry-stands {place = place + length (entry_bytes first x.time at (length (frame_bytes x)))} first (at + length (frame_bytes x)) xs i (omega arith)
    (stands-back (entry_bytes first x.time at (length (frame_bytes x))) (entries_bytes first (at + length (frame_bytes x)) xs) s) in
    stands_at_lem (place + 16 * suc i) (omega (arith, length-entry first x.time at (length (frame_bytes x)))) (rw e at u)
