-- What the functions of this crate leave to be shown, as laws about the definitions: one for each way out.
-- Assumes nothing.
use Prim.Native.Nat.{ℕ, ◌+◌, ◌*◌, ◌-◌, ◌^◌, ◌<◌, ◌≤◌}
use native.Mathlib.Omega.{arith}
use mathlib.Core.Path.{◌≡◌, ap, sym, ◌∙◌}
use mathlib.Core.Bool.{Bool}
use mathlib.Core.List.{List}
use lib.ListN.{length, drop, length-append, length-drop}
use borrow.Author.Rules.{rules}
use borrow.Author.Tests.{lt-ltb, le-ltb, le-leb, lt-leb}
use mir.Syntax.{w64}
use mir.Val.{Fits}
use Rattle.number.specs.Number.{read_at}
use Rattle.number.proofs.Bytes.{length-bytes_of, slice-bytes}
use Rattle.layout.specs.Recording.{sized_bytes}
use Rattle.layout.specs.Reading.{good, Reader, times, string, sized}
use Rattle.layout.proofs.Lists.{bytes_drop}
use Rattle.layout.proofs.Exact.{Exact, sized-exact}
use Rattle.strings.proofs.Laws.{text-place}
use Rattle.parts.proofs.Readers.{end-good}
use Rattle.strings.specs.Strings.{text_of}
use Rattle.parts.specs.Parts.{end_of}
use Rattle.rows.specs.Rows.{row_name}
use Rattle.rows.specs.declared.Row.TheVariants as row
use Rattle.std.specs.Prelude.{Option, Some, None, Ok, Err}
use Rattle.frames.specs.Frames.{sized_at, sections_at}
use Rattle.front.specs.Front.{definition_at}
use Rattle.front.specs.declared.DefinitionAt.{DefinitionAt}
use Rattle.opening.specs.declared.Held.{Held}
use Rattle.refusal.specs.declared.Refusal.TheVariants.{NoSuchItem}
use Rattle.items.specs.Items.{found_at, from, frame_place, section_at, section_from, held_section, string_from, name_at, held_name, next_at, between, configuration_from, configuration_at, held_configuration, held_item, held_found}
use Rattle.items.specs.declared.Item.{Item}
use Rattle.items.specs.declared.Found.{Found}
use Rattle.items.proofs.Bytes.{Bytes}

-- ── A section's name and configuration ──

pub name-past : (f : List ℕ) (n i : ℕ) → n ≤ i → None ≡ held_name f n i
unfolding held_name
name-past f n i h = rw (le-ltb i n h)

pub configuration-past : (f : List ℕ) (n system i : ℕ) → n ≤ i → None ≡ held_configuration f n system i
unfolding held_configuration
configuration-past f n system i h = rw (le-ltb i n h)

module _ (f : List ℕ) (n i : ℕ) (h : i < n) (r : Option ℕ) (e : r ≡ end_of 34 (times i (row_name row.Definition) (drop 34 f))) where
  name-from : held_name f n i ≡ from r (name_at f)
  unfolding held_name
  name-from = rw (lt-ltb i n h) (ap (λ (x : Option ℕ). from x (name_at f)) (sym e))

  configuration-from : (system : ℕ) → held_configuration f n system i ≡ from r (configuration_at f (n - i - 1) system)
  unfolding held_configuration
  configuration-from system = rw (lt-ltb i n h) (ap (λ (x : Option ℕ). from x (configuration_at f (n - i - 1) system)) (sym e))

  pub name-nowhere : r ≡ None → None ≡ held_name f n i
  unfolding from
  name-nowhere g = sym (name-from ∙ ap (λ (x : Option ℕ). from x (name_at f)) g)

  pub configuration-nowhere : (system : ℕ) → r ≡ None → None ≡ held_configuration f n system i
  unfolding from
  configuration-nowhere system g = sym (configuration-from system ∙ ap (λ (x : Option ℕ). from x (configuration_at f (n - i - 1) system)) g)

  module _ (p : ℕ) (g : r ≡ Some p) where
    module _ (t : Option ℕ) (u : t ≡ text_of (string (drop p f))) where
      name-read : held_name f n i ≡ string_from p t
      unfolding from name_at
      name-read = name-from ∙ ap (λ (x : Option ℕ). from x (name_at f)) g ∙ ap (string_from p) (sym u)

      pub no_name : t ≡ None → None ≡ held_name f n i
      unfolding string_from
      no_name v = sym (name-read ∙ ap (string_from p) v)

      pub name-found : (l : ℕ) → t ≡ Some l → found_at (p + 1) l ≡ held_name f n i
      unfolding string_from
      name-found l v = sym (name-read ∙ ap (string_from p) v)

    module _ (t : Option DefinitionAt) (u : t ≡ definition_at f p) (system : ℕ) where
      configuration-read : held_configuration f n system i ≡ configuration_from f (n - i - 1) system t
      unfolding from configuration_at
      configuration-read = configuration-from system ∙ ap (λ (x : Option ℕ). from x (configuration_at f (n - i - 1) system)) g
          ∙ ap (configuration_from f (n - i - 1) system) (sym u)

      pub no-offset : t ≡ None → None ≡ held_configuration f n system i
      unfolding configuration_from
      no-offset v = sym (configuration-read ∙ ap (configuration_from f (n - i - 1) system) v)

      module _ (d : DefinitionAt) (end : ℕ) (v : t ≡ Some d) (w : end ≡ next_at f d.next (n - i - 1) system) where
        offsets-read : held_configuration f n system i ≡ between f d.offset end
        unfolding configuration_from
        offsets-read = configuration-read ∙ ap (configuration_from f (n - i - 1) system) v ∙ ap (between f d.offset) (sym w)

        pub offsets-fall : end < d.offset → None ≡ held_configuration f n system i
        unfolding between
        offsets-fall k = sym (offsets-read ∙ rw (lt-leb d.offset end k))

        pub offsets-far : d.offset ≤ end → length f < end → None ≡ held_configuration f n system i
        unfolding between
        offsets-far k l = sym (offsets-read ∙ rw (le-leb d.offset end k, lt-leb end (length f) l))

        pub configuration-found : d.offset ≤ end → end ≤ length f → found_at d.offset (end - d.offset) ≡ held_configuration f n system i
        unfolding between
        configuration-found k l = sym (offsets-read ∙ rw (le-leb d.offset end k, le-leb end (length f) l))

-- ── Where a frame starts ──

pub place-past : (f : List ℕ) (n index i : ℕ) → n ≤ i → None ≡ frame_place f n index i
unfolding frame_place
place-past f n index i h = rw (le-ltb i n h)

pub place-high : (f : List ℕ) (n index i : ℕ) → i < n → 1000000 ≤ i → None ≡ frame_place f n index i
unfolding frame_place
place-high f n index i h k = rw (lt-ltb i n h, le-ltb i 1000000 k)

pub place-far : (f : List ℕ) (n index i : ℕ) → i < n → i < 1000000 → length f < index → None ≡ frame_place f n index i
unfolding frame_place
place-far f n index i h k l = rw (lt-ltb i n h, lt-ltb i 1000000 k, lt-leb index (length f) l)

pub place-there : (f : List ℕ) (n index i p : ℕ) → i < n → i < 1000000 → index ≤ length f → p ≡ read_at f (index + 4 + 16 * i + 4) 8
    → Some p ≡ frame_place f n index i
unfolding frame_place
place-there f n index i p h k l e = rw (lt-ltb i n h, lt-ltb i 1000000 k, le-leb index (length f) l, e)

-- ── A section of a frame ──

pub section-past : (f : List ℕ) (frames index n i j : ℕ) → n ≤ j → None ≡ held_section f frames index n i j
unfolding held_section
section-past f frames index n i j h = rw (le-ltb j n h)

-- what was read from a place on is all there
pub read-ends : {A : Type 0} {ok : A → Bool} {bytes : A → List ℕ} {p : Reader A} → Exact ok bytes p → (f : List ℕ) (s n : ℕ) (x : A) → Bytes f
    → p (drop s f) ≡ good x n → (n ≡ length (bytes x)) × (n ≤ length f - s)
read-ends {A} {ok} {bytes} e f s n x b h =
    let (l, m, w) = e.gives (drop s f) x n (bytes_drop s f (slice-bytes f b)) h in
    let a : length f - s ≡ length (bytes x) + length (drop n (drop s f)) =
    sym (length-drop s f) ∙ ap length w ∙ length-append (bytes x) (drop n (drop s f)) in
    (m, omega arith)

-- a section that was read has a size, and ends within the file
module _ (f : List ℕ) (b : Bytes f) (s end : ℕ) (t : Option ℕ) (u : t ≡ sized_at f s) (v : t ≡ Some end) where
  pub sized-ends : (s + 4 ≤ end) × (end ≤ length f)
  unfolding sized_at sized_bytes
  sized-ends =
      let (x, n, p, q) = end-good (sized (drop s f)) s end (sym u ∙ v) in
      let (m, l) = read-ends sized-exact f s n x b p in
      let k : n ≡ 4 + length x = m ∙ simp (length-append, length-bytes_of) in
      (omega arith, omega arith)

  pub section-fits : length f < 2 ^ 64 → Fits w64 (s + 4)
  section-fits h = record { fits = omega (arith, sized-ends.0, sized-ends.1) }

  pub section-behind : s ≤ end
  section-behind = omega (arith, sized-ends.0)

  pub section-size : 4 ≤ end - s
  section-size = omega (arith, sized-ends.0)

module _ (f : List ℕ) (frames index n i j : ℕ) (h : j < n) (q : Option ℕ) (e : q ≡ frame_place f frames index i) where
  section-from : held_section f frames index n i j ≡ from q (section_from f j)
  unfolding held_section
  section-from = rw (lt-ltb j n h) (ap (λ (x : Option ℕ). from x (section_from f j)) (sym e))

  pub section-nowhere : q ≡ None → None ≡ held_section f frames index n i j
  unfolding from
  section-nowhere g = sym (section-from ∙ ap (λ (x : Option ℕ). from x (section_from f j)) g)

  module _ (p : ℕ) (g : q ≡ Some p) where
    frame-read : held_section f frames index n i j ≡ section_from f j p
    unfolding from
    frame-read = section-from ∙ ap (λ (x : Option ℕ). from x (section_from f j)) g

    pub section-far : length f < p → None ≡ held_section f frames index n i j
    unfolding section_from
    section-far k = sym (frame-read ∙ rw (lt-leb p (length f) k))

    module _ (k : p ≤ length f) (r : Option ℕ) (a : r ≡ sections_at f (p + 16) j) where
      sizes-read : held_section f frames index n i j ≡ from r (section_at f)
      unfolding section_from
      sizes-read = frame-read ∙ rw (le-leb p (length f) k) (ap (λ (x : Option ℕ). from x (section_at f)) (sym a))

      pub no_size : r ≡ None → None ≡ held_section f frames index n i j
      unfolding from
      no_size u = sym (sizes-read ∙ ap (λ (x : Option ℕ). from x (section_at f)) u)

      module _ (s : ℕ) (u : r ≡ Some s) (t : Option ℕ) (v : t ≡ sized_at f s) where
        section-read : held_section f frames index n i j ≡ from t (λ end. found_at (s + 4) (end - s - 4))
        unfolding from section_at
        section-read = sizes-read ∙ ap (λ (x : Option ℕ). from x (section_at f)) u ∙ ap (λ (x : Option ℕ). from x (λ end. found_at (s + 4) (end - s - 4))) (sym v)

        pub no-section : t ≡ None → None ≡ held_section f frames index n i j
        unfolding from
        no-section w = sym (section-read ∙ ap (λ (x : Option ℕ). from x (λ end. found_at (s + 4) (end - s - 4))) w)

        pub section-found : (end : ℕ) → t ≡ Some end → found_at (s + 4) (end - s - 4) ≡ held_section f frames index n i j
        unfolding from
        section-found end w = sym (section-read ∙ ap (λ (x : Option ℕ). from x (λ end. found_at (s + 4) (end - s - 4))) w)

-- ── An item that was looked for ──

module _ (f : List ℕ) (h : Held) (it : Item) (x : Option Found) (e : x ≡ held_item f h it) where
  pub item-none : x ≡ None → Err NoSuchItem ≡ held_found f h it
  unfolding held_found
  item-none q = rw (sym e ∙ q)

  pub item-some : (y : Found) → x ≡ Some y → Ok y ≡ held_found f h it
  unfolding held_found
  item-some y q = rw (sym e ∙ q)

pub ruleset laws = (
  rules,
  text-place,
  name-past,
  configuration-past,
  name-nowhere,
  configuration-nowhere,
  no_name,
  name-found,
  no-offset,
  offsets-fall,
  offsets-far,
  configuration-found,
  place-past,
  place-high,
  place-far,
  place-there,
  section-past,
  section-fits,
  section-behind,
  section-size,
  section-nowhere,
  section-far,
  no_size,
  no-section,
  section-found,
  item-none,
  item-some,
)
