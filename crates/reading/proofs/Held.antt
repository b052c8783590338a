-- The numbers of an opened file are those of the recording that it shows, and each item by the numbers is that recording's.
-- Assumes nothing.
use Prim.Native.Nat.{ℕ, suc, ◌+◌, ◌*◌, ◌-◌, ◌<◌, ◌≤◌}
use native.Mathlib.Omega.{arith}
use mathlib.Core.Path.{◌≡◌, refl, ap, sym, ◌∙◌}
use mathlib.Core.Bool.{Bool, true, false, not, cond, ◌&&◌}
use mathlib.Core.Logic.{◌⊎◌, inl, inr}
use mathlib.Core.List.{List, [], ◌++◌, flat_map}
use lib.ListN.{length, take, drop, get_or, length-append}
use lib.Seq.{take_all}
use lib.Dec.{ltb}
use borrow.Author.Tests.{lt-ltb, le-ltb, eq-eqb, ne_eqb}
use Rattle.number.specs.Number.{read_at}
use Rattle.number.proofs.Bytes.{length-bytes_of, slice-bytes}
use Rattle.layout.specs.Recording.{Section, Tag, frame_bytes, sized_bytes, table_bytes, definitions_end, configurations_bytes, frames_end, user_start}
use Rattle.layout.specs.Reading.{good, taken, table, string}
use Rattle.layout.specs.Opening.{refusal, shown, system_offset, user_offset, walk_start, read_system, read_user}
use Rattle.layout.specs.Items.{frame_section, section_name, configuration, no_section, no_tag, no_such_item, item_start, item_bytes, name_start, value_start, system_start, frame_start, frame_of}
use Rattle.layout.proofs.Lists.{le-or-lt, flat_map-take}
use Rattle.layout.proofs.Readers.{exactly-good}
use Rattle.layout.proofs.Lines.{opens-passes}
use Rattle.layout.proofs.Fronts.{FrontRead}
use Rattle.layout.proofs.Encoded.{legal-front, legal-user, behind_frames, opens-placed}
use Rattle.strings.specs.Strings.{text_of}
use Rattle.parts.specs.Parts.{end_of}
use Rattle.tables.specs.Tables.{tag_found}
use Rattle.std.specs.Prelude.{Option, Some, None}
use Rattle.tables.specs.Tables.{tag_at}
use Rattle.tables.proofs.Places.{tag-found-at, tag-found-past}
use Rattle.opening.specs.Opened.{held_of}
use Rattle.frames.specs.Frames.{sized_at, sections_at}
use Rattle.front.specs.Front.{definition_at, whole_definition}
use Rattle.front.specs.declared.DefinitionAt.{DefinitionAt}
use Rattle.opening.specs.declared.Held.{Held}
use Rattle.reading.specs.Read.{item_of, found_in}
use Rattle.items.specs.Items.{found_at, frame_place, held_section, definition_place, held_name, next_at, held_configuration, name_of, value_of, held_item, held_found, or_no_such}
use Rattle.items.specs.declared.Item.{Item}
use Rattle.items.specs.declared.Item.TheVariants as item
use Rattle.reading.proofs.Standing.{configurations-next}
use Rattle.items.proofs.Bytes.{Bytes}
use Rattle.reading.proofs.Opened.{legal, again, order, definition_start, definitions-ahead, definition_of, definition-here, definition-next, name-here, frame-within, frame-place, size_start, sections-ahead, section-here}
use Rattle.items.proofs.Laws.{name-past, name-found, configuration-past, configuration-found, place-past, place-there, section-past, section-nowhere, section-found}

-- ── A file that opens ──

module _ (f : List ℕ) (b : Bytes f) (o : refusal f ≡ 0) where
  front : FrontRead (length (shown f).frames) (frames_end (shown f)) (user_start (shown f)) (shown f).sections (shown f).system
      (flat_map frame_bytes (shown f).frames ++ behind_frames (shown f)) f
  front = rw (again f b o) at (legal-front (shown f) (legal f b o))

  system-place : system_offset f ≡ system_start (shown f)
  unfolding walk_start system_start taken
  system-place =
      let t : taken (read_system f) ≡ length (table_bytes (shown f).system) = ap taken front.system in
      omega (arith, front.start)

  system-read : table (drop (system_start (shown f)) f) ≡ good (shown f).system (length (table_bytes (shown f).system))
  unfolding read_system
  system-read = rw (← system-place) front.system

  user-place : user_offset f ≡ user_start (shown f)
  user-place = (opens-placed f (slice-bytes f b) (opens-passes f o)).user

  user-read : table (drop (user_start (shown f)) f) ≡ good (shown f).user (length (table_bytes (shown f).user))
  unfolding read_user
  user-read = rw (← user-place) (exactly-good table (drop (user_offset f) f) _ _ (rw (again f b o) at (legal-user (shown f) (legal f b o)))).0

  -- its numbers
  module _ (h : Held) (e : h ≡ held_of f) where
    pub held-frames : h.frames ≡ length (shown f).frames
    unfolding held_of
    held-frames = rw e

    pub held-sections : h.sections ≡ length (shown f).sections
    unfolding held_of
    held-sections = rw e

    pub held-index : h.index ≡ frames_end (shown f)
    unfolding held_of
    held-index = rw e (opens-placed f (slice-bytes f b) (opens-passes f o)).index

    pub held-system : h.system ≡ system_start (shown f)
    unfolding held_of
    held-system = rw e system-place

    pub held-user : h.user ≡ user_start (shown f)
    unfolding held_of
    held-user = rw e user-place

-- ── Tags ──

-- tag i of a table that starts at a place
tag_in : (f : List ℕ) (at n i : ℕ) (ts : List Tag) → table (drop at f) ≡ good ts n
    → tag_found f at i ≡ cond (ltb i (length ts)) (tag_at (name_start at ts i) (length (get_or ts i no_tag).name) (value_start at ts i)
    (length (get_or ts i no_tag).value)) None
tag_in f at n i ts e = go (le-or-lt (length ts) i)
  where
    go : (length ts ≤ i) ⊎ (i < length ts) → tag_found f at i ≡ cond (ltb i (length ts))
        (tag_at (name_start at ts i) (length (get_or ts i no_tag).name) (value_start at ts i) (length (get_or ts i no_tag).value)) None
    go (inl h) = rw (le-ltb i (length ts) h) (tag-found-past f at n i ts e h)
    go (inr h) = rw (lt-ltb i (length ts) h) (tag-found-at f at n i ts e h)

-- its name, or none; its value, or none
name-or : (b : Bool) (p q k l : ℕ) → name_of (cond b (tag_at p q k l) None) ≡ cond (not b) None (found_at p q)
name-or true p q k l = refl
name-or false p q k l = refl

value-or : (b : Bool) (p q k l : ℕ) → value_of (cond b (tag_at p q k l) None) ≡ cond (not b) None (found_at k l)
value-or true p q k l = refl
value-or false p q k l = refl

-- ── Items by the numbers ──

abbrev defined_at : (next offset : ℕ) → Option DefinitionAt
defined_at n o = Some (record { next = n; offset = o })

-- of a file that opens each is the item of the recording shown
module _ (f : List ℕ) (b : Bytes f) (o : refusal f ≡ 0) where
  module _ (i n : ℕ) (c : n ≡ length (shown f).sections) where
    shown-name : held_name f n i ≡ found_in (shown f) (section_name i)
    unfolding found_in no_such_item item_start item_bytes definition_start text_of
    shown-name = go (le-or-lt n i)
      where
        go : (n ≤ i) ⊎ (i < n) → held_name f n i ≡ found_in (shown f) (section_name i)
        go (inl h) = rw (le-ltb i (length (shown f).sections) (omega arith)) (sym (name-past f n i h))
        go (inr h) =
            let t : text_of (string (drop (definition_start (shown f) i) f)) ≡ Some (length (get_or (shown f).sections i no_section).name) =
            rw (name-here f b o i (omega arith)) in
            rw (lt-ltb i (length (shown f).sections) (omega arith))
            (sym (name-found f n i h (definition_place f i) refl (definition_start (shown f) i)
            (definitions-ahead f b o i (omega arith)) _ refl _ t))

    -- the next offset is where the configurations up to this one end
    next-offset : (system : ℕ) → i < n → system ≡ system_start (shown f)
        → next_at f (definition_start (shown f) (suc i)) (n - i - 1) system ≡ definitions_end (shown f).sections + length
        (configurations_bytes (take (suc i) (shown f).sections))
    unfolding system_start definition_at whole_definition definition_of
    next-offset system h s = go (le-or-lt (n - i - 1) 0)
      where
        go : (n - i - 1 ≤ 0) ⊎ (0 < n - i - 1) → next_at f (definition_start (shown f) (suc i)) (n - i - 1) system ≡ definitions_end
            (shown f).sections + length (configurations_bytes (take (suc i) (shown f).sections))
        go (inl z) = rw (eq-eqb (n - i - 1) 0 (omega arith), take_all (suc i) (shown f).sections (omega arith)) s
        go (inr z) = rw (ne_eqb (n - i - 1) 0 (λ e. omega arith), definition-here f b o (suc i) (omega arith))

    shown-configuration : (system : ℕ) → system ≡ system_start (shown f) → held_configuration f n system i ≡ found_in (shown f) (configuration i)
    unfolding found_in no_such_item item_start item_bytes definition_of definition_at whole_definition system_start configurations_bytes
    shown-configuration system s = go (le-or-lt n i)
      where
        go : (n ≤ i) ⊎ (i < n) → held_configuration f n system i ≡ found_in (shown f) (configuration i)
        go (inl h) = rw (le-ltb i (length (shown f).sections) (omega arith)) (sym (configuration-past f n system i h))
        go (inr h) =
            let ss : List Section = (shown f).sections in
            let start : ℕ = definitions_end ss + length (configurations_bytes (take i ss)) in
            let end : ℕ = definitions_end ss + length (configurations_bytes (take (suc i) ss)) in
            let t : definition_at f (definition_start (shown f) i) ≡ defined_at (definition_start (shown f) (suc i)) start =
            rw (definition-here f b o i (omega arith)) (ap (λ (m : ℕ). defined_at m start) (definition-next f b o i (omega arith))) in
            let k : length (configurations_bytes (take (suc i) ss)) ≡ length (configurations_bytes (take i ss)) + length
            (get_or ss i no_section).configuration = configurations-next i ss (omega arith) in
            let l : end ≤ length f = omega (
              arith,
              flat_map-take (λ (x : Section). x.configuration) (suc i) ss,
              (order f b o).system,
              (order f b o).frames,
              (order f b o).index,
              (order f b o).user,
            ) in
            let m : end - start ≡ length (get_or ss i no_section).configuration = omega arith in
            rw (lt-ltb i (length (shown f).sections) (omega arith), ← m)
            (sym (configuration-found f n i h (definition_place f i) refl (definition_start (shown f) i)
            (definitions-ahead f b o i (omega arith)) _ refl system (record { next = definition_start (shown f) (suc i); offset = start }) end t
            (sym (next-offset system h s)) (omega arith) l))

  module _ (frames index i : ℕ) (c : frames ≡ length (shown f).frames) (d : index ≡ frames_end (shown f)) (h : i < frames) where
    -- a frame starts where it does in the recording
    pub shown-place : frame_place f frames index i ≡ Some (frame_start (shown f) i)
    shown-place =
        let e : frame_start (shown f) i ≡ read_at f (index + 4 + 16 * i + 4) 8 =
        sym (frame-place f b o i (omega arith)) ∙ ap (λ (k : ℕ). read_at f (k + 4 + 16 * i + 4) 8) (sym d) in
        sym (place-there f frames index i (frame_start (shown f) i) h (omega (arith, (legal f b o).frames_few))
        (omega (arith, (order f b o).index, (order f b o).user)) e)

  shown-section : (frames index n i j : ℕ) → frames ≡ length (shown f).frames → index ≡ frames_end (shown f) → n ≡ length (shown f).sections
      → held_section f frames index n i j ≡ found_in (shown f) (frame_section i j)
  unfolding found_in no_such_item item_start item_bytes size_start sections_at sized_at end_of sized_bytes
  shown-section frames index n i j c d m = go (le-or-lt n j) (le-or-lt frames i)
    where
      past : (x : Bool) → cond (not (x && false)) None
          (found_at (item_start (shown f) (frame_section i j)) (length (item_bytes (shown f) (frame_section i j)))) ≡ None
      past true = refl
      past false = refl

      go : (n ≤ j) ⊎ (j < n) → (frames ≤ i) ⊎ (i < frames) → held_section f frames index n i j ≡ found_in (shown f) (frame_section i j)
      go (inl h) k = sym (section-past f frames index n i j h)
          ∙ sym (rw (le-ltb j (length (shown f).sections) (omega arith)) (past (ltb i (length (shown f).frames))))
      go (inr h) (inl k) = rw (le-ltb i (length (shown f).frames) (omega arith))
          (sym (section-nowhere f frames index n i j h (frame_place f frames index i) refl (sym (place-past f frames index i k))))
      go (inr h) (inr k) =
          let x : List ℕ = get_or (frame_of (shown f) i).sections j [] in
          let s : ℕ = size_start (shown f) i j in
          let t : sized_at f s ≡ Some (s + 4 + length x) = rw (section-here f b o i j (omega arith) (omega arith))
          (ap Some (simp (length-append, length-bytes_of) (omega arith))) in
          let z : s + 4 + length x - s - 4 ≡ length x = omega arith in
          let l : frame_start (shown f) i ≤ length f = omega (arith, frame-within f b o i, (order f b o).index, (order f b o).user) in
          rw (lt-ltb i (length (shown f).frames) (omega arith), lt-ltb j (length (shown f).sections) (omega arith), ← z)
          (sym (section-found f frames index n i j h (frame_place f frames index i) refl (frame_start (shown f) i)
          (shown-place frames index i c d k) l _ refl s (sections-ahead f b o i j (omega arith) (omega arith)) _ refl (s + 4 + length x) t))

  module _ (h : Held) (e : h ≡ held_of f) where
    shown-system : (i : ℕ) → tag_found f h.system i ≡ cond (ltb i (length (shown f).system))
        (tag_at (name_start (system_start (shown f)) (shown f).system i) (length (get_or (shown f).system i no_tag).name)
        (value_start (system_start (shown f)) (shown f).system i) (length (get_or (shown f).system i no_tag).value)) None
    shown-system i = rw (held-system f b o h e) (tag_in f (system_start (shown f)) _ i (shown f).system (system-read f b o))

    shown-user : (i : ℕ) → tag_found f h.user i ≡ cond (ltb i (length (shown f).user))
        (tag_at (name_start (user_start (shown f)) (shown f).user i) (length (get_or (shown f).user i no_tag).name)
        (value_start (user_start (shown f)) (shown f).user i) (length (get_or (shown f).user i no_tag).value)) None
    shown-user i = rw (held-user f b o h e) (tag_in f (user_start (shown f)) _ i (shown f).user (user-read f b o))

    shown-held : (it : Item) → held_item f h it ≡ found_in (shown f) (item_of it)
    unfolding item_of found_in no_such_item item_start item_bytes
    shown-held (item.Section i j) = shown-section h.frames h.index h.sections i j (held-frames f b o h e) (held-index f b o h e)
        (held-sections f b o h e)
    shown-held (item.SectionName i) = shown-name i h.sections (held-sections f b o h e)
    shown-held (item.Configuration i) = shown-configuration i h.sections (held-sections f b o h e) h.system (held-system f b o h e)
    shown-held (item.SystemName i) = ap name_of (shown-system i) ∙ name-or (ltb i (length (shown f).system)) _ _ _ _
    shown-held (item.SystemValue i) = ap value_of (shown-system i) ∙ value-or (ltb i (length (shown f).system)) _ _ _ _
    shown-held (item.UserName i) = ap name_of (shown-user i) ∙ name-or (ltb i (length (shown f).user)) _ _ _ _
    shown-held (item.UserValue i) = ap value_of (shown-user i) ∙ value-or (ltb i (length (shown f).user)) _ _ _ _

    -- the same of the call's answer
    pub shown-item : (it : Item) → held_found f h it ≡ or_no_such (found_in (shown f) (item_of it))
    unfolding held_found
    shown-item it = ap or_no_such (shown-held it)
