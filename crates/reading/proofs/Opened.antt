-- What stands in a file that opens, and what is read of it there.
-- Assumes nothing.
use Prim.Native.Nat.{ℕ, suc, ◌+◌, ◌*◌, ◌-◌, ◌<◌, ◌≤◌}
use native.Mathlib.Omega.{arith}
use mathlib.Core.Path.{◌≡◌}
use mathlib.Core.Bool.{true}
use mathlib.Core.List.{List, [], ◌∷◌, ◌++◌, flat_map}
use lib.ListN.{length, take, drop, get_or}
use lib.Dec.{leb}
use Rattle.number.specs.Number.{bytes_of, read_at, rank}
use Rattle.number.proofs.Bytes.{slice-bytes, length-bytes_of}
use Rattle.layout.specs.Recording.{Frame, Recording, Legal, largest_user_offset, longest_section, short_string, definition_list_bytes, definitions_bytes, definitions_end, configurations_bytes, table_bytes, sized_bytes, frame_head_bytes, frame_bytes, entry_bytes, entries_bytes, index_bytes, first_time, frames_start, frames_end, user_start, encode, every, legal_section, legal_frame}
use Rattle.layout.specs.Reading.{good, times, string, Definition, definition, sized, frame}
use Rattle.layout.specs.Opening.{refusal, shown}
use Rattle.layout.specs.Items.{no_section, no_frame, frame_of, frame_start, system_start}
use Rattle.layout.proofs.Lists.{flat_map-take}
use Rattle.layout.proofs.Exact.{string-exact, definition_bytes, legal_definition, definition-exact, sized-exact, frame-exact, frame-legal, section_name-short}
use Rattle.layout.proofs.Fronts.{defined_at, defined-bytes, length-defined, defined-legal, section-name, table-some}
use Rattle.layout.proofs.Encoded.{frames-start, frames-end, user-start, length-index, length-encode, drop-index}
use Rattle.layout.proofs.Places.{Stands, stands-front, stands-back, stands_at_lem, stands_one, every_one, definitions-stand, frame-stands, length-head, frame-sections}
use Rattle.layout.proofs.Condition2.{opens-legal}
use Rattle.parts.specs.Parts.{end_of}
use Rattle.rows.specs.Rows.{row_name}
use Rattle.std.specs.Prelude.{Some}
use Rattle.rows.specs.declared.Row.TheVariants as row
use Rattle.parts.proofs.Times.{times-led}
use Rattle.names.proofs.Readers.{definition-row}
use Rattle.reading.proofs.Standing.{ahead-read, one-read, number-stands, defined-ahead, defined-one, defined-next, no_definition, entry-stands}
use Rattle.items.proofs.Bytes.{Bytes}

-- where a section's definition starts, and what it says
unfoldable pub definition_start : Recording → ℕ → ℕ
definition_start r i = 34 + length (definition_list_bytes 0 (take i r.sections))

unfoldable pub definition_of : Recording → ℕ → Definition
definition_of r i = record {
  name = (get_or r.sections i no_section).name;
  offset = definitions_end r.sections + length (configurations_bytes (take i r.sections));
}

-- where the size of a frame's section stands
unfoldable pub size_start : Recording → (i j : ℕ) → ℕ
size_start r i j = frame_start r i + 16 + length (flat_map sized_bytes (take j (frame_of r i).sections))

module _ (f : List ℕ) (b : Bytes f) (o : refusal f ≡ 0) where
  pub legal : Legal (shown f)
  legal = (opens-legal f (slice-bytes f b) o).0

  pub again : encode (shown f) ≡ f
  again = (opens-legal f (slice-bytes f b) o).1

  -- what stands in the recording's file stands in this one
  pub here : {at : ℕ} {s : List ℕ} → Stands (encode (shown f)) at s → Stands f at s
  here p = rw again at p

  -- ── Places ──

  -- each part starts behind the one ahead, and all are far below 2^64
  pub record Order : Type 0 where
    pub system : system_start (shown f) ≤ frames_start (shown f)
    pub frames : frames_start (shown f) ≤ frames_end (shown f)
    pub index : frames_end (shown f) + 4 + 16 * length (shown f).frames ≡ user_start (shown f)
    pub user : user_start (shown f) + 4 ≤ length f
    pub limit : user_start (shown f) ≤ largest_user_offset

  pub order : Order
  unfolding system_start
  order =
      let l : length f ≡ user_start (shown f) + length (table_bytes (shown f).user) = rw again at (length-encode (shown f)) in
      record {
        system = omega (arith, frames-start (shown f));
        frames = omega (arith, frames-end (shown f));
        index = omega (arith, user-start (shown f));
        user = omega (arith, table-some (shown f).user);
        limit = legal.user_offset_fits;
      }

  pub frame-within : (i : ℕ) → frame_start (shown f) i ≤ frames_end (shown f)
  unfolding frame_start
  frame-within i = omega (arith, frames-end (shown f), flat_map-take frame_bytes i (shown f).frames)

  -- ── Definitions ──

  defined : List Definition
  defined = defined_at (definitions_end (shown f).sections) (shown f).sections

  defined-stand : Stands f 34 (flat_map definition_bytes defined)
  unfolding defined definitions_bytes
  defined-stand = rw defined-bytes (stands-back (length (shown f).sections ∷ [])
      (definition_list_bytes (definitions_end (shown f).sections) (shown f).sections) (here (definitions-stand (shown f))))

  defined-fit : every legal_definition defined ≡ true
  unfolding defined system_start
  defined-fit = defined-legal (definitions_end (shown f).sections) (shown f).sections legal.sections_legal
      (omega (arith, order.system, order.frames, order.index, order.limit))

  defined-count : length defined ≡ length (shown f).sections
  unfolding defined
  defined-count = length-defined _ (shown f).sections

  pub definitions-ahead : (i : ℕ) → i ≤ length (shown f).sections
      → end_of 34 (times i (row_name row.Definition) (drop 34 f)) ≡ Some (definition_start (shown f) i)
  unfolding defined definition_start end_of
  definitions-ahead i h =
      rw (
        times-led definition (row_name row.Definition) (λ d. d.name) definition-row i (drop 34 f) _ _
            (ahead-read definition-exact defined i (omega (arith, defined-count)) defined-fit defined-stand),
        ← defined-ahead (definitions_end (shown f).sections) i (shown f).sections,
      )

  definition-stands : (i : ℕ) → i < length (shown f).sections → Stands f (definition_start (shown f) i) (definition_bytes (definition_of (shown f) i))
  unfolding defined definition_start definition_of
  definition-stands i h =
      rw (
        ← defined-ahead (definitions_end (shown f).sections) i (shown f).sections,
        ← defined-one (definitions_end (shown f).sections) i (shown f).sections h,
      )
      (stands_one definition_bytes defined i no_definition (omega (arith, defined-count)) defined-stand)

  pub definition-here : (i : ℕ) → i < length (shown f).sections
      → definition (drop (definition_start (shown f) i) f) ≡ good (definition_of (shown f) i) (length (definition_bytes (definition_of (shown f) i)))
  unfolding defined definition_start definition_of
  definition-here i h =
      rw (
        ← defined-ahead (definitions_end (shown f).sections) i (shown f).sections,
        ← defined-one (definitions_end (shown f).sections) i (shown f).sections h,
      )
      (one-read definition-exact defined i no_definition (omega (arith, defined-count)) defined-fit defined-stand)

  -- the next definition starts where this one ends
  pub definition-next : (i : ℕ) → i < length (shown f).sections
      → definition_start (shown f) i + length (definition_bytes (definition_of (shown f) i)) ≡ definition_start (shown f) (suc i)
  unfolding definition_start definition_of
  definition-next i h = omega (arith, defined-next (definitions_end (shown f).sections) i (shown f).sections h)

  pub name-here : (i : ℕ) → i < length (shown f).sections → string (drop (definition_start (shown f) i) f) ≡ good
      (get_or (shown f).sections i no_section).name (length (short_string (get_or (shown f).sections i no_section).name))
  unfolding definition_bytes definition_of
  name-here i h =
      let n : List ℕ = (get_or (shown f).sections i no_section).name in
      let s = stands-front (short_string n) (bytes_of 8 (definition_of (shown f) i).offset) (definition-stands i h) in
      rw s.stands (string-exact.takes n s.rest (section_name-short n
      (section-name (get_or (shown f).sections i no_section)
      (every_one legal_section (shown f).sections i no_section legal.sections_legal h))))

  -- ── Frames ──

  index-stands : Stands f (frames_end (shown f)) (index_bytes (frames_start (shown f)) (shown f).frames)
  index-stands = here (record {
    rest = table_bytes (shown f).user;
    stands = drop-index (shown f);
    inside = omega (arith, length-index (frames_start (shown f)) (shown f).frames, user-start (shown f), length-encode (shown f));
  })

  -- a frame's index entry says where the frame starts
  pub frame-place : (i : ℕ) → i < length (shown f).frames → read_at f (frames_end (shown f) + 4 + 16 * i + 4) 8 ≡ frame_start (shown f) i
  unfolding index_bytes entry_bytes frame_start
  frame-place i h =
      let fs : List Frame = (shown f).frames in
      let at : ℕ = frames_start (shown f) + length (flat_map frame_bytes (take i fs)) in
      let s = stands_at_lem (frames_end (shown f) + 4) (rw length-bytes_of)
      (stands-back (bytes_of 4 (length fs)) (entries_bytes (first_time fs) (frames_start (shown f)) fs) index-stands) in
      let e = entry-stands (first_time fs) (frames_start (shown f)) fs i h s in
      let x : Frame = get_or fs i no_frame in
      let t = stands-back (bytes_of 4 (rank x.time - rank (first_time fs))) (bytes_of 8 at)
      (stands-front (bytes_of 4 (rank x.time - rank (first_time fs)) ++ bytes_of 8 at) (bytes_of 4 (length (frame_bytes x))) e) in
      let w : at ≤ frames_end (shown f) = frame-within i in
      number-stands 8 at (omega arith) (omega (arith, order.index, order.limit))
      (stands_at_lem (frames_end (shown f) + 4 + 16 * i + 4) (rw length-bytes_of) t)

  pub frame_here : (i : ℕ) → i < length (shown f).frames → frame (length (shown f).sections) (drop (frame_start (shown f) i) f) ≡ good
      (frame_of (shown f) i) (length (frame_bytes (frame_of (shown f) i)))
  unfolding frame_of
  frame_here i h =
      let s = here (frame-stands (shown f) i h) in
      rw s.stands ((frame-exact (length (shown f).sections)).takes (frame_of (shown f) i) s.rest
      (every_one (legal_frame (length (shown f).sections)) (shown f).frames i no_frame legal.frames_legal h))

  frame-fits : (i : ℕ) → i < length (shown f).frames → legal_frame (length (shown f).sections) (frame_of (shown f) i) ≡ true
  unfolding frame_of
  frame-fits i h = every_one (legal_frame (length (shown f).sections)) (shown f).frames i no_frame legal.frames_legal h

  pub frame-section-count : (i : ℕ) → i < length (shown f).frames → length (frame_of (shown f) i).sections ≡ length (shown f).sections
  frame-section-count i h = frame-sections (length (shown f).sections) (frame_of (shown f) i) (frame-fits i h)

  -- its sections stand behind its head
  sections-stand : (i : ℕ) → i < length (shown f).frames → Stands f (frame_start (shown f) i + 16)
      (flat_map sized_bytes (frame_of (shown f) i).sections)
  unfolding frame_bytes
  sections-stand i h =
      let x : Frame = frame_of (shown f) i in
      stands_at_lem (frame_start (shown f) i + 16) (rw length-head)
      (stands-back (frame_head_bytes x.time x.exposure) (flat_map sized_bytes x.sections) (here (frame-stands (shown f) i h)))

  sections-fit : (i : ℕ) → i < length (shown f).frames → every (λ s. leb (length s) longest_section) (frame_of (shown f) i).sections ≡ true
  sections-fit i h = ((frame-legal (length (shown f).sections) (frame_of (shown f) i)).1 (frame-fits i h)).3

  pub sections-ahead : (i j : ℕ) → i < length (shown f).frames → j < length (shown f).sections
      → end_of (frame_start (shown f) i + 16) (times j sized (drop (frame_start (shown f) i + 16) f)) ≡ Some (size_start (shown f) i j)
  unfolding size_start end_of
  sections-ahead i j h k = rw (ahead-read sized-exact (frame_of (shown f) i).sections j (omega (arith, frame-section-count i h))
      (sections-fit i h) (sections-stand i h))

  pub section-here : (i j : ℕ) → i < length (shown f).frames → j < length (shown f).sections
      → sized (drop (size_start (shown f) i j) f) ≡ good (get_or (frame_of (shown f) i).sections j [])
      (length (sized_bytes (get_or (frame_of (shown f) i).sections j [])))
  unfolding size_start
  section-here i j h k = one-read sized-exact (frame_of (shown f) i).sections j [] (omega (arith, frame-section-count i h)) (sections-fit i h)
      (sections-stand i h)
