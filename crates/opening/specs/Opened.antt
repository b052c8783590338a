-- What this crate's functions answer, by the layout's readers and its lines of refusal.
use Rattle.std.specs.Prelude.{ℕ, ◌+◌, ◌*◌, ◌-◌, Bool, not, ◌||◌, cond, List, ◌++◌, length, take, drop, ltb, eqb, Option, Some, None, Result, Ok, Err}
use Rattle.number.specs.Number.{bytes_of, read_at}
use Rattle.layout.specs.Recording.{most_frames, largest_user_offset, same, follows, follow, in_order, entries_bytes, index_bytes}
use Rattle.layout.specs.Opening.{index_offset, system_offset, user_offset, walk_start, refusal, opening_place, shown}
use Rattle.layout.specs.Reading.{Walk, walk}
use Rattle.header.specs.declared.Header.{Header}
use Rattle.times.specs.Times.{since_first}
use Rattle.frames.specs.Frames.{frame_end}
use Rattle.refusal.specs.Refusal.{unless}
use Rattle.refusal.specs.declared.Refusal.{Refusal}
use Rattle.opening.specs.declared.Held.{Held}

-- 5 of a file with this header
unfoldable pub not_closed_by : List ℕ → Header → Bool
not_closed_by f h =
    eqb h.index 0 || eqb h.user 0 || ltb (length f) h.index || ltb (length f) h.user || ltb largest_user_offset h.user

-- ── The index ──

-- the sixteen bytes of an entry are not these
unfoldable pub other_entry : List ℕ → (entry since offset size : ℕ) → Bool
other_entry f entry since offset size = not (same (take 16 (drop entry f)) (bytes_of 4 since ++ bytes_of 8 offset ++ bytes_of 4 size))

-- the length that an entry says
unfoldable pub noted_length : List ℕ → (entry : ℕ) → ℕ
noted_length f entry = read_at (take 16 (drop entry f)) 12 4

-- the time of a frame that ends there, where that follows and its entry is this one
unfoldable pub noted_by : (end : Option ℕ) → List ℕ → (first at entry last : ℕ) → Option ℕ
noted_by (Some next) f first at entry last =
    cond (not (follows first last (read_at f (at + 4) 8)) || other_entry f entry (since_first first (read_at f (at + 4) 8)) at (next - at)) None
    (Some (read_at f (at + 4) 8))
noted_by None f first at entry last = None

unfoldable pub noted_frame : List ℕ → (sections first at entry last : ℕ) → Option ℕ
noted_frame f sections first at entry last = noted_by (frame_end f at sections) f first at entry last

-- the frames of a walk from `at` on are fewer than those left, or do not end at the index, or break the time rule, or are not those of the entries
unfoldable pub other_walk : Walk → List ℕ → (index first left at entry last : ℕ) → Bool
other_walk w f index first left at entry last =
    ltb (length w.frames) left
    || not (eqb (at + w.bytes) index)
    || not (follow first last w.frames)
    || not (same (take (16 * left) (drop entry f)) (entries_bytes first at w.frames))

unfoldable pub other_frames : List ℕ → (sections index first left at entry last : ℕ) → Bool
other_frames f sections index first left at entry last = other_walk (walk left sections (drop at f)) f index first left at entry last

-- 6 of a file with this header, so many sections and this start of the walk
unfoldable pub bad_index_in : Walk → List ℕ → Header → (start : ℕ) → Bool
bad_index_in w f h start =
    ltb most_frames h.count
    || ltb (length w.frames) h.count
    || not (eqb (start + w.bytes) h.index)
    || not (in_order w.frames)
    || not (same (take (h.user - h.index) (drop h.index f)) (index_bytes start w.frames))

unfoldable pub bad_index_by : List ℕ → Header → (sections start : ℕ) → Bool
bad_index_by f h sections start = bad_index_in (walk h.count sections (drop start f)) f h start

-- ── Opening ──

-- the numbers of the recording that a file shows, and where its parts stand
unfoldable pub held_of : List ℕ → Held
held_of f =
    record {
      frames = length (shown f).frames;
      sections = length (shown f).sections;
      system_tags = length (shown f).system;
      user_tags = length (shown f).user;
      system = system_offset f;
      start = walk_start f;
      index = index_offset f;
      user = user_offset f;
    }

-- the first of the lines 1 to 7 that holds; else what the file holds
unfoldable pub open_of : List ℕ → Result Held Refusal
open_of f = unless (refusal f) (opening_place (refusal f) f) (held_of f)

-- what an opening is refused with
abbrev pub open_refusal : Result Held Refusal → Option Refusal
open_refusal (Ok h) = None
open_refusal (Err n) = Some n
