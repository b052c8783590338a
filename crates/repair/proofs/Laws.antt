-- What the functions of this crate leave to be shown, as laws about the definitions.
-- Assumes nothing.
use borrow.Author.Rules.{rules}
use Rattle.repair.proofs.Walks.{common-first, common-same, common-other, common-none, walk_start_lem, walk-most, step-none, step-next, step-late, step-behind, step-near, walk-stops, walk-late, walk-goes}
use borrow.Author.Tests.{not-true, not-false}
use Rattle.frames.proofs.Laws.{time-fits, end-behind}
use Rattle.repair.proofs.Lengths.{noted-past, noted-there, kept-most, kept-stops, kept-refused, kept_goes}
use Rattle.repair.proofs.Frames.{frames}
use Rattle.repair.proofs.Order.{order}
use Rattle.repair.proofs.Tails.{entry-filled, entry-written, entry-part, part-read, next-ended, next-there, next-common, next-kept, next_fits, kept-fits, next_known, alike-left, listed-left, head-there, known-time-fits, known_behind, known-left, entries-done, entries-step, stored-length, room-left, index-written, table-written, tail_written, table-room}

pub ruleset laws = (
  rules,
  not-true,
  not-false,
  common-first,
  common-same,
  common-other,
  common-none,
  walk_start_lem,
  walk-most,
  step-none,
  step-next,
  step-late,
  step-behind,
  step-near,
  walk-late,
  walk-stops,
  walk-goes,
  noted-past,
  noted-there,
  kept-most,
  kept-stops,
  kept-refused,
  kept_goes,
  time-fits,
  end-behind,
  entry-filled,
  entry-written,
  entry-part,
  part-read,
  next-ended,
  next-there,
  next-common,
  next-kept,
  next_fits,
  kept-fits,
  next_known,
  alike-left,
  listed-left,
  head-there,
  known-time-fits,
  known_behind,
  known-left,
  entries-done,
  entries-step,
  stored-length,
  room-left,
  index-written,
  table-written,
  tail_written,
  table-room,
  frames,
  order,
)
