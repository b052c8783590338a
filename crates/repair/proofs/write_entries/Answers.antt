use Prim.Native.Nat.{◌+◌, ◌-◌}
use native.Mathlib.Omega.{arith}
use mathlib.Core.Path.{◌≡◌}
use Rattle.repair.proofs.Laws.{laws}
use Rattle.repair.proofs.Tails.{next_known, entries-step, entries-done}
use Rattle.repair.proofs.write_entries.Goals as goal

pub next_place-next-requires : goal.next_place-next-requires
next_place-next-requires c =
    let here = c.loop-passed.invariant in
    next_known c.args.file.now c.args.lengths.now c.args.sections (c.args.count - c.loop-passed.passed) c.loop-passed.place c.args.common c.loop-passed.passed c.type_inv.file (omega arith) here.3 here.4 here.5

pub loop-passed-preserved : goal.loop-passed-preserved
loop-passed-preserved c =
    let e : c.args.count - (c.loop-passed.passed + 1) ≡ c.args.count - c.loop-passed.passed - 1 = omega arith in
    let here = c.loop-passed.invariant in
    let left = c.args.count - c.loop-passed.passed in
    rw e (
      omega arith,
      search laws,
      search laws,
      search laws,
      search laws,
      search laws,
      entries-step c.args.file.now c.loop-passed.out c.write_entry.new.out _ c.args.sections c.args.first left c.loop-passed.place c.loop-passed.entry c.next_place-next.result c.known_time-time.result c.type_inv.file (omega arith) here.3 c.next_place-next.ensures c.known_time-time.ensures c.write_entry.ensures here.6,
    )

pub returns : goal.returns
returns c = entries-done c.args.file.now c.loop-passed.out _ c.args.sections c.args.first (c.args.count - c.loop-passed.passed) c.loop-passed.place c.loop-passed.entry (omega arith) c.loop-passed.invariant.6
