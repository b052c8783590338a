use Prim.Native.Nat.{◌+◌, ◌-◌}
use mathlib.Core.Path.{◌≡◌}
use lib.ListN.{drop}
use Rattle.number.specs.Number.{read_at}
use Rattle.layout.specs.Reading.{times}
use Rattle.layout.specs.Recorder.{set_up_section, set_up_list}
use Rattle.setup.specs.SetUp.{stop_of}
use Rattle.setup.proofs.list_stop.Given as goal

abbrev pub invariant-loop : goal.invariant-loop
invariant-loop l = l.place + stop_of (times (read_at l.setup 0 1 - l.counter) set_up_section (drop l.place l.setup)) ≡ stop_of (set_up_list l.setup)
