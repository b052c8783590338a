use Prim.Native.Nat.{◌-◌}
use mathlib.Core.Path.{◌≡◌}
use lib.ListN.{drop}
use Rattle.layout.specs.Recording.{every, legal_section_name, section_names}
use Rattle.setup.specs.SetUp.{rows}
use Rattle.setup.proofs.legal_names.Given as goal

abbrev pub invariant-loop : goal.invariant-loop
invariant-loop l =
    every legal_section_name (section_names (rows (l.n - l.counter) (drop l.place l.setup)))
    ≡ every legal_section_name (section_names (rows l.n (drop 1 l.setup)))
