use Prim.Native.Nat.{ℕ, ◌+◌, ◌-◌}
use native.Mathlib.Omega.{arith}
use mathlib.Core.Path.{◌∙◌, ap}
use lib.ListN.{take, drop}
use Rattle.std.specs.List.{list_all}
use Rattle.std.proofs.Common.{rules, tests}
use Rattle.std.proofs.lemmas.Iterator.{YieldsList-from_slice}
use Rattle.std.proofs.lemmas.Iterator.Search.{all_from_yields_List}
use Rattle.strings.specs.Strings.{in_class}
use Rattle.strings.proofs.Chains.{all-every}
use Rattle.strings.proofs.bytes_in_class.Goals as goal

pub returns : goal.returns
returns c =
    let ok = in_class c.args.class in
    let from = drop c.args.at c.args.s.now in
    all_from_yields_List ok _ _ _ c.all.ensures.ran (YieldsList-from_slice (take (c.args.at + c.args.n - c.args.at) from) cc) (λ x b q k. search (rules, tests))
    ∙ ap (λ (k : ℕ). list_all ok (take k from)) (omega arith)
    ∙ all-every ok (take c.args.n from)
