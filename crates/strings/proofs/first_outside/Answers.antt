use Prim.Native.Nat.{ℕ, ◌+◌, ◌-◌}
use native.Mathlib.Omega.{arith}
use mathlib.Core.Path.{◌≡◌, ◌∙◌, ap}
use mathlib.Core.Bool.{not}
use lib.ListN.{length, take, drop}
use Rattle.std.proofs.Common.{rules, tests}
use Rattle.std.proofs.lemmas.Iterator.{YieldsList-from_slice}
use Rattle.std.proofs.lemmas.Iterator.Search.{position_from_yields_List}
use Rattle.number.proofs.Bytes.{part-long}
use Rattle.layout.specs.Reading.{outside}
use Rattle.strings.specs.Strings.{in_class}
use Rattle.strings.proofs.Chains.{first-outside}
use Rattle.strings.proofs.first_outside.Goals as goal

pub returns : goal.returns
returns c =
    let ok = in_class c.args.class in
    let from = drop c.args.at c.args.s.now in
    let n = c.args.at + c.args.n - c.args.at in
    let is = position_from_yields_List (λ x. not (ok x)) _ _ c.position-first.result c.position-first.ensures.ran (YieldsList-from_slice (take n from) cc) (λ x b q k. search (rules, tests)) in
    let l : length (take n from) ≡ c.args.n = ap (λ (k : ℕ). length (take k from)) (omega arith) ∙ part-long c.args.s.now c.args.at c.args.n c.requires in
    ap (λ (k : ℕ). c.args.at + k) (c.unwrap_or.ensures ∙ first-outside ok (take n from) c.args.n c.position-first.result l is ∙ ap (λ (k : ℕ). outside ok (take k from)) (omega arith))
