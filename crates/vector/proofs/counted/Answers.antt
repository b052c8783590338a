use mathlib.Core.Path.{ap, ◌∙◌}
use Rattle.vector.specs.Fields.{shown}
use Rattle.vector.proofs.Fields.{no-length, parts-behind}
use Rattle.vector.proofs.counted.Goals as goal

pub returns-in_err-_length : goal.returns-in_err-_length
returns-in_err-_length c = ap shown c.from_residual.ensures ∙ no-length c.args.fields.now c.args.width c.in_err-_length.ensures.cases

pub returns : goal.returns
returns c =
    let split = c.in_ok-_length.ensures.cases in
    parts-behind c.args.fields.now c.in_ok-_length.given.now c.args.width c.read.result c.split_at_checked-2.result split.0 split.2 c.read.ensures c.split_at_checked-2.ensures.cases
