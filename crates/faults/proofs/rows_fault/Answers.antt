use native.Mathlib.Omega.{arith}
use mathlib.Core.Path.{refl}
use Rattle.faults.proofs.Kept.{kept-none, kept-fault, kept-done}
use Rattle.faults.proofs.rows_fault.Goals as goal

pub loop-passed-init : goal.loop-passed-init
loop-passed-init c = (c.requires, refl, kept-none _ _ _ _ _ _ _ c.requires refl (omega arith))

pub returns-in-Err : goal.returns-in-Err
returns-in-Err c = kept-fault _ _ _ _ _ _ _ _ _ _ c.loop-passed.invariant.2 c.row_passed.ensures c.in-Err.is c.type_inv.s (omega arith)

pub returns : goal.returns
returns c = kept-done _ _ _ _ _ _ _ _ c.loop-passed.invariant.2 (omega arith)
