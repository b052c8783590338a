use Rattle.vector.proofs.each.Given as goal

abbrev pub invariant-loop-argument : goal.invariant-loop-argument
invariant-loop-argument g l = goal.F-IsAlwaysCallable g l.answer
