-- The set is of the formals so far.
use Rattle.std.proofs.Common.{take}
use Rattle.nq_admit.specs.Formals.{IsSetOf}
use Rattle.nq_admit.proofs.formals.formal_set.Given as goal

abbrev pub invariant-loop-formal : goal.invariant-loop-formal
invariant-loop-formal l = IsSetOf l.bank (take l.formal-index l.formals) l.ids
