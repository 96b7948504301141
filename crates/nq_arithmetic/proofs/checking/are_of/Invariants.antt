-- Each id so far is one of these.
use Rattle.std.specs.Prelude.{◌<◌, ℕ, get_or}
use Rattle.nq_bank.specs.declared.node.TermId.{TermId}
use Rattle.nq_arithmetic.specs.Claims.{IsOneOf}
use Rattle.nq_arithmetic.proofs.checking.are_of.Given as goal

abbrev pub invariant-loop-t : goal.invariant-loop-t
invariant-loop-t l = (k : ℕ) (d : TermId) → k < l.t-index → IsOneOf l.goal (get_or l.clause k d)
