use Rattle.nq_decrease.proofs.GuardLemmas.{guard_exact}
use Rattle.nq_decrease.proofs.own_guards.guard_is_exact.Goals as goal

pub returns : goal.returns
returns c = guard_exact
