use Rattle.std.proofs.Common.{true, false}
use Rattle.nqthm.proofs.Endings.{untouched_run}
use Rattle.nqthm.proofs.nqthm.Goals as goal

pub returns-clause-run : goal.returns-clause-run
returns-clause-run g c steps is = untouched_run steps false _ _ _

pub returns-clause-log : goal.returns-clause-log
returns-clause-log g c steps is = untouched_run steps true _ _ _
