use Rattle.std.proofs.Common.{ap}
use Rattle.std.specs.Prelude.{Err}
use Rattle.nq_comment.specs.Totals.{totals_in}
use Rattle.nq_run.specs.declared.runs.RunFault.{RunFault}
use Rattle.nqthm.proofs.Endings.{ended_run, fault_run}
use Rattle.nqthm.proofs.run_status.Goals as goal

pub returns-in-Ok-clause-run : goal.returns-in-Ok-clause-run
returns-in-Ok-clause-run g c =
    ended_run c.args.steps c.args.logging _ _ c.in-Ok.ended.fault (totals_in c.in-Ok.ended.counts) _ _ c.status.result c.status.ensures c.in-Ok.ensures.finished

pub returns-clause-run : goal.returns-clause-run
returns-clause-run g c =
    fault_run c.args.steps c.args.logging _ _ _ _ c.in-Err.fault c.status-in-Err.result c.status-in-Err.ensures
    (λ is. c.in-Err.ensures.read (ap (λ (z : RunFault). Err z) is)) (λ is. c.in-Err.ensures.too_long (ap (λ (z : RunFault). Err z) is)) c.in-Err.ensures.stopped
