use Rattle.nqthm.proofs.Accepted.{written_logs_law}
use Rattle.nqthm.proofs.written_logs.Goals as goal

pub returns : goal.returns
returns c = written_logs_law
