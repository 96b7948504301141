use Rattle.nq_run.proofs.ProvingLemmas.{stands_shorter}
use Rattle.nq_run.proofs.proving.in_fewer_lines.Goals as goal

pub returns : goal.returns
returns c =
    stands_shorter c.args.history.now c.args.work c.args.line c.in_ok-left.left c.args.found c.with_line-found.result c.in_ok-left.ensures c.requires.line c.with_line-found.ensures
