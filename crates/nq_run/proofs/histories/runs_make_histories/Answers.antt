use Rattle.nq_run.proofs.RunHistories.{runs_make_histories}
use Rattle.nq_run.proofs.histories.runs_make_histories.Goals as goal

pub returns : goal.returns
returns c = runs_make_histories
