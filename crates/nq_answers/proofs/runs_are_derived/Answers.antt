use Rattle.nq_answers.proofs.Deriving.{reported}
use Rattle.nq_answers.proofs.runs_are_derived.Goals as goal

pub returns : goal.returns
returns c = reported
