use Rattle.nq_answers.proofs.OneRun.{runs_once, steps_once}
use Rattle.nq_answers.proofs.runs_are_one.Goals as goal

pub returns-clause-steps : goal.returns-clause-steps
returns-clause-steps c = steps_once

pub returns-clause-runs : goal.returns-clause-runs
returns-clause-runs c = runs_once
