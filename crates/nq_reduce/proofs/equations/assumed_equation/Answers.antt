use Rattle.nq_reduce.proofs.StepLemmas.{assumed_found}
use Rattle.nq_reduce.proofs.equations.assumed_equation.Goals as goal

pub returns-then-simplifies : goal.returns-then-simplifies
returns-then-simplifies c = assumed_found c.args.history.now c.args.work.now c.args.assumed.now c.args.t c.loop-a.a-index (record { 0 = 0 }) c.requires.can c.loop-a-test.true
