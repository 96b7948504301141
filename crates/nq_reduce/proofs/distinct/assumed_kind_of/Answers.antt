use Rattle.nq_reduce.proofs.StepLemmas.{assumed_found}
use Rattle.nq_reduce.proofs.distinct.assumed_kind_of.Goals as goal

pub returns-then-tells_kind : goal.returns-then-tells_kind
returns-then-tells_kind c = assumed_found c.args.history.now c.args.work.now c.args.assumed.now c.args.t c.loop-a.a-index (record { 0 = 0 }) c.requires.can c.loop-a-test.true
