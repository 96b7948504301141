use Rattle.nq_waterfall.proofs.HoldingLemmas.{holding_laws}
use Rattle.nq_waterfall.proofs.laws.holding.Goals as goal

pub returns : goal.returns
returns c = holding_laws c.ready_histories.ensures.grown c.held_work.ensures.grown
