use Rattle.nq_bank.specs.Content.{term_at}
use Rattle.nq_evaluated.proofs.GroundLemmas.{ground_told}
use Rattle.nq_evaluated.proofs.ground.is_ground.Goals as goal

pub returns : goal.returns
returns c = ground_told c.in_ok-ground.ground (term_at c.args.bank.now c.args.t) c.in_ok-ground.ensures.ok
