use Rattle.nq_bank.specs.Content.{terms_at}
use Rattle.nq_normal.proofs.OwnLemmas.{is_ground_told}
use Rattle.nq_normal.proofs.variables.is_ground.Goals as goal

pub returns : goal.returns
returns c = is_ground_told c.in_ok-ground.ground (terms_at c.args.bank.now c.args.goal.now) c.in_ok-ground.ensures
