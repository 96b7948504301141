use Rattle.nq_laws.proofs.Balances.{laws_of_balances_hold}
use Rattle.nq_laws.proofs.balances_laws.Goals as goal

pub returns : goal.returns
returns c = laws_of_balances_hold
