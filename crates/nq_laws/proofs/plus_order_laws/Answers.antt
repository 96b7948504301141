use Rattle.nq_laws.proofs.PlusOrder.{laws_of_plus_order_hold}
use Rattle.nq_laws.proofs.plus_order_laws.Goals as goal

pub returns : goal.returns
returns c = laws_of_plus_order_hold
