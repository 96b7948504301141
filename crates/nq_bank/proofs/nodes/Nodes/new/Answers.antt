use Rattle.nq_bank.proofs.Hashing.{no_tagged}
use Rattle.nq_bank.proofs.nodes.Nodes.new.Goals as goal

pub invariant_of-result : goal.invariant_of-result
invariant_of-result c = no_tagged c.new.result c.new-2.result.items c.new-3.result.items c.new.ensures c.new-2.ensures.items c.new-3.ensures.items
