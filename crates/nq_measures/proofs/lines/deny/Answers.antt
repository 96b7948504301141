use Rattle.nq_bank.specs.Content.{term_at}
use Rattle.nq_measures.proofs.DepthLemmas.{not_shallow}
use Rattle.nq_measures.proofs.lines.deny.Goals as goal

pub ground_call-requires-clause-shallow : goal.ground_call-requires-clause-shallow
ground_call-requires-clause-shallow c = not_shallow (term_at c.args.work.now.bank c.args.t) c.requires.room
