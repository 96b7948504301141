use Rattle.nq_rules.proofs.PartLemmas.{first_refused, second_decides}
use Rattle.nq_rules.proofs.parts.+are_rewritable.Goals as goal

pub returns-then-are_rewritable : goal.returns-then-are_rewritable
returns-then-are_rewritable t c = second_decides c.args.bank.now c.args.t c.in-Some.p c.in-Some.q c.are_rewritable.result c.are_rewritable-then-are_rewritable.result c.in-Some.ensures c.are_rewritable.ensures c.if-are_rewritable.true c.are_rewritable-then-are_rewritable.ensures

pub returns-else-are_rewritable : goal.returns-else-are_rewritable
returns-else-are_rewritable t c = first_refused c.args.bank.now c.args.t c.in-Some.p c.in-Some.q c.are_rewritable.result c.in-Some.ensures c.are_rewritable.ensures c.if-are_rewritable.false
