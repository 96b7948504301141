use Rattle.nq_rule.proofs.InstanceLemmas.{literal_is}
use Rattle.nq_rule.proofs.placing.literal.Goals as goal

pub returns-clause-literal : goal.returns-clause-literal
returns-clause-literal c = literal_is c.args.bank.now c.args.terms.now c.args.place c.term_at_index.result c.if-place-eq0.false c.term_at_index.ensures
