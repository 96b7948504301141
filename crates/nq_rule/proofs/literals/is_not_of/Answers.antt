use Rattle.nq_bank.specs.Content.{term_at}
use Rattle.nq_rule.proofs.LiteralLemmas.{is_not, is_no_not}
use Rattle.nq_rule.proofs.literals.is_not_of.Goals as goal

pub returns-in-Some : goal.returns-in-Some
returns-in-Some c = is_not c.args.bank.now (term_at c.args.bank.now c.args.t) (term_at c.args.bank.now c.args.term) c.under_one_not.result c.in-Some.u c.is_same.result c.under_one_not.ensures.argument c.in-Some.is c.is_same.ensures

pub returns-in-None : goal.returns-in-None
returns-in-None c = is_no_not c.args.bank.now (term_at c.args.bank.now c.args.t) (term_at c.args.bank.now c.args.term) c.under_one_not.result c.under_one_not.ensures.argument c.in-None.is
