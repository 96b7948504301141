use Rattle.nq_bank.specs.Content.{term_at, text_at}
use Rattle.nq_decrease.proofs.CallLemmas.{called_by, not_called_by}
use Rattle.nq_decrease.proofs.own_guards.is_call_by.Goals as goal

pub returns-in-Some : goal.returns-in-Some
returns-in-Some c = called_by c.args.bank.now (text_at c.args.bank.now c.args.r) (term_at c.args.bank.now c.args.y) c.args.u c.in-Some.c c.is_same_name.result c.is_same.result c.is_both.result c.in-Some.ensures c.is_same_name.ensures c.is_same.ensures c.is_both.ensures

pub returns-in-None : goal.returns-in-None
returns-in-None c = not_called_by (text_at c.args.bank.now c.args.r) (term_at c.args.bank.now c.args.y) (term_at c.args.bank.now c.args.u) c.in-None.ensures c.requires.function.other
