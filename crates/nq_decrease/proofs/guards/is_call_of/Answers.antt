use Rattle.nq_bank.specs.Content.{term_at}
use Rattle.nq_decrease.proofs.CallLemmas.{called, not_called}
use Rattle.nq_decrease.proofs.guards.is_call_of.Goals as goal

pub returns-in-Some : goal.returns-in-Some
returns-in-Some c = called c.args.bank.now c.args.f (term_at c.args.bank.now c.args.y) c.args.u c.in-Some.c c.is_ground.result c.is_same.result c.is_both.result c.in-Some.ensures c.is_ground.ensures c.is_same.ensures c.is_both.ensures

pub returns-in-None : goal.returns-in-None
returns-in-None c = not_called c.args.f (term_at c.args.bank.now c.args.y) (term_at c.args.bank.now c.args.u) c.in-None.ensures c.requires.function
