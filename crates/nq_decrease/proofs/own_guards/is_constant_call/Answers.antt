use Rattle.nq_bank.specs.Content.{term_at, text_at}
use Rattle.nq_decrease.proofs.CallLemmas.{long_no_constant}
use Rattle.nq_decrease.proofs.own_guards.is_constant_call.Goals as goal

pub returns-in_default : goal.returns-in_default
returns-in_default c = long_no_constant c.args.bank.now (text_at c.args.bank.now c.args.b) (text_at c.args.bank.now c.args.f) (term_at c.args.bank.now c.args.t) c.args.arguments.now c.requires.call c.in_default.len_at_least
