use Rattle.nq_bank.specs.Content.{text_at, term_at}
use Rattle.nq_decrease.proofs.CallLemmas.{long_no_call}
use Rattle.nq_decrease.proofs.calls.one_argument.Goals as goal

pub returns-in_default : goal.returns-in_default
returns-in_default c = long_no_call c.args.bank.now (term_at c.args.bank.now c.args.t) (text_at c.args.bank.now c.args.f) c.args.arguments.now c.requires.call c.in_default.len_at_least
