use Rattle.nq_bank.specs.Content.{term_at}
use Rattle.nq_decrease.proofs.CallLemmas.{zero_of, not_zero}
use Rattle.nq_decrease.proofs.calls.is_zero.Goals as goal

pub returns-in-Num : goal.returns-in-Num
returns-in-Num c = zero_of c.in-Num.n (term_at c.args.bank.now c.args.t) c.in-Num.ensures.head.1

pub returns-in-App : goal.returns-in-App
returns-in-App c = not_zero (term_at c.args.bank.now c.args.t) c.in-App.ensures.head.3
