use Rattle.nq_bank.specs.Content.{term_at}
use Rattle.nq_decrease.proofs.CallLemmas.{numeral_no_equation}
use Rattle.nq_decrease.proofs.calls.equation_of.Goals as goal

pub returns-in-Num : goal.returns-in-Num
returns-in-Num c = numeral_no_equation c.in-Num.field-0 (term_at c.args.bank.now c.args.t) c.in-Num.ensures.head.1
