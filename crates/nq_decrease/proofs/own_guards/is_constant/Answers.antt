use Rattle.nq_bank.specs.Content.{term_at, text_at}
use Rattle.nq_decrease.proofs.CallLemmas.{numeral_no_constant}
use Rattle.nq_decrease.proofs.own_guards.is_constant.Goals as goal

pub returns-in-Num : goal.returns-in-Num
returns-in-Num c = numeral_no_constant c.in-Num.field-0 (text_at c.args.bank.now c.args.b) (term_at c.args.bank.now c.args.t) c.in-Num.ensures.head.1 c.requires.constant.other
