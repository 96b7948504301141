use Rattle.nq_bank.specs.Content.{text_at}
use Rattle.nq_quick.proofs.HeadLemmas.{numeral_head, variable_head}
use Rattle.nq_quick.proofs.heads.head_of.Goals as goal

pub returns-in-Num : goal.returns-in-Num
returns-in-Num c = numeral_head c.args.bank.now c.args.t c.in-Num.field-0 c.in-Num.ensures.head.1

pub returns-in-Var : goal.returns-in-Var
returns-in-Var c = variable_head c.args.bank.now c.args.t (text_at c.args.bank.now c.in-Var.field-0) c.in-Var.ensures.head.1
