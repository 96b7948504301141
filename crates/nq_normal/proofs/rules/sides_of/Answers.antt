use Rattle.nq_normal.proofs.PartLemmas.{numeral_alone}
use Rattle.nq_bank.specs.Content.{term_at}
use Rattle.nq_normal.proofs.rules.sides_of.Goals as goal

pub returns-in-Num : goal.returns-in-Num
returns-in-Num c = numeral_alone (term_at c.args.bank.now c.args.t) c.in-Num.field-0 c.in-Num.ensures.head.1
