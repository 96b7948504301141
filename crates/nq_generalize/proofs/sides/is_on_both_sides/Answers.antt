use Rattle.nq_bank.specs.Content.{text_at, term_at}
use Rattle.nq_generalize.proofs.SideLemmas.{sides_numeral, sides_variable}
use Rattle.nq_generalize.proofs.sides.is_on_both_sides.Goals as goal

pub returns-in-Num-clause-answer : goal.returns-in-Num-clause-answer
returns-in-Num-clause-answer c = sides_numeral (term_at c.args.bank.now c.args.a) (term_at c.args.bank.now c.args.t) c.in-Num.field-0 c.in-Num.ensures.head.1

pub returns-in-Var-clause-answer : goal.returns-in-Var-clause-answer
returns-in-Var-clause-answer c = sides_variable (term_at c.args.bank.now c.args.a) (term_at c.args.bank.now c.args.t) (text_at c.args.bank.now c.in-Var.field-0) c.in-Var.ensures.head.1
