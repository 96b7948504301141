use Rattle.nq_bank.specs.Content.{term_at}
use Rattle.nq_stuck.proofs.DestructorLemmas.{variable_number}
use Rattle.nq_eliminate.proofs.serving.is_variable.Goals as goal

pub returns-in-Num : goal.returns-in-Num
returns-in-Num c = variable_number (term_at c.args.bank.now c.args.t) c.in-Num.field-0 c.in-Num.ensures.head.1
