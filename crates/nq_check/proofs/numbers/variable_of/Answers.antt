use Rattle.std.proofs.Common.{sym}
use Rattle.nq_bank.specs.Content.{term_at}
use Rattle.nq_check.proofs.NumberLemmas.{no_variable_numeral}
use Rattle.nq_check.proofs.numbers.variable_of.Goals as goal

pub returns-in-Num-clause-name : goal.returns-in-Num-clause-name
returns-in-Num-clause-name c = sym (no_variable_numeral (term_at c.args.bank.now c.args.t) c.in-Num.field-0 c.in-Num.ensures.head.0 c.in-Num.ensures.head.1)
