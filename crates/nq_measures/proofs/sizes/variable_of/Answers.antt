use Rattle.std.proofs.Common.{sym, ◌∙◌}
use Rattle.nq_measures.proofs.VariableLemmas.{numeral_is_no_variable}
use Rattle.nq_measures.proofs.sizes.variable_of.Goals as goal

pub returns-in-Num-clause-none : goal.returns-in-Num-clause-none
returns-in-Num-clause-none c = λ x e. numeral_is_no_variable c.in-Num.field-0 x (sym c.in-Num.ensures.head.1 ∙ e)
