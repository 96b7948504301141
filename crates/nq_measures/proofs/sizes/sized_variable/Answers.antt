use Rattle.std.proofs.Common.{sym, ◌∙◌}
use Rattle.nq_measures.proofs.VariableLemmas.{numeral_is_no_size, size_told}
use Rattle.nq_measures.proofs.sizes.sized_variable.Goals as goal

pub returns-then-is_ground-clause-some : goal.returns-then-is_ground-clause-some
returns-then-is_ground-clause-some c =
    size_told c.args.bank.now c.args.measure c.in-App.f c.args-arguments.result.now _ c.variable_of.result c.in-App.ensures.head.1 c.args-arguments.ensures.parts c.if-arguments-eq1.true (sym c.is_ground.ensures ∙ c.if-is_ground.true) c.variable_of.ensures.some c.variable_of.ensures.same

pub returns-in-Num-clause-none : goal.returns-in-Num-clause-none
returns-in-Num-clause-none c = λ x e. numeral_is_no_size c.in-Num.field-0 x (sym c.in-Num.ensures.head.1 ∙ e)
