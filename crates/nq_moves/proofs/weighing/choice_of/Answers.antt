use Rattle.std.proofs.Common.{◌∙◌, sym}
use Rattle.nq_bank.specs.Content.{terms_at}
use Rattle.nq_moves.proofs.ChoosingLemmas.{no_call, only_value}
use Rattle.nq_moves.proofs.weighing.choice_of.Goals as goal

pub returns-then-value-clause-choice : goal.returns-then-value-clause-choice
returns-then-value-clause-choice c = only_value c.args.bank.now (terms_at c.args.bank.now c.args.goal.now) c.args.r (sym c.is_value-value.ensures ∙ c.if-value.true)

pub returns-else-called-clause-choice : goal.returns-else-called-clause-choice
returns-else-called-clause-choice c = no_call c.args.bank.now (terms_at c.args.bank.now c.args.goal.now) c.args.r (sym c.is_call-called.ensures ∙ c.if-called.false)

pub choice_of_call-requires-clause-called : goal.choice_of_call-requires-clause-called
choice_of_call-requires-clause-called c = sym c.is_call-called.ensures ∙ c.if-called.true

pub choice_of_call-requires-clause-no_value : goal.choice_of_call-requires-clause-no_value
choice_of_call-requires-clause-no_value c = sym c.is_value-value.ensures ∙ c.if-value.false
