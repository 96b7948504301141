use Rattle.nq_logic.proofs.Rows.{truth_law, no_falsity_law, size_law, one_less_law, falsity_law, equal_law, if_false_law, if_true_law}
use Rattle.nq_logic.proofs.laws.ground_rows.Goals as goal

pub returns-clause-falsity : goal.returns-clause-falsity
returns-clause-falsity c = falsity_law

pub returns-clause-equal : goal.returns-clause-equal
returns-clause-equal c = equal_law

pub returns-clause-if_false : goal.returns-clause-if_false
returns-clause-if_false c = if_false_law

pub returns-clause-if_true : goal.returns-clause-if_true
returns-clause-if_true c = if_true_law

pub returns-clause-truth : goal.returns-clause-truth
returns-clause-truth c = truth_law

pub returns-clause-no_falsity : goal.returns-clause-no_falsity
returns-clause-no_falsity c = no_falsity_law

pub returns-clause-size : goal.returns-clause-size
returns-clause-size c = size_law

pub returns-clause-one_less : goal.returns-clause-one_less
returns-clause-one_less c = one_less_law
