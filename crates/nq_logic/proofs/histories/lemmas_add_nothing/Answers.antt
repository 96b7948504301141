use Rattle.nq_logic.proofs.Lemmas.{lemmas_add_nothing_law, declarations_add_no_axiom_law}
use Rattle.nq_logic.proofs.histories.lemmas_add_nothing.Goals as goal

pub returns-clause-lemmas : goal.returns-clause-lemmas
returns-clause-lemmas c = lemmas_add_nothing_law

pub returns-clause-declarations : goal.returns-clause-declarations
returns-clause-declarations c = declarations_add_no_axiom_law
