use Rattle.nq_arithmetic.proofs.Lemmas.{pushed}
use Rattle.nq_arithmetic.proofs.assumptions.add_opposite.Goals as goal

pub returns-in_ok-push_term-clause-literals : goal.returns-in_ok-push_term-clause-literals
returns-in_ok-push_term-clause-literals c = pushed c.args.history.now c.args.work.now c.args.literals.now.items c.push_term.new.terms.items c.opposite_of-opposite.result c.in_ok-push_term.ensures.ok c.requires.literals c.opposite_of-opposite.ensures
