use Rattle.nq_arithmetic.proofs.Lemmas.{pushed}
use Rattle.nq_arithmetic.proofs.reading.push_new.Goals as goal

pub returns-in_ok-push_term-clause-terms : goal.returns-in_ok-push_term-clause-terms
returns-in_ok-push_term-clause-terms c = pushed c.args.history.now c.args.work.now c.args.terms.now.items c.push_term.new.terms.items c.args.t c.in_ok-push_term.ensures.ok c.requires.terms c.requires.term
