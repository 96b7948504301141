use Rattle.nq_lines.proofs.TermLemmas.{term_grown}
use Rattle.nq_schemes.proofs.GrownLemmas.{basis_grown}
use Rattle.nq_schemes.proofs.schemes.scheme_by.Goals as goal

pub returns-clause-scheme : goal.returns-clause-scheme
returns-clause-scheme c = record { measure = term_grown c.args.history.now c.args.work.now c.cases_of.new.work c.args.basis.now.measure c.requires.stands c.cases_of.ensures.grows c.requires.basis.measure; ordinal = (basis_grown c.args.history.now c.args.work.now c.cases_of.new.work c.requires.stands c.cases_of.ensures.grows c.args.basis.now c.requires.basis).ordinal; cases = c.in_ok-cases.ensures.cases }
