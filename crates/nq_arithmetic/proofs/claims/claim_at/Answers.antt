use Rattle.nq_kernel.proofs.GrowingLemmas.{WorkGrows-trans}
use Rattle.nq_lines.proofs.TermLemmas.{term_grown}
use Rattle.nq_arithmetic.proofs.claims.claim_at.Goals as goal

pub returns-in_err-denial-clause-grows : goal.returns-in_err-denial-clause-grows
returns-in_err-denial-clause-grows c = (WorkGrows-trans c.args.history.now c.args.work.now c.make_term.new.work c.deny.new.work c.make_term.ensures.grows c.deny.ensures.grows)

pub returns-clause-claim : goal.returns-clause-claim
returns-clause-claim c = record { test = term_grown c.args.history.now c.make_term.new.work c.deny.new.work c.in_ok-test.test c.make_term.ensures.grows.stands c.deny.ensures.grows c.in_ok-test.ensures.term; denial = c.in_ok-denial.ensures.over }

pub returns-clause-grows : goal.returns-clause-grows
returns-clause-grows c = (WorkGrows-trans c.args.history.now c.args.work.now c.make_term.new.work c.deny.new.work c.make_term.ensures.grows c.deny.ensures.grows)
