use Rattle.nq_kernel.proofs.GrowingLemmas.{WorkGrows-trans}
use Rattle.nq_lines.proofs.TermLemmas.{term_grown}
use Rattle.nq_schemes.proofs.GrownLemmas.{basis_grown, starts_grown, terms_grown}
use Rattle.nq_schemes.proofs.gathering.case_by.Goals as goal

pub steps_of-requires-clause-basis : goal.steps_of-requires-clause-basis
steps_of-requires-clause-basis c = basis_grown c.args.history.now c.args.work.now c.deny.new.work c.requires.stands (WorkGrows-trans c.args.history.now c.args.work.now c.claim_of.new.work c.deny.new.work c.claim_of.ensures.grows c.deny.ensures.grows) c.args.basis.now c.requires.basis

pub steps_of-requires-clause-literals : goal.steps_of-requires-clause-literals
steps_of-requires-clause-literals c = terms_grown c.args.history.now c.args.work.now c.deny.new.work c.requires.stands (WorkGrows-trans c.args.history.now c.args.work.now c.claim_of.new.work c.deny.new.work c.claim_of.ensures.grows c.deny.ensures.grows) c.args.literals.now c.requires.literals

pub steps_of-requires-clause-starts : goal.steps_of-requires-clause-starts
steps_of-requires-clause-starts c = starts_grown c.args.history.now c.args.work.now c.deny.new.work c.requires.stands (WorkGrows-trans c.args.history.now c.args.work.now c.claim_of.new.work c.deny.new.work c.claim_of.ensures.grows c.deny.ensures.grows) c.args.starts.now c.requires.starts

pub returns-in_err-test-clause-grows : goal.returns-in_err-test-clause-grows
returns-in_err-test-clause-grows c = (WorkGrows-trans c.args.history.now c.args.work.now c.claim_of.new.work c.deny.new.work c.claim_of.ensures.grows c.deny.ensures.grows)

pub returns-in_err-steps-clause-grows : goal.returns-in_err-steps-clause-grows
returns-in_err-steps-clause-grows c = WorkGrows-trans c.args.history.now c.args.work.now c.deny.new.work c.steps_of.new.work (WorkGrows-trans c.args.history.now c.args.work.now c.claim_of.new.work c.deny.new.work c.claim_of.ensures.grows c.deny.ensures.grows) c.steps_of.ensures.grows

pub returns-clause-grows : goal.returns-clause-grows
returns-clause-grows c = WorkGrows-trans c.args.history.now c.args.work.now c.deny.new.work c.steps_of.new.work (WorkGrows-trans c.args.history.now c.args.work.now c.claim_of.new.work c.deny.new.work c.claim_of.ensures.grows c.deny.ensures.grows) c.steps_of.ensures.grows

pub returns-clause-case : goal.returns-clause-case
returns-clause-case c = record { test = term_grown c.args.history.now c.deny.new.work c.steps_of.new.work c.in_ok-test.test c.deny.ensures.grows.stands c.steps_of.ensures.grows c.in_ok-test.ensures.over; steps = c.in_ok-steps.ensures.steps }
