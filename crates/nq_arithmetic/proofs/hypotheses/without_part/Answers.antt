use Rattle.nq_kernel.proofs.GrowingLemmas.{WorkGrows-trans}
use Rattle.nq_arithmetic.proofs.Lemmas.{all_grown, line_later}
use Rattle.nq_arithmetic.proofs.hypotheses.without_part.Goals as goal

pub without_hypothesis-requires-clause-literals : goal.without_hypothesis-requires-clause-literals
without_hypothesis-requires-clause-literals c = all_grown c.args.history.now c.args.work.now c.claim_of.new.work c.requires.stands c.claim_of.ensures.grows c.args.literals.now c.requires.literals

pub without_hypothesis-requires-clause-line : goal.without_hypothesis-requires-clause-line
without_hypothesis-requires-clause-line c = line_later c.args.history.now c.args.work.now c.claim_of.new.work c.requires.stands c.claim_of.ensures.grows c.args.line c.requires.line

pub returns-clause-grows : goal.returns-clause-grows
returns-clause-grows c = WorkGrows-trans c.args.history.now c.args.work.now c.claim_of.new.work c.without_hypothesis.new.work c.claim_of.ensures.grows c.without_hypothesis.ensures.grows
