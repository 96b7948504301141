use Rattle.nq_kernel.proofs.GrowingLemmas.{WorkGrows-trans}
use Rattle.nq_arithmetic.proofs.Lemmas.{claim_grown, line_later}
use Rattle.nq_arithmetic.proofs.resolving.without_fact.Goals as goal

pub join-requires-clause-claim : goal.join-requires-clause-claim
join-requires-clause-claim c = claim_grown c.args.history.now c.args.work.now c.source_line.new.work c.requires.stands c.source_line.ensures.grows c.args.assumption.claim c.requires.assumption.claim

pub join-requires-clause-line : goal.join-requires-clause-line
join-requires-clause-line c = line_later c.args.history.now c.args.work.now c.source_line.new.work c.requires.stands c.source_line.ensures.grows c.args.line c.requires.line

pub returns-clause-grows : goal.returns-clause-grows
returns-clause-grows c = (WorkGrows-trans c.args.history.now c.args.work.now c.source_line.new.work c.join.new.work c.source_line.ensures.grows c.join.ensures.grows)
