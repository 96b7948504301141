use Rattle.nq_kernel.proofs.GrowingLemmas.{WorkGrows-trans}
use Rattle.nq_arithmetic.proofs.Lemmas.{all_grown, claim_grown}
use Rattle.nq_arithmetic.proofs.hypotheses.without_hypothesis.Goals as goal

pub without_literal-requires-clause-literals : goal.without_literal-requires-clause-literals
without_literal-requires-clause-literals c = all_grown c.args.history.now c.args.work.now c.undenied.new.work c.requires.stands c.undenied.ensures.grows c.args.literals.now c.requires.literals

pub without_literal-requires-clause-claim : goal.without_literal-requires-clause-claim
without_literal-requires-clause-claim c = claim_grown c.args.history.now c.args.work.now c.undenied.new.work c.requires.stands c.undenied.ensures.grows c.args.claim c.requires.claim

pub returns-clause-grows : goal.returns-clause-grows
returns-clause-grows c = WorkGrows-trans c.args.history.now c.args.work.now c.undenied.new.work c.without_literal.new.work c.undenied.ensures.grows c.without_literal.ensures.grows
