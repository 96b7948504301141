use Rattle.nq_kernel.proofs.GrowingLemmas.{WorkGrows-trans}
use Rattle.nq_arithmetic.proofs.Lemmas.{all_grown, line_later}
use Rattle.nq_arithmetic.proofs.guards.without_guard.Goals as goal

pub without_literal-requires-clause-literals : goal.without_literal-requires-clause-literals
without_literal-requires-clause-literals c = all_grown c.args.history.now c.args.work.now c.claim_at.new.work c.requires.stands c.claim_at.ensures.grows c.args.literals.now c.requires.literals

pub without_literal-requires-clause-line : goal.without_literal-requires-clause-line
without_literal-requires-clause-line c = line_later c.args.history.now c.args.work.now c.claim_at.new.work c.requires.stands c.claim_at.ensures.grows c.args.line c.requires.line

pub returns-clause-grows : goal.returns-clause-grows
returns-clause-grows c = WorkGrows-trans c.args.history.now c.args.work.now c.claim_at.new.work c.without_literal.new.work c.claim_at.ensures.grows c.without_literal.ensures.grows
