use Rattle.nq_kernel.proofs.GrowingLemmas.{WorkGrows-trans}
use Rattle.nq_lines.proofs.TermLemmas.{term_grown}
use Rattle.nq_types.proofs.assumptions.turned_assumption.Goals as goal

pub symmetric-requires-clause-left : goal.symmetric-requires-clause-left
symmetric-requires-clause-left c = term_grown c.args.history.now c.args.work.now c.opposites.new.work c.args.v c.requires.stands c.opposites.ensures.grows c.requires.right

pub symmetric-requires-clause-right : goal.symmetric-requires-clause-right
symmetric-requires-clause-right c = term_grown c.args.history.now c.args.work.now c.opposites.new.work c.args.t c.requires.stands c.opposites.ensures.grows c.requires.left

pub returns-clause-grows : goal.returns-clause-grows
returns-clause-grows c = (WorkGrows-trans c.args.history.now c.args.work.now c.opposites.new.work c.symmetric.new.work c.opposites.ensures.grows c.symmetric.ensures.grows)
