use Rattle.nq_kernel.proofs.GrowingLemmas.{WorkGrows-trans}
use Rattle.nq_moves.proofs.SwappedLemmas.{goal_in_grown}
use Rattle.nq_moves.proofs.naming.rename.Goals as goal

pub rename_by-requires-clause-literals : goal.rename_by-requires-clause-literals
rename_by-requires-clause-literals c = goal_in_grown c.args.history.now c.args.work.now c.name_terms.new.work c.requires.stands c.name_terms.ensures.grows c.args.literals.now c.requires.literals

pub returns-clause-grows : goal.returns-clause-grows
returns-clause-grows c = WorkGrows-trans c.args.history.now c.args.work.now c.name_terms.new.work c.rename_by.new.work c.name_terms.ensures.grows c.rename_by.ensures.grows
