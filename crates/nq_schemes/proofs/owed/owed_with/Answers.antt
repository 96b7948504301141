use Rattle.nq_kernel.proofs.GrowingLemmas.{WorkGrows-trans}
use Rattle.nq_lines.proofs.InstanceLemmas.{pairs_in_grown}
use Rattle.nq_schemes.proofs.GrownLemmas.{basis_grown, terms_grown}
use Rattle.nq_schemes.proofs.owed.owed_with.Goals as goal

pub owed_fall-requires-clause-basis : goal.owed_fall-requires-clause-basis
owed_fall-requires-clause-basis c = basis_grown c.args.history.now c.args.work.now c.nest_line.new.work c.requires.stands c.nest_line.ensures.grows c.args.basis.now c.requires.basis

pub owed_fall-requires-clause-literals : goal.owed_fall-requires-clause-literals
owed_fall-requires-clause-literals c = terms_grown c.args.history.now c.args.work.now c.nest_line.new.work c.requires.stands c.nest_line.ensures.grows c.args.literals.now c.requires.literals

pub owed_fall-requires-clause-pairs : goal.owed_fall-requires-clause-pairs
owed_fall-requires-clause-pairs c = pairs_in_grown c.args.history.now c.args.work.now c.nest_line.new.work c.args.pairs.now c.requires.stands c.nest_line.ensures.grows c.requires.pairs

pub returns-in-None-clause-grows : goal.returns-in-None-clause-grows
returns-in-None-clause-grows c = WorkGrows-trans c.args.history.now c.args.work.now c.nest_line.new.work c.owed_fall.new.work c.nest_line.ensures.grows c.owed_fall.ensures.grows
