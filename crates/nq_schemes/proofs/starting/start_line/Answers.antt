use Rattle.nq_kernel.proofs.GrowingLemmas.{WorkGrows-trans}
use Rattle.nq_lines.proofs.InstanceLemmas.{pairs_in_grown}
use Rattle.nq_schemes.proofs.GrownLemmas.{basis_grown, terms_grown}
use Rattle.nq_schemes.proofs.starting.start_line.Goals as goal

pub further_line-requires-clause-basis : goal.further_line-requires-clause-basis
further_line-requires-clause-basis c = basis_grown c.args.history.now c.args.work.now c.nest_line.new.work c.requires.stands c.nest_line.ensures.grows c.args.basis.now c.requires.basis

pub further_line-requires-clause-literals : goal.further_line-requires-clause-literals
further_line-requires-clause-literals c = terms_grown c.args.history.now c.args.work.now c.nest_line.new.work c.requires.stands c.nest_line.ensures.grows c.args.literals.now.items c.requires.literals

pub further_line-requires-clause-pairs : goal.further_line-requires-clause-pairs
further_line-requires-clause-pairs c = pairs_in_grown c.args.history.now c.args.work.now c.nest_line.new.work c.args.pairs.now c.requires.stands c.nest_line.ensures.grows c.requires.pairs

pub returns-in-Some-clause-literals : goal.returns-in-Some-clause-literals
returns-in-Some-clause-literals c = terms_grown c.args.history.now c.args.work.now c.nest_line.new.work c.requires.stands c.nest_line.ensures.grows c.args.literals.now.items c.requires.literals

pub returns-in-None-clause-grows : goal.returns-in-None-clause-grows
returns-in-None-clause-grows c = WorkGrows-trans c.args.history.now c.args.work.now c.nest_line.new.work c.further_line.new.work c.nest_line.ensures.grows c.further_line.ensures.grows
