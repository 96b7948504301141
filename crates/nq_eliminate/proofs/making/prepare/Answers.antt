use Rattle.nq_kernel.proofs.GrowingLemmas.{WorkGrows-trans}
use Rattle.nq_lines.proofs.TermLemmas.{term_grown}
use Rattle.nq_moves.proofs.SwappedLemmas.{goal_in_grown}
use Rattle.nq_eliminate.proofs.MakingLemmas.{prepared_made}
use Rattle.nq_eliminate.proofs.making.prepare.Goals as goal

pub to_rename-requires-clause-goal : goal.to_rename-requires-clause-goal
to_rename-requires-clause-goal c = goal_in_grown c.args.history.now c.args.work.now c.equate.new.work c.requires.stands c.equate.ensures.grows c.args.goal.now c.requires.goal

pub to_rename-requires-clause-whole : goal.to_rename-requires-clause-whole
to_rename-requires-clause-whole c = term_grown c.args.history.now c.args.work.now c.equate.new.work c.args.r.now.whole c.requires.stands c.equate.ensures.grows c.requires.whole

pub to_rename-requires-clause-hypotheses : goal.to_rename-requires-clause-hypotheses
to_rename-requires-clause-hypotheses c = goal_in_grown c.args.history.now c.args.work.now c.equate.new.work c.requires.stands c.equate.ensures.grows c.args.r.now.hypotheses.items c.requires.hypotheses

pub returns-in_err-literals-clause-grows : goal.returns-in_err-literals-clause-grows
returns-in_err-literals-clause-grows c = WorkGrows-trans c.args.history.now c.args.work.now c.equate.new.work c.to_rename.new.work c.equate.ensures.grows c.to_rename.ensures.grows

pub returns-clause-prepared : goal.returns-clause-prepared
returns-clause-prepared c =
    prepared_made c.args.history.now c.args.work.now c.equate.new.work c.to_rename.new.work c.requires.stands c.equate.ensures.grows c.to_rename.ensures.grows c.args.goal.now c.requires.goal c.args.r.now c.requires.whole c.requires.variable c.requires.hypotheses c.in_ok-equation.equation
    c.in_ok-equation.ensures.over c.in_ok-equation.ensures.equation.denotes c.in_ok-literals.literals c.in_ok-literals.ensures.over c.in_ok-literals.ensures.literals

pub returns-clause-grows : goal.returns-clause-grows
returns-clause-grows c = WorkGrows-trans c.args.history.now c.args.work.now c.equate.new.work c.to_rename.new.work c.equate.ensures.grows c.to_rename.ensures.grows
