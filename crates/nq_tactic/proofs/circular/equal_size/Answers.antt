use Rattle.nq_kernel.proofs.GrowingLemmas.{WorkGrows-trans}
use Rattle.nq_lines.proofs.LineLemmas.{leads_only, only_stands}
use Rattle.nq_lines.proofs.TermLemmas.{term_grown}
use Rattle.nq_tactic.proofs.circular.equal_size.Goals as goal

pub argument_of-requires-clause-term : goal.argument_of-requires-clause-term
argument_of-requires-clause-term c = term_grown c.args.history.now c.args.work.now c.opposites.new.work c.args.size c.requires.stands c.opposites.ensures.grows c.requires.size

pub congruent-requires-clause-call : goal.congruent-requires-clause-call
congruent-requires-clause-call c = term_grown c.args.history.now c.args.work.now c.opposites.new.work c.args.size c.requires.stands c.opposites.ensures.grows c.requires.size

pub congruent-requires-clause-argument : goal.congruent-requires-clause-argument
congruent-requires-clause-argument c = term_grown c.args.history.now c.args.work.now c.opposites.new.work c.args.right c.requires.stands c.opposites.ensures.grows c.requires.right

pub congruent-requires-clause-equation : goal.congruent-requires-clause-equation
congruent-requires-clause-equation c = only_stands c.opposites.new.work c.in_ok-law.law _ (leads_only c.opposites.new.work c.in_ok-law.law _ _ c.in_ok-law.ensures.line)

pub returns-in_err-other-in-Some-clause-grows : goal.returns-in_err-other-in-Some-clause-grows
returns-in_err-other-in-Some-clause-grows c = WorkGrows-trans c.args.history.now c.args.work.now c.opposites.new.work c.congruent.new.work c.opposites.ensures.grows c.congruent.ensures.grows

pub returns-in_ok-other-in-Some-clause-grows : goal.returns-in_ok-other-in-Some-clause-grows
returns-in_ok-other-in-Some-clause-grows c = WorkGrows-trans c.args.history.now c.args.work.now c.opposites.new.work c.congruent.new.work c.opposites.ensures.grows c.congruent.ensures.grows
