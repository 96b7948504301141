use Rattle.std.proofs.Common.{sym, subst}
use Rattle.std.specs.Prelude.{All}
use Rattle.nq_kernel.proofs.GrowingLemmas.{WorkGrows-trans}
use Rattle.nq_lines.specs.Lines.{IsTermIn}
use Rattle.nq_schemes.proofs.GrownLemmas.{basis_grown, goals_grown, terms_grown}
use Rattle.nq_schemes.proofs.owed.add_case.Goals as goal

pub add_steps-requires-clause-basis : goal.add_steps-requires-clause-basis
add_steps-requires-clause-basis c = basis_grown c.args.history.now c.args.work.now c.denials.new.work c.requires.stands (WorkGrows-trans c.args.history.now c.args.work.now c.governing_all.new.work c.denials.new.work c.governing_all.ensures.grows c.denials.ensures.grows) c.args.basis.now c.requires.basis

pub add_steps-requires-clause-goals : goal.add_steps-requires-clause-goals
add_steps-requires-clause-goals c = goals_grown c.args.history.now c.args.work.now c.denials.new.work c.requires.stands (WorkGrows-trans c.args.history.now c.args.work.now c.governing_all.new.work c.denials.new.work c.governing_all.ensures.grows c.denials.ensures.grows) c.args.goals.now.items c.requires.goals

pub add_steps-requires-clause-tests : goal.add_steps-requires-clause-tests
add_steps-requires-clause-tests c = subst (All (IsTermIn c.args.history.now c.denials.new.work)) (sym c.as_slice-3.ensures.value) (terms_grown c.args.history.now c.governing_all.new.work c.denials.new.work c.governing_all.ensures.grows.stands c.denials.ensures.grows c.in_ok-tests.tests.items c.in_ok-tests.ensures.tests)

pub returns-in_err-literals-clause-grows : goal.returns-in_err-literals-clause-grows
returns-in_err-literals-clause-grows c = WorkGrows-trans c.args.history.now c.args.work.now c.governing_all.new.work c.denials.new.work c.governing_all.ensures.grows c.denials.ensures.grows

pub returns-clause-grows : goal.returns-clause-grows
returns-clause-grows c = WorkGrows-trans c.args.history.now c.args.work.now c.denials.new.work c.add_steps.new.work (WorkGrows-trans c.args.history.now c.args.work.now c.governing_all.new.work c.denials.new.work c.governing_all.ensures.grows c.denials.ensures.grows) c.add_steps.ensures.grows
