use Rattle.nq_kernel.proofs.GrowingLemmas.{WorkGrows-refl, WorkGrows-trans}
use Rattle.nq_lines.proofs.TermLemmas.{term_grown}
use Rattle.nq_induct.specs.Schemes.{IsCaseIn}
use Rattle.nq_schemes.proofs.GrownLemmas.{all_with, none_all, basis_grown, cases_grown}
use Rattle.nq_schemes.proofs.schemes.cases_of.Goals as goal

pub case_of-requires-clause-basis : goal.case_of-requires-clause-basis
case_of-requires-clause-basis c = basis_grown c.args.history.now c.args.work.now c.loop-case.work c.requires.stands c.loop-case.invariant.grows c.args.basis.now c.requires.basis

pub loop-case-init : goal.loop-case-init
loop-case-init c = record { grows = WorkGrows-refl c.args.history.now c.args.work.now c.requires.stands; cases = none_all (IsCaseIn c.args.history.now c.args.work.now c.args.basis.now.measure) c.new-made.result.items c.new-made.ensures.items }

pub loop-case-preserved : goal.loop-case-preserved
loop-case-preserved c = record { grows = WorkGrows-trans c.args.history.now c.args.work.now c.loop-case.work c.case_of.new.work c.loop-case.invariant.grows c.case_of.ensures.grows; cases = all_with (IsCaseIn c.args.history.now c.case_of.new.work c.args.basis.now.measure) c.loop-case.made.items c.add_case.new.cases.items c.in_ok-found.found c.in_ok-add_case.ensures.more (cases_grown c.args.history.now c.loop-case.work c.case_of.new.work c.loop-case.invariant.grows.stands c.case_of.ensures.grows c.args.basis.now.measure c.loop-case.made.items (term_grown c.args.history.now c.args.work.now c.loop-case.work c.args.basis.now.measure c.requires.stands c.loop-case.invariant.grows c.requires.basis.measure) c.loop-case.invariant.cases) c.in_ok-found.ensures.case }

pub returns-in_err-found-clause-grows : goal.returns-in_err-found-clause-grows
returns-in_err-found-clause-grows c = WorkGrows-trans c.args.history.now c.args.work.now c.loop-case.work c.case_of.new.work c.loop-case.invariant.grows c.case_of.ensures.grows

pub returns-in_err-add_case-clause-grows : goal.returns-in_err-add_case-clause-grows
returns-in_err-add_case-clause-grows c = WorkGrows-trans c.args.history.now c.args.work.now c.loop-case.work c.case_of.new.work c.loop-case.invariant.grows c.case_of.ensures.grows
