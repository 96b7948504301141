use Rattle.std.proofs.Common.{sym, subst}
use Rattle.std.specs.Prelude.{All}
use Rattle.nq_kernel.proofs.GrowingLemmas.{WorkGrows-trans}
use Rattle.nq_lines.specs.Lines.{IsTermIn}
use Rattle.nq_schemes.proofs.GrownLemmas.{basis_grown, terms_grown}
use Rattle.nq_schemes.proofs.gathering.case_of.Goals as goal

pub starts_of-requires-clause-basis : goal.starts_of-requires-clause-basis
starts_of-requires-clause-basis c = basis_grown c.args.history.now c.args.work.now c.denials.new.work c.requires.stands (WorkGrows-trans c.args.history.now c.args.work.now c.governing_all.new.work c.denials.new.work c.governing_all.ensures.grows c.denials.ensures.grows) c.args.basis.now c.requires.basis

pub case_with-requires-clause-basis : goal.case_with-requires-clause-basis
case_with-requires-clause-basis c = basis_grown c.args.history.now c.args.work.now c.starts_of.new.work c.requires.stands (WorkGrows-trans c.args.history.now c.args.work.now c.denials.new.work c.starts_of.new.work (WorkGrows-trans c.args.history.now c.args.work.now c.governing_all.new.work c.denials.new.work c.governing_all.ensures.grows c.denials.ensures.grows) c.starts_of.ensures.grows) c.args.basis.now c.requires.basis

pub returns-in_err-literals-clause-grows : goal.returns-in_err-literals-clause-grows
returns-in_err-literals-clause-grows c = (WorkGrows-trans c.args.history.now c.args.work.now c.governing_all.new.work c.denials.new.work c.governing_all.ensures.grows c.denials.ensures.grows)

pub returns-in_err-starts-clause-grows : goal.returns-in_err-starts-clause-grows
returns-in_err-starts-clause-grows c = (WorkGrows-trans c.args.history.now c.args.work.now c.denials.new.work c.starts_of.new.work (WorkGrows-trans c.args.history.now c.args.work.now c.governing_all.new.work c.denials.new.work c.governing_all.ensures.grows c.denials.ensures.grows) c.starts_of.ensures.grows)

pub returns-clause-grows : goal.returns-clause-grows
returns-clause-grows c = (WorkGrows-trans c.args.history.now c.args.work.now c.starts_of.new.work c.case_with.new.work (WorkGrows-trans c.args.history.now c.args.work.now c.denials.new.work c.starts_of.new.work (WorkGrows-trans c.args.history.now c.args.work.now c.governing_all.new.work c.denials.new.work c.governing_all.ensures.grows c.denials.ensures.grows) c.starts_of.ensures.grows) c.case_with.ensures.grows)

pub starts_of-requires-clause-tests : goal.starts_of-requires-clause-tests
starts_of-requires-clause-tests c = subst (All (IsTermIn c.args.history.now c.denials.new.work)) (sym c.as_slice-3.ensures.value) (terms_grown c.args.history.now c.governing_all.new.work c.denials.new.work c.governing_all.ensures.grows.stands c.denials.ensures.grows c.in_ok-tests.tests.items c.in_ok-tests.ensures.tests)
