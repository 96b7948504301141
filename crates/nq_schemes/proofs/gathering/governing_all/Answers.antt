use Rattle.nq_kernel.proofs.GrowingLemmas.{WorkGrows-refl, WorkGrows-trans}
use Rattle.nq_lines.specs.Lines.{IsTermIn}
use Rattle.nq_schemes.proofs.GrownLemmas.{all_with, none_all, basis_grown, terms_grown}
use Rattle.nq_schemes.proofs.gathering.governing_all.Goals as goal

pub governing-requires-clause-basis : goal.governing-requires-clause-basis
governing-requires-clause-basis c = basis_grown c.args.history.now c.args.work.now c.loop-test.work c.requires.stands c.loop-test.invariant.grows c.args.basis.now c.requires.basis

pub loop-test-init : goal.loop-test-init
loop-test-init c = record { grows = WorkGrows-refl c.args.history.now c.args.work.now c.requires.stands; over = none_all (IsTermIn c.args.history.now c.args.work.now) c.new-governed.result.items c.new-governed.ensures.items }

pub loop-test-preserved : goal.loop-test-preserved
loop-test-preserved c = record { grows = WorkGrows-trans c.args.history.now c.args.work.now c.loop-test.work c.governing.new.work c.loop-test.invariant.grows c.governing.ensures.grows; over = all_with (IsTermIn c.args.history.now c.governing.new.work) c.loop-test.governed.items c.add_term.new.terms.items c.in_ok-found.found c.in_ok-add_term.ensures.more (terms_grown c.args.history.now c.loop-test.work c.governing.new.work c.loop-test.invariant.grows.stands c.governing.ensures.grows c.loop-test.governed.items c.loop-test.invariant.over) c.in_ok-found.ensures.test }

pub returns-in_err-found-clause-grows : goal.returns-in_err-found-clause-grows
returns-in_err-found-clause-grows c = WorkGrows-trans c.args.history.now c.args.work.now c.loop-test.work c.governing.new.work c.loop-test.invariant.grows c.governing.ensures.grows

pub returns-in_err-add_term-clause-grows : goal.returns-in_err-add_term-clause-grows
returns-in_err-add_term-clause-grows c = WorkGrows-trans c.args.history.now c.args.work.now c.loop-test.work c.governing.new.work c.loop-test.invariant.grows c.governing.ensures.grows
