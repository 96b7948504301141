use Rattle.nq_bank.proofs.Growth.{IsNamed-grown}
use Rattle.nq_kernel.specs.Growing.{WorkGrows}
use Rattle.nq_kernel.proofs.GrowingLemmas.{WorkGrows-trans}
use Rattle.nq_search.proofs.SearchingLemmas.{ready_grown}
use Rattle.nq_tactic.proofs.TacticLemmas.{found_stands}
use Rattle.nq_tactic.proofs.falls.learn_line.Goals as goal

pub remember-requires-clause-function : goal.remember-requires-clause-function
remember-requires-clause-function c = IsNamed-grown c.args.work.now.bank c.seek_briefly.new.work.bank c.args.f c.seek_briefly.ensures.grows.bank c.requires.function

pub remember-requires-clause-line : goal.remember-requires-clause-line
remember-requires-clause-line c = found_stands c.seek_briefly.new.work _ c.in_ok-line.field-0 c.in-Some.line c.in-Some.is c.in_ok-line.ensures.found

pub returns-in_err-remember-in-Some-clause-grows : goal.returns-in_err-remember-in-Some-clause-grows
returns-in_err-remember-in-Some-clause-grows c = WorkGrows-trans c.args.history.now c.args.work.now c.seek_briefly.new.work c.remember.new.work c.seek_briefly.ensures.grows c.remember.ensures.grows

pub returns-in_ok-remember-in-Some-clause-grows : goal.returns-in_ok-remember-in-Some-clause-grows
returns-in_ok-remember-in-Some-clause-grows c = WorkGrows-trans c.args.history.now c.args.work.now c.seek_briefly.new.work c.remember.new.work c.seek_briefly.ensures.grows c.remember.ensures.grows

pub returns-in_ok-remember-in-Some-clause-can : goal.returns-in_ok-remember-in-Some-clause-can
returns-in_ok-remember-in-Some-clause-can c =
    let up : WorkGrows c.args.history.now c.args.work.now c.remember.new.work = WorkGrows-trans c.args.history.now c.args.work.now c.seek_briefly.new.work c.remember.new.work c.seek_briefly.ensures.grows c.remember.ensures.grows in
    ready_grown c.args.history.now c.args.work.now c.remember.new.work c.requires.can.stands up c.ready_histories.ensures.grown c.args.hints.now c.requires.can

pub returns-in-None-clause-can : goal.returns-in-None-clause-can
returns-in-None-clause-can c = ready_grown c.args.history.now c.args.work.now c.seek_briefly.new.work c.requires.can.stands c.seek_briefly.ensures.grows c.ready_histories.ensures.grown c.args.hints.now c.requires.can
