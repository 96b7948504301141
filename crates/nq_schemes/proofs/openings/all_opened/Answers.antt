use Rattle.nq_kernel.proofs.GrowingLemmas.{WorkGrows-refl, WorkGrows-trans}
use Rattle.nq_schemes.specs.Known.{IsOpenedIn}
use Rattle.nq_schemes.proofs.GrownLemmas.{all_with, none_all, opened_grown, terms_grown}
use Rattle.nq_schemes.proofs.openings.all_opened.Goals as goal

pub opened_in-requires-clause-ready : goal.opened_in-requires-clause-ready
opened_in-requires-clause-ready c = c.ready_histories.ensures.grown c.args.work.now.bank c.loop-call.work.bank c.args.history.now c.requires.stands.history c.loop-call.invariant.grows.bank c.requires.ready

pub opened_in-requires-clause-goal : goal.opened_in-requires-clause-goal
opened_in-requires-clause-goal c = terms_grown c.args.history.now c.args.work.now c.loop-call.work c.requires.stands c.loop-call.invariant.grows c.args.goal.now c.requires.goal

pub loop-call-init : goal.loop-call-init
loop-call-init c = record { grows = WorkGrows-refl c.args.history.now c.args.work.now c.requires.stands; opened = none_all (IsOpenedIn c.args.history.now c.args.work.now) c.new-opened.result.items c.new-opened.ensures.items }

pub loop-call-preserved : goal.loop-call-preserved
loop-call-preserved c = record { grows = WorkGrows-trans c.args.history.now c.args.work.now c.loop-call.work c.opened_in.new.work c.loop-call.invariant.grows c.opened_in.ensures.grows; opened = all_with (IsOpenedIn c.args.history.now c.opened_in.new.work) c.loop-call.opened.items c.add_opened.new.opened.items c.in_ok-found.found c.in_ok-add_opened.ensures.more (opened_grown c.args.history.now c.loop-call.work c.opened_in.new.work c.loop-call.invariant.grows.stands c.opened_in.ensures.grows c.loop-call.opened.items c.loop-call.invariant.opened) c.in_ok-found.ensures.opened }

pub returns-in_err-found-clause-grows : goal.returns-in_err-found-clause-grows
returns-in_err-found-clause-grows c = WorkGrows-trans c.args.history.now c.args.work.now c.loop-call.work c.opened_in.new.work c.loop-call.invariant.grows c.opened_in.ensures.grows

pub returns-in_err-add_opened-clause-grows : goal.returns-in_err-add_opened-clause-grows
returns-in_err-add_opened-clause-grows c = WorkGrows-trans c.args.history.now c.args.work.now c.loop-call.work c.opened_in.new.work c.loop-call.invariant.grows c.opened_in.ensures.grows
