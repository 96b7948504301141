use Rattle.std.proofs.Common.{get_or}
use Rattle.nq_bank.specs.declared.node.TermId.{TermId}
use Rattle.nq_kernel.proofs.GrowingLemmas.{WorkGrows-refl, WorkGrows-trans}
use Rattle.nq_elim.proofs.GrownLemmas.{terms_grown}
use Rattle.nq_lines.proofs.FactLemmas.{own_terms_grown}
use Rattle.nq_lines.proofs.TermLemmas.{term_grown}
use Rattle.nq_elim.proofs.differing.by_calls.Goals as goal

pub loop-call-init : goal.loop-call-init
loop-call-init c = WorkGrows-refl c.args.history.now c.args.work.now c.requires.stands

pub by_call-requires-clause-stands : goal.by_call-requires-clause-stands
by_call-requires-clause-stands c = c.loop-call.invariant.stands

pub by_call-requires-clause-goal : goal.by_call-requires-clause-goal
by_call-requires-clause-goal c = terms_grown c.args.history.now c.args.work.now c.loop-call.work c.requires.stands c.loop-call.invariant c.args.goal.now c.requires.goal

pub by_call-requires-clause-call : goal.by_call-requires-clause-call
by_call-requires-clause-call c = let d : TermId = record { 0 = 0 } in term_grown c.args.history.now c.args.work.now c.loop-call.work (get_or c.args.calls.now c.loop-call.call-index d) c.requires.stands c.loop-call.invariant (c.requires.calls c.loop-call.call-index d c.loop-call-test.true)

pub returns-in_err-found-clause-grows : goal.returns-in_err-found-clause-grows
returns-in_err-found-clause-grows c = WorkGrows-trans c.args.history.now c.args.work.now c.loop-call.work c.by_call.new.work c.loop-call.invariant c.by_call.ensures.grows

pub returns-in-Some-clause-grows : goal.returns-in-Some-clause-grows
returns-in-Some-clause-grows c = WorkGrows-trans c.args.history.now c.args.work.now c.loop-call.work c.by_call.new.work c.loop-call.invariant c.by_call.ensures.grows

pub loop-call-preserved : goal.loop-call-preserved
loop-call-preserved c = WorkGrows-trans c.args.history.now c.args.work.now c.loop-call.work c.by_call.new.work c.loop-call.invariant c.by_call.ensures.grows

pub by_call-requires-clause-ready : goal.by_call-requires-clause-ready
by_call-requires-clause-ready c = own_terms_grown c.args.history.now c.args.work.now c.loop-call.work c.loop-call.invariant c.requires.stands c.requires.ready
