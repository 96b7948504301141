use Rattle.std.proofs.Common.{[], get_or, subst, sym}
use Rattle.std.specs.Prelude.{All}
use Rattle.nq_bank.specs.declared.node.TermId.{TermId}
use Rattle.nq_kernel.proofs.GrowingLemmas.{WorkGrows-refl, WorkGrows-trans}
use Rattle.nq_lines.proofs.FactLemmas.{own_terms_grown}
use Rattle.nq_lines.proofs.TermLemmas.{term_grown}
use Rattle.nq_elim.specs.Reasons.{FactHolds}
use Rattle.nq_elim.proofs.ListLemmas.{all_none}
use Rattle.nq_elim.proofs.kinds.kinds_of.Goals as goal

pub loop-call-init : goal.loop-call-init
loop-call-init c = record { grows = WorkGrows-refl c.args.history.now c.args.work.now c.requires.stands; found = subst (All (FactHolds c.args.history.now c.args.work.now [])) (sym c.new-found.ensures.items) (all_none (FactHolds c.args.history.now c.args.work.now [])) }

pub add_kinds-requires-clause-stands : goal.add_kinds-requires-clause-stands
add_kinds-requires-clause-stands c = c.loop-call.invariant.grows.stands

pub add_kinds-requires-clause-ready : goal.add_kinds-requires-clause-ready
add_kinds-requires-clause-ready c = own_terms_grown c.args.history.now c.args.work.now c.loop-call.work c.loop-call.invariant.grows c.requires.stands c.requires.ready

pub add_kinds-requires-clause-found : goal.add_kinds-requires-clause-found
add_kinds-requires-clause-found c = c.loop-call.invariant.found

pub add_kinds-requires-clause-call : goal.add_kinds-requires-clause-call
add_kinds-requires-clause-call c = let d : TermId = record { 0 = 0 } in term_grown c.args.history.now c.args.work.now c.loop-call.work (get_or c.args.calls.now c.loop-call.call-index d) c.requires.stands c.loop-call.invariant.grows (c.requires.calls c.loop-call.call-index d c.loop-call-test.true)

pub returns-in_err-add_kinds-clause-grows : goal.returns-in_err-add_kinds-clause-grows
returns-in_err-add_kinds-clause-grows c = WorkGrows-trans c.args.history.now c.args.work.now c.loop-call.work c.add_kinds.new.work c.loop-call.invariant.grows c.add_kinds.ensures.grows

pub loop-call-preserved : goal.loop-call-preserved
loop-call-preserved c = record { grows = WorkGrows-trans c.args.history.now c.args.work.now c.loop-call.work c.add_kinds.new.work c.loop-call.invariant.grows c.add_kinds.ensures.grows; found = c.in_ok-add_kinds.ensures.found }
