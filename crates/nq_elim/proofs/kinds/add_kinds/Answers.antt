use Rattle.nq_kernel.proofs.GrowingLemmas.{WorkGrows-refl, WorkGrows-trans}
use Rattle.nq_lines.proofs.FactLemmas.{own_terms_grown}
use Rattle.nq_lines.proofs.TermLemmas.{term_grown}
use Rattle.nq_elim.proofs.kinds.add_kinds.Goals as goal

pub loop-place-init : goal.loop-place-init
loop-place-init c = record { grows = WorkGrows-refl c.args.history.now c.args.work.now c.requires.stands; found = c.requires.found }

pub add_kind-requires-clause-stands : goal.add_kind-requires-clause-stands
add_kind-requires-clause-stands c = c.loop-place.invariant.grows.stands

pub add_kind-requires-clause-ready : goal.add_kind-requires-clause-ready
add_kind-requires-clause-ready c = own_terms_grown c.args.history.now c.args.work.now c.loop-place.work c.loop-place.invariant.grows c.requires.stands c.requires.ready

pub add_kind-requires-clause-found : goal.add_kind-requires-clause-found
add_kind-requires-clause-found c = c.loop-place.invariant.found

pub add_kind-requires-clause-call : goal.add_kind-requires-clause-call
add_kind-requires-clause-call c = term_grown c.args.history.now c.args.work.now c.loop-place.work c.args.call c.requires.stands c.loop-place.invariant.grows c.requires.call

pub returns-in_err-add_kind-clause-grows : goal.returns-in_err-add_kind-clause-grows
returns-in_err-add_kind-clause-grows c = WorkGrows-trans c.args.history.now c.args.work.now c.loop-place.work c.add_kind.new.work c.loop-place.invariant.grows c.add_kind.ensures.grows

pub loop-place-preserved : goal.loop-place-preserved
loop-place-preserved c = record { grows = WorkGrows-trans c.args.history.now c.args.work.now c.loop-place.work c.add_kind.new.work c.loop-place.invariant.grows c.add_kind.ensures.grows; found = c.in_ok-add_kind.ensures.found }
