use Rattle.std.proofs.Common.{get_or}
use Rattle.nq_bank.specs.declared.node.TermId.{TermId}
use Rattle.nq_kernel.proofs.GrowingLemmas.{WorkGrows-refl, WorkGrows-trans}
use Rattle.nq_lines.proofs.TermLemmas.{term_grown}
use Rattle.nq_types.proofs.TypeLemmas.{room_grown}
use Rattle.nq_types.proofs.denying.without_all.Goals as goal

pub loop-a-init : goal.loop-a-init
loop-a-init c = record { line = c.requires.line; grows = WorkGrows-refl c.args.history.now c.args.work.now c.requires.stands }

pub without_one-requires-clause-room : goal.without_one-requires-clause-room
without_one-requires-clause-room c = (room_grown c.args.history.now c.args.work.now c.loop-a.work c.requires.stands c.loop-a.invariant.grows c.requires.room)

pub without_one-requires-clause-assumption : goal.without_one-requires-clause-assumption
without_one-requires-clause-assumption c =
    let first : TermId = record { 0 = 0 } in
    term_grown c.args.history.now c.args.work.now c.loop-a.work (get_or c.args.assumed.now c.loop-a.a-index first) c.requires.stands c.loop-a.invariant.grows (c.requires.assumed c.loop-a.a-index first c.loop-a-test.true)

pub without_one-requires-clause-term : goal.without_one-requires-clause-term
without_one-requires-clause-term c = (term_grown c.args.history.now c.args.work.now c.loop-a.work c.args.t c.requires.stands c.loop-a.invariant.grows c.requires.term)

pub returns-in_err-told-clause-grows : goal.returns-in_err-told-clause-grows
returns-in_err-told-clause-grows c = (WorkGrows-trans c.args.history.now c.args.work.now c.loop-a.work c.without_one.new.work c.loop-a.invariant.grows c.without_one.ensures.grows)

pub loop-a-preserved : goal.loop-a-preserved
loop-a-preserved c = record { line = c.in_ok-told.ensures.line; grows = (WorkGrows-trans c.args.history.now c.args.work.now c.loop-a.work c.without_one.new.work c.loop-a.invariant.grows c.without_one.ensures.grows) }
