use Rattle.std.proofs.Common.{arith, sym, subst}
use Rattle.nq_history.specs.Events.{EntryStands}
use Rattle.nq_kernel.proofs.GrowingLemmas.{WorkGrows-refl}
use Rattle.nq_search.proofs.SearchingLemmas.{ready_grown}
use Rattle.nq_tactic.proofs.falls.learn_falls_at.Goals as goal

pub learn_falls_named-requires-clause-function : goal.learn_falls_named-requires-clause-function
learn_falls_named-requires-clause-function c =
    (subst (EntryStands c.args.work.now.bank) (sym c.entry.ensures) (c.requires.can.stands.history.entries c.args.place c.entry.result.now (omega arith))).name

pub returns-in_ok-learn_falls_named-clause-can : goal.returns-in_ok-learn_falls_named-clause-can
returns-in_ok-learn_falls_named-clause-can c =
    ready_grown c.args.history.now c.args.work.now c.learn_falls_named.new.work c.requires.can.stands c.learn_falls_named.ensures.grows c.ready_histories.ensures.grown c.args.hints.now
    c.requires.can

pub returns-else-place-len-clause-grows : goal.returns-else-place-len-clause-grows
returns-else-place-len-clause-grows c = WorkGrows-refl c.args.history.now c.args.work.now c.requires.can.stands
