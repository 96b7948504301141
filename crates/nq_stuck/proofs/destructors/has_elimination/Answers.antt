use Rattle.nq_bank.specs.Content.{terms_at}
use Rattle.nq_bank.specs.Shells.{shells_at}
use Rattle.nq_stuck.proofs.EliminationLemmas.{nothing_eliminated}
use Rattle.nq_stuck.proofs.destructors.has_elimination.Goals as goal

pub returns : goal.returns
returns c =
    let bank = c.args.bank.now in
    λ absent.
    nothing_eliminated bank c.args.history.now c.entries.result.now (shells_at bank c.shells.result.now) c.in_ok-calls.calls.items c.as_slice.result.now (terms_at bank c.args.goal.now) c.has_elim_event.result
    c.has_accessor_call.result c.requires.history c.entries.ensures (c.has_elim_event.ensures bank) c.if-has_elim_event.false c.in_ok-calls.ensures.holds (c.shells.ensures.logic bank c.requires.history)
    c.as_slice.ensures.value c.has_accessor_call.ensures absent
