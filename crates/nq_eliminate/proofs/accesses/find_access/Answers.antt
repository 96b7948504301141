use Rattle.nq_bank.specs.Content.{terms_at}
use Rattle.nq_bank.specs.Shells.{shells_at}
use Rattle.nq_history.specs.Events.{events_at}
use Rattle.nq_eliminate.proofs.AccessLemmas.{found_all}
use Rattle.nq_eliminate.proofs.accesses.find_access.Goals as goal

pub returns-in-Ok-clause-access : goal.returns-in-Ok-clause-access
returns-in-Ok-clause-access c =
    let bank = c.args.bank.now in
    found_all bank (events_at bank c.args.history.now) c.in-Ok.calls.items c.as_slice.result.now (terms_at bank c.args.goal.now) (shells_at bank c.shells.result.now) c.first_access.result c.in-Ok.ensures.holds (c.shells.ensures.logic bank c.requires.history)
    c.as_slice.ensures.value c.first_access.ensures.access
