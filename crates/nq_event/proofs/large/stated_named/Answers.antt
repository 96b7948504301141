use Rattle.nq_event.proofs.InstanceLemmas.{entry_stands}
use Rattle.nq_event.proofs.large.stated_named.Goals as goal

pub returns-in-Some-clause-stands : goal.returns-in-Some-clause-stands
returns-in-Some-clause-stands c =
    c.stated_by.ensures.stands c.args.bank.now (entry_stands c.args.bank.now c.args.name c.args.history.now c.in-Some.entry.now c.requires.history.entries c.in-Some.ensures.entry)
