use Rattle.nq_event.proofs.InstanceLemmas.{entry_stands}
use Rattle.nq_uses.proofs.instances.named.Goals as goal

pub stated-requires : goal.stated-requires
stated-requires c = entry_stands c.args.bank.now c.args.name c.args.history.now c.in-Some.entry.now c.requires.history.entries c.in-Some.ensures.entry
