use Rattle.std.proofs.Common.{subst, sym}
use Rattle.nq_history.specs.Events.{EntryStands}
use Rattle.nq_rewrite.proofs.told_kinds.told_at.Goals as goal

pub event_fact-requires-clause-name : goal.event_fact-requires-clause-name
event_fact-requires-clause-name c = (subst (EntryStands c.args.work.now.bank) (sym c.entry.ensures) (c.requires.stands.history.entries c.args.place c.entry.result.now c.requires.place)).name
