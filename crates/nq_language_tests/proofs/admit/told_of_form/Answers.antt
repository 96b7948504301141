use Rattle.nq_history.proofs.HistoryLemmas.{history_grown}
use Rattle.nq_language_tests.proofs.admit.told_of_form.Goals as goal

pub told_of_event-requires-clause-history : goal.told_of_event-requires-clause-history
told_of_event-requires-clause-history c = history_grown c.args.bank.now c.parse_event.new.bank c.parse_event.ensures.grows c.args.history.now c.requires
