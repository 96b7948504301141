-- No destructor call of the rules of the entries so far becomes one of the calls.
use Rattle.std.proofs.Common.{take}
use Rattle.nq_logic.specs.Terms.{Each}
use Rattle.nq_bank.specs.Content.{terms_at}
use Rattle.nq_event.specs.EventsAt.{hints_at}
use Rattle.nq_history.specs.Events.{all_events_at, events_at}
use Rattle.nq_eliminate.specs.Finding.{EventServesNone}
use Rattle.nq_eliminate.proofs.finding.find_by_entries.Given as goal

abbrev pub invariant-loop-entry : goal.invariant-loop-entry
invariant-loop-entry l = Each (EventServesNone (events_at l.bank l.history) (hints_at l.bank l.hints) (terms_at l.bank l.goal) (terms_at l.bank l.calls)) (all_events_at l.bank (take l.entry-index l.entries))
