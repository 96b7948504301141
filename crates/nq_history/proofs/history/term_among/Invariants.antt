-- No entry so far is an axiom or lemma of the name.
use Rattle.std.proofs.Common.{◌≡◌, drop}
use Rattle.nq_bank.specs.Content.{text_at}
use Rattle.nq_proof.specs.Rules.{event_term}
use Rattle.nq_history.specs.Events.{all_events_at}
use Rattle.nq_history.proofs.history.term_among.Given as goal

abbrev pub invariant-loop-e : goal.invariant-loop-e
invariant-loop-e l = event_term (text_at l.bank l.name) (all_events_at l.bank l.entries) ≡ event_term (text_at l.bank l.name) (all_events_at l.bank (drop l.e-index l.entries))
