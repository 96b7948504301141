use Rattle.std.proofs.Common.{◌≡◌, drop}
use Rattle.std.specs.Prelude.{is_some}
use Rattle.std.specs.List.{list_all}
use Rattle.nq_bank.specs.Content.{terms_at}
use Rattle.nq_history.specs.Events.{events_at}
use Rattle.nq_events.specs.Inductions.{opened_by}
use Rattle.nq_event.proofs.inductions.are_opened.Given as goal

abbrev pub invariant-loop-t : goal.invariant-loop-t
invariant-loop-t l = list_all (λ t. is_some (opened_by (events_at l.bank l.history) t)) (terms_at l.bank l.terms) ≡ list_all (λ t. is_some (opened_by (events_at l.bank l.history) t)) (terms_at l.bank (drop l.t-index l.terms))
