use Rattle.nq_sexp.specs.Tree.{tree}
use Rattle.nq_history.specs.Events.{events_at}
use Rattle.nq_event.proofs.ParseLemmas.{event_parsed, fault_parsed, refusal_parsed}
use Rattle.nq_event.proofs.parse.parse_event.Goals as goal

pub returns-in-Ok-clause-event : goal.returns-in-Ok-clause-event
returns-in-Ok-clause-event c = event_parsed (events_at c.args.bank.now c.args.history.now) (tree c.args.form.now) c.event_by.new.bank _ c.event_by.result c.in-Ok.ensures c.event_by.ensures.read

pub returns-in-Ok-clause-refused : goal.returns-in-Ok-clause-refused
returns-in-Ok-clause-refused c = fault_parsed (events_at c.args.bank.now c.args.history.now) (tree c.args.form.now) _ c.event_by.result c.in-Ok.ensures c.event_by.ensures.refused

pub returns-in-Err-clause-refused : goal.returns-in-Err-clause-refused
returns-in-Err-clause-refused c = refusal_parsed (events_at c.args.bank.now c.args.history.now) (tree c.args.form.now) _ c.refused.result c.in-Err.ensures c.refused.ensures
