use Rattle.std.proofs.Common.{ap, ◌∙◌}
use Rattle.nq_history.specs.Events.{event_at}
use Rattle.nq_stuck.specs.Destructors.{is_elim_event}
use Rattle.nq_stuck.proofs.DestructorLemmas.{any_mapped}
use Rattle.nq_stuck.proofs.destructors.has_elim_event.Goals as goal

pub loop-entry-preserved : goal.loop-entry-preserved
loop-entry-preserved c =
    λ bank.
    any_mapped is_elim_event (event_at bank) c.args.entries.now c.loop-entry.entry-index c.entry-item.result c.loop-entry.found c.is_elim_event-here.result c.is_either-found.result c.loop-entry-test.true
    (c.loop-entry.invariant bank) (c.is_elim_event-here.ensures bank ∙ ap (λ e. is_elim_event (event_at bank e)) c.entry-item.is) c.is_either-found.ensures
