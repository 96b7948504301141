-- No instance so far passes the limits.
use Rattle.std.proofs.Common.{◌≡◌, map, drop}
use Rattle.std.specs.Prelude.{All}
use Rattle.nq_bank.specs.Content.{Grows}
use Rattle.nq_history.specs.Events.{events_at, HistoryStands}
use Rattle.nq_events.specs.HintRefusals.{instances_refusal}
use Rattle.nq_history.specs.Hints.{InstanceStands}
use Rattle.nq_event.specs.EventsAt.{instance_at}
use Rattle.nq_event.proofs.large.have_large.Given as goal

abbrev pub invariant-loop-instance : goal.invariant-loop-instance
invariant-loop-instance l =
    record {
      grows : Grows l.fn.bank l.bank;
      history : HistoryStands l.bank l.history;
      stand : All (InstanceStands l.bank) l.instances;
      none : instances_refusal (events_at l.fn.bank l.history) (map (instance_at l.fn.bank) l.instances) ≡ instances_refusal (events_at l.fn.bank l.history) (map (instance_at l.fn.bank) (drop l.instance-index l.instances));
    }
