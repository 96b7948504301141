-- The negations so far are there.
use Rattle.std.proofs.Common.{◌≡◌, [], ◌++◌, map, drop}
use Rattle.std.specs.Prelude.{All}
use Rattle.nq_bank.specs.Content.{Grows, Stands, terms_at}
use Rattle.nq_history.specs.Events.{HistoryStands, events_at}
use Rattle.nq_history.specs.Hints.{InstanceStands}
use Rattle.nq_event.specs.EventsAt.{instance_at}
use Rattle.nq_goals.specs.Hints.{denied_instances}
use Rattle.nq_uses.proofs.goals.denials.Given as goal

abbrev pub invariant-loop-instance : goal.invariant-loop-instance
invariant-loop-instance l =
    record {
      grows : Grows l.fn.bank l.bank;
      names : l.bank.names ≡ l.fn.bank.names;
      history : HistoryStands l.bank l.history;
      instances : All (InstanceStands l.bank) l.instances;
      stand : All (Stands l.bank) l.ids.items;
      are : terms_at l.bank l.ids.items ++ denied_instances (events_at l.fn.bank l.history) (map (instance_at l.fn.bank) (drop l.instance-index l.instances)) []
          ≡ denied_instances (events_at l.fn.bank l.history) (map (instance_at l.fn.bank) l.instances) [];
    }
