-- The denials of the instances so far are cut away.
use Rattle.std.proofs.Common.{List, drop, map}
use Rattle.std.specs.Prelude.{All}
use Rattle.nq_logic.specs.Terms.{Term}
use Rattle.nq_history.specs.Events.{events_at}
use Rattle.nq_history.specs.Hints.{InstanceStands}
use Rattle.nq_event.specs.EventsAt.{instance_at}
use Rattle.nq_goals.specs.Hints.{denied_instances}
use Rattle.nq_kernel.specs.Growing.{LineStands, WorkGrows}
use Rattle.nq_kernel.specs.Ready.{IsReady}
use Rattle.nq_lines.specs.Instances.{ArePairsIn}
use Rattle.nq_lines.specs.Lines.{LineHasOnly}
use Rattle.nq_hinted.proofs.cutting.cut_instances.Given as goal

abbrev pub invariant-loop-instance : goal.invariant-loop-instance
invariant-loop-instance l =
    record {
      grows : WorkGrows l.history l.fn.work l.work;
      ready : IsReady (events_at l.work.bank l.history);
      instances : All (InstanceStands l.work.bank) l.instances;
      pairs : All (λ i. ArePairsIn l.history l.work i.pairs.items) l.instances;
      standing : LineStands l.work l.line;
      told : (these : List Term) → LineHasOnly l.fn.work l.fn.line (denied_instances (events_at l.fn.work.bank l.history) (map (instance_at l.fn.work.bank) l.instances) these)
          → LineHasOnly l.work l.line (denied_instances (events_at l.fn.work.bank l.history) (map (instance_at l.fn.work.bank) (drop l.instance-index l.instances)) these);
    }
