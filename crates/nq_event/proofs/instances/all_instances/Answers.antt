use Rattle.nq_events.specs.WrittenHints.{instance_in}
use Rattle.nq_event.specs.Hints.{no_instance}
use Rattle.nq_event.proofs.ReadLemmas.{all_read, not_all_read}
use Rattle.nq_event.proofs.instances.all_instances.Goals as goal

pub returns-then-are_instances : goal.returns-then-are_instances
returns-then-are_instances c = all_read instance_in no_instance c.args.forms.now c.are_instances.result c.are_instances.ensures c.if-are_instances.true

pub returns-else-are_instances : goal.returns-else-are_instances
returns-else-are_instances c = not_all_read instance_in c.args.forms.now c.are_instances.result c.are_instances.ensures c.if-are_instances.false
