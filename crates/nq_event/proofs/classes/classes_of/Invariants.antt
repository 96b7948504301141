use Rattle.std.proofs.Common.{◌≡◌, ◌++◌, map, drop}
use Rattle.nq_history.specs.Events.{class_of}
use Rattle.nq_events.specs.Reading.{classes_of}
use Rattle.nq_event.specs.Shapes.{types_at}
use Rattle.nq_event.proofs.classes.classes_of.Given as goal

abbrev pub invariant-loop-form : goal.invariant-loop-form
invariant-loop-form l = classes_of (types_at l.types) ≡ map class_of l.classes.items ++ classes_of (types_at (drop l.form-index l.types))
