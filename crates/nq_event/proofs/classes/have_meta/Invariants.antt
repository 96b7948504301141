use Rattle.std.proofs.Common.{◌≡◌, drop}
use Rattle.nq_events.specs.TermRefusals.{types_refusal}
use Rattle.nq_event.specs.Shapes.{types_at}
use Rattle.nq_event.proofs.classes.have_meta.Given as goal

abbrev pub invariant-loop-form : goal.invariant-loop-form
invariant-loop-form l = types_refusal (types_at l.types) ≡ types_refusal (types_at (drop l.form-index l.types))
