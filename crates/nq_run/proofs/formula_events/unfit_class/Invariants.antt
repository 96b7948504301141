-- The classes so far are those of rules as which the term can serve.
use Rattle.std.proofs.Common.{◌≡◌, map, drop}
use Rattle.nq_bank.specs.Content.{term_at}
use Rattle.nq_history.specs.Events.{class_of}
use Rattle.nq_events.specs.OwnRefusals.{shape_refusal}
use Rattle.nq_run.proofs.formula_events.unfit_class.Given as goal

abbrev pub invariant-loop-class : goal.invariant-loop-class
invariant-loop-class l = shape_refusal (map class_of l.classes) (term_at l.bank l.t) ≡ shape_refusal (map class_of (drop l.class-index l.classes)) (term_at l.bank l.t)
