-- The measures so far are read.
use Rattle.std.proofs.Common.{List}
use Rattle.nq_sexp.specs.declared.Sexp.{Sexp}
use Rattle.nq_sexp.specs.Tree.{tree}
use Rattle.nq_events.specs.Parts.{measure_in}
use Rattle.nq_events.specs.TermRefusals.{measure_forms, terms_refusal}
use Rattle.nq_events.specs.Reading.{measure_given}
use Rattle.nq_event.specs.Arities.{arities_at, FunctionsStand}
use Rattle.nq_event.specs.EventsAt.{measure_at, MeasureStands}
use Rattle.nq_event.specs.Reads.{value_or}
use Rattle.nq_event.specs.Shapes.{measures_at, no_measure}
use Rattle.nq_event.proofs.GrownLemmas.{IsReadSoFar}
use Rattle.nq_event.proofs.measures.measures_by.Given as goal

abbrev pub invariant-loop-form : goal.invariant-loop-form
invariant-loop-form l =
    record {
      functions : FunctionsStand l.bank l.functions;
      read : IsReadSoFar MeasureStands measure_at (λ (fs : List Sexp). terms_refusal (arities_at l.fn.bank l.functions) (measure_forms (measures_at fs))) (λ (f : Sexp). measure_given (arities_at l.fn.bank l.functions) (value_or no_measure (measure_in (tree f)))) l.fn.bank l.bank l.forms l.form-index l.measures.items;
    }
