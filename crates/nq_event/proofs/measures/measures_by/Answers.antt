use Rattle.std.proofs.Common.{List, sym, ◌∙◌, subst}
use Rattle.nq_sexp.specs.declared.Sexp.{Sexp}
use Rattle.nq_sexp.specs.Tree.{tree}
use Rattle.nq_events.specs.Parts.{measure_in}
use Rattle.nq_events.specs.TermRefusals.{measure_forms, term_refusal, terms_refusal}
use Rattle.nq_events.specs.Reading.{measure_given}
use Rattle.nq_event.specs.Arities.{arities_at}
use Rattle.nq_event.specs.EventsAt.{measure_at, MeasureStands}
use Rattle.nq_event.specs.Reads.{value_or}
use Rattle.nq_event.specs.Shapes.{measures_at, no_measure}
use Rattle.nq_event.specs.Readings.{IsReadAs, IsToldOf}
use Rattle.nq_event.proofs.ArityLemmas.{arities_grown, functions_grown}
use Rattle.nq_event.proofs.GrownLemmas.{measures_stay, map_map, none_read, one_read, one_told, all_are, none_refused}
use Rattle.nq_event.proofs.ToldLemmas.{told_on}
use Rattle.nq_event.proofs.OrderLemmas.{measures_in_order}
use Rattle.nq_event.proofs.measures.measures_by.Goals as goal

pub loop-form-init : goal.loop-form-init
loop-form-init c =
    let arity = arities_at c.args.bank.now c.args.functions.now in
    record {
      functions = c.requires;
      read = none_read MeasureStands measure_at measures_stay (λ (f : Sexp). term_refusal arity (value_or no_measure (measure_in (tree f))).form) (λ (fs : List Sexp). terms_refusal arity (measure_forms (measures_at fs))) (measures_in_order arity) (λ (f : Sexp). measure_given arity (value_or no_measure (measure_in (tree f)))) c.args.bank.now c.args.forms.now c.new-measures.result.items c.new-measures.ensures.items;
    }

pub loop-form-preserved : goal.loop-form-preserved
loop-form-preserved c =
    let arity = arities_at c.args.bank.now c.args.functions.now in
    let bank = c.loop-form.bank in
    let new = c.measure_or_none.new.bank in
    let w = value_or no_measure (measure_in (tree c.form-item.result)) in
    let past = arities_grown c.args.bank.now bank c.args.functions.now c.loop-form.invariant.read.grows c.requires in
    record {
      functions = functions_grown bank new c.args.functions.now c.measure_or_none.ensures.grows c.loop-form.invariant.functions;
      read =
          one_read MeasureStands measure_at measures_stay (λ (f : Sexp). term_refusal arity (value_or no_measure (measure_in (tree f))).form) (λ (fs : List Sexp). terms_refusal arity (measure_forms (measures_at fs))) (measures_in_order arity) (λ (f : Sexp). measure_given arity (value_or no_measure (measure_in (tree f)))) c.args.bank.now c.args.forms.now
          bank new c.loop-form.form-index c.loop-form.measures.items c.push.new.self.items c.form-item.result c.in_ok-measure.measure c.loop-form-test.true c.form-item.is c.loop-form.invariant.read c.measure_or_none.ensures.grows c.in_ok-push.ensures.items
          (subst (λ z. IsReadAs (MeasureStands new) (measure_at new) (term_refusal z w.form) (measure_given z w) c.in_ok-measure.measure) past c.in_ok-measure.ensures.read);
    }

pub returns-in_err-measure-clause-refused : goal.returns-in_err-measure-clause-refused
returns-in_err-measure-clause-refused c =
    let arity = arities_at c.args.bank.now c.args.functions.now in
    let bank = c.loop-form.bank in
    let w = value_or no_measure (measure_in (tree c.form-item.result)) in
    let past = arities_grown c.args.bank.now bank c.args.functions.now c.loop-form.invariant.read.grows c.requires in
    told_on c.from_residual.result c.in_err-measure.field-0.0 (terms_refusal arity (measure_forms (measures_at c.args.forms.now))) c.from_residual.ensures.1
    (one_told MeasureStands measure_at measures_stay (λ (f : Sexp). term_refusal arity (value_or no_measure (measure_in (tree f))).form) (λ (fs : List Sexp). terms_refusal arity (measure_forms (measures_at fs))) (measures_in_order arity) (λ (f : Sexp). measure_given arity (value_or no_measure (measure_in (tree f)))) c.args.bank.now c.args.forms.now
    bank c.loop-form.form-index c.loop-form.measures.items c.form-item.result c.in_err-measure.field-0.0 c.loop-form-test.true c.form-item.is c.loop-form.invariant.read
    (subst (λ z. IsToldOf (term_refusal z w.form) c.in_err-measure.field-0.0) past c.in_err-measure.ensures.refused))

pub returns-clause-read : goal.returns-clause-read
returns-clause-read c =
    let arity = arities_at c.args.bank.now c.args.functions.now in
    record {
      stands = c.loop-form.invariant.read.stand;
      unrefused = none_refused MeasureStands measure_at measures_stay (λ (f : Sexp). term_refusal arity (value_or no_measure (measure_in (tree f))).form) (λ (fs : List Sexp). terms_refusal arity (measure_forms (measures_at fs))) (measures_in_order arity) (λ (f : Sexp). measure_given arity (value_or no_measure (measure_in (tree f)))) c.args.bank.now c.args.forms.now c.loop-form.bank c.loop-form.form-index c.loop-form.measures.items c.loop-form-test.false c.loop-form.invariant.read;
      is =
          all_are MeasureStands measure_at measures_stay (λ (f : Sexp). term_refusal arity (value_or no_measure (measure_in (tree f))).form) (λ (fs : List Sexp). terms_refusal arity (measure_forms (measures_at fs))) (measures_in_order arity) (λ (f : Sexp). measure_given arity (value_or no_measure (measure_in (tree f)))) c.args.bank.now c.args.forms.now c.loop-form.bank c.loop-form.form-index c.loop-form.measures.items c.loop-form-test.false c.loop-form.invariant.read
          ∙ sym (map_map (measure_given arity) (λ (f : Sexp). value_or no_measure (measure_in (tree f))) c.args.forms.now);
    }
