-- The refusals of terms that stand in lists of parts, part by part.
use Rattle.std.proofs.Common.{ℕ, List, refl}
use Rattle.std.specs.Prelude.{Option}
use Rattle.nq_logic.specs.Terms.{Name}
use Rattle.nq_sexp.specs.declared.Sexp.{Sexp}
use Rattle.nq_sexp.specs.Tree.{tree}
use Rattle.nq_events.specs.Parts.{measure_in}
use Rattle.nq_events.specs.WrittenHints.{pair_in, instance_in}
use Rattle.nq_events.specs.TermRefusals.{term_refusal, terms_refusal, measure_forms, pair_forms, instances_forms}
use Rattle.nq_event.specs.Reads.{forms_of, value_or}
use Rattle.nq_event.specs.Shapes.{measures_at, no_measure}
use Rattle.nq_event.specs.Hints.{instances_at, pairs_at, no_instance, no_pair}
use Rattle.nq_event.proofs.GrownLemmas.{InOrder}
use Rattle.nq_event.proofs.ToldLemmas.{terms_append}

module _ (arity : Name → Option ℕ) where
  pub terms_in_order : InOrder (λ (f : Sexp). term_refusal arity (tree f)) (λ (fs : List Sexp). terms_refusal arity (forms_of fs))
  terms_in_order = record { none = refl; more = λ f fs. refl }

  pub measures_in_order : InOrder (λ (f : Sexp). term_refusal arity (value_or no_measure (measure_in (tree f))).form) (λ (fs : List Sexp). terms_refusal arity (measure_forms (measures_at fs)))
  measures_in_order = record { none = refl; more = λ f fs. refl }

  pub pairs_in_order : InOrder (λ (f : Sexp). term_refusal arity (value_or no_pair (pair_in (tree f))).form) (λ (fs : List Sexp). terms_refusal arity (pair_forms (pairs_at fs)))
  pairs_in_order = record { none = refl; more = λ f fs. refl }

  pub instances_in_order : InOrder (λ (f : Sexp). terms_refusal arity (pair_forms (value_or no_instance (instance_in (tree f))).pairs)) (λ (fs : List Sexp). terms_refusal arity (instances_forms (instances_at fs)))
  instances_in_order = record { none = refl; more = λ f fs. terms_append arity (pair_forms (value_or no_instance (instance_in (tree f))).pairs) (instances_forms (instances_at fs)) }
