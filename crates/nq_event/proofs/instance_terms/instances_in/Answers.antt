use Rattle.std.proofs.Common.{List, sym, ◌∙◌, subst}
use Rattle.nq_sexp.specs.declared.Sexp.{Sexp}
use Rattle.nq_sexp.specs.Tree.{tree}
use Rattle.nq_event.specs.Readings.{IsReadAs, IsToldOf}
use Rattle.nq_event.proofs.GrownLemmas.{instances_stay, map_map, none_read, one_read, one_told, all_are, none_refused}
use Rattle.nq_event.proofs.ToldLemmas.{told_on}
use Rattle.nq_event.proofs.OrderLemmas.{instances_in_order}
use Rattle.nq_history.specs.Events.{events_at}
use Rattle.nq_history.proofs.HistoryLemmas.{events_at-grown, history_grown}
use Rattle.nq_events.specs.WrittenHints.{WrittenInstance, instance_in}
use Rattle.nq_events.specs.TermRefusals.{arity_of, instances_forms, pair_forms, terms_refusal}
use Rattle.nq_events.specs.HintTerms.{instance_given}
use Rattle.nq_history.specs.Hints.{InstanceStands}
use Rattle.nq_event.specs.EventsAt.{instance_at}
use Rattle.nq_event.specs.Hints.{instance_at as outline_at, instances_at, no_instance}
use Rattle.nq_event.specs.Reads.{value_or}
use Rattle.nq_event.proofs.instance_terms.instances_in.Goals as goal

pub loop-form-init : goal.loop-form-init
loop-form-init c =
    let h = events_at c.args.bank.now c.args.history.now in
    record {
      history = c.requires;
      read = none_read InstanceStands instance_at instances_stay (λ (f : Sexp). terms_refusal (arity_of h) (pair_forms (value_or no_instance (instance_in (tree f))).pairs)) (λ (fs : List Sexp). terms_refusal (arity_of h) (instances_forms (instances_at fs))) (instances_in_order (arity_of h)) (λ (f : Sexp). instance_given h (value_or no_instance (instance_in (tree f)))) c.args.bank.now c.args.forms.now c.new-instances.result.items c.new-instances.ensures.items;
    }

pub loop-form-preserved : goal.loop-form-preserved
loop-form-preserved c =
    let h = events_at c.args.bank.now c.args.history.now in
    let bank = c.loop-form.bank in
    let new = c.instance_with.new.bank in
    let f = c.form-item.result in
    let past = events_at-grown c.args.bank.now bank c.loop-form.invariant.read.grows c.args.history.now c.requires.entries in
    record {
      history = history_grown bank new c.instance_with.ensures.grows c.args.history.now c.loop-form.invariant.history;
      read =
          one_read InstanceStands instance_at instances_stay (λ (f : Sexp). terms_refusal (arity_of h) (pair_forms (value_or no_instance (instance_in (tree f))).pairs)) (λ (fs : List Sexp). terms_refusal (arity_of h) (instances_forms (instances_at fs))) (instances_in_order (arity_of h)) (λ (f : Sexp). instance_given h (value_or no_instance (instance_in (tree f)))) c.args.bank.now c.args.forms.now
          bank new c.loop-form.form-index c.loop-form.instances.items c.push.new.self.items f c.in_ok-instance.instance c.loop-form-test.true c.form-item.is c.loop-form.invariant.read c.instance_with.ensures.grows c.in_ok-push.ensures.items
          (subst (λ (w : WrittenInstance). IsReadAs (InstanceStands new) (instance_at new) (terms_refusal (arity_of h) (pair_forms w.pairs)) (instance_given h w) c.in_ok-instance.instance) c.instance_or_none-outline.ensures
          (subst (λ z. IsReadAs (InstanceStands new) (instance_at new) (terms_refusal (arity_of z) (pair_forms (outline_at c.instance_or_none-outline.result).pairs)) (instance_given z (outline_at c.instance_or_none-outline.result)) c.in_ok-instance.instance) past c.in_ok-instance.ensures.read));
    }

pub returns-in_err-instance-clause-refused : goal.returns-in_err-instance-clause-refused
returns-in_err-instance-clause-refused c =
    let h = events_at c.args.bank.now c.args.history.now in
    let bank = c.loop-form.bank in
    let f = c.form-item.result in
    let past = events_at-grown c.args.bank.now bank c.loop-form.invariant.read.grows c.args.history.now c.requires.entries in
    told_on c.from_residual.result c.in_err-instance.field-0.0 (terms_refusal (arity_of h) (instances_forms (instances_at c.args.forms.now))) c.from_residual.ensures.1
    (one_told InstanceStands instance_at instances_stay (λ (f : Sexp). terms_refusal (arity_of h) (pair_forms (value_or no_instance (instance_in (tree f))).pairs)) (λ (fs : List Sexp). terms_refusal (arity_of h) (instances_forms (instances_at fs))) (instances_in_order (arity_of h)) (λ (f : Sexp). instance_given h (value_or no_instance (instance_in (tree f)))) c.args.bank.now c.args.forms.now
    bank c.loop-form.form-index c.loop-form.instances.items f c.in_err-instance.field-0.0 c.loop-form-test.true c.form-item.is c.loop-form.invariant.read
    (subst (λ (w : WrittenInstance). IsToldOf (terms_refusal (arity_of h) (pair_forms w.pairs)) c.in_err-instance.field-0.0) c.instance_or_none-outline.ensures
    (subst (λ z. IsToldOf (terms_refusal (arity_of z) (pair_forms (outline_at c.instance_or_none-outline.result).pairs)) c.in_err-instance.field-0.0) past c.in_err-instance.ensures.refused)))

pub returns-clause-read : goal.returns-clause-read
returns-clause-read c =
    let h = events_at c.args.bank.now c.args.history.now in
    record {
      stands = c.loop-form.invariant.read.stand;
      unrefused = none_refused InstanceStands instance_at instances_stay (λ (f : Sexp). terms_refusal (arity_of h) (pair_forms (value_or no_instance (instance_in (tree f))).pairs)) (λ (fs : List Sexp). terms_refusal (arity_of h) (instances_forms (instances_at fs))) (instances_in_order (arity_of h)) (λ (f : Sexp). instance_given h (value_or no_instance (instance_in (tree f)))) c.args.bank.now c.args.forms.now c.loop-form.bank c.loop-form.form-index c.loop-form.instances.items c.loop-form-test.false c.loop-form.invariant.read;
      is =
          all_are InstanceStands instance_at instances_stay (λ (f : Sexp). terms_refusal (arity_of h) (pair_forms (value_or no_instance (instance_in (tree f))).pairs)) (λ (fs : List Sexp). terms_refusal (arity_of h) (instances_forms (instances_at fs))) (instances_in_order (arity_of h)) (λ (f : Sexp). instance_given h (value_or no_instance (instance_in (tree f)))) c.args.bank.now c.args.forms.now c.loop-form.bank c.loop-form.form-index c.loop-form.instances.items c.loop-form-test.false c.loop-form.invariant.read
          ∙ sym (map_map (instance_given h) (λ (f : Sexp). value_or no_instance (instance_in (tree f))) c.args.forms.now);
    }
