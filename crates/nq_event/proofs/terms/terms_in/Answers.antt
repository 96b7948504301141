use Rattle.std.proofs.Common.{List, sym, ◌∙◌, subst}
use Rattle.nq_sexp.specs.declared.Sexp.{Sexp}
use Rattle.nq_sexp.specs.Tree.{tree}
use Rattle.nq_event.specs.Readings.{IsReadAs, IsToldOf}
use Rattle.nq_event.proofs.GrownLemmas.{terms_stay, map_map, none_read, one_read, one_told, all_are, none_refused}
use Rattle.nq_event.proofs.ToldLemmas.{told_on}
use Rattle.nq_event.proofs.OrderLemmas.{terms_in_order}
use Rattle.nq_history.specs.Events.{events_at}
use Rattle.nq_history.proofs.HistoryLemmas.{events_at-grown, history_grown}
use Rattle.nq_bank.specs.Content.{Stands, term_at}
use Rattle.nq_events.specs.TermRefusals.{arity_of, term_refusal, terms_refusal}
use Rattle.nq_events.specs.HintTerms.{term_in}
use Rattle.nq_event.specs.Reads.{forms_of}
use Rattle.nq_event.proofs.terms.terms_in.Goals as goal

pub loop-form-init : goal.loop-form-init
loop-form-init c =
    let h = events_at c.args.bank.now c.args.history.now in
    record {
      history = c.requires;
      read = none_read Stands term_at terms_stay (λ (f : Sexp). term_refusal (arity_of h) (tree f)) (λ (fs : List Sexp). terms_refusal (arity_of h) (forms_of fs)) (terms_in_order (arity_of h)) (λ (f : Sexp). term_in h (tree f)) c.args.bank.now c.args.forms.now c.new-terms.result.items c.new-terms.ensures.items;
    }

pub loop-form-preserved : goal.loop-form-preserved
loop-form-preserved c =
    let h = events_at c.args.bank.now c.args.history.now in
    let bank = c.loop-form.bank in
    let new = c.term_in.new.bank in
    let f = c.form-item.result in
    let past = events_at-grown c.args.bank.now bank c.loop-form.invariant.read.grows c.args.history.now c.requires.entries in
    record {
      history = history_grown bank new c.term_in.ensures.grows c.args.history.now c.loop-form.invariant.history;
      read =
          one_read Stands term_at terms_stay (λ (f : Sexp). term_refusal (arity_of h) (tree f)) (λ (fs : List Sexp). terms_refusal (arity_of h) (forms_of fs)) (terms_in_order (arity_of h)) (λ (f : Sexp). term_in h (tree f)) c.args.bank.now c.args.forms.now
          bank new c.loop-form.form-index c.loop-form.terms.items c.push.new.self.items f c.in_ok-t.t c.loop-form-test.true c.form-item.is c.loop-form.invariant.read c.term_in.ensures.grows c.in_ok-push.ensures.items
          (subst (λ z. IsReadAs (Stands new) (term_at new) (term_refusal (arity_of z) (tree c.form-item.result)) (term_in z (tree c.form-item.result)) c.in_ok-t.t) past c.in_ok-t.ensures.read);
    }

pub returns-in_err-t-clause-refused : goal.returns-in_err-t-clause-refused
returns-in_err-t-clause-refused c =
    let h = events_at c.args.bank.now c.args.history.now in
    let bank = c.loop-form.bank in
    let f = c.form-item.result in
    let past = events_at-grown c.args.bank.now bank c.loop-form.invariant.read.grows c.args.history.now c.requires.entries in
    told_on c.from_residual.result c.in_err-t.field-0.0 (terms_refusal (arity_of h) (forms_of c.args.forms.now)) c.from_residual.ensures.1
    (one_told Stands term_at terms_stay (λ (f : Sexp). term_refusal (arity_of h) (tree f)) (λ (fs : List Sexp). terms_refusal (arity_of h) (forms_of fs)) (terms_in_order (arity_of h)) (λ (f : Sexp). term_in h (tree f)) c.args.bank.now c.args.forms.now
    bank c.loop-form.form-index c.loop-form.terms.items f c.in_err-t.field-0.0 c.loop-form-test.true c.form-item.is c.loop-form.invariant.read
    (subst (λ z. IsToldOf (term_refusal (arity_of z) (tree c.form-item.result)) c.in_err-t.field-0.0) past c.in_err-t.ensures.refused))

pub returns-clause-read : goal.returns-clause-read
returns-clause-read c =
    let h = events_at c.args.bank.now c.args.history.now in
    record {
      stands = c.loop-form.invariant.read.stand;
      unrefused = none_refused Stands term_at terms_stay (λ (f : Sexp). term_refusal (arity_of h) (tree f)) (λ (fs : List Sexp). terms_refusal (arity_of h) (forms_of fs)) (terms_in_order (arity_of h)) (λ (f : Sexp). term_in h (tree f)) c.args.bank.now c.args.forms.now c.loop-form.bank c.loop-form.form-index c.loop-form.terms.items c.loop-form-test.false c.loop-form.invariant.read;
      is =
          all_are Stands term_at terms_stay (λ (f : Sexp). term_refusal (arity_of h) (tree f)) (λ (fs : List Sexp). terms_refusal (arity_of h) (forms_of fs)) (terms_in_order (arity_of h)) (λ (f : Sexp). term_in h (tree f)) c.args.bank.now c.args.forms.now c.loop-form.bank c.loop-form.form-index c.loop-form.terms.items c.loop-form-test.false c.loop-form.invariant.read
          ∙ sym (map_map (term_in h) tree c.args.forms.now);
    }
