use Rattle.std.proofs.Common.{List, sym, ◌∙◌, subst}
use Rattle.nq_sexp.specs.declared.Sexp.{Sexp}
use Rattle.nq_sexp.specs.Tree.{tree}
use Rattle.nq_event.specs.Readings.{IsReadAs, IsToldOf}
use Rattle.nq_event.proofs.GrownLemmas.{pairs_stay, map_map, none_read, one_read, one_told, all_are, none_refused}
use Rattle.nq_event.proofs.ToldLemmas.{told_on}
use Rattle.nq_event.proofs.OrderLemmas.{pairs_in_order}
use Rattle.nq_history.specs.Events.{events_at}
use Rattle.nq_history.proofs.HistoryLemmas.{events_at-grown, history_grown}
use Rattle.nq_events.specs.WrittenHints.{pair_in}
use Rattle.nq_events.specs.TermRefusals.{arity_of, pair_forms, term_refusal, terms_refusal}
use Rattle.nq_events.specs.HintTerms.{pair_given}
use Rattle.nq_clause.specs.Substitution.{PairStands}
use Rattle.nq_event.specs.EventsAt.{pair_at}
use Rattle.nq_event.specs.Hints.{no_pair, pairs_at}
use Rattle.nq_event.specs.Reads.{value_or}
use Rattle.nq_event.proofs.instance_terms.pairs_in.Goals as goal

pub loop-form-init : goal.loop-form-init
loop-form-init c =
    let h = events_at c.args.bank.now c.args.history.now in
    record {
      history = c.requires;
      read = none_read PairStands pair_at pairs_stay (λ (f : Sexp). term_refusal (arity_of h) (value_or no_pair (pair_in (tree f))).form) (λ (fs : List Sexp). terms_refusal (arity_of h) (pair_forms (pairs_at fs))) (pairs_in_order (arity_of h)) (λ (f : Sexp). pair_given h (value_or no_pair (pair_in (tree f)))) c.args.bank.now c.args.forms.now c.new-pairs.result.items c.new-pairs.ensures.items;
    }

pub loop-form-preserved : goal.loop-form-preserved
loop-form-preserved c =
    let h = events_at c.args.bank.now c.args.history.now in
    let bank = c.loop-form.bank in
    let new = c.pair_or_none.new.bank in
    let f = c.form-item.result in
    let past = events_at-grown c.args.bank.now bank c.loop-form.invariant.read.grows c.args.history.now c.requires.entries in
    record {
      history = history_grown bank new c.pair_or_none.ensures.grows c.args.history.now c.loop-form.invariant.history;
      read =
          one_read PairStands pair_at pairs_stay (λ (f : Sexp). term_refusal (arity_of h) (value_or no_pair (pair_in (tree f))).form) (λ (fs : List Sexp). terms_refusal (arity_of h) (pair_forms (pairs_at fs))) (pairs_in_order (arity_of h)) (λ (f : Sexp). pair_given h (value_or no_pair (pair_in (tree f)))) c.args.bank.now c.args.forms.now
          bank new c.loop-form.form-index c.loop-form.pairs.items c.push.new.self.items f c.in_ok-pair.pair c.loop-form-test.true c.form-item.is c.loop-form.invariant.read c.pair_or_none.ensures.grows c.in_ok-push.ensures.items
          (subst (λ z. IsReadAs (PairStands new) (pair_at new) (term_refusal (arity_of z) (value_or no_pair (pair_in (tree c.form-item.result))).form) (pair_given z (value_or no_pair (pair_in (tree c.form-item.result)))) c.in_ok-pair.pair) past c.in_ok-pair.ensures.read);
    }

pub returns-in_err-pair-clause-refused : goal.returns-in_err-pair-clause-refused
returns-in_err-pair-clause-refused c =
    let h = events_at c.args.bank.now c.args.history.now in
    let bank = c.loop-form.bank in
    let f = c.form-item.result in
    let past = events_at-grown c.args.bank.now bank c.loop-form.invariant.read.grows c.args.history.now c.requires.entries in
    told_on c.from_residual.result c.in_err-pair.field-0.0 (terms_refusal (arity_of h) (pair_forms (pairs_at c.args.forms.now))) c.from_residual.ensures.1
    (one_told PairStands pair_at pairs_stay (λ (f : Sexp). term_refusal (arity_of h) (value_or no_pair (pair_in (tree f))).form) (λ (fs : List Sexp). terms_refusal (arity_of h) (pair_forms (pairs_at fs))) (pairs_in_order (arity_of h)) (λ (f : Sexp). pair_given h (value_or no_pair (pair_in (tree f)))) c.args.bank.now c.args.forms.now
    bank c.loop-form.form-index c.loop-form.pairs.items f c.in_err-pair.field-0.0 c.loop-form-test.true c.form-item.is c.loop-form.invariant.read
    (subst (λ z. IsToldOf (term_refusal (arity_of z) (value_or no_pair (pair_in (tree c.form-item.result))).form) c.in_err-pair.field-0.0) past c.in_err-pair.ensures.refused))

pub returns-clause-read : goal.returns-clause-read
returns-clause-read c =
    let h = events_at c.args.bank.now c.args.history.now in
    record {
      stands = c.loop-form.invariant.read.stand;
      unrefused = none_refused PairStands pair_at pairs_stay (λ (f : Sexp). term_refusal (arity_of h) (value_or no_pair (pair_in (tree f))).form) (λ (fs : List Sexp). terms_refusal (arity_of h) (pair_forms (pairs_at fs))) (pairs_in_order (arity_of h)) (λ (f : Sexp). pair_given h (value_or no_pair (pair_in (tree f)))) c.args.bank.now c.args.forms.now c.loop-form.bank c.loop-form.form-index c.loop-form.pairs.items c.loop-form-test.false c.loop-form.invariant.read;
      is =
          all_are PairStands pair_at pairs_stay (λ (f : Sexp). term_refusal (arity_of h) (value_or no_pair (pair_in (tree f))).form) (λ (fs : List Sexp). terms_refusal (arity_of h) (pair_forms (pairs_at fs))) (pairs_in_order (arity_of h)) (λ (f : Sexp). pair_given h (value_or no_pair (pair_in (tree f)))) c.args.bank.now c.args.forms.now c.loop-form.bank c.loop-form.form-index c.loop-form.pairs.items c.loop-form-test.false c.loop-form.invariant.read
          ∙ sym (map_map (pair_given h) (λ (f : Sexp). value_or no_pair (pair_in (tree f))) c.args.forms.now);
    }
