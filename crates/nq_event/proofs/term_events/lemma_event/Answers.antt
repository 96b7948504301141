use Rattle.std.proofs.Common.{sym, ap, ◌∙◌, map, codes, subst}
use Rattle.std.specs.Prelude.{None, Some, if◌then◌else◌}
use Rattle.nq_bank.specs.Content.{term_at, text_at}
use Rattle.nq_bank.proofs.Growth.{Grows-trans, Stands-grown, term_at-grown}
use Rattle.nq_sexp.specs.Tree.{tree}
use Rattle.nq_history.specs.Events.{class_of, events_at}
use Rattle.nq_history.proofs.HistoryLemmas.{events_at-grown, history_grown}
use Rattle.nq_events.specs.Refusals.{out_of_scope}
use Rattle.nq_events.specs.TermRefusals.{arity_of, first, hints_forms, term_refusal, terms_refusal, types_refusal}
use Rattle.nq_events.specs.HintTerms.{hints_given, term_in}
use Rattle.nq_events.specs.Reading.{classes_of, given_refusal}
use Rattle.nq_history.specs.Hints.{HintsStand}
use Rattle.nq_event.specs.EventsAt.{hints_at as hints_of}
use Rattle.nq_event.specs.Hints.{hints_at}
use Rattle.nq_event.specs.Readings.{IsReadAs, IsToldOf}
use Rattle.nq_event.specs.Shapes.{types_at}
use Rattle.nq_event.proofs.EventLemmas.{types_told, after_types_told, in_turn, lemma_is}
use Rattle.nq_event.proofs.HintSumLemmas.{hints_same, hints_keep}
use Rattle.nq_event.proofs.ToldLemmas.{told_first, told_on}
use Rattle.nq_event.proofs.term_events.lemma_event.Goals as goal

pub hints_in-requires : goal.hints_in-requires
hints_in-requires c = history_grown c.args.bank.now c.term_in.new.bank c.term_in.ensures.grows c.args.history.now c.requires

pub returns-then-have_meta-clause-refused : goal.returns-then-have_meta-clause-refused
returns-then-have_meta-clause-refused c =
    let meta = out_of_scope (codes "META") in
    let h = events_at c.args.bank.now c.args.history.now in
    let written = hints_at c.args.hints.now in
    types_told (types_refusal (types_at c.args.types.now)) (first (term_refusal (arity_of h) (tree c.args.term.now)) (terms_refusal (arity_of h) (hints_forms written))) (given_refusal h written) meta c.refused.result
    (c.have_meta.ensures ∙ ap (λ b. if b then Some meta else None) c.if-have_meta.true) c.refused.ensures

pub returns-in_err-term-clause-refused : goal.returns-in_err-term-clause-refused
returns-in_err-term-clause-refused c =
    let meta = out_of_scope (codes "META") in
    let h = events_at c.args.bank.now c.args.history.now in
    let written = hints_at c.args.hints.now in
    let types = types_refusal (types_at c.args.types.now) in
    let one = term_refusal (arity_of h) (tree c.args.term.now) in
    let others = terms_refusal (arity_of h) (hints_forms written) in
    let came = c.in_err-term.field-0.0 in
    told_on c.from_residual-in_err-term.result came (first (first types (first one others)) (given_refusal h written)) c.from_residual-in_err-term.ensures.1
    (after_types_told types (first one others) (given_refusal h written) came (c.have_meta.ensures ∙ ap (λ b. if b then Some meta else None) c.if-have_meta.false) (told_first one others came c.in_err-term.ensures.refused))

pub returns-in_err-hints-clause-refused : goal.returns-in_err-hints-clause-refused
returns-in_err-hints-clause-refused c =
    let meta = out_of_scope (codes "META") in
    let h = events_at c.args.bank.now c.args.history.now in
    let written = hints_at c.args.hints.now in
    let types = types_refusal (types_at c.args.types.now) in
    let one = term_refusal (arity_of h) (tree c.args.term.now) in
    let others = terms_refusal (arity_of h) (hints_forms written) in
    let came = c.in_err-hints.field-0.0 in
    let past = events_at-grown c.args.bank.now c.term_in.new.bank c.term_in.ensures.grows c.args.history.now c.requires.entries in
    told_on c.from_residual-in_err-hints.result came (first (first types (first one others)) (given_refusal h written)) c.from_residual-in_err-hints.ensures.1
    (subst (λ r. IsToldOf r came) (sym (in_turn types one others (given_refusal h written) (c.have_meta.ensures ∙ ap (λ b. if b then Some meta else None) c.if-have_meta.false) c.in_ok-term.ensures.read.unrefused))
    (subst (λ z. IsToldOf (first (terms_refusal (arity_of z) (hints_forms written)) (given_refusal z written)) came) past c.in_err-hints.ensures.refused))

pub returns-clause-read : goal.returns-clause-read
returns-clause-read c =
    let meta = out_of_scope (codes "META") in
    let h = events_at c.args.bank.now c.args.history.now in
    let written = hints_at c.args.hints.now in
    let types = types_refusal (types_at c.args.types.now) in
    let one = term_refusal (arity_of h) (tree c.args.term.now) in
    let others = terms_refusal (arity_of h) (hints_forms written) in
    let mid = c.term_in.new.bank in
    let after = c.hints_in.new.bank in
    let new = c.name.new.self in
    let named = c.in_ok-name.ensures.ok in
    let read = c.in_ok-term.ensures.read in
    let past = events_at-grown c.args.bank.now mid c.term_in.ensures.grows c.args.history.now c.requires.entries in
    let hints = subst (λ z. IsReadAs (HintsStand after) (hints_of after) (first (terms_refusal (arity_of z) (hints_forms written)) (given_refusal z written)) (hints_given z written) c.in_ok-hints.hints) past c.in_ok-hints.ensures.read in
    let grows = Grows-trans mid after new c.hints_in.ensures.grows named.grows in
    record {
      stands = (record { name_is = named.named; term_is = Stands-grown mid new c.in_ok-term.term grows read.stands }, hints_keep after new named.grows c.in_ok-hints.hints hints.stands);
      unrefused = in_turn types one others (given_refusal h written) (c.have_meta.ensures ∙ ap (λ b. if b then Some meta else None) c.if-have_meta.false) read.unrefused ∙ hints.unrefused;
      is =
          lemma_is (text_at new c.in_ok-name.name) c.args.name.now (map class_of c.in_ok-classes.classes.items) (classes_of (types_at c.args.types.now)) (term_at new c.in_ok-term.term) (term_in h (tree c.args.term.now)) (hints_of new c.in_ok-hints.hints) (hints_given h written)
          named.reads c.in_ok-classes.ensures (term_at-grown mid new c.in_ok-term.term grows read.stands ∙ read.is) (hints_same after new named.grows c.in_ok-hints.hints hints.stands ∙ hints.is);
    }
