use Rattle.std.proofs.Common.{ap, ◌∙◌, map, codes}
use Rattle.std.specs.Prelude.{None, Some, if◌then◌else◌}
use Rattle.nq_bank.specs.Content.{term_at, text_at}
use Rattle.nq_bank.proofs.Growth.{Stands-grown, term_at-grown}
use Rattle.nq_sexp.specs.Tree.{tree}
use Rattle.nq_history.specs.Events.{class_of, events_at}
use Rattle.nq_events.specs.Refusals.{out_of_scope}
use Rattle.nq_events.specs.TermRefusals.{arity_of, first, term_refusal, types_refusal}
use Rattle.nq_events.specs.HintTerms.{term_in}
use Rattle.nq_events.specs.Reading.{classes_of}
use Rattle.nq_event.specs.Shapes.{types_at}
use Rattle.nq_event.proofs.EventLemmas.{types_told, after_types_told, axiom_is, none_of_two}
use Rattle.nq_event.proofs.ToldLemmas.{first_none, told_on}
use Rattle.nq_event.proofs.term_events.axiom_event.Goals as goal

pub returns-then-have_meta-clause-refused : goal.returns-then-have_meta-clause-refused
returns-then-have_meta-clause-refused c =
    let meta = out_of_scope (codes "META") in
    let h = events_at c.args.bank.now c.args.history.now in
    types_told (types_refusal (types_at c.args.types.now)) (term_refusal (arity_of h) (tree c.args.term.now)) None meta c.refused.result (c.have_meta.ensures ∙ ap (λ b. if b then Some meta else None) c.if-have_meta.true) c.refused.ensures

pub returns-in_err-term-clause-refused : goal.returns-in_err-term-clause-refused
returns-in_err-term-clause-refused c =
    let meta = out_of_scope (codes "META") in
    let h = events_at c.args.bank.now c.args.history.now in
    let types = types_refusal (types_at c.args.types.now) in
    let one = term_refusal (arity_of h) (tree c.args.term.now) in
    told_on c.from_residual-in_err-term.result c.in_err-term.field-0.0 (first (first types one) None) c.from_residual-in_err-term.ensures.1
    (after_types_told types one None c.in_err-term.field-0.0 (c.have_meta.ensures ∙ ap (λ b. if b then Some meta else None) c.if-have_meta.false) c.in_err-term.ensures.refused)

pub returns-clause-read : goal.returns-clause-read
returns-clause-read c =
    let meta = out_of_scope (codes "META") in
    let h = events_at c.args.bank.now c.args.history.now in
    let types = types_refusal (types_at c.args.types.now) in
    let one = term_refusal (arity_of h) (tree c.args.term.now) in
    let mid = c.term_in.new.bank in
    let new = c.name.new.self in
    let named = c.in_ok-name.ensures.ok in
    let read = c.in_ok-term.ensures.read in
    record {
      stands = record { name_is = named.named; term_is = Stands-grown mid new c.in_ok-term.term named.grows read.stands };
      unrefused = first_none (first types one) ∙ none_of_two types one (c.have_meta.ensures ∙ ap (λ b. if b then Some meta else None) c.if-have_meta.false) read.unrefused;
      is =
          axiom_is (text_at new c.in_ok-name.name) c.args.name.now (map class_of c.in_ok-classes.classes.items) (classes_of (types_at c.args.types.now)) (term_at new c.in_ok-term.term) (term_in h (tree c.args.term.now))
          named.reads c.in_ok-classes.ensures (term_at-grown mid new c.in_ok-term.term named.grows read.stands ∙ read.is);
    }
