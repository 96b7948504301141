use Rattle.std.proofs.Common.{refl, ◌∙◌, subst}
use Rattle.std.specs.Prelude.{All, None, Some, map}
use Rattle.nq_language.specs.Translation.{translated}
use Rattle.nq_bank.specs.Content.{Stands, term_at, text_at}
use Rattle.nq_bank.proofs.Growth.{Grows-trans, Stands-grown, IsNamed-grown, text_at-grown, term_at-grown}
use Rattle.nq_sexp.specs.Tree.{tree}
use Rattle.nq_history.specs.Events.{events_at}
use Rattle.nq_history.proofs.HistoryLemmas.{events_at-grown, history_grown}
use Rattle.nq_history.proofs.ShellLemmas.{texts-grown, names-grown}
use Rattle.nq_events.specs.TermRefusals.{arity_with, first, measure_forms, term_refusal, terms_refusal}
use Rattle.nq_events.specs.Reading.{measure_given}
use Rattle.nq_bank.specs.Shells.{texts_at}
use Rattle.nq_event.specs.declared.arities.Functions.{Functions}
use Rattle.nq_event.specs.Arities.{FunctionsStand}
use Rattle.nq_event.specs.EventsAt.{measure_at, MeasureStands}
use Rattle.nq_event.specs.Readings.{IsReadAs, IsToldOf}
use Rattle.nq_event.specs.Shapes.{measures_at, names_at}
use Rattle.nq_event.proofs.ArityLemmas.{arities_grown}
use Rattle.nq_event.proofs.EventLemmas.{with_arities, count_texts, defn_is, none_of_two}
use Rattle.nq_event.proofs.ToldLemmas.{first_none, told_first, told_on, told_second}
use Rattle.nq_event.proofs.term_events.defined_event.Goals as goal

pub term_by-requires : goal.term_by-requires
term_by-requires c =
    let start = c.args.bank.now in
    let first_bank = c.name.new.self in
    let second = c.names_of.new.bank in
    let named = c.in_ok-name.ensures.ok in
    record { history = history_grown start second (Grows-trans start first_bank second named.grows c.names_of.ensures.grows) c.args.history.now c.requires; defined = IsNamed-grown first_bank second c.in_ok-name.name c.names_of.ensures.grows named.named }

pub measures_by-requires : goal.measures_by-requires
measures_by-requires c =
    let start = c.args.bank.now in
    let first_bank = c.name.new.self in
    let second = c.names_of.new.bank in
    let third = c.term_by.new.bank in
    let named = c.in_ok-name.ensures.ok in
    let grows = Grows-trans first_bank second third c.names_of.ensures.grows c.term_by.ensures.grows in
    record { history = history_grown start third (Grows-trans start first_bank third named.grows grows) c.args.history.now c.requires; defined = IsNamed-grown first_bank third c.in_ok-name.name grows named.named }

pub returns-in_err-body-clause-refused : goal.returns-in_err-body-clause-refused
returns-in_err-body-clause-refused c =
    let start = c.args.bank.now in
    let first_bank = c.name.new.self in
    let second = c.names_of.new.bank in
    let named = c.in_ok-name.ensures.ok in
    let names = c.in_ok-formals.ensures.names in
    let until = Grows-trans start first_bank second named.grows c.names_of.ensures.grows in
    let functions : Functions = record { history = c.args.history; defined = Some (record { name = c.in_ok-name.name; arity = c.len.result }) } in
    let stand : FunctionsStand second functions = record { history = history_grown start second until c.args.history.now c.requires; defined = IsNamed-grown first_bank second c.in_ok-name.name c.names_of.ensures.grows named.named } in
    let h = events_at start c.args.history.now in
    let x = c.args.name.now in
    let xs = names_at c.args.formals.now in
    let arity = arity_with h x xs in
    let form = tree c.args.body.now in
    let written = measures_at c.args.measures.now in
    let count = c.len.ensures ∙ c.in_ok-formals.formals.ok.0 ∙ count_texts second c.in_ok-formals.formals.items xs names.read in
    let same = with_arities second functions (record { name = c.in_ok-name.name; arity = c.len.result }) h x xs refl (events_at-grown start second until c.args.history.now c.requires.entries) (text_at-grown first_bank second c.in_ok-name.name c.names_of.ensures.grows named.named ∙ named.reads) count in
    let one = term_refusal arity form in
    let others = terms_refusal arity (measure_forms written) in
    told_on c.from_residual-in_err-body.result c.in_err-body.field-0.0 (first (first one others) None) c.from_residual-in_err-body.ensures.1
    (told_first (first one others) None c.in_err-body.field-0.0 (told_first one others c.in_err-body.field-0.0 (subst (λ a. IsToldOf (term_refusal a form) c.in_err-body.field-0.0) same c.in_err-body.ensures.refused)))

pub returns-in_err-measures-clause-refused : goal.returns-in_err-measures-clause-refused
returns-in_err-measures-clause-refused c =
    let start = c.args.bank.now in
    let first_bank = c.name.new.self in
    let second = c.names_of.new.bank in
    let named = c.in_ok-name.ensures.ok in
    let names = c.in_ok-formals.ensures.names in
    let until = Grows-trans start first_bank second named.grows c.names_of.ensures.grows in
    let functions : Functions = record { history = c.args.history; defined = Some (record { name = c.in_ok-name.name; arity = c.len.result }) } in
    let stand : FunctionsStand second functions = record { history = history_grown start second until c.args.history.now c.requires; defined = IsNamed-grown first_bank second c.in_ok-name.name c.names_of.ensures.grows named.named } in
    let h = events_at start c.args.history.now in
    let x = c.args.name.now in
    let xs = names_at c.args.formals.now in
    let arity = arity_with h x xs in
    let form = tree c.args.body.now in
    let written = measures_at c.args.measures.now in
    let count = c.len.ensures ∙ c.in_ok-formals.formals.ok.0 ∙ count_texts second c.in_ok-formals.formals.items xs names.read in
    let same = with_arities second functions (record { name = c.in_ok-name.name; arity = c.len.result }) h x xs refl (events_at-grown start second until c.args.history.now c.requires.entries) (text_at-grown first_bank second c.in_ok-name.name c.names_of.ensures.grows named.named ∙ named.reads) count in
    let one = term_refusal arity form in
    let others = terms_refusal arity (measure_forms written) in
    let third = c.term_by.new.bank in
    let then_same = arities_grown second third functions c.term_by.ensures.grows stand ∙ same in
    let body = subst (λ a. IsReadAs (Stands third) (term_at third) (term_refusal a form) (translated a form) c.in_ok-body.body) same c.in_ok-body.ensures.read in
    told_on c.from_residual-in_err-measures.result c.in_err-measures.field-0.0 (first (first one others) None) c.from_residual-in_err-measures.ensures.1
    (told_first (first one others) None c.in_err-measures.field-0.0 (told_second one others c.in_err-measures.field-0.0 body.unrefused (subst (λ a. IsToldOf (terms_refusal a (measure_forms written)) c.in_err-measures.field-0.0) then_same c.in_err-measures.ensures.refused)))

pub returns-clause-read : goal.returns-clause-read
returns-clause-read c =
    let start = c.args.bank.now in
    let first_bank = c.name.new.self in
    let second = c.names_of.new.bank in
    let named = c.in_ok-name.ensures.ok in
    let names = c.in_ok-formals.ensures.names in
    let until = Grows-trans start first_bank second named.grows c.names_of.ensures.grows in
    let functions : Functions = record { history = c.args.history; defined = Some (record { name = c.in_ok-name.name; arity = c.len.result }) } in
    let stand : FunctionsStand second functions = record { history = history_grown start second until c.args.history.now c.requires; defined = IsNamed-grown first_bank second c.in_ok-name.name c.names_of.ensures.grows named.named } in
    let h = events_at start c.args.history.now in
    let x = c.args.name.now in
    let xs = names_at c.args.formals.now in
    let arity = arity_with h x xs in
    let form = tree c.args.body.now in
    let written = measures_at c.args.measures.now in
    let count = c.len.ensures ∙ c.in_ok-formals.formals.ok.0 ∙ count_texts second c.in_ok-formals.formals.items xs names.read in
    let same = with_arities second functions (record { name = c.in_ok-name.name; arity = c.len.result }) h x xs refl (events_at-grown start second until c.args.history.now c.requires.entries) (text_at-grown first_bank second c.in_ok-name.name c.names_of.ensures.grows named.named ∙ named.reads) count in
    let one = term_refusal arity form in
    let others = terms_refusal arity (measure_forms written) in
    let third = c.term_by.new.bank in
    let then_same = arities_grown second third functions c.term_by.ensures.grows stand ∙ same in
    let body = subst (λ a. IsReadAs (Stands third) (term_at third) (term_refusal a form) (translated a form) c.in_ok-body.body) same c.in_ok-body.ensures.read in
    let fourth = c.measures_by.new.bank in
    let measures = subst (λ a. IsReadAs (λ ms. All (MeasureStands fourth) ms.items) (λ ms. map (measure_at fourth) ms.items) (terms_refusal a (measure_forms written)) (map (measure_given a) written) c.in_ok-measures.measures) then_same c.in_ok-measures.ensures.read in
    let from_second = Grows-trans second third fourth c.term_by.ensures.grows c.measures_by.ensures.grows in
    let from_first = Grows-trans first_bank second fourth c.names_of.ensures.grows from_second in
    record {
      stands = record {
        declared = record { name_is = IsNamed-grown first_bank fourth c.in_ok-name.name from_first named.named; formals_are = names-grown second fourth from_second c.in_ok-formals.formals.items names.stand };
        body_is = Stands-grown third fourth c.in_ok-body.body c.measures_by.ensures.grows body.stands;
        measures_are = measures.stands;
      };
      unrefused = first_none (first one others) ∙ none_of_two one others body.unrefused measures.unrefused;
      is =
          defn_is (text_at fourth c.in_ok-name.name) x (texts_at fourth c.in_ok-formals.formals.items) xs (term_at fourth c.in_ok-body.body) (translated arity form) (map (measure_at fourth) c.in_ok-measures.measures.items) (map (measure_given arity) written)
          (text_at-grown first_bank fourth c.in_ok-name.name from_first named.named ∙ named.reads)
          (texts-grown second fourth from_second c.in_ok-formals.formals.items names.stand ∙ names.read)
          (term_at-grown third fourth c.in_ok-body.body c.measures_by.ensures.grows body.stands ∙ body.is)
          measures.is;
    }
