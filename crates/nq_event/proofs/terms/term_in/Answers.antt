use Rattle.std.proofs.Common.{subst, refl}
use Rattle.std.specs.Prelude.{IfOk, IfErr}
use Rattle.nq_bank.specs.Content.{Stands, term_at}
use Rattle.nq_language.specs.Translation.{translated}
use Rattle.nq_sexp.specs.Tree.{tree}
use Rattle.nq_events.specs.TermRefusals.{term_refusal}
use Rattle.nq_event.specs.Readings.{IsReadAs, IsToldOf}
use Rattle.nq_event.proofs.ArityLemmas.{history_arities}
use Rattle.nq_event.proofs.terms.term_in.Goals as goal

pub returns-clause-read : goal.returns-clause-read
returns-clause-read c =
    let form = tree c.args.form.now in
    let new = c.term_by.new.bank in
    subst (λ a. IfOk c.term_by.result (IsReadAs (Stands new) (term_at new) (term_refusal a form) (translated a form))) (history_arities c.args.bank.now _ c.args.history.now refl refl) c.term_by.ensures.read

pub returns-clause-refused : goal.returns-clause-refused
returns-clause-refused c =
    let form = tree c.args.form.now in
    subst (λ a. IfErr c.term_by.result (IsToldOf (term_refusal a form))) (history_arities c.args.bank.now _ c.args.history.now refl refl) c.term_by.ensures.refused
