use Rattle.std.proofs.Common.{◌≡◌, sym, ap, ◌∙◌, subst}
use Rattle.std.specs.Prelude.{Ok}
use Rattle.nq_bank.specs.Content.{term_at}
use Rattle.nq_language.specs.Refusals.{translation}
use Rattle.nq_sexp.specs.Tree.{tree}
use Rattle.nq_events.specs.TermRefusals.{language_refusal, term_refusal}
use Rattle.nq_event.specs.Arities.{arities_at}
use Rattle.nq_event.specs.Readings.{IsToldOf}
use Rattle.nq_event.proofs.ArityLemmas.{arities_are}
use Rattle.nq_event.proofs.ToldLemmas.{term_is}
use Rattle.nq_event.proofs.terms.term_by.Goals as goal

pub returns-in-Ok-clause-read : goal.returns-in-Ok-clause-read
returns-in-Ok-clause-read c =
    let form = tree c.args.form.now in
    let arity = arities_at c.args.bank.now c.args.functions.now in
    let t = term_at c.translate.new.bank c.in-Ok.t in
    let same = arities_are c.args.bank.now c.args.functions.now c.is_sound.ensures c.requires in
    let meant : translation arity form ≡ Ok t = ap (λ a. translation a form) (sym same) ∙ c.in-Ok.ensures.term.is in
    record {
      stands = c.in-Ok.ensures.term.stands;
      unrefused = ap language_refusal meant;
      is = term_is arity form t meant;
    }

pub returns-in-Err-clause-refused : goal.returns-in-Err-clause-refused
returns-in-Err-clause-refused c =
    let form = tree c.args.form.now in
    let same = arities_are c.args.bank.now c.args.functions.now c.is_sound.ensures c.requires in
    subst (λ a. IsToldOf (term_refusal a form) c.term_fault.result) same (c.term_fault.ensures _ c.in-Err.ensures.refused)
