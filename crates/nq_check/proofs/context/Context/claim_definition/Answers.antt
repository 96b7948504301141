use Rattle.std.proofs.Common.{[], ◌∷◌, ◌++◌, List, sym, ap, ◌∙◌, subst}
use Rattle.std.specs.Prelude.{IfOk, codes}
use Rattle.nq_logic.specs.Histories.{Event}
use Rattle.nq_logic.specs.Terms.{Name, Term}
use Rattle.nq_bank.specs.declared.node.Sym.{Sym}
use Rattle.nq_bank.specs.Content.{term_at, text_at}
use Rattle.nq_bank.specs.Shells.{texts_at}
use Rattle.nq_bank.proofs.Growth.{term_at-grown, text_at-grown}
use Rattle.nq_history.proofs.ShellLemmas.{texts-grown}
use Rattle.nq_check.proofs.DefinitionLemmas.{equation_is}
use Rattle.nq_history.specs.declared.entry.EntryKind.TheVariants as kind
use Rattle.nq_history.specs.Events.{event_of}
use Rattle.nq_log.specs.States.{State, Adds, only_when}
use Rattle.nq_language.specs.Printing.{printed}
use Rattle.nq_log.specs.Logs.{claimed}
use Rattle.nq_check.specs.Claims.{event_named, has_place}
use Rattle.nq_check.specs.Contexts.{state_of}
use Rattle.nq_check.specs.Judging.{Leads}
use Rattle.nq_check.proofs.ContextLemmas.{whole_grown, state_grown}
use Rattle.nq_check.proofs.ClaimLemmas.{event_is}
use Rattle.nq_check.proofs.context.Context.claim_definition.Goals as goal

pub add_entry-requires-clause-whole : goal.add_entry-requires-clause-whole
add_entry-requires-clause-whole c = whole_grown c.args.self.now c.defining_equation.new.bank c.defining_equation.ensures.grows c.requires.whole

pub add_entry-requires-clause-text : goal.add_entry-requires-clause-text
add_entry-requires-clause-text c =
    let old = c.args.self.now in
    let late = c.defining_equation.new.bank in
    let grows = c.defining_equation.ensures.grows in
    let formals = ap (λ (ids : List Sym). texts_at old.bank ids) c.as_slice.ensures.value ∙ sym (texts-grown old.bank late grows c.args.formals.items c.requires.formals) in
    let equation =
    c.in_ok-equation.ensures.is.denotes
    ∙ equation_is (text_at old.bank c.args.f) (text_at late c.args.f) (texts_at old.bank c.as_slice.result.now) (texts_at late c.args.formals.items) (term_at old.bank c.args.body) (term_at late c.args.body)
    (sym (text_at-grown old.bank late c.args.f grows c.requires.function)) formals (sym (term_at-grown old.bank late c.args.body grows c.requires.body)) in
    c.in_ok-text.ensures
    ∙ ap (λ (n : Name). (codes "DEFN " ++ (n ++ (codes ": " ++ printed (term_at late c.in_ok-equation.equation)))) ++ (10 ∷ [])) c.text.ensures.value
    ∙ ap (λ (u : Term). (codes "DEFN " ++ (text_at late c.args.f ++ (codes ": " ++ printed u))) ++ (10 ∷ [])) equation

pub returns : goal.returns
returns c =
    let old = c.args.self.now in
    let late = c.defining_equation.new.bank in
    let grows = c.defining_equation.ensures.grows in
    let r = c.add_entry.result in
    let new = c.add_entry.new.self in
    let f : Name = text_at old.bank c.args.f in
    let k = kind.Defn c.args.formals c.args.body c.args.measure in
    let reads = text_at-grown old.bank late c.args.f grows c.requires.function in
    let is = event_is old.bank late grows f c.args.f k reads (record { formals = c.requires.formals; body = c.requires.body; measure = c.requires.measure }) in
    let after = record old { bank = late } in
    subst (λ (s : State). IfOk r (λ judged. Leads s (claimed (only_when (has_place s.history f) (Adds (event_named old.bank f k)))) judged new)) (sym (state_grown old late grows c.requires.whole))
    (subst (λ (e : Event). IfOk r (λ judged. Leads (state_of after) (claimed (only_when (has_place (state_of after).history f) (Adds e))) judged new)) is
    (subst (λ (n : Name). IfOk r (λ judged. Leads (state_of after) (claimed (only_when (has_place (state_of after).history n) (Adds (event_of late c.args.f k)))) judged new)) reads
    c.add_entry.ensures))
