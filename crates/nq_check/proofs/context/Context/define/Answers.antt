use Rattle.std.proofs.Common.{sym, subst, List}
use Rattle.std.specs.Prelude.{IfOk, Option, Some, None}
use Rattle.nq_logic.specs.Terms.{Name, Term}
use Rattle.nq_bank.specs.declared.node.Sym.{Sym}
use Rattle.nq_bank.specs.declared.node.TermId.{TermId}
use Rattle.nq_bank.specs.Content.{term_at, text_at}
use Rattle.nq_bank.specs.Shells.{texts_at}
use Rattle.nq_log.specs.States.{Step}
use Rattle.nq_check.specs.Contexts.{state_of}
use Rattle.nq_check.specs.Definitions.{Admits}
use Rattle.nq_check.specs.Judging.{Leads}
use Rattle.nq_check.proofs.DefinitionLemmas.{admitted_so, not_admitted}
use Rattle.nq_check.proofs.context.Context.define.Goals as goal

pub returns-in-Some : goal.returns-in-Some
returns-in-Some c =
    let old = c.args.self.now in
    let f : Name = text_at old.bank c.args.f in
    let t : Term = term_at old.bank c.args.body in
    let by = subst (λ (ids : List Sym). Admits old f (texts_at old.bank ids) t (Some c.in-Some.measure)) c.as_slice.ensures.value
    (subst (λ (o : Option (Option TermId)). Admits old f (texts_at old.bank c.as_slice.result.now) t o) c.in-Some.is c.in_ok-measure.ensures) in
    subst (λ (o : Option Step). IfOk c.claim_definition.result (λ judged. Leads (state_of old) o judged c.claim_definition.new.self)) (sym (admitted_so old c.args.f c.args.formals c.args.body c.in-Some.measure by)) c.claim_definition.ensures

pub returns-in-None : goal.returns-in-None
returns-in-None c =
    let old = c.args.self.now in
    let f : Name = text_at old.bank c.args.f in
    let t : Term = term_at old.bank c.args.body in
    not_admitted (state_of old) f (texts_at old.bank c.args.formals.items) t
    (subst (λ (ids : List Sym). Admits old f (texts_at old.bank ids) t None) c.as_slice.ensures.value
    (subst (λ (o : Option (Option TermId)). Admits old f (texts_at old.bank c.as_slice.result.now) t o) c.in-None.is c.in_ok-measure.ensures))
