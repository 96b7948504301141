use Rattle.std.proofs.Common.{Option, subst}
use Rattle.std.specs.Prelude.{IfSome}
use Rattle.std.proofs.lemmas.Result.{IfOk-weaker}
use Rattle.nq_bank.specs.declared.node.TermId.{TermId}
use Rattle.nq_bank.specs.Content.{term_at, terms_at}
use Rattle.nq_history.specs.Events.{events_at}
use Rattle.nq_tracer.specs.Leads.{IsInduction, IsInductionOf, IsPartIn}
use Rattle.nq_tracer.proofs.LeadSteps.{call_in_goal, found_of_part}
use Rattle.nq_tracer.proofs.induction.induct_claim.Goals as goal

pub induct_claim_by-requires-clause-call : goal.induct_claim_by-requires-clause-call
induct_claim_by-requires-clause-call c =
    let found : IsPartIn c.args.bank.now c.args.goal.now c.in-Some.t = subst (λ (o : Option TermId). IfSome o (IsPartIn c.args.bank.now c.args.goal.now)) c.in-Some.is c.in_ok-found.ensures in
    found.part.stands

pub induct_claim_by-requires-clause-over : goal.induct_claim_by-requires-clause-over
induct_claim_by-requires-clause-over c =
    let found : IsPartIn c.args.bank.now c.args.goal.now c.in-Some.t = subst (λ (o : Option TermId). IfSome o (IsPartIn c.args.bank.now c.args.goal.now)) c.in-Some.is c.in_ok-found.ensures in
    call_in_goal c.args.bank.now c.args.history.now c.args.goal.now c.in-Some.t c.requires.over found

pub returns-in-Some-clause-leads : goal.returns-in-Some-clause-leads
returns-in-Some-clause-leads c =
    let old = c.args.bank.now in
    let new = c.induct_claim_by.new.bank in
    let h = events_at old c.args.history.now in
    let first = terms_at old c.args.goal.now in
    let part : IsPartIn old c.args.goal.now c.in-Some.t = subst (λ (o : Option TermId). IfSome o (IsPartIn old c.args.goal.now)) c.in-Some.is c.in_ok-found.ensures in
    IfOk-weaker c.induct_claim_by.result (λ found. IfSome found (λ n. IsInductionOf h (term_at old c.in-Some.t) first (term_at new n.base) (term_at new n.step))) (λ found. IfSome found (λ n. IsInduction h first (term_at new n.base) (term_at new n.step)))
    (λ found leads. found_of_part old new c.args.history.now c.args.goal.now c.in-Some.t found part leads) c.induct_claim_by.ensures.leads
