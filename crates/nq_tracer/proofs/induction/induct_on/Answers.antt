use Rattle.std.proofs.Common.{List, sym, subst}
use Rattle.std.specs.Prelude.{IfOk, IfSome}
use Rattle.nq_logic.specs.Terms.{Term}
use Rattle.nq_logic.specs.Histories.{History}
use Rattle.nq_bank.specs.Content.{IsIdOf, term_at, terms_at}
use Rattle.nq_bank.proofs.Growth.{terms_at-grown}
use Rattle.nq_history.specs.Events.{events_at}
use Rattle.nq_history.proofs.HistoryLemmas.{events_at-grown, history_grown}
use Rattle.nq_kernel.specs.Ready.{IsReady}
use Rattle.nq_goals.specs.Inducting.{claim_of}
use Rattle.nq_tracer.specs.Leads.{IsInduction}
use Rattle.nq_tracer.proofs.ClaimLemmas.{overs_grown}
use Rattle.nq_tracer.proofs.induction.induct_on.Goals as goal

pub induct_claim-requires-clause-history : goal.induct_claim-requires-clause-history
induct_claim-requires-clause-history c = history_grown c.args.bank.now c.claim_of.new.bank c.in-Ok.ensures.grows c.args.history.now c.requires.history

pub induct_claim-requires-clause-ready : goal.induct_claim-requires-clause-ready
induct_claim-requires-clause-ready c = subst IsReady (sym (events_at-grown c.args.bank.now c.claim_of.new.bank c.in-Ok.ensures.grows c.args.history.now c.requires.history.entries)) c.requires.ready

pub induct_claim-requires-clause-over : goal.induct_claim-requires-clause-over
induct_claim-requires-clause-over c = overs_grown c.args.bank.now c.claim_of.new.bank c.args.history.now c.args.goal.now c.in-Ok.ensures.grows c.requires.history c.requires.goal c.requires.over

pub induct_claim-requires-clause-claim : goal.induct_claim-requires-clause-claim
induct_claim-requires-clause-claim c =
    subst (λ (ts : List Term). IsIdOf c.claim_of.new.bank c.in-Ok.p (claim_of ts)) (sym (terms_at-grown c.args.bank.now c.claim_of.new.bank c.args.goal.now c.in-Ok.ensures.grows c.requires.goal)) c.in-Ok.ensures.ok

pub returns-in-Ok-clause-leads : goal.returns-in-Ok-clause-leads
returns-in-Ok-clause-leads c =
    let old = c.args.bank.now in
    let new = c.claim_of.new.bank in
    let last = c.induct_claim.new.bank in
    let ids = c.args.goal.now in
    let there =
    subst (λ (ts : List Term). IfOk c.induct_claim.result (λ found. IfSome found (λ n. IsInduction (events_at new c.args.history.now) ts (term_at last n.base) (term_at last n.step)))) (terms_at-grown old new ids c.in-Ok.ensures.grows c.requires.goal)
    c.induct_claim.ensures.leads in
    subst (λ (h : History). IfOk c.induct_claim.result (λ found. IfSome found (λ n. IsInduction h (terms_at old ids) (term_at last n.base) (term_at last n.step)))) (events_at-grown old new c.in-Ok.ensures.grows c.args.history.now c.requires.history.entries) there
