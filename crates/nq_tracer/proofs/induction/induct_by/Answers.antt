use Rattle.std.proofs.Common.{[], ◌∷◌, sym, subst}
use Rattle.std.specs.Prelude.{IfSome, List}
use Rattle.std.proofs.lemmas.Result.{IfOk-weaker}
use Rattle.nq_logic.specs.Terms.{Term}
use Rattle.nq_bank.specs.Content.{IsIdOf, term_at, terms_at}
use Rattle.nq_bank.proofs.Growth.{Stands-grown, terms_at-grown}
use Rattle.nq_history.specs.Events.{events_at}
use Rattle.nq_history.proofs.HistoryLemmas.{events_at-grown, history_grown}
use Rattle.nq_kernel.specs.Ready.{IsReady}
use Rattle.nq_goals.specs.Inducting.{claim_of}
use Rattle.nq_tracer.specs.Leads.{IsInductionBy, IsInductionOf}
use Rattle.nq_tracer.proofs.ClaimLemmas.{over_grown}
use Rattle.nq_tracer.proofs.LeadSteps.{found_alone}
use Rattle.nq_tracer.proofs.induction.induct_by.Goals as goal

pub induct_claim_by-requires-clause-history : goal.induct_claim_by-requires-clause-history
induct_claim_by-requires-clause-history c = history_grown c.args.bank.now c.claim_of.new.bank c.in-Ok.ensures.grows c.args.history.now c.requires.history

pub induct_claim_by-requires-clause-ready : goal.induct_claim_by-requires-clause-ready
induct_claim_by-requires-clause-ready c = subst IsReady (sym (events_at-grown c.args.bank.now c.claim_of.new.bank c.in-Ok.ensures.grows c.args.history.now c.requires.history.entries)) c.requires.ready

pub induct_claim_by-requires-clause-claim : goal.induct_claim_by-requires-clause-claim
induct_claim_by-requires-clause-claim c =
    subst (λ (ts : List Term). IsIdOf c.claim_of.new.bank c.in-Ok.p (claim_of ts)) (sym (terms_at-grown c.args.bank.now c.claim_of.new.bank c.args.goal.now c.in-Ok.ensures.grows c.requires.goal)) c.in-Ok.ensures.ok

pub induct_claim_by-requires-clause-call : goal.induct_claim_by-requires-clause-call
induct_claim_by-requires-clause-call c = Stands-grown c.args.bank.now c.claim_of.new.bank c.args.call c.in-Ok.ensures.grows c.requires.call

pub induct_claim_by-requires-clause-over : goal.induct_claim_by-requires-clause-over
induct_claim_by-requires-clause-over c = over_grown c.args.bank.now c.claim_of.new.bank c.args.history.now c.args.call c.in-Ok.ensures.grows c.requires.history c.requires.call c.requires.over.over

pub returns-in-Ok-clause-leads : goal.returns-in-Ok-clause-leads
returns-in-Ok-clause-leads c =
    let old = c.args.bank.now in
    let middle = c.claim_of.new.bank in
    let new = c.induct_claim_by.new.bank in
    let history = c.args.history.now in
    let ids = c.args.goal.now in
    IfOk-weaker c.induct_claim_by.result (λ found. IfSome found (λ n. IsInductionOf (events_at middle history) (term_at middle c.args.call) (terms_at middle ids) (term_at new n.base) (term_at new n.step)))
    (λ found. IfSome found (λ n. IsInductionBy (events_at old history) (term_at old c.args.call ∷ []) (terms_at old ids) (term_at new n.base) (term_at new n.step)))
    (λ found leads. found_alone old middle new history ids c.args.call found c.in-Ok.ensures.grows c.requires.history c.requires.goal c.requires.call leads) c.induct_claim_by.ensures.leads
