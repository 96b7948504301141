use Rattle.std.proofs.Common.{◌∙◌, List, ap, sym, subst}
use Rattle.std.specs.Prelude.{IfSome}
use Rattle.std.proofs.lemmas.Result.{IfOk-weaker}
use Rattle.nq_bank.specs.declared.node.TermId.{TermId}
use Rattle.nq_bank.specs.Content.{term_at, terms_at}
use Rattle.nq_history.specs.Events.{events_at}
use Rattle.nq_event.specs.Definitions.{definition_at}
use Rattle.nq_tracer.specs.Leads.{IsInductionOf, IsSuggestedBy, LeadsBy}
use Rattle.nq_tracer.proofs.LeadSteps.{leads_on_found}
use Rattle.nq_tracer.proofs.leading.lead_by.Goals as goal

pub returns-then-suggested-clause-leads : goal.returns-then-suggested-clause-leads
returns-then-suggested-clause-leads c =
    let bank = c.args.bank.now in
    let new = c.lead_with.new.bank in
    let history = c.args.history.now in
    let d = c.in-Some.definition in
    let measure = c.in-Some-measure.measure in
    let ids = c.as_slice-then-suggested.result.now in
    let same = c.as_slice.ensures.value ∙ sym c.as_slice-then-suggested.ensures.value in
    let suggested = subst (λ (l : List TermId). IsSuggestedBy bank d measure c.args.t l) same (c.in-Ok-is_suggestion.ensures c.if-suggested.true) in
    IfOk-weaker c.lead_with.result (λ found. IfSome found (LeadsBy (definition_at bank d) (term_at bank measure) (terms_at bank ids) (term_at bank c.args.p) new))
    (λ found. IfSome found (λ n. IsInductionOf (events_at bank history) (term_at bank c.args.t) (terms_at bank c.args.goal.now) (term_at new n.base) (term_at new n.step)))
    (λ found leads.
    leads_on_found c.definitions_fall.ensures c.calls_give_cases.ensures bank new history c.args.goal.now c.args.p c.args.t d measure ids found c.definition_called.result c.requires.ready c.requires.over c.requires.claim c.definition_called.ensures.is c.in-Some.is
    c.in-Some-measure.is (ap (terms_at bank) c.as_slice-then-suggested.ensures.value ∙ c.in-Ok.ensures.are) suggested leads)
    c.lead_with.ensures.leads
