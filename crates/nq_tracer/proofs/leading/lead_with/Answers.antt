use Rattle.std.proofs.Common.{◌∙◌, ◌≤◌, length, ap, arith}
use Rattle.nq_bank.specs.Content.{term_at}
use Rattle.nq_clause.specs.Substitution.{substitution_at}
use Rattle.nq_tracer.proofs.LeadSteps.{leads_by}
use Rattle.nq_tracer.proofs.leading.lead_with.Goals as goal

pub returns-clause-leads : goal.returns-clause-leads
returns-clause-leads c =
    let old = c.args.bank.now in
    let all = c.in_ok-sites.sites.items in
    let some : 1 ≤ length all = omega arith in
    leads_by old c.lead_from.new.bank c.args.definition (term_at old c.args.measure) (term_at old c.args.p) c.args.arguments.now c.as_slice-2.result.now all (substitution_at old c.as_slice.result.now) c.in_ok-nexts.nexts some c.as_slice-2.ensures.value
    c.in_ok-sites.ensures.calls (ap (substitution_at old) c.as_slice.ensures.value ∙ c.in_ok-here.ensures.pairs) c.in_ok-nexts.ensures.leads
