use Rattle.std.proofs.Common.{◌≡◌, get_or, sym, subst}
use Rattle.nq_bank.specs.Content.{term_at}
use Rattle.nq_bank.specs.Shells.{texts_at}
use Rattle.nq_clause.specs.Substitution.{substitution_at}
use Rattle.nq_calls.specs.declared.calls.Site.{Site}
use Rattle.nq_calls.specs.Calls.{SiteStands, site_at}
use Rattle.nq_tracer.specs.Leads.{LeadsFrom}
use Rattle.nq_tracer.proofs.LeadSteps.{leads_from, site_other}
use Rattle.nq_tracer.proofs.leading.lead_from.Goals as goal

pub draft_of-requires-clause-site : goal.draft_of-requires-clause-site
draft_of-requires-clause-site c = subst (SiteStands c.args.bank.now) (sym c.index-sites-place.is) (c.requires.sites c.args.place c.index-sites-place.result c.requires.place)

pub returns-clause-leads : goal.returns-clause-leads
returns-clause-leads c =
    let old = c.args.bank.now in
    let b1 = c.draft_of.new.bank in
    let site : Site = c.index-sites-place.result in
    λ d.
    let is : site ≡ get_or c.args.sites.now c.args.place d = site_other c.args.sites.now c.args.place site d c.requires.place c.index-sites-place.is in
    subst (λ (s : Site). LeadsFrom (texts_at old c.args.definition.formals.now) (term_at old c.args.measure) (substitution_at old c.args.here.now) (site_at old s) (term_at old c.args.p) c.nexts_of.new.bank c.in_ok-nexts.nexts) is
    (leads_from old b1 c.nexts_of.new.bank (texts_at old c.args.definition.formals.now) (term_at old c.args.measure) (substitution_at old c.args.here.now) (site_at old site) c.args.p c.in_ok-draft.draft c.in_ok-nexts.nexts c.draft_of.ensures.grows c.requires.claim
    c.in_ok-draft.ensures.is c.in_ok-nexts.ensures.base c.in_ok-nexts.ensures.step)
