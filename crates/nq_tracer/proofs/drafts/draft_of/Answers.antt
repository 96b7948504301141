use Rattle.std.proofs.Common.{◌≡◌, ◌∙◌, ap}
use Rattle.std.proofs.lemmas.Result.{IfOk-weaker}
use Rattle.nq_logic.specs.Terms.{Substitution}
use Rattle.nq_logic.specs.Admissible.{matched}
use Rattle.nq_bank.specs.Content.{term_at, terms_at}
use Rattle.nq_bank.specs.Shells.{texts_at}
use Rattle.nq_clause.specs.Substitution.{substitution_at}
use Rattle.nq_calls.specs.Calls.{guards_at, site_at}
use Rattle.nq_tracer.specs.Cases.{case_by, case_there}
use Rattle.nq_tracer.specs.Leads.{draft_at}
use Rattle.nq_tracer.proofs.drafts.draft_of.Goals as goal

pub returns-clause-is : goal.returns-clause-is
returns-clause-is c =
    let old = c.args.bank.now in
    let new = c.draft_there.new.bank in
    let m = term_at old c.args.measure in
    let here = substitution_at old c.args.here.now in
    let tests = guards_at old c.args.site.now.guards.items in
    let formals = texts_at old c.args.formals.now in
    IfOk-weaker c.draft_there.result (λ r. draft_at new r ≡ case_there m here (substitution_at old c.as_slice-2.result.now) tests) (λ r. draft_at new r ≡ case_by formals m here (site_at old c.args.site.now))
    (λ r is.
    is
    ∙ ap (λ (there : Substitution). case_there m here there tests)
    (ap (substitution_at old) c.as_slice-2.ensures.value ∙ c.in-Ok.ensures.pairs ∙ ap (λ ids. matched formals (terms_at old ids)) c.as_slice.ensures.value))
    c.draft_there.ensures.is
