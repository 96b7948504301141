use Rattle.std.proofs.Common.{◌≡◌, ◌∙◌, List, get_or, refl, sym, ap, subst}
use Rattle.nq_bank.specs.Content.{terms_at}
use Rattle.nq_rule.specs.declared.induction.CaseOfInduction.{CaseOfInduction}
use Rattle.nq_kernel.specs.declared.work.Work.{Work}
use Rattle.nq_lines.specs.Lines.{LineHasOnly}
use Rattle.nq_induct.specs.declared.scheme.Case.{Case}
use Rattle.nq_induct.specs.Schemes.{IsCaseIn}
use Rattle.nq_induct.specs.Goals.{contents_of, step_goal}
use Rattle.nq_induct.proofs.CaseLemmas.{case_at, case_shown, default_other}
use Rattle.nq_induct.proofs.closing.shown_case.Goals as goal

pub returns-clause-case : goal.returns-clause-case
returns-clause-case c =
    let h = c.args.history.now in
    let w0 : Work = c.args.work.now in
    let case : Case = c.index-cases-place.result in
    let cases : List Case = c.args.scheme.now.cases.items in
    let is : case ≡ get_or cases c.args.place case = c.index-cases-place.is ∙ ap (λ (cs : List Case). get_or cs c.args.place case) c.as_slice-cases.ensures.value in
    let there : IsCaseIn h w0 c.args.scheme.now.measure case = case_at h w0 c.args.scheme.now.measure cases cases c.args.place case refl c.requires.place is c.requires.scheme.cases in
    let told : LineHasOnly w0 c.args.line (step_goal w0.bank (terms_at w0.bank c.args.goal.now) case) = subst (λ (k : Case). LineHasOnly w0 c.args.line (step_goal w0.bank (terms_at w0.bank c.args.goal.now) k)) (sym is) (c.requires.line case) in
    let made : CaseOfInduction = record { test = case.test; line = c.in_ok-fact.fact.line; steps = c.in_ok-steps.steps } in
    case_shown h w0 c.gather.new.work c.requires.stands c.gather.ensures.grows c.args.scheme.now.measure case (terms_at w0.bank c.args.goal.now) c.args.line made c.requires.scheme.measure there told c.in_ok-fact.ensures.line refl
    (c.in_ok-steps.ensures.copy ∙ ap contents_of c.as_slice.ensures.value)

pub returns-clause-test : goal.returns-clause-test
returns-clause-test c =
    let case : Case = c.index-cases-place.result in
    let cases : List Case = c.args.scheme.now.cases.items in
    let is : case ≡ get_or cases c.args.place case = c.index-cases-place.is ∙ ap (λ (cs : List Case). get_or cs c.args.place case) c.as_slice-cases.ensures.value in
    λ d. ap (λ (k : Case). k.test) (is ∙ default_other cases c.args.place case d c.requires.place)
