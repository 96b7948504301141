use Rattle.std.proofs.Common.{ap, ◌∙◌, ◌∷◌, []}
use Rattle.nq_bank.specs.Content.{text_at}
use Rattle.nq_calls.specs.Mentions.{is_mentioned}
use Rattle.nq_proof.specs.Rules.{case_terms}
use Rattle.nq_rule.specs.declared.induction.CaseOfInduction.{CaseOfInduction}
use Rattle.nq_rule.specs.Inductions.{cases_at}
use Rattle.nq_check.proofs.RuleTermLemmas.{case_here, case_not}
use Rattle.nq_check.proofs.rule_terms.is_in_cases.Goals as goal

pub returns-then-branch : goal.returns-then-branch
returns-then-branch c =
    let bank = c.args.bank.now in
    let f = text_at bank c.args.f in
    case_here f bank c.args.cases.now c.loop-case.case-index c.case-item.result c.in_ok-is_in_case.field-0 c.loop-case-test.true
    (c.in_ok-is_in_case.ensures ∙ ap (λ (s : CaseOfInduction). is_mentioned f (case_terms (cases_at bank (s ∷ [])))) c.case-item.is) c.if-branch.true c.loop-case.invariant

pub loop-case-preserved : goal.loop-case-preserved
loop-case-preserved c =
    let bank = c.args.bank.now in
    let f = text_at bank c.args.f in
    case_not f bank c.args.cases.now c.loop-case.case-index c.case-item.result c.in_ok-is_in_case.field-0 c.loop-case-test.true
    (c.in_ok-is_in_case.ensures ∙ ap (λ (s : CaseOfInduction). is_mentioned f (case_terms (cases_at bank (s ∷ [])))) c.case-item.is) c.if-branch.false c.loop-case.invariant
