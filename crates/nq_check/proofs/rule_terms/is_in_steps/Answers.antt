use Rattle.std.proofs.Common.{List, sym, ap, ◌∙◌, subst}
use Rattle.std.specs.Prelude.{All}
use Rattle.nq_bank.specs.Content.{text_at}
use Rattle.nq_calls.specs.Mentions.{is_mentioned}
use Rattle.nq_clause.specs.declared.substitution.Pair.{Pair}
use Rattle.nq_clause.specs.Substitution.{substitution_at, PairStands}
use Rattle.nq_proof.specs.Rules.{pair_terms}
use Rattle.nq_rule.specs.declared.induction.InductionStep.{InductionStep}
use Rattle.nq_rule.specs.Inductions.{HypothesisStands}
use Rattle.nq_check.proofs.RuleTermLemmas.{step_here, step_not}
use Rattle.nq_check.proofs.rule_terms.is_in_steps.Goals as goal

pub is_in_pairs-requires-clause-pairs : goal.is_in_pairs-requires-clause-pairs
is_in_pairs-requires-clause-pairs c =
    let bank = c.args.bank.now in
    subst (All (PairStands bank)) (sym c.as_slice.ensures.value) (subst (HypothesisStands bank) (sym c.step-item.is) (c.requires.steps c.loop-step.step-index c.step-item.result c.loop-step-test.true)).pairs

pub returns-then-branch : goal.returns-then-branch
returns-then-branch c =
    let bank = c.args.bank.now in
    let f = text_at bank c.args.f in
    step_here f bank c.args.steps.now c.loop-step.step-index c.step-item.result c.in_ok-is_in_pairs.field-0 c.loop-step-test.true
    (c.in_ok-is_in_pairs.ensures ∙ ap (λ (ps : List Pair). is_mentioned f (pair_terms (substitution_at bank ps))) c.as_slice.ensures.value ∙ ap (λ (s : InductionStep). is_mentioned f (pair_terms (substitution_at bank s.pairs.items))) c.step-item.is)
    c.if-branch.true c.loop-step.invariant

pub loop-step-preserved : goal.loop-step-preserved
loop-step-preserved c =
    let bank = c.args.bank.now in
    let f = text_at bank c.args.f in
    step_not f bank c.args.steps.now c.loop-step.step-index c.step-item.result c.in_ok-is_in_pairs.field-0 c.loop-step-test.true
    (c.in_ok-is_in_pairs.ensures ∙ ap (λ (ps : List Pair). is_mentioned f (pair_terms (substitution_at bank ps))) c.as_slice.ensures.value ∙ ap (λ (s : InductionStep). is_mentioned f (pair_terms (substitution_at bank s.pairs.items))) c.step-item.is)
    c.if-branch.false c.loop-step.invariant
