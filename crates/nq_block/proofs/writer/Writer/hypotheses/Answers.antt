use Rattle.std.proofs.Common.{◌≡◌, ap, subst, sym, take}
use Rattle.nq_logic.specs.Terms.{Substitution}
use Rattle.std.specs.Prelude.{All}
use Rattle.nq_clause.specs.Substitution.{substitution_at, PairStands}
use Rattle.nq_proof.specs.Rules.{CaseLines}
use Rattle.nq_rule.specs.declared.induction.InductionStep.{InductionStep}
use Rattle.nq_rule.specs.Inductions.{hypothesis_at, hypotheses_at, HypothesisStands}
use Rattle.nq_block.specs.Writing.{CanSuppose, IsWriting, with_case, with_hypothesis, with_hypotheses, supposed}
use Rattle.nq_block.proofs.Keeping.{each_made}
use Rattle.nq_block.proofs.InductionLemmas.{hypotheses_next}
use Rattle.nq_block.proofs.writer.Writer.hypotheses.Goals as goal

pub hypothesis-requires-clause-stand : goal.hypothesis-requires-clause-stand
hypothesis-requires-clause-stand c =
    let stands : HypothesisStands c.args.bank.now c.step-item.result = subst (HypothesisStands c.args.bank.now) (sym c.step-item.is) (c.requires.stand c.loop-step.step-index c.step-item.result c.loop-step-test.true) in
    subst (All (PairStands c.args.bank.now)) (sym c.as_slice.ensures.value) stands.pairs

pub loop-step-preserved : goal.loop-step-preserved
loop-step-preserved c =
    let bank = c.args.bank.now in
    let i = c.loop-step.step-index in
    let step : InductionStep = c.step-item.result in
    let below = c.loop-step-test.true in
    let same : substitution_at bank c.as_slice.result.now ≡ substitution_at bank step.pairs.items = ap (substitution_at bank) c.as_slice.ensures.value in
    record {
      counted = c.in_ok-hypothesis.ensures.counted;
      writing = λ frame d v can.
          let so_far : CaseLines = with_hypotheses d (hypotheses_at bank (take i c.args.steps.now)) in
          let at = each_made (CanSuppose frame.history frame.clauses) (hypothesis_at bank) c.args.steps.now i step below can in
          let here : CanSuppose frame.history frame.clauses (hypothesis_at bank step) = subst (λ s. CanSuppose frame.history frame.clauses (hypothesis_at bank s)) (sym c.step-item.is) at in
          let there = subst (λ (s : Substitution). CanSuppose frame.history frame.clauses (supposed step.line s)) (sym same) here in
          let one_more = c.in_ok-hypothesis.ensures.writing frame so_far (c.loop-step.invariant.writing frame d v can) there in
          let as_step = subst (λ (s : Substitution). IsWriting bank (with_case frame (with_hypothesis so_far (supposed step.line s))) c.hypothesis.new.self) same one_more in
          subst (λ x. IsWriting bank (with_case frame x) c.hypothesis.new.self) (hypotheses_next bank d c.args.steps.now i step below c.step-item.is) as_step;
    }
