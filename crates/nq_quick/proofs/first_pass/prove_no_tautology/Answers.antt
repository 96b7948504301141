use Rattle.std.proofs.Common.{subst}
use Rattle.nq_logic.specs.Ground.{symbols_of}
use Rattle.nq_bank.proofs.Growth.{Stands-grown}
use Rattle.nq_rule.proofs.Made.{for_ok}
use Rattle.nq_fragments.specs.Tautologies.{IsSmallTautology}
use Rattle.nq_fragments.specs.Evaluation.{HasTrueValue}
use Rattle.nq_kernel.specs.Over.{IsTermOf, IsVariable}
use Rattle.nq_kernel.specs.Ready.{IsReady}
use Rattle.nq_evaluated.specs.Values.{IsProvedByValue}
use Rattle.nq_quick.specs.Answers.{IsQuickAnswer}
use Rattle.nq_quick.proofs.LineLemmas.{grown_trans}
use Rattle.nq_quick.proofs.FragmentLemmas.{value_proof, carried, answer_back, grown_by_value}
use Rattle.nq_quick.proofs.first_pass.prove_no_tautology.Goals as goal

pub returns-in_err-line-clause-grows : goal.returns-in_err-line-clause-grows
returns-in_err-line-clause-grows c = grown_by_value c.args.history.now c.args.work.now c.prove_by_value.new.work c.prove_by_value.ensures.grows

pub returns-in-Some-clause-answer : goal.returns-in-Some-clause-answer
returns-in-Some-clause-answer c =
    let h = c.args.history.now in
    let old = c.args.work.now in
    let new = c.prove_by_value.new.work in
    value_proof h old new c.args.goal c.in-Some.line c.requires.no_tautology (subst (IsProvedByValue h old new c.args.goal) c.in-Some.is c.in_ok-line.ensures.answer)

pub returns-in-Some-clause-grows : goal.returns-in-Some-clause-grows
returns-in-Some-clause-grows c = grown_by_value c.args.history.now c.args.work.now c.prove_by_value.new.work c.prove_by_value.ensures.grows

pub prove_without_value-requires : goal.prove_without_value-requires
prove_without_value-requires c =
    let h = c.args.history.now in
    let old = c.args.work.now in
    let mid = c.prove_by_value.new.work in
    let g = c.args.goal in
    let grows = c.prove_by_value.ensures.grows.grows in
    record {
      stands = grows.stands;
      goal = Stands-grown old.bank mid.bank g grows.bank c.requires.goal;
      over = carried h old mid g grows c.requires.stands c.requires.goal (λ h t. IsTermOf IsVariable (symbols_of h) t) c.requires.over;
      ready = carried h old mid g grows c.requires.stands c.requires.goal (λ h t. IsReady h) c.requires.ready;
      no_tautology = carried h old mid g grows c.requires.stands c.requires.goal (λ h t. IsSmallTautology t → ⊥) c.requires.no_tautology;
      no_value = carried h old mid g grows c.requires.stands c.requires.goal (λ h t. HasTrueValue h t → ⊥) (subst (IsProvedByValue h old mid g) c.in-None.is c.in_ok-line.ensures.answer);
    }

pub returns-in-None-clause-answer : goal.returns-in-None-clause-answer
returns-in-None-clause-answer c =
    let h = c.args.history.now in
    let old = c.args.work.now in
    let mid = c.prove_by_value.new.work in
    let new = c.prove_without_value.new.work in
    for_ok c.prove_without_value.result (IsQuickAnswer h mid new c.args.goal) (IsQuickAnswer h old new c.args.goal)
    (answer_back h old mid c.args.goal c.prove_by_value.ensures.grows.grows c.requires.stands c.requires.goal new) c.prove_without_value.ensures.answer

pub returns-in-None-clause-grows : goal.returns-in-None-clause-grows
returns-in-None-clause-grows c =
    let h = c.args.history.now in
    let old = c.args.work.now in
    let mid = c.prove_by_value.new.work in
    grown_trans h old mid c.prove_without_value.new.work (grown_by_value h old mid c.prove_by_value.ensures.grows) c.prove_without_value.ensures.grows
