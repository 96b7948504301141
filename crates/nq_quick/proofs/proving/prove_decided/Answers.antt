use Rattle.std.proofs.Common.{◌≡◌, ◌∙◌, true, subst}
use Rattle.nq_kernel.specs.declared.work.Work.{Work}
use Rattle.nq_rule.proofs.Made.{for_ok}
use Rattle.nq_quick.specs.Lines.{Says}
use Rattle.nq_quick.specs.Decisions.{Decides, truth_at}
use Rattle.nq_quick.proofs.DecisionLemmas.{truth_same}
use Rattle.nq_quick.proofs.ProvingLemmas.{goal_can, goal_true}
use Rattle.nq_quick.proofs.proving.prove_decided.Goals as goal

pub decide-requires-clause-can : goal.decide-requires-clause-can
decide-requires-clause-can c = goal_can c.args.work.now.bank c.args.goal c.args.assignment.now c.requires.can c.is_sound.ensures

pub returns-clause-line : goal.returns-clause-line
returns-clause-line c =
    let new : Work = c.decide.new.work in
    let e : truth_at new.bank c.args.assignment.now c.args.goal ≡ true =
    truth_same c.args.work.now.bank new.bank c.decide.ensures.grows.grows.bank c.args.assignment.now c.args.goal c.requires.can.assignment c.requires.can.goal ∙ goal_true c.args.work.now.bank c.args.goal c.args.assignment.now c.requires.can in
    for_ok c.decide.result (λ n. Decides new n c.args.assignment.now c.args.goal) (λ n. Says new n true c.args.goal c.args.assignment.now.denials.items) (λ n h. subst (λ b. Says new n b c.args.goal c.args.assignment.now.denials.items) e h) c.decide.ensures.line
