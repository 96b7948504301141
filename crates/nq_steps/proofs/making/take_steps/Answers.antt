use Rattle.std.proofs.Common.{◌+◌, ℕ, List, drop, reverse, ap, ◌∙◌}
use Rattle.std.specs.Prelude.{Err}
use Rattle.nq_logic.specs.Terms.{Term}
use Rattle.nq_bank.specs.declared.node.BankFault.TheVariants.{Deep}
use Rattle.nq_bank.specs.Content.{Content, terms_at}
use Rattle.nq_bank.proofs.Growth.{Grows-trans}
use Rattle.nq_bank.proofs.Standing.{passed_on}
use Rattle.nq_steps.specs.declared.steps.Leaf.TheVariants.{Letter}
use Rattle.nq_steps.specs.declared.steps.Step.TheVariants.{Leaf as LeafStep}
use Rattle.nq_steps.specs.Steps.{steps_taken}
use Rattle.nq_steps.proofs.NameLemmas.{AddsSymbols-trans}
use Rattle.nq_steps.proofs.MakingLemmas.{step_more, deep_step, none_deep}
use Rattle.nq_steps.proofs.making.take_steps.Goals as goal

pub loop-step-preserved : goal.loop-step-preserved
loop-step-preserved c =
    let old : Content = c.args.bank.now in
    let bank : Content = c.loop-step.bank in
    let i : ℕ = c.loop-step.step-index in
    let steps = c.args.steps.now in
    let ts : List Term = reverse (terms_at bank c.loop-step.ids.items) in
    record {
      grows = Grows-trans old bank c.take_step.new.bank c.loop-step.invariant.grows c.take_step.ensures.grows;
      names = AddsSymbols-trans old bank c.take_step.new.bank c.loop-step.invariant.names c.take_step.ensures.names;
      stand = c.in_ok-take_step.ensures.stand;
      makes =
          ap (steps_taken old (drop (i + 1) steps)) c.in_ok-take_step.ensures.makes ∙
          step_more old bank steps i (LeafStep (Letter 0)) ts c.loop-step.invariant.grows c.requires.steps c.loop-step-test.true c.loop-step.invariant.makes;
    }

pub returns-in_err-take_step-clause-deep : goal.returns-in_err-take_step-clause-deep
returns-in_err-take_step-clause-deep c =
    λ e.
    let old : Content = c.args.bank.now in
    let bank : Content = c.loop-step.bank in
    let ts : List Term = reverse (terms_at bank c.loop-step.ids.items) in
    let came = passed_on c.from_residual.result c.in_err-take_step.field-0.0 Deep c.from_residual.ensures.1 e in
    deep_step old bank c.args.steps.now c.loop-step.step-index (LeafStep (Letter 0)) ts c.loop-step.invariant.grows c.requires.steps c.loop-step-test.true c.loop-step.invariant.makes (c.take_step.ensures.deep (c.in_err-take_step.was ∙ ap Err came))

pub returns-clause-shallow : goal.returns-clause-shallow
returns-clause-shallow c =
    none_deep c.args.bank.now c.loop-step.bank c.loop-step.ids.items c.args.steps.now c.loop-step.step-index c.is_sound.ensures c.loop-step.invariant.stand c.loop-step-test.false c.loop-step.invariant.makes
