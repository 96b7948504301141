use Rattle.std.specs.Prelude.{All, Vec}
use Rattle.std.specs.declared.alloc.Global.{Global}
use Rattle.nq_bank.specs.declared.node.TermId.{TermId}
use Rattle.nq_kernel.proofs.GrowingLemmas.{WorkGrows-refl, WorkGrows-trans}
use Rattle.nq_lines.specs.Lines.{IsTermIn}
use Rattle.nq_schemes.proofs.GrownLemmas.{all_with, basis_grown, goals_grown, terms_grown}
use Rattle.nq_schemes.proofs.owed.add_steps.Goals as goal

pub owed_at-requires-clause-basis : goal.owed_at-requires-clause-basis
owed_at-requires-clause-basis c = basis_grown c.args.history.now c.args.work.now c.loop-step.work c.requires.stands c.loop-step.invariant.grows c.args.basis.now c.requires.basis

pub owed_at-requires-clause-tests : goal.owed_at-requires-clause-tests
owed_at-requires-clause-tests c = terms_grown c.args.history.now c.args.work.now c.loop-step.work c.requires.stands c.loop-step.invariant.grows c.args.tests.now c.requires.tests

pub owed_at-requires-clause-literals : goal.owed_at-requires-clause-literals
owed_at-requires-clause-literals c = terms_grown c.args.history.now c.args.work.now c.loop-step.work c.requires.stands c.loop-step.invariant.grows c.args.literals.now c.requires.literals

pub loop-step-init : goal.loop-step-init
loop-step-init c = record { grows = WorkGrows-refl c.args.history.now c.args.work.now c.requires.stands; owed = c.requires.goals }

pub loop-step-preserved : goal.loop-step-preserved
loop-step-preserved c = record {
  grows = WorkGrows-trans c.args.history.now c.args.work.now c.loop-step.work c.owed_at.new.work c.loop-step.invariant.grows c.owed_at.ensures.grows;
  owed = all_with (λ (g : Vec TermId Global). All (IsTermIn c.args.history.now c.owed_at.new.work) g.items) c.loop-step.goals.items c.add_goal.new.goals.items c.in_ok-found.found c.in_ok-add_goal.ensures.more
      (goals_grown c.args.history.now c.loop-step.work c.owed_at.new.work c.loop-step.invariant.grows.stands c.owed_at.ensures.grows c.loop-step.goals.items c.loop-step.invariant.owed) c.in_ok-found.ensures.goal;
}

pub returns-in_err-found-clause-grows : goal.returns-in_err-found-clause-grows
returns-in_err-found-clause-grows c = WorkGrows-trans c.args.history.now c.args.work.now c.loop-step.work c.owed_at.new.work c.loop-step.invariant.grows c.owed_at.ensures.grows

pub returns-in_err-add_goal-clause-grows : goal.returns-in_err-add_goal-clause-grows
returns-in_err-add_goal-clause-grows c = WorkGrows-trans c.args.history.now c.args.work.now c.loop-step.work c.owed_at.new.work c.loop-step.invariant.grows c.owed_at.ensures.grows
