use Rattle.nq_kernel.specs.declared.work.Work.{Work}
use Rattle.nq_kernel.proofs.GrowingLemmas.{WorkGrows-refl, WorkGrows-trans}
use Rattle.nq_lines.proofs.FactLemmas.{own_terms_grown}
use Rattle.nq_simplify.proofs.BasisLemmas.{basis_grown}
use Rattle.nq_simplify.proofs.SimplifiedLemmas.{goal_in}
use Rattle.nq_simplify.proofs.OutcomeLemmas.{outcome_before}
use Rattle.nq_simplify.proofs.turning.change_between.Goals as goal

pub loop-at-init : goal.loop-at-init
loop-at-init g c = record { grows = WorkGrows-refl c.args.history.now c.args.work.now c.requires.stands; basis = c.requires.basis; terms = c.requires.goal; ready = c.requires.ready }

pub loop-at-preserved : goal.loop-at-preserved
loop-at-preserved g c =
    let h = c.args.history.now in
    let w0 : Work = c.args.work.now in
    let w1 : Work = c.loop-at.work in
    let w2 : Work = c.change_at.new.work in
    record {
      grows = WorkGrows-trans h w0 w1 w2 c.loop-at.invariant.grows c.change_at.ensures.grows;
      basis = basis_grown h w1 w2 c.args.basis.now c.loop-at.invariant.grows.stands c.change_at.ensures.grows c.loop-at.invariant.basis;
      terms = goal_in h w1 w2 c.args.goal.now c.loop-at.invariant.grows.stands c.change_at.ensures.grows c.loop-at.invariant.terms;
      ready = own_terms_grown h w1 w2 c.change_at.ensures.grows c.loop-at.invariant.grows.stands c.loop-at.invariant.ready;
    }

pub returns-in_err-here-clause-grows : goal.returns-in_err-here-clause-grows
returns-in_err-here-clause-grows g c = WorkGrows-trans c.args.history.now c.args.work.now c.loop-at.work c.change_at.new.work c.loop-at.invariant.grows c.change_at.ensures.grows

pub returns-then-not-is_same-clause-grows : goal.returns-then-not-is_same-clause-grows
returns-then-not-is_same-clause-grows g c = WorkGrows-trans c.args.history.now c.args.work.now c.loop-at.work c.change_at.new.work c.loop-at.invariant.grows c.change_at.ensures.grows

pub returns-then-not-is_same-clause-outcome : goal.returns-then-not-is_same-clause-outcome
returns-then-not-is_same-clause-outcome g c = outcome_before c.args.history.now c.args.work.now c.loop-at.work c.change_at.new.work c.args.goal.now c.in_ok-here.here c.loop-at.invariant.grows c.requires.goal c.in_ok-here.ensures.outcome
