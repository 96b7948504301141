use Rattle.nq_bank.specs.Content.{terms_at}
use Rattle.nq_rule.proofs.Made.{for_ok}
use Rattle.nq_kernel.specs.declared.work.Work.{Work}
use Rattle.nq_kernel.proofs.GrowingLemmas.{WorkGrows-trans}
use Rattle.nq_simplify.specs.Simplified.{IsOutcome}
use Rattle.nq_simplify.proofs.BasisLemmas.{basis_grown}
use Rattle.nq_simplify.proofs.SimplifiedLemmas.{goal_in}
use Rattle.nq_simplify.proofs.OutcomeLemmas.{outcome_before}
use Rattle.nq_simplify.proofs.turning.change_at.Goals as goal

pub split_here-requires-clause-basis : goal.split_here-requires-clause-basis
split_here-requires-clause-basis g c = basis_grown c.args.history.now c.args.work.now c.rewrite_at.new.work c.args.basis.now c.requires.stands c.rewrite_at.ensures.grows c.requires.basis

pub split_here-requires-clause-goal : goal.split_here-requires-clause-goal
split_here-requires-clause-goal g c = goal_in c.args.history.now c.args.work.now c.rewrite_at.new.work c.args.goal.now c.requires.stands c.rewrite_at.ensures.grows c.requires.goal

pub returns-then-is_same-clause-grows : goal.returns-then-is_same-clause-grows
returns-then-is_same-clause-grows g c = WorkGrows-trans c.args.history.now c.args.work.now c.rewrite_at.new.work c.split_here.new.work c.rewrite_at.ensures.grows c.split_here.ensures.grows

pub returns-then-is_same-clause-outcome : goal.returns-then-is_same-clause-outcome
returns-then-is_same-clause-outcome g c =
    let h = c.args.history.now in
    let w0 : Work = c.args.work.now in
    let w1 : Work = c.rewrite_at.new.work in
    let w2 : Work = c.split_here.new.work in
    for_ok c.split_here.result (IsOutcome h w2 (terms_at w1.bank c.args.goal.now)) (IsOutcome h w2 (terms_at w0.bank c.args.goal.now))
    (λ o there. outcome_before h w0 w1 w2 c.args.goal.now o c.rewrite_at.ensures.grows c.requires.goal there) c.split_here.ensures.outcome
