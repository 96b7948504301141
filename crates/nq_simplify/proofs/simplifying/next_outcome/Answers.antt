use Rattle.nq_bank.specs.Content.{terms_at}
use Rattle.nq_rule.proofs.Made.{for_ok}
use Rattle.nq_kernel.specs.declared.work.Work.{Work}
use Rattle.nq_kernel.proofs.GrowingLemmas.{WorkGrows-trans}
use Rattle.nq_lines.proofs.FactLemmas.{own_terms_grown}
use Rattle.nq_simplify.specs.Simplified.{IsOutcome}
use Rattle.nq_simplify.proofs.BasisLemmas.{basis_grown}
use Rattle.nq_simplify.proofs.SimplifiedLemmas.{goal_in}
use Rattle.nq_simplify.proofs.OutcomeLemmas.{outcome_before}
use Rattle.nq_simplify.proofs.simplifying.next_outcome.Goals as goal

pub change_next-requires-clause-ready : goal.change_next-requires-clause-ready
change_next-requires-clause-ready g c = own_terms_grown c.args.history.now c.args.work.now c.split_here.new.work c.split_here.ensures.grows c.requires.stands c.requires.ready

pub change_next-requires-clause-basis : goal.change_next-requires-clause-basis
change_next-requires-clause-basis g c = basis_grown c.args.history.now c.args.work.now c.split_here.new.work c.args.basis.now c.requires.stands c.split_here.ensures.grows c.requires.basis

pub change_next-requires-clause-goal : goal.change_next-requires-clause-goal
change_next-requires-clause-goal g c = goal_in c.args.history.now c.args.work.now c.split_here.new.work c.args.goal.now c.requires.stands c.split_here.ensures.grows c.requires.goal

pub returns-clause-grows : goal.returns-clause-grows
returns-clause-grows g c = WorkGrows-trans c.args.history.now c.args.work.now c.split_here.new.work c.change_next.new.work c.split_here.ensures.grows c.change_next.ensures.grows

pub returns-clause-outcome : goal.returns-clause-outcome
returns-clause-outcome g c =
    let h = c.args.history.now in
    let w0 : Work = c.args.work.now in
    let w1 : Work = c.split_here.new.work in
    let w2 : Work = c.change_next.new.work in
    for_ok c.change_next.result (IsOutcome h w2 (terms_at w1.bank c.args.goal.now)) (IsOutcome h w2 (terms_at w0.bank c.args.goal.now))
    (λ o there. outcome_before h w0 w1 w2 c.args.goal.now o c.split_here.ensures.grows c.requires.goal there) c.change_next.ensures.outcome
