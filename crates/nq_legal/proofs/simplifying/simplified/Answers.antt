use Rattle.std.proofs.Common.{subst}
use Rattle.std.specs.Prelude.{IfOk}
use Rattle.nq_bank.proofs.Growth.{terms_at-grown}
use Rattle.nq_proof.specs.Clauses.{Clause}
use Rattle.nq_kernel.proofs.GrowingLemmas.{WorkGrows-trans}
use Rattle.nq_lines.proofs.FactLemmas.{own_terms_grown}
use Rattle.nq_simplify.specs.Simplified.{IsSimplified}
use Rattle.nq_waterfall.proofs.SameLemmas.{goal_grown, goal_stands}
use Rattle.nq_legal.proofs.simplifying.simplified.Goals as goal

pub simplify_goal-requires-clause-ready : goal.simplify_goal-requires-clause-ready
simplify_goal-requires-clause-ready g c =
    own_terms_grown c.args.history.now c.args.work.now c.make_basis.new.work c.make_basis.ensures.grows c.requires.stands c.requires.ready

pub simplify_goal-requires-clause-goal : goal.simplify_goal-requires-clause-goal
simplify_goal-requires-clause-goal g c = goal_grown c.args.history.now c.args.work.now c.make_basis.new.work c.requires.stands c.make_basis.ensures.grows c.args.goal.now c.requires.goal

pub returns-clause-grows : goal.returns-clause-grows
returns-clause-grows g c = WorkGrows-trans c.args.history.now c.args.work.now c.make_basis.new.work c.simplify_goal.new.work c.make_basis.ensures.grows c.simplify_goal.ensures.grows

pub returns-clause-simplified : goal.returns-clause-simplified
returns-clause-simplified g c =
    subst (λ (g : Clause). IfOk c.simplify_goal.result (IsSimplified c.args.history.now c.simplify_goal.new.work g))
    (terms_at-grown c.args.work.now.bank c.make_basis.new.work.bank c.args.goal.now c.make_basis.ensures.grows.bank (goal_stands c.args.history.now c.args.work.now c.args.goal.now c.requires.goal)) c.simplify_goal.ensures.simplified
