use Rattle.std.proofs.Common.{subst}
use Rattle.std.specs.Prelude.{IfOk}
use Rattle.nq_bank.specs.Content.{terms_at}
use Rattle.nq_proof.specs.Clauses.{Clause}
use Rattle.nq_kernel.proofs.GrowingLemmas.{WorkGrows-trans}
use Rattle.nq_lines.proofs.FactLemmas.{own_terms_grown}
use Rattle.nq_search.proofs.SearchingLemmas.{goal_grown, same_goal}
use Rattle.nq_simplify.specs.Simplified.{IsSimplified}
use Rattle.nq_tactic.proofs.simplifying.simplified.Goals as goal

pub simplify_goal-simplified-requires-clause-ready : goal.simplify_goal-simplified-requires-clause-ready
simplify_goal-simplified-requires-clause-ready c =
    own_terms_grown c.args.history.now c.args.work.now c.make_basis.new.work c.make_basis.ensures.grows c.requires.can.stands (c.own_terms.ensures c.args.work.now.bank c.args.history.now c.requires.can.ready)

pub simplify_goal-simplified-requires-clause-goal : goal.simplify_goal-simplified-requires-clause-goal
simplify_goal-simplified-requires-clause-goal c = goal_grown c.args.history.now c.args.work.now c.make_basis.new.work c.requires.can.stands c.make_basis.ensures.grows c.args.goal.now c.requires.goal

pub returns-clause-grows : goal.returns-clause-grows
returns-clause-grows c = WorkGrows-trans c.args.history.now c.args.work.now c.make_basis.new.work c.simplify_goal-simplified.new.work c.make_basis.ensures.grows c.simplify_goal-simplified.ensures.grows

pub returns-clause-simplified : goal.returns-clause-simplified
returns-clause-simplified c =
    subst (λ (g : Clause). IfOk c.simplify_goal-simplified.result (IsSimplified c.args.history.now c.simplify_goal-simplified.new.work g))
    (same_goal c.args.history.now c.args.work.now c.make_basis.new.work c.requires.can.stands c.make_basis.ensures.grows c.args.goal.now c.requires.goal) c.simplify_goal-simplified.ensures.simplified
