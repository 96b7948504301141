use Rattle.nq_kernel.proofs.GrowingLemmas.{WorkGrows-trans}
use Rattle.nq_lines.proofs.TermLemmas.{term_grown}
use Rattle.nq_lines.proofs.BranchLemmas.{branches_grown}
use Rattle.nq_rewrite.proofs.conditions.sides_of_parts.Goals as goal

pub condition-requires-2-clause-parts : goal.condition-requires-2-clause-parts
condition-requires-2-clause-parts c =
    branches_grown c.args.history.now c.args.work.now c.condition.new.work c.args.right c.requires.stands c.condition.ensures.grows c.requires.right

pub returns-clause-left : goal.returns-clause-left
returns-clause-left c =
    (term_grown c.args.history.now c.condition.new.work c.condition-2.new.work c.in_ok-left.left c.condition.ensures.grows.stands c.condition-2.ensures.grows c.in_ok-left.ensures.over)

pub returns-in_err-right-clause-grows : goal.returns-in_err-right-clause-grows
returns-in_err-right-clause-grows c =
    (WorkGrows-trans c.args.history.now c.args.work.now c.condition.new.work c.condition-2.new.work c.condition.ensures.grows c.condition-2.ensures.grows)

pub returns-clause-grows : goal.returns-clause-grows
returns-clause-grows c =
    (WorkGrows-trans c.args.history.now c.args.work.now c.condition.new.work c.condition-2.new.work c.condition.ensures.grows c.condition-2.ensures.grows)
