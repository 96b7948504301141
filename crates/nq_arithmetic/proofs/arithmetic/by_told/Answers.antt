use Rattle.std.proofs.Common.{subst}
use Rattle.std.specs.Prelude.{IfSome}
use Rattle.nq_kernel.specs.Growing.{LineStands}
use Rattle.nq_kernel.proofs.GrowingLemmas.{WorkGrows-trans}
use Rattle.nq_lines.specs.Lines.{LineHasOnly}
use Rattle.nq_arithmetic.proofs.Lemmas.{all_grown, goal_same, found_of, instances_grown}
use Rattle.nq_arithmetic.proofs.arithmetic.by_told.Goals as goal

pub checked-requires-clause-line : goal.checked-requires-clause-line
checked-requires-clause-line c = subst (λ o. IfSome o (λ n. LineStands c.refuted.new.work n)) c.in-Some.is c.in_ok-line.ensures.line

pub returns-in-Some-clause-line : goal.returns-in-Some-clause-line
returns-in-Some-clause-line c = subst (λ ts. IfSome c.checked.result (λ n. LineHasOnly c.refuted.new.work n ts)) (goal_same c.args.history.now c.args.work.now c.refuted.new.work c.requires.stands c.refuted.ensures.grows c.args.goal.now c.requires.goal) c.checked.ensures

pub by_facts-requires-clause-goal : goal.by_facts-requires-clause-goal
by_facts-requires-clause-goal c = all_grown c.args.history.now c.args.work.now c.refuted.new.work c.requires.stands c.refuted.ensures.grows c.args.goal.now c.requires.goal

pub by_facts-requires-clause-instances : goal.by_facts-requires-clause-instances
by_facts-requires-clause-instances c = instances_grown c.args.history.now c.args.work.now c.refuted.new.work c.requires.stands c.refuted.ensures.grows c.args.told.now c.requires.told

pub returns-in-None-clause-line : goal.returns-in-None-clause-line
returns-in-None-clause-line c = found_of c.by_facts.result c.by_facts.new.work _ _ (goal_same c.args.history.now c.args.work.now c.refuted.new.work c.requires.stands c.refuted.ensures.grows c.args.goal.now c.requires.goal) c.by_facts.ensures.line

pub returns-in-None-clause-grows : goal.returns-in-None-clause-grows
returns-in-None-clause-grows c = (WorkGrows-trans c.args.history.now c.args.work.now c.refuted.new.work c.by_facts.new.work c.refuted.ensures.grows c.by_facts.ensures.grows)
