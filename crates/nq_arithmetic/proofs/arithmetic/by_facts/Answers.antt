use Rattle.std.proofs.Common.{subst, sym}
use Rattle.std.specs.Prelude.{All}
use Rattle.nq_kernel.proofs.GrowingLemmas.{WorkGrows-trans}
use Rattle.nq_arithmetic.specs.Claims.{IsAssumptionIn}
use Rattle.nq_arithmetic.proofs.Lemmas.{all_grown, goal_same, found_of}
use Rattle.nq_arithmetic.proofs.arithmetic.by_facts.Goals as goal

pub with_facts-requires-clause-goal : goal.with_facts-requires-clause-goal
with_facts-requires-clause-goal c = all_grown c.args.history.now c.args.work.now c.facts_of.new.work c.requires.stands c.facts_of.ensures.grows c.args.goal.now c.requires.goal

pub with_facts-requires-clause-assumptions : goal.with_facts-requires-clause-assumptions
with_facts-requires-clause-assumptions c = subst (All (IsAssumptionIn c.args.history.now c.facts_of.new.work)) (sym c.as_slice.ensures.value) c.in_ok-assumptions.ensures.found

pub returns-clause-line : goal.returns-clause-line
returns-clause-line c = found_of c.with_facts.result c.with_facts.new.work _ _ (goal_same c.args.history.now c.args.work.now c.facts_of.new.work c.requires.stands c.facts_of.ensures.grows c.args.goal.now c.requires.goal) c.with_facts.ensures.line

pub returns-clause-grows : goal.returns-clause-grows
returns-clause-grows c = (WorkGrows-trans c.args.history.now c.args.work.now c.facts_of.new.work c.with_facts.new.work c.facts_of.ensures.grows c.with_facts.ensures.grows)
