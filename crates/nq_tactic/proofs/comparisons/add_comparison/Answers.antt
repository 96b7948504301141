use Rattle.nq_kernel.proofs.GrowingLemmas.{WorkGrows-refl}
use Rattle.nq_arithmetic.proofs.Lemmas.{instances_grown, line_pushed}
use Rattle.nq_tactic.proofs.comparisons.add_comparison.Goals as goal

pub returns-in_ok-push-clause-facts : goal.returns-in_ok-push-clause-facts
returns-in_ok-push-clause-facts c = line_pushed c.args.history.now c.comparison_fact.new.work c.args.facts.now.items c.push.new.facts.items c.in_ok-fact.fact c.in_ok-push.ensures.ok (instances_grown c.args.history.now c.args.work.now c.comparison_fact.new.work c.requires.stands c.comparison_fact.ensures.grows c.args.facts.now.items c.requires.facts) c.in_ok-fact.ensures.fact

pub returns-else-is_truth_of_comparison-clause-grows : goal.returns-else-is_truth_of_comparison-clause-grows
returns-else-is_truth_of_comparison-clause-grows c = WorkGrows-refl c.args.history.now c.args.work.now c.requires.stands
