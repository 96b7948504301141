use Rattle.std.proofs.Common.{subst}
use Rattle.std.specs.Prelude.{IfSome}
use Rattle.nq_lines.specs.Facts.{IsFact}
use Rattle.nq_arithmetic.proofs.Lemmas.{instances_grown, instance_pushed}
use Rattle.nq_tactic.proofs.numbers.add_found.Goals as goal

pub returns-in_ok-push-in-Some-clause-facts : goal.returns-in_ok-push-in-Some-clause-facts
returns-in_ok-push-in-Some-clause-facts c = instance_pushed c.args.history.now c.number_fact.new.work c.args.facts.now.items c.push.new.facts.items c.in-Some.fact c.in_ok-push-in-Some.ensures.ok (instances_grown c.args.history.now c.args.work.now c.number_fact.new.work c.requires.stands c.number_fact.ensures.grows c.args.facts.now.items c.requires.facts) (subst (λ o. IfSome o (IsFact c.args.history.now c.number_fact.new.work)) c.in-Some.is c.in_ok-fact.ensures.fact)

pub returns-in-None-clause-facts : goal.returns-in-None-clause-facts
returns-in-None-clause-facts c = instances_grown c.args.history.now c.args.work.now c.number_fact.new.work c.requires.stands c.number_fact.ensures.grows c.args.facts.now.items c.requires.facts
