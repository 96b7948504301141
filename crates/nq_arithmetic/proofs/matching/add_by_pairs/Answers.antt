use Rattle.std.proofs.Common.{subst}
use Rattle.std.specs.Prelude.{IfSome}
use Rattle.nq_lines.specs.Facts.{IsFact}
use Rattle.nq_arithmetic.proofs.Lemmas.{instances_grown, instance_pushed}
use Rattle.nq_arithmetic.proofs.matching.add_by_pairs.Goals as goal

pub returns-in_ok-push-in-Some-clause-found : goal.returns-in_ok-push-in-Some-clause-found
returns-in_ok-push-in-Some-clause-found c = instance_pushed c.args.history.now c.instance_fact.new.work c.args.found.now.items c.push.new.found.items c.in-Some.instance c.in_ok-push-in-Some.ensures.ok (instances_grown c.args.history.now c.args.work.now c.instance_fact.new.work c.requires.stands c.instance_fact.ensures.grows c.args.found.now.items c.requires.found) (subst (λ o. IfSome o (IsFact c.args.history.now c.instance_fact.new.work)) c.in-Some.is c.in_ok-instance.ensures.fact)

pub returns-in-None-clause-found : goal.returns-in-None-clause-found
returns-in-None-clause-found c = instances_grown c.args.history.now c.args.work.now c.instance_fact.new.work c.requires.stands c.instance_fact.ensures.grows c.args.found.now.items c.requires.found
