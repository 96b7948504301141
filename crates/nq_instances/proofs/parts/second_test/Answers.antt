use Rattle.std.proofs.Common.{subst}
use Rattle.std.specs.Prelude.{IfSome}
use Rattle.nq_kernel.proofs.GrowingLemmas.{WorkGrows-trans}
use Rattle.nq_instances.specs.Parts.{Derives}
use Rattle.nq_instances.proofs.PartLemmas.{line_there, by_own}
use Rattle.nq_instances.proofs.parts.second_test.Goals as goal

pub rest_of-requires-clause-fact : goal.rest_of-requires-clause-fact
rest_of-requires-clause-fact c = line_there c.args.history.now c.args.work.now c.tested.new.work c.tested.ensures.grows c.args.fact c.requires.stands c.requires.fact

pub rest_of-requires-clause-known : goal.rest_of-requires-clause-known
rest_of-requires-clause-known c = ((subst (λ o. IfSome o (Derives c.args.history.now c.args.work.now c.tested.new.work c.args.fact)) c.in-Some.is c.in_ok-first.ensures.fact)).is

pub returns-in-Some-clause-fact : goal.returns-in-Some-clause-fact
returns-in-Some-clause-fact c = by_own c.args.history.now c.args.work.now c.tested.new.work c.rest_of.new.work c.args.fact c.in-Some.first c.rest_of.result c.tested.ensures.grows c.requires.stands c.requires.fact (subst (λ o. IfSome o (Derives c.args.history.now c.args.work.now c.tested.new.work c.args.fact)) c.in-Some.is c.in_ok-first.ensures.fact) c.rest_of.ensures.fact

pub returns-in-Some-clause-grows : goal.returns-in-Some-clause-grows
returns-in-Some-clause-grows c = (WorkGrows-trans c.args.history.now c.args.work.now c.tested.new.work c.rest_of.new.work c.tested.ensures.grows c.rest_of.ensures.grows)
