use Rattle.std.proofs.Common.{subst}
use Rattle.std.specs.Prelude.{IfSome}
use Rattle.nq_kernel.proofs.GrowingLemmas.{WorkGrows-trans}
use Rattle.nq_instances.specs.Parts.{Derives}
use Rattle.nq_instances.proofs.PartLemmas.{line_there, with_derived}
use Rattle.nq_instances.proofs.parts.consequence.Goals as goal

pub rest_of-requires-clause-fact : goal.rest_of-requires-clause-fact
rest_of-requires-clause-fact c = ((subst (λ o. IfSome o (Derives c.args.history.now c.args.work.now c.opened.new.work c.args.fact)) c.in-Some.is c.in_ok-body.ensures.fact)).is

pub rest_of-requires-clause-known : goal.rest_of-requires-clause-known
rest_of-requires-clause-known c = line_there c.args.history.now c.args.work.now c.opened.new.work c.opened.ensures.grows c.args.known c.requires.stands c.requires.known

pub returns-in-Some-clause-fact : goal.returns-in-Some-clause-fact
returns-in-Some-clause-fact c = with_derived c.args.history.now c.args.work.now c.opened.new.work c.rest_of.new.work c.args.fact c.args.known c.in-Some.body c.rest_of.result c.opened.ensures.grows c.requires.stands c.requires.known (subst (λ o. IfSome o (Derives c.args.history.now c.args.work.now c.opened.new.work c.args.fact)) c.in-Some.is c.in_ok-body.ensures.fact) c.rest_of.ensures.fact

pub returns-in-Some-clause-grows : goal.returns-in-Some-clause-grows
returns-in-Some-clause-grows c = (WorkGrows-trans c.args.history.now c.args.work.now c.opened.new.work c.rest_of.new.work c.opened.ensures.grows c.rest_of.ensures.grows)
