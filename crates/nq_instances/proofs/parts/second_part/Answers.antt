use Rattle.std.proofs.Common.{subst}
use Rattle.std.specs.Prelude.{IfSome}
use Rattle.nq_kernel.proofs.GrowingLemmas.{WorkGrows-trans}
use Rattle.nq_instances.specs.Parts.{Derives}
use Rattle.nq_instances.proofs.PartLemmas.{then_derived}
use Rattle.nq_instances.proofs.parts.second_part.Goals as goal

pub second_test-requires-clause-fact : goal.second_test-requires-clause-fact
second_test-requires-clause-fact c = ((subst (λ o. IfSome o (Derives c.args.history.now c.args.work.now c.opened.new.work c.args.fact)) c.in-Some.is c.in_ok-body.ensures.fact)).is

pub returns-in-Some-clause-fact : goal.returns-in-Some-clause-fact
returns-in-Some-clause-fact c = then_derived c.args.history.now c.args.work.now c.opened.new.work c.second_test.new.work c.args.fact c.in-Some.body c.second_test.result (subst (λ o. IfSome o (Derives c.args.history.now c.args.work.now c.opened.new.work c.args.fact)) c.in-Some.is c.in_ok-body.ensures.fact) c.second_test.ensures.fact

pub returns-in-Some-clause-grows : goal.returns-in-Some-clause-grows
returns-in-Some-clause-grows c = (WorkGrows-trans c.args.history.now c.args.work.now c.opened.new.work c.second_test.new.work c.opened.ensures.grows c.second_test.ensures.grows)
