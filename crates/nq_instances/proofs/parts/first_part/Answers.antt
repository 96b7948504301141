use Rattle.std.proofs.Common.{subst}
use Rattle.std.specs.Prelude.{IfSome}
use Rattle.nq_kernel.proofs.GrowingLemmas.{WorkGrows-trans}
use Rattle.nq_instances.specs.Parts.{Derives}
use Rattle.nq_instances.proofs.PartLemmas.{then_derived}
use Rattle.nq_instances.proofs.parts.first_part.Goals as goal

pub tested-requires-clause-fact : goal.tested-requires-clause-fact
tested-requires-clause-fact c = ((subst (λ o. IfSome o (Derives c.args.history.now c.args.work.now c.opened.new.work c.args.fact)) c.in-Some.is c.in_ok-body.ensures.fact)).is

pub returns-in-Some-clause-fact : goal.returns-in-Some-clause-fact
returns-in-Some-clause-fact c = then_derived c.args.history.now c.args.work.now c.opened.new.work c.tested.new.work c.args.fact c.in-Some.body c.tested.result (subst (λ o. IfSome o (Derives c.args.history.now c.args.work.now c.opened.new.work c.args.fact)) c.in-Some.is c.in_ok-body.ensures.fact) c.tested.ensures.fact

pub returns-in-Some-clause-grows : goal.returns-in-Some-clause-grows
returns-in-Some-clause-grows c = (WorkGrows-trans c.args.history.now c.args.work.now c.opened.new.work c.tested.new.work c.opened.ensures.grows c.tested.ensures.grows)
