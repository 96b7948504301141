use Rattle.std.proofs.Common.{subst}
use Rattle.std.specs.Prelude.{IfSome}
use Rattle.nq_kernel.proofs.GrowingLemmas.{WorkGrows-trans}
use Rattle.nq_instances.specs.Parts.{DerivesWith}
use Rattle.nq_instances.proofs.PartLemmas.{derived_with}
use Rattle.nq_instances.proofs.parts.rest_of.Goals as goal

pub tested-requires-clause-fact : goal.tested-requires-clause-fact
tested-requires-clause-fact c = ((subst (λ o. IfSome o (DerivesWith c.args.history.now c.args.work.now c.taken.new.work c.args.fact c.args.known)) c.in-Some.is c.in_ok-first.ensures.fact)).is

pub returns-in-Some-clause-fact : goal.returns-in-Some-clause-fact
returns-in-Some-clause-fact c = derived_with c.args.history.now c.args.work.now c.taken.new.work c.tested.new.work c.args.fact c.args.known c.in-Some.first c.tested.result (subst (λ o. IfSome o (DerivesWith c.args.history.now c.args.work.now c.taken.new.work c.args.fact c.args.known)) c.in-Some.is c.in_ok-first.ensures.fact) c.tested.ensures.fact

pub returns-in-Some-clause-grows : goal.returns-in-Some-clause-grows
returns-in-Some-clause-grows c = (WorkGrows-trans c.args.history.now c.args.work.now c.taken.new.work c.tested.new.work c.taken.ensures.grows c.tested.ensures.grows)
