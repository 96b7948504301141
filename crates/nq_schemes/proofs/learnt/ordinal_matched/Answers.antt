use Rattle.std.proofs.Common.{subst}
use Rattle.std.specs.Prelude.{IfSome}
use Rattle.nq_kernel.proofs.GrowingLemmas.{WorkGrows-trans}
use Rattle.nq_lines.specs.Facts.{IsFact}
use Rattle.nq_schemes.proofs.learnt.ordinal_matched.Goals as goal

pub ordinal_in-requires-clause-fact : goal.ordinal_in-requires-clause-fact
ordinal_in-requires-clause-fact c = subst (λ o. IfSome o (IsFact c.args.history.now c.matched_fact.new.work)) c.in-Some.is c.in_ok-here.ensures.fact

pub returns-in-Some-clause-grows : goal.returns-in-Some-clause-grows
returns-in-Some-clause-grows c = WorkGrows-trans c.args.history.now c.args.work.now c.matched_fact.new.work c.ordinal_in.new.work c.matched_fact.ensures.grows c.ordinal_in.ensures.grows
