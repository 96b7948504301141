use Rattle.nq_kernel.proofs.GrowingLemmas.{WorkGrows-trans}
use Rattle.std.proofs.Common.{subst}
use Rattle.std.specs.Prelude.{IfSome}
use Rattle.nq_bank.specs.Content.{term_at, terms_at}
use Rattle.nq_reduce.specs.Rewriting.{IsKnown}
use Rattle.nq_reduce.proofs.RewritingLemmas.{can_grown, told_before, known_now}
use Rattle.nq_reduce.proofs.HeldLemmas.{unchanged_after}
use Rattle.nq_reduce.proofs.truths.by_restriction.Goals as goal

pub true_by_line-requires-clause-can : goal.true_by_line-requires-clause-can
true_by_line-requires-clause-can c = can_grown c.args.history.now c.args.work.now c.told_by_part.new.work c.told_by_part.ensures.grows c.args.assumed.now c.args.t c.requires.can

pub true_by_line-requires-clause-known : goal.true_by_line-requires-clause-known
true_by_line-requires-clause-known c = known_now c.args.history.now c.args.assumed.now c.args.work.now c.told_by_part.new.work c.args.t c.in-Some.known c.told_by_part.ensures.grows c.requires.can (subst (λ o. IfSome o (IsKnown c.told_by_part.new.work (terms_at c.args.work.now.bank c.args.assumed.now) (term_at c.args.work.now.bank c.args.t))) c.in-Some.is c.in_ok-known.ensures.known)

pub returns-in-Some-clause-ok : goal.returns-in-Some-clause-ok
returns-in-Some-clause-ok c = told_before c.args.history.now c.args.assumed.now c.args.work.now c.told_by_part.new.work c.true_by_line.new.work c.args.t c.true_by_line.result c.told_by_part.ensures.grows c.requires.can c.true_by_line.ensures.ok

pub returns-in-Some-clause-grows : goal.returns-in-Some-clause-grows
returns-in-Some-clause-grows c = WorkGrows-trans c.args.history.now c.args.work.now c.told_by_part.new.work c.true_by_line.new.work c.told_by_part.ensures.grows c.true_by_line.ensures.grows

pub returns-in-None-clause-ok : goal.returns-in-None-clause-ok
returns-in-None-clause-ok c = unchanged_after c.args.history.now c.args.work.now c.told_by_part.new.work c.args.assumed.now c.args.t c.unchanged.result c.told_by_part.ensures.grows c.requires.can c.unchanged.ensures.term c.unchanged.ensures.line
