use Rattle.std.proofs.Common.{subst}
use Rattle.std.specs.Prelude.{IfSome, Ok, Some}
use Rattle.nq_bank.specs.Content.{terms_at}
use Rattle.nq_kernel.proofs.GrowingLemmas.{WorkGrows-trans}
use Rattle.nq_lines.specs.Facts.{IsFact}
use Rattle.nq_reduce.proofs.RewritingLemmas.{can_grown, told_before}
use Rattle.nq_reduce.proofs.HeldLemmas.{held_fact, unchanged_after}
use Rattle.nq_rewrite.proofs.conditions.by_fact.Goals as goal

pub rewritten_by-requires-clause-can : goal.rewritten_by-requires-clause-can
rewritten_by-requires-clause-can c = can_grown c.args.history.now c.args.work.now c.matched_fact.new.work c.matched_fact.ensures.grows c.args.assumed.now c.args.t c.requires.can

pub rewritten_by-requires-clause-fact : goal.rewritten_by-requires-clause-fact
rewritten_by-requires-clause-fact c =
    let fact = subst (λ o. IfSome o (IsFact c.args.history.now c.matched_fact.new.work)) c.in-Some.is c.in_ok-instance.ensures.fact in
    held_fact c.args.history.now c.matched_fact.new.work (terms_at c.matched_fact.new.work.bank c.args.assumed.now) (Ok (Some c.in-Some.instance)) fact

pub returns-in-Some-clause-ok : goal.returns-in-Some-clause-ok
returns-in-Some-clause-ok c = told_before c.args.history.now c.args.assumed.now c.args.work.now c.matched_fact.new.work c.rewritten_by.new.work c.args.t c.rewritten_by.result c.matched_fact.ensures.grows c.requires.can c.rewritten_by.ensures.ok

pub returns-in-Some-clause-grows : goal.returns-in-Some-clause-grows
returns-in-Some-clause-grows c = (WorkGrows-trans c.args.history.now c.args.work.now c.matched_fact.new.work c.rewritten_by.new.work c.matched_fact.ensures.grows c.rewritten_by.ensures.grows)

pub returns-in-None-clause-ok : goal.returns-in-None-clause-ok
returns-in-None-clause-ok c = unchanged_after c.args.history.now c.args.work.now c.matched_fact.new.work c.args.assumed.now c.args.t c.unchanged.result c.matched_fact.ensures.grows c.requires.can c.unchanged.ensures.term c.unchanged.ensures.line
