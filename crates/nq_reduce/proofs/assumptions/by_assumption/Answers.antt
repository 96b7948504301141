use Rattle.std.proofs.Common.{subst}
use Rattle.std.specs.Prelude.{IfSome}
use Rattle.nq_bank.specs.Content.{term_at, terms_at}
use Rattle.nq_kernel.proofs.GrowingLemmas.{WorkGrows-trans}
use Rattle.nq_reduce.specs.Rewriting.{IsKnown}
use Rattle.nq_reduce.proofs.RewritingLemmas.{can_grown, itself, known_now, rewritten_before, told_before}
use Rattle.nq_reduce.proofs.assumptions.by_assumption.Goals as goal

pub false_where_known-requires-clause-can : goal.false_where_known-requires-clause-can
false_where_known-requires-clause-can c = can_grown c.args.history.now c.args.work.now c.known_false.new.work c.known_false.ensures.grows c.args.assumed.now c.args.t c.requires.can

pub false_where_known-requires-clause-known : goal.false_where_known-requires-clause-known
false_where_known-requires-clause-known c = known_now c.args.history.now c.args.assumed.now c.args.work.now c.known_false.new.work c.args.t c.in-Some.known c.known_false.ensures.grows c.requires.can (subst (λ o. IfSome o (IsKnown c.known_false.new.work (terms_at c.args.work.now.bank c.args.assumed.now) (term_at c.args.work.now.bank c.args.t))) c.in-Some.is c.in_ok-known.ensures.known)

pub returns-in-Some-clause-ok : goal.returns-in-Some-clause-ok
returns-in-Some-clause-ok c = told_before c.args.history.now c.args.assumed.now c.args.work.now c.known_false.new.work c.false_where_known.new.work c.args.t c.false_where_known.result c.known_false.ensures.grows c.requires.can c.false_where_known.ensures.ok

pub returns-in-Some-clause-grows : goal.returns-in-Some-clause-grows
returns-in-Some-clause-grows c = WorkGrows-trans c.args.history.now c.args.work.now c.known_false.new.work c.false_where_known.new.work c.known_false.ensures.grows c.false_where_known.ensures.grows

pub returns-in-None-clause-ok : goal.returns-in-None-clause-ok
returns-in-None-clause-ok c =
    rewritten_before c.args.history.now c.args.work.now c.known_false.new.work c.known_false.ensures.grows c.args.assumed.now c.args.t c.known_false.new.work c.unchanged.result c.requires.can
    (itself c.args.history.now c.known_false.new.work c.args.assumed.now c.args.t c.unchanged.result (can_grown c.args.history.now c.args.work.now c.known_false.new.work c.known_false.ensures.grows c.args.assumed.now c.args.t c.requires.can) c.unchanged.ensures.term c.unchanged.ensures.line)
