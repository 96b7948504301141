use Rattle.nq_kernel.proofs.GrowingLemmas.{WorkGrows-trans}
use Rattle.std.proofs.Common.{subst}
use Rattle.std.specs.Prelude.{IfSome}
use Rattle.nq_bank.specs.Content.{term_at, terms_at}
use Rattle.nq_reduce.specs.Rewriting.{IsKnown}
use Rattle.nq_reduce.proofs.RewritingLemmas.{can_grown, told_before, known_now}
use Rattle.nq_reduce.proofs.HeldLemmas.{unchanged_after}
use Rattle.nq_reduce.proofs.bases.by_turned_known.Goals as goal

pub false_where_known-requires-clause-can : goal.false_where_known-requires-clause-can
false_where_known-requires-clause-can c = can_grown c.args.history.now c.args.work.now c.turned_back.new.work c.turned_back.ensures.grows c.args.assumed.now c.args.t c.requires.can

pub false_where_known-requires-clause-known : goal.false_where_known-requires-clause-known
false_where_known-requires-clause-known c = known_now c.args.history.now c.args.assumed.now c.args.work.now c.turned_back.new.work c.args.t c.in-Some.told c.turned_back.ensures.grows c.requires.can (subst (λ o. IfSome o (IsKnown c.turned_back.new.work (terms_at c.args.work.now.bank c.args.assumed.now) (term_at c.args.work.now.bank c.args.t))) c.in-Some.is c.in_ok-told.ensures.known)

pub returns-in-Some-clause-ok : goal.returns-in-Some-clause-ok
returns-in-Some-clause-ok c = told_before c.args.history.now c.args.assumed.now c.args.work.now c.turned_back.new.work c.false_where_known.new.work c.args.t c.false_where_known.result c.turned_back.ensures.grows c.requires.can c.false_where_known.ensures.ok

pub returns-in-Some-clause-grows : goal.returns-in-Some-clause-grows
returns-in-Some-clause-grows c = WorkGrows-trans c.args.history.now c.args.work.now c.turned_back.new.work c.false_where_known.new.work c.turned_back.ensures.grows c.false_where_known.ensures.grows

pub returns-in-None-clause-ok : goal.returns-in-None-clause-ok
returns-in-None-clause-ok c = unchanged_after c.args.history.now c.args.work.now c.turned_back.new.work c.args.assumed.now c.args.t c.unchanged.result c.turned_back.ensures.grows c.requires.can c.unchanged.ensures.term c.unchanged.ensures.line
