use Rattle.std.proofs.Common.{subst}
use Rattle.std.specs.Prelude.{IfSome}
use Rattle.nq_bank.specs.Content.{term_at, terms_at}
use Rattle.nq_kernel.proofs.GrowingLemmas.{WorkGrows-trans}
use Rattle.nq_lines.proofs.LineLemmas.{line_grown}
use Rattle.nq_reduce.specs.Rewriting.{IsKnown}
use Rattle.nq_reduce.proofs.DroppingLemmas.{drops_before}
use Rattle.nq_reduce.proofs.RewritingLemmas.{can_grown, known_now}
use Rattle.nq_reduce.proofs.dropping.without_term.Goals as goal

pub without_known-requires-clause-can : goal.without_known-requires-clause-can
without_known-requires-clause-can c = can_grown c.args.history.now c.args.work.now c.denied_or_settled.new.work c.denied_or_settled.ensures.grows c.args.assumed.now c.args.t c.requires.can

pub without_known-requires-clause-line : goal.without_known-requires-clause-line
without_known-requires-clause-line c = line_grown c.args.history.now c.args.work.now c.denied_or_settled.new.work c.args.line c.requires.can.stands c.denied_or_settled.ensures.grows c.requires.line

pub without_known-requires-clause-known : goal.without_known-requires-clause-known
without_known-requires-clause-known c = known_now c.args.history.now c.args.assumed.now c.args.work.now c.denied_or_settled.new.work c.args.t c.in-Some.known c.denied_or_settled.ensures.grows c.requires.can (subst (λ o. IfSome o (IsKnown c.denied_or_settled.new.work (terms_at c.args.work.now.bank c.args.assumed.now) (term_at c.args.work.now.bank c.args.t))) c.in-Some.is c.in_ok-known.ensures.known)

pub returns-in-Some-clause-line : goal.returns-in-Some-clause-line
returns-in-Some-clause-line c = drops_before c.args.history.now c.args.work.now c.denied_or_settled.new.work c.without_known.new.work c.denied_or_settled.ensures.grows c.args.assumed.now c.args.t c.args.line c.without_known.result c.requires.can c.without_known.ensures.line

pub returns-in-Some-clause-grows : goal.returns-in-Some-clause-grows
returns-in-Some-clause-grows c = (WorkGrows-trans c.args.history.now c.args.work.now c.denied_or_settled.new.work c.without_known.new.work c.denied_or_settled.ensures.grows c.without_known.ensures.grows)
