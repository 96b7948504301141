use Rattle.std.proofs.Common.{◌∷◌, refl, subst}
use Rattle.nq_bank.specs.Content.{term_at, terms_at}
use Rattle.nq_kernel.proofs.GrowingLemmas.{WorkGrows-trans, WorkGrows-refl}
use Rattle.nq_reduce.proofs.StepLemmas.{denied_line_now}
use Rattle.nq_reduce.proofs.RewritingLemmas.{can_grown, told_before}
use Rattle.nq_reduce.specs.Rewriting.{ShowsEqual}
use Rattle.nq_reduce.proofs.distinct.by_contradicted.Goals as goal

pub contradicted-requires-clause-new : goal.contradicted-requires-clause-new
contradicted-requires-clause-new c = subst (ShowsEqual c.args.work.now c.args.n ((term_at c.args.work.now.bank c.args.t) ∷ (terms_at c.args.work.now.bank c.args.assumed.now)) (term_at c.args.work.now.bank c.args.fact.term)) (c.if-is_falsity.ensures refl) c.requires.new

pub false_by_line-requires-clause-can : goal.false_by_line-requires-clause-can
false_by_line-requires-clause-can c = can_grown c.args.history.now c.args.work.now c.contradicted.new.work c.contradicted.ensures.grows c.args.assumed.now c.args.t c.requires.can

pub false_by_line-requires-clause-line : goal.false_by_line-requires-clause-line
false_by_line-requires-clause-line c = denied_line_now c.args.history.now c.args.work.now c.contradicted.new.work c.contradicted.ensures.grows c.args.assumed.now c.args.t c.in_ok-line.line c.requires.can c.in_ok-line.ensures.line

pub returns-in_ok-line-clause-ok : goal.returns-in_ok-line-clause-ok
returns-in_ok-line-clause-ok c = told_before c.args.history.now c.args.assumed.now c.args.work.now c.contradicted.new.work c.false_by_line.new.work c.args.t c.false_by_line.result c.contradicted.ensures.grows c.requires.can c.false_by_line.ensures.ok

pub returns-in_ok-line-clause-grows : goal.returns-in_ok-line-clause-grows
returns-in_ok-line-clause-grows c = (WorkGrows-trans c.args.history.now c.args.work.now c.contradicted.new.work c.false_by_line.new.work c.contradicted.ensures.grows c.false_by_line.ensures.grows)

pub returns-else-is_falsity-clause-grows : goal.returns-else-is_falsity-clause-grows
returns-else-is_falsity-clause-grows c = WorkGrows-refl c.args.history.now c.args.work.now c.requires.can.stands
