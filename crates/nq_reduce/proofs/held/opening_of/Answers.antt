use Rattle.std.proofs.Common.{subst}
use Rattle.std.specs.Prelude.{IfSome}
use Rattle.nq_bank.specs.Content.{term_at, terms_at}
use Rattle.nq_reduce.proofs.HeldLemmas.{opening_rewritten, unchanged_after}
use Rattle.nq_lines.specs.Facts.{IsOpening}
use Rattle.nq_reduce.proofs.held.opening_of.Goals as goal

pub returns-in-Some-clause-ok : goal.returns-in-Some-clause-ok
returns-in-Some-clause-ok c = opening_rewritten c.args.history.now c.opening.new.work (terms_at c.args.work.now.bank c.args.assumed.now) (term_at c.args.work.now.bank c.args.t) c.in-Some.body (subst (λ o. IfSome o (IsOpening c.args.history.now c.opening.new.work (term_at c.args.work.now.bank c.args.t))) c.in-Some.is c.in_ok-body.ensures.opening)

pub returns-in-None-clause-ok : goal.returns-in-None-clause-ok
returns-in-None-clause-ok c = unchanged_after c.args.history.now c.args.work.now c.opening.new.work c.args.assumed.now c.args.t c.unchanged.result c.opening.ensures.grows c.requires.can c.unchanged.ensures.term c.unchanged.ensures.line
