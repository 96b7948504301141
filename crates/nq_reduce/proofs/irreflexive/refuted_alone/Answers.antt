use Rattle.std.proofs.Common.{◌∷◌, [], subst}
use Rattle.std.specs.Prelude.{IfSome}
use Rattle.nq_logic.specs.Words.{not_term}
use Rattle.nq_bank.specs.Content.{term_at}
use Rattle.nq_kernel.proofs.GrowingLemmas.{WorkGrows-trans}
use Rattle.nq_lines.specs.Lines.{LineHasOnly}
use Rattle.nq_reduce.proofs.RewritingLemmas.{can_grown, itself, rewritten_before, told_before}
use Rattle.nq_reduce.proofs.IrreflexiveLemmas.{denied_alone}
use Rattle.nq_reduce.proofs.irreflexive.refuted_alone.Goals as goal

pub false_by_line-requires-clause-can : goal.false_by_line-requires-clause-can
false_by_line-requires-clause-can c = can_grown c.args.history.now c.args.work.now c.denial_line.new.work c.denial_line.ensures.grows c.args.assumed.now c.args.t c.requires.can

pub false_by_line-requires-clause-line : goal.false_by_line-requires-clause-line
false_by_line-requires-clause-line c =
    denied_alone c.args.history.now c.args.work.now c.denial_line.new.work c.args.assumed.now c.args.t c.in-Some.line c.denial_line.ensures.grows c.requires.can
    (subst (λ o. IfSome o (λ n. LineHasOnly c.denial_line.new.work n (not_term (term_at c.args.work.now.bank c.args.t) ∷ []))) c.in-Some.is c.in_ok-line.ensures.line)

pub returns-in-Some-clause-ok : goal.returns-in-Some-clause-ok
returns-in-Some-clause-ok c = told_before c.args.history.now c.args.assumed.now c.args.work.now c.denial_line.new.work c.false_by_line.new.work c.args.t c.false_by_line.result c.denial_line.ensures.grows c.requires.can c.false_by_line.ensures.ok

pub returns-in-Some-clause-grows : goal.returns-in-Some-clause-grows
returns-in-Some-clause-grows c = WorkGrows-trans c.args.history.now c.args.work.now c.denial_line.new.work c.false_by_line.new.work c.denial_line.ensures.grows c.false_by_line.ensures.grows

pub returns-in-None-clause-ok : goal.returns-in-None-clause-ok
returns-in-None-clause-ok c =
    rewritten_before c.args.history.now c.args.work.now c.denial_line.new.work c.denial_line.ensures.grows c.args.assumed.now c.args.t c.denial_line.new.work c.unchanged.result c.requires.can
    (itself c.args.history.now c.denial_line.new.work c.args.assumed.now c.args.t c.unchanged.result (can_grown c.args.history.now c.args.work.now c.denial_line.new.work c.denial_line.ensures.grows c.args.assumed.now c.args.t c.requires.can) c.unchanged.ensures.term c.unchanged.ensures.line)
