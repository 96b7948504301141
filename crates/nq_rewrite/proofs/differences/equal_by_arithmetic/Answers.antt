use Rattle.std.proofs.Common.{◌∷◌, subst}
use Rattle.std.specs.Prelude.{IfSome}
use Rattle.nq_bank.specs.Content.{term_at, terms_at}
use Rattle.nq_lines.specs.Lines.{LineHasOnly}
use Rattle.nq_reduce.specs.Rewriting.{denials}
use Rattle.nq_reduce.proofs.RewritingLemmas.{can_grown, can_term, itself, rewritten_before}
use Rattle.nq_rewrite.proofs.ArithmeticLemmas.{equation_told}
use Rattle.nq_rewrite.proofs.differences.equal_by_arithmetic.Goals as goal

pub line_by_arithmetic-requires : goal.line_by_arithmetic-requires
line_by_arithmetic-requires c = record { can = can_term c.args.history.now c.args.work.now c.args.assumed.now c.args.t c.args.equation c.requires.can c.requires.over }

pub returns-in-Some-clause-ok : goal.returns-in-Some-clause-ok
returns-in-Some-clause-ok c =
    equation_told c.args.history.now c.args.work.now c.line_by_arithmetic.new.work c.args.assumed.now c.args.t c.args.other c.args.equation c.in-Some.line c.line_by_arithmetic.ensures.grows c.requires.can c.requires.other c.requires.equation
    (subst (λ o. IfSome o (λ n. LineHasOnly c.line_by_arithmetic.new.work n (term_at c.args.work.now.bank c.args.equation ∷ denials (terms_at c.args.work.now.bank c.args.assumed.now)))) c.in-Some.is c.in_ok-line.ensures.line)

pub returns-in-None-clause-ok : goal.returns-in-None-clause-ok
returns-in-None-clause-ok c =
    rewritten_before c.args.history.now c.args.work.now c.line_by_arithmetic.new.work c.line_by_arithmetic.ensures.grows c.args.assumed.now c.args.t c.line_by_arithmetic.new.work c.unchanged.result c.requires.can
    (itself c.args.history.now c.line_by_arithmetic.new.work c.args.assumed.now c.args.t c.unchanged.result (can_grown c.args.history.now c.args.work.now c.line_by_arithmetic.new.work c.line_by_arithmetic.ensures.grows c.args.assumed.now c.args.t c.requires.can) c.unchanged.ensures.term c.unchanged.ensures.line)
