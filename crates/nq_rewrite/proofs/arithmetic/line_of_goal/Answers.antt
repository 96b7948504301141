use Rattle.std.proofs.Common.{sym, subst}
use Rattle.std.specs.Prelude.{IfSome}
use Rattle.nq_bank.specs.Content.{terms_at}
use Rattle.nq_kernel.proofs.GrowingLemmas.{WorkGrows-trans}
use Rattle.nq_lines.specs.Lines.{LineHasOnly}
use Rattle.nq_reduce.proofs.RewritingLemmas.{can_grown, terms_same}
use Rattle.nq_reduce.proofs.DroppingLemmas.{rest_told}
use Rattle.nq_rewrite.proofs.ArithmeticLemmas.{terms_grown}
use Rattle.nq_rewrite.proofs.arithmetic.line_of_goal.Goals as goal

pub kept_among-requires-clause-can : goal.kept_among-requires-clause-can
kept_among-requires-clause-can c = can_grown c.args.history.now c.args.work.now c.arithmetic_line.new.work c.arithmetic_line.ensures.grows c.args.assumed.now c.args.first c.requires.can

pub kept_among-requires-clause-goal : goal.kept_among-requires-clause-goal
kept_among-requires-clause-goal c = terms_grown c.args.history.now c.args.work.now c.arithmetic_line.new.work c.requires.can.stands c.arithmetic_line.ensures.grows c.args.goal.now c.requires.goal

pub kept_among-requires-clause-line : goal.kept_among-requires-clause-line
kept_among-requires-clause-line c =
    subst (LineHasOnly c.arithmetic_line.new.work c.in-Some.line) (sym (terms_same c.args.history.now c.args.work.now c.arithmetic_line.new.work c.arithmetic_line.ensures.grows c.args.goal.now c.requires.goal))
    (subst (λ o. IfSome o (λ n. LineHasOnly c.arithmetic_line.new.work n (terms_at c.args.work.now.bank c.args.goal.now))) c.in-Some.is c.in_ok-line.ensures.line)

pub returns-in-Some-clause-line : goal.returns-in-Some-clause-line
returns-in-Some-clause-line c = rest_told c.args.history.now c.args.work.now c.arithmetic_line.new.work c.kept_among.new.work c.arithmetic_line.ensures.grows c.args.assumed.now c.args.first c.kept_among.result c.requires.can c.kept_among.ensures.line

pub returns-in-Some-clause-grows : goal.returns-in-Some-clause-grows
returns-in-Some-clause-grows c = WorkGrows-trans c.args.history.now c.args.work.now c.arithmetic_line.new.work c.kept_among.new.work c.arithmetic_line.ensures.grows c.kept_among.ensures.grows
