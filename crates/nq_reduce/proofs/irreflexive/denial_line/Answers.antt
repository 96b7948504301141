use Rattle.std.proofs.Common.{◌∷◌, [], subst}
use Rattle.std.specs.Prelude.{IfOk, IfSome}
use Rattle.nq_kernel.proofs.GrowingLemmas.{WorkGrows-trans}
use Rattle.nq_lines.specs.Lines.{LineHasOnly}
use Rattle.nq_reduce.proofs.irreflexive.denial_line.Goals as goal

pub returns-clause-line : goal.returns-clause-line
returns-clause-line c = subst (λ u. IfOk c.line_of_literal.result (λ found. IfSome found (λ n. LineHasOnly c.line_of_literal.new.work n (u ∷ [])))) c.in_ok-denial.ensures.denied.denotes c.line_of_literal.ensures.line

pub returns-clause-grows : goal.returns-clause-grows
returns-clause-grows c = WorkGrows-trans c.args.history.now c.args.work.now c.deny.new.work c.line_of_literal.new.work c.deny.ensures.grows c.line_of_literal.ensures.grows
