use Rattle.std.proofs.Common.{subst}
use Rattle.std.specs.Prelude.{IfSome}
use Rattle.nq_kernel.proofs.GrowingLemmas.{WorkGrows-trans}
use Rattle.nq_lines.specs.Lines.{IsTermIn}
use Rattle.nq_lines.proofs.LineLemmas.{line_grown}
use Rattle.nq_lines.proofs.TermLemmas.{term_grown}
use Rattle.nq_rewrite.proofs.kinds.kind_by_recognizer.Goals as goal

pub kind_by_literal-requires-clause-line : goal.kind_by_literal-requires-clause-line
kind_by_literal-requires-clause-line c = line_grown c.args.history.now c.args.work.now c.one_call.new.work c.args.line c.requires.stands c.one_call.ensures.grows c.requires.line

pub kind_by_literal-requires-clause-literal : goal.kind_by_literal-requires-clause-literal
kind_by_literal-requires-clause-literal c = subst (λ o. IfSome o (IsTermIn c.args.history.now c.one_call.new.work)) c.in-Some.is c.in_ok-p.ensures.call

pub kind_by_literal-requires-clause-pattern : goal.kind_by_literal-requires-clause-pattern
kind_by_literal-requires-clause-pattern c = term_grown c.args.history.now c.args.work.now c.one_call.new.work c.args.pattern c.requires.stands c.one_call.ensures.grows c.requires.pattern

pub kind_by_literal-requires-clause-term : goal.kind_by_literal-requires-clause-term
kind_by_literal-requires-clause-term c = term_grown c.args.history.now c.args.work.now c.one_call.new.work c.args.t c.requires.stands c.one_call.ensures.grows c.requires.term

pub returns-in-Some-clause-grows : goal.returns-in-Some-clause-grows
returns-in-Some-clause-grows c = WorkGrows-trans c.args.history.now c.args.work.now c.one_call.new.work c.kind_by_literal.new.work c.one_call.ensures.grows c.kind_by_literal.ensures.grows
