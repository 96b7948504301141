use Rattle.std.proofs.Common.{subst}
use Rattle.std.specs.Prelude.{IfSome}
use Rattle.nq_kernel.proofs.GrowingLemmas.{WorkGrows-trans}
use Rattle.nq_lines.specs.Lines.{IsTermIn}
use Rattle.nq_lines.proofs.FactLemmas.{own_terms_grown}
use Rattle.nq_lines.proofs.TermLemmas.{term_grown}
use Rattle.nq_tactic.proofs.circular.line_by_sides.Goals as goal

pub line_by_size-requires-clause-ready : goal.line_by_size-requires-clause-ready
line_by_size-requires-clause-ready c = own_terms_grown c.args.history.now c.args.work.now c.one_call.new.work c.one_call.ensures.grows c.requires.stands c.requires.ready

pub line_by_size-requires-clause-equation : goal.line_by_size-requires-clause-equation
line_by_size-requires-clause-equation c = term_grown c.args.history.now c.args.work.now c.one_call.new.work c.args.e c.requires.stands c.one_call.ensures.grows c.requires.equation

pub line_by_size-requires-clause-right : goal.line_by_size-requires-clause-right
line_by_size-requires-clause-right c = term_grown c.args.history.now c.args.work.now c.one_call.new.work c.args.sides.right c.requires.stands c.one_call.ensures.grows c.requires.sides.right

pub line_by_size-requires-clause-size : goal.line_by_size-requires-clause-size
line_by_size-requires-clause-size c = subst (λ o. IfSome o (IsTermIn c.args.history.now c.one_call.new.work)) c.in-Some.is c.in_ok-size.ensures.call

pub returns-in-Some-clause-grows : goal.returns-in-Some-clause-grows
returns-in-Some-clause-grows c = WorkGrows-trans c.args.history.now c.args.work.now c.one_call.new.work c.line_by_size.new.work c.one_call.ensures.grows c.line_by_size.ensures.grows
