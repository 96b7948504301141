use Rattle.nq_kernel.proofs.GrowingLemmas.{WorkGrows-trans}
use Rattle.std.proofs.Common.{subst}
use Rattle.std.specs.Prelude.{IfSome}
use Rattle.nq_lines.specs.Lines.{IsTermIn}
use Rattle.nq_reduce.proofs.RewritingLemmas.{can_grown}
use Rattle.nq_reduce.proofs.HeldLemmas.{held_before}
use Rattle.nq_reduce.proofs.restricted.default_fact.Goals as goal

pub default_shown-requires-clause-can : goal.default_shown-requires-clause-can
default_shown-requires-clause-can c = can_grown c.args.history.now c.args.work.now c.default_equation.new.work c.default_equation.ensures.grows c.args.assumed.now c.args.t c.requires.can

pub default_shown-requires-clause-equation : goal.default_shown-requires-clause-equation
default_shown-requires-clause-equation c = (subst (λ o. IfSome o (IsTermIn c.args.history.now c.default_equation.new.work)) c.in-Some.is c.in_ok-e.ensures.equation)

pub returns-in-Some-clause-held : goal.returns-in-Some-clause-held
returns-in-Some-clause-held c = held_before c.args.history.now c.args.work.now c.default_equation.new.work c.default_equation.ensures.grows c.args.assumed.now c.args.t c.requires.can c.default_shown.new.work c.default_shown.result c.default_shown.ensures.held

pub returns-in-Some-clause-grows : goal.returns-in-Some-clause-grows
returns-in-Some-clause-grows c = WorkGrows-trans c.args.history.now c.args.work.now c.default_equation.new.work c.default_shown.new.work c.default_equation.ensures.grows c.default_shown.ensures.grows
