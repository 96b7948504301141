use Rattle.std.proofs.Common.{subst, sym, get_or}
use Rattle.std.specs.Prelude.{IfSome}
use Rattle.nq_bank.specs.declared.node.TermId.{TermId}
use Rattle.nq_kernel.proofs.GrowingLemmas.{WorkGrows-refl, WorkGrows-trans}
use Rattle.nq_lines.specs.Lines.{LineHasOnly}
use Rattle.nq_lines.proofs.TermLemmas.{term_grown}
use Rattle.nq_arithmetic.proofs.Lemmas.{all_grown, assumptions_grown, goal_same}
use Rattle.nq_arithmetic.proofs.arithmetic.by_equations.Goals as goal

pub loop-t-init : goal.loop-t-init
loop-t-init c = record { grows = WorkGrows-refl c.args.history.now c.args.work.now c.requires.stands; found = tt }

pub or_by_literal-requires-clause-stands : goal.or_by_literal-requires-clause-stands
or_by_literal-requires-clause-stands c = c.loop-t.invariant.grows.stands

pub or_by_literal-requires-clause-goal : goal.or_by_literal-requires-clause-goal
or_by_literal-requires-clause-goal c = all_grown c.args.history.now c.args.work.now c.loop-t.work c.requires.stands c.loop-t.invariant.grows c.args.goal.now c.requires.goal

pub or_by_literal-requires-clause-assumptions : goal.or_by_literal-requires-clause-assumptions
or_by_literal-requires-clause-assumptions c = assumptions_grown c.args.history.now c.args.work.now c.loop-t.work c.requires.stands c.loop-t.invariant.grows c.args.assumptions.now c.requires.assumptions

pub or_by_literal-requires-clause-found : goal.or_by_literal-requires-clause-found
or_by_literal-requires-clause-found c = subst (λ ts. IfSome c.loop-t.found (λ n. LineHasOnly c.loop-t.work n ts)) (sym (goal_same c.args.history.now c.args.work.now c.loop-t.work c.requires.stands c.loop-t.invariant.grows c.args.goal.now c.requires.goal)) c.loop-t.invariant.found

pub or_by_literal-requires-clause-literal : goal.or_by_literal-requires-clause-literal
or_by_literal-requires-clause-literal c = let d : TermId = record { 0 = 0 } in term_grown c.args.history.now c.args.work.now c.loop-t.work (get_or c.args.goal.now c.loop-t.t-index d) c.requires.stands c.loop-t.invariant.grows (c.requires.goal c.loop-t.t-index d c.loop-t-test.true)

pub returns-in_err-found-clause-grows : goal.returns-in_err-found-clause-grows
returns-in_err-found-clause-grows c = (WorkGrows-trans c.args.history.now c.args.work.now c.loop-t.work c.or_by_literal.new.work c.loop-t.invariant.grows c.or_by_literal.ensures.grows)

pub loop-t-preserved : goal.loop-t-preserved
loop-t-preserved c = record { grows = (WorkGrows-trans c.args.history.now c.args.work.now c.loop-t.work c.or_by_literal.new.work c.loop-t.invariant.grows c.or_by_literal.ensures.grows); found = subst (λ ts. IfSome c.in_ok-found.found (λ n. LineHasOnly c.or_by_literal.new.work n ts)) (goal_same c.args.history.now c.args.work.now c.loop-t.work c.requires.stands c.loop-t.invariant.grows c.args.goal.now c.requires.goal) c.in_ok-found.ensures.line }
