use Rattle.std.proofs.Common.{get_or}
use Rattle.nq_bank.specs.declared.node.TermId.{TermId}
use Rattle.nq_kernel.proofs.GrowingLemmas.{WorkGrows-refl, WorkGrows-trans}
use Rattle.nq_elim.proofs.GrownLemmas.{terms_grown}
use Rattle.nq_lines.proofs.TermLemmas.{term_grown}
use Rattle.nq_elim.proofs.equating.equate_numbers.Goals as goal

pub loop-literal-init : goal.loop-literal-init
loop-literal-init c = WorkGrows-refl c.args.history.now c.args.work.now c.requires.stands

pub by_literal-requires-clause-stands : goal.by_literal-requires-clause-stands
by_literal-requires-clause-stands c = c.loop-literal.invariant.stands

pub by_literal-requires-clause-goal : goal.by_literal-requires-clause-goal
by_literal-requires-clause-goal c = terms_grown c.args.history.now c.args.work.now c.loop-literal.work c.requires.stands c.loop-literal.invariant c.args.goal.now c.requires.goal

pub by_literal-requires-clause-literal : goal.by_literal-requires-clause-literal
by_literal-requires-clause-literal c = let d : TermId = record { 0 = 0 } in term_grown c.args.history.now c.args.work.now c.loop-literal.work (get_or c.args.goal.now c.loop-literal.literal-index d) c.requires.stands c.loop-literal.invariant (c.requires.goal c.loop-literal.literal-index d c.loop-literal-test.true)

pub returns-in_err-found-clause-grows : goal.returns-in_err-found-clause-grows
returns-in_err-found-clause-grows c = WorkGrows-trans c.args.history.now c.args.work.now c.loop-literal.work c.by_literal.new.work c.loop-literal.invariant c.by_literal.ensures.grows

pub returns-in-Some-clause-grows : goal.returns-in-Some-clause-grows
returns-in-Some-clause-grows c = WorkGrows-trans c.args.history.now c.args.work.now c.loop-literal.work c.by_literal.new.work c.loop-literal.invariant c.by_literal.ensures.grows

pub loop-literal-preserved : goal.loop-literal-preserved
loop-literal-preserved c = WorkGrows-trans c.args.history.now c.args.work.now c.loop-literal.work c.by_literal.new.work c.loop-literal.invariant c.by_literal.ensures.grows
