use Rattle.std.proofs.Common.{get_or}
use Rattle.nq_bank.specs.declared.node.TermId.{TermId}
use Rattle.nq_kernel.proofs.GrowingLemmas.{WorkGrows-refl, WorkGrows-trans}
use Rattle.nq_lines.proofs.TermLemmas.{term_grown}
use Rattle.nq_rewrite.proofs.ArithmeticLemmas.{no_terms, term_pushed}
use Rattle.nq_rewrite.proofs.arithmetic.goal_of.Goals as goal

pub returns-in_err-push-clause-grows : goal.returns-in_err-push-clause-grows
returns-in_err-push-clause-grows c = WorkGrows-refl c.args.history.now c.args.work.now c.requires.can.stands

pub loop-a-init : goal.loop-a-init
loop-a-init c = record { grows = WorkGrows-refl c.args.history.now c.args.work.now c.requires.can.stands; literals = term_pushed c.args.history.now c.args.work.now c.new-literals.result.items c.push.new.literals.items c.args.first c.in_ok-push.ensures.ok (no_terms c.args.history.now c.args.work.now c.new-literals.result.items c.new-literals.ensures.items) c.requires.can.term }

pub add_told-requires-clause-stands : goal.add_told-requires-clause-stands
add_told-requires-clause-stands c = c.loop-a.invariant.grows.stands

pub add_told-requires-clause-literals : goal.add_told-requires-clause-literals
add_told-requires-clause-literals c = c.loop-a.invariant.literals

pub add_told-requires-clause-term : goal.add_told-requires-clause-term
add_told-requires-clause-term c =
    let d : TermId = record { 0 = 0 } in
    term_grown c.args.history.now c.args.work.now c.loop-a.work (get_or c.args.assumed.now c.loop-a.a-index d) c.requires.can.stands c.loop-a.invariant.grows (c.requires.can.hypotheses c.loop-a.a-index d c.loop-a-test.true)

pub returns-in_err-add_told-clause-grows : goal.returns-in_err-add_told-clause-grows
returns-in_err-add_told-clause-grows c = WorkGrows-trans c.args.history.now c.args.work.now c.loop-a.work c.add_told.new.work c.loop-a.invariant.grows c.add_told.ensures.grows

pub loop-a-preserved : goal.loop-a-preserved
loop-a-preserved c = record { grows = WorkGrows-trans c.args.history.now c.args.work.now c.loop-a.work c.add_told.new.work c.loop-a.invariant.grows c.add_told.ensures.grows; literals = c.in_ok-add_told.ensures.literals }
