use Rattle.std.proofs.Common.{get_or}
use Rattle.nq_bank.specs.declared.node.TermId.{TermId}
use Rattle.nq_kernel.proofs.GrowingLemmas.{WorkGrows-refl, WorkGrows-trans}
use Rattle.nq_lines.proofs.TermLemmas.{term_grown}
use Rattle.nq_arithmetic.proofs.Lemmas.{all_grown}
use Rattle.nq_arithmetic.proofs.gathering.add_laws.Goals as goal

pub loop-t-init : goal.loop-t-init
loop-t-init c = record { grows = WorkGrows-refl c.args.history.now c.args.work.now c.requires.stands; found = c.requires.found }

pub add_all_at-requires-clause-stands : goal.add_all_at-requires-clause-stands
add_all_at-requires-clause-stands c = c.loop-t.invariant.grows.stands

pub add_all_at-requires-clause-goal : goal.add_all_at-requires-clause-goal
add_all_at-requires-clause-goal c = all_grown c.args.history.now c.args.work.now c.loop-t.work c.requires.stands c.loop-t.invariant.grows c.args.goal.now c.requires.goal

pub add_all_at-requires-clause-term : goal.add_all_at-requires-clause-term
add_all_at-requires-clause-term c = let d : TermId = record { 0 = 0 } in term_grown c.args.history.now c.args.work.now c.loop-t.work (get_or c.args.terms.now c.loop-t.t-index d) c.requires.stands c.loop-t.invariant.grows (c.requires.terms c.loop-t.t-index d c.loop-t-test.true)

pub add_all_at-requires-clause-found : goal.add_all_at-requires-clause-found
add_all_at-requires-clause-found c = c.loop-t.invariant.found

pub returns-in_err-add_all_at-clause-grows : goal.returns-in_err-add_all_at-clause-grows
returns-in_err-add_all_at-clause-grows c = WorkGrows-trans c.args.history.now c.args.work.now c.loop-t.work c.add_all_at.new.work c.loop-t.invariant.grows c.add_all_at.ensures.grows

pub loop-t-preserved : goal.loop-t-preserved
loop-t-preserved c = record { grows = WorkGrows-trans c.args.history.now c.args.work.now c.loop-t.work c.add_all_at.new.work c.loop-t.invariant.grows c.add_all_at.ensures.grows; found = c.in_ok-add_all_at.ensures.found }
