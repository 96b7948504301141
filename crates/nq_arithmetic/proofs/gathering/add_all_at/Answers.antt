use Rattle.std.proofs.Common.{subst, sym}
use Rattle.std.specs.Prelude.{All}
use Rattle.nq_kernel.proofs.GrowingLemmas.{WorkGrows-refl, WorkGrows-trans}
use Rattle.nq_lines.proofs.TermLemmas.{term_grown}
use Rattle.nq_lines.specs.Lines.{IsTermIn}
use Rattle.nq_arithmetic.proofs.Lemmas.{all_grown}
use Rattle.nq_arithmetic.specs.Claims.{IsAssumptionIn}
use Rattle.nq_arithmetic.proofs.gathering.add_all_at.Goals as goal

pub literals_with-requires-clause-assumptions : goal.literals_with-requires-clause-assumptions
literals_with-requires-clause-assumptions c = subst (All (IsAssumptionIn c.args.history.now c.args.work.now)) (sym c.as_slice.ensures.value) c.requires.found

pub returns-in_err-literals-clause-grows : goal.returns-in_err-literals-clause-grows
returns-in_err-literals-clause-grows c = WorkGrows-refl c.args.history.now c.args.work.now c.requires.stands

pub loop-template-init : goal.loop-template-init
loop-template-init c = record { grows = WorkGrows-refl c.args.history.now c.args.work.now c.requires.stands; found = c.requires.found }

pub add_in_round-requires-clause-stands : goal.add_in_round-requires-clause-stands
add_in_round-requires-clause-stands c = c.loop-template.invariant.grows.stands

pub add_in_round-requires-clause-literals : goal.add_in_round-requires-clause-literals
add_in_round-requires-clause-literals c = all_grown c.args.history.now c.args.work.now c.loop-template.work c.requires.stands c.loop-template.invariant.grows c.as_slice-in-loop-template.result.now (subst (All (IsTermIn c.args.history.now c.args.work.now)) (sym c.as_slice-in-loop-template.ensures.value) c.in_ok-literals.ensures.literals)

pub add_in_round-requires-clause-found : goal.add_in_round-requires-clause-found
add_in_round-requires-clause-found c = c.loop-template.invariant.found

pub add_in_round-requires-clause-term : goal.add_in_round-requires-clause-term
add_in_round-requires-clause-term c = term_grown c.args.history.now c.args.work.now c.loop-template.work c.args.t c.requires.stands c.loop-template.invariant.grows c.requires.term

pub returns-in_err-add_in_round-clause-grows : goal.returns-in_err-add_in_round-clause-grows
returns-in_err-add_in_round-clause-grows c = WorkGrows-trans c.args.history.now c.args.work.now c.loop-template.work c.add_in_round.new.work c.loop-template.invariant.grows c.add_in_round.ensures.grows

pub loop-template-preserved : goal.loop-template-preserved
loop-template-preserved c = record { grows = WorkGrows-trans c.args.history.now c.args.work.now c.loop-template.work c.add_in_round.new.work c.loop-template.invariant.grows c.add_in_round.ensures.grows; found = c.in_ok-add_in_round.ensures.found }
