use Rattle.std.proofs.Common.{arith}
use Rattle.nq_bank.specs.declared.node.TermId.{TermId}
use Rattle.nq_replay.proofs.UncountedLemmas.{grown_refl, grown_trans}
use Rattle.nq_kernel.proofs.GrowingLemmas.{LineHolds-grown}
use Rattle.nq_replay.specs.LawClauses.{choice_opens_clause}
use Rattle.nq_measures.proofs.OpeningLemmas.{has_second, second_is, literals_among, inner_is, left_in, right_in, whole_is, next_opened, next_line, end_opened}
use Rattle.nq_measures.proofs.openings.open_nest.Goals as goal

pub loop-place-init : goal.loop-place-init
loop-place-init c =
    record {
      here = record { grows = grown_refl c.args.history.now c.args.work.now c.requires.stands; stands = c.requires.stands; nested = c.requires.whole; over = c.requires.over; room = c.requires.room };
      standing = c.requires.line;
      below = c.requires.some;
      told = λ these h. literals_among _ _ _ these h;
    }

pub open_choice-requires-clause-law : goal.open_choice-requires-clause-law
open_choice-requires-clause-law c = LineHolds-grown c.args.history.now c.args.work.now c.loop-place.work c.args.law choice_opens_clause c.requires.stands c.loop-place.invariant.here.grows.grows c.requires.law

pub open_choice-requires-clause-right : goal.open_choice-requires-clause-right
open_choice-requires-clause-right c =
    let d : TermId = record { 0 = 0 } in
    (inner_is c.args.history.now c.args.work.now c.loop-place.work c.args.literals.now c.loop-place.place c.loop-place.whole c.argument_at-inner.result d c.loop-place.invariant.here c.requires.stand c.loop-place-test.true (second_is c.loop-place.work.bank c.argument_at-inner.result c.loop-place.whole c.argument_at-inner.ensures.stands c.argument_at-inner.ensures.argument)).stands

pub open_choice-requires-clause-left_over : goal.open_choice-requires-clause-left_over
open_choice-requires-clause-left_over c =
    let d : TermId = record { 0 = 0 } in
    left_in c.args.history.now c.args.work.now c.loop-place.work c.args.literals.now c.loop-place.place c.loop-place.whole c.argument_at-inner.result d c.loop-place.invariant.here c.requires.stand c.loop-place-test.true (second_is c.loop-place.work.bank c.argument_at-inner.result c.loop-place.whole c.argument_at-inner.ensures.stands c.argument_at-inner.ensures.argument)

pub open_choice-requires-clause-right_over : goal.open_choice-requires-clause-right_over
open_choice-requires-clause-right_over c =
    let d : TermId = record { 0 = 0 } in
    right_in c.args.history.now c.args.work.now c.loop-place.work c.args.literals.now c.loop-place.place c.loop-place.whole c.argument_at-inner.result d c.loop-place.invariant.here c.requires.stand c.loop-place-test.true (second_is c.loop-place.work.bank c.argument_at-inner.result c.loop-place.whole c.argument_at-inner.ensures.stands c.argument_at-inner.ensures.argument)

pub open_choice-requires-clause-whole : goal.open_choice-requires-clause-whole
open_choice-requires-clause-whole c =
    let d : TermId = record { 0 = 0 } in
    whole_is c.args.history.now c.args.work.now c.loop-place.work c.args.literals.now c.loop-place.place c.loop-place.whole c.argument_at-inner.result d c.loop-place.invariant.here c.requires.stand c.loop-place-test.true (second_is c.loop-place.work.bank c.argument_at-inner.result c.loop-place.whole c.argument_at-inner.ensures.stands c.argument_at-inner.ensures.argument)

pub returns-in_err-line-clause-grows : goal.returns-in_err-line-clause-grows
returns-in_err-line-clause-grows c = grown_trans c.args.history.now c.args.work.now c.loop-place.work c.open_choice.new.work c.loop-place.invariant.here.grows c.open_choice.ensures.grows

pub loop-place-preserved : goal.loop-place-preserved
loop-place-preserved c =
    let d : TermId = record { 0 = 0 } in
    record {
      here = next_opened c.args.history.now c.args.work.now c.loop-place.work c.args.literals.now c.loop-place.place c.loop-place.whole c.argument_at-inner.result d c.loop-place.invariant.here c.requires.stand c.loop-place-test.true (second_is c.loop-place.work.bank c.argument_at-inner.result c.loop-place.whole c.argument_at-inner.ensures.stands c.argument_at-inner.ensures.argument) c.open_choice.new.work c.open_choice.ensures.grows;
      standing = c.in_ok-line.ensures.stands;
      below = omega (arith, c.loop-place-test.true);
      told = λ these h. next_line c.args.history.now c.args.work.now c.loop-place.work c.args.literals.now c.loop-place.place c.loop-place.whole c.argument_at-inner.result d c.loop-place.invariant.here c.requires.stand c.loop-place-test.true (second_is c.loop-place.work.bank c.argument_at-inner.result c.loop-place.whole c.argument_at-inner.ensures.stands c.argument_at-inner.ensures.argument) _ _ these c.in_ok-line.ensures.line (c.loop-place.invariant.told these h);
    }

pub returns-clause-line : goal.returns-clause-line
returns-clause-line c =
    let d : TermId = record { 0 = 0 } in
    λ these h. end_opened _ c.args.work.now.bank c.args.literals.now c.loop-place.place d these c.requires.some c.loop-place.invariant.below c.loop-place-test.false (c.loop-place.invariant.told these h)

pub argument_at-inner-requires-clause-place : goal.argument_at-inner-requires-clause-place
argument_at-inner-requires-clause-place c = has_second c.args.history.now c.args.work.now c.loop-place.work c.args.literals.now c.loop-place.place c.loop-place.whole c.loop-place.invariant.here c.loop-place-test.true
