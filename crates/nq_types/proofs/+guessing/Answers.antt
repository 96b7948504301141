use Rattle.std.proofs.Common.{ℕ, arith, subst, sym}
use Rattle.nq_kernel.proofs.GrowingLemmas.{WorkGrows-refl, WorkGrows-trans}
use Rattle.nq_lines.proofs.LineLemmas.{line_grown, only_stands}
use Rattle.nq_lines.proofs.TermLemmas.{term_grown}
use Rattle.nq_types.proofs.GuessLemmas.{guess_grown, guess_under, parts_grown}
use Rattle.std.specs.Prelude.{All, IfSome, Option}
use Rattle.nq_bank.specs.Content.{term_at}
use Rattle.nq_kernel.specs.Growing.{LineStands}
use Rattle.nq_lines.specs.declared.facts.Fact.{Fact}
use Rattle.nq_lines.specs.Facts.{IsOpening}
use Rattle.nq_types.specs.Guessing.{IsGuessed}
use Rattle.nq_lines.specs.Lines.{IsTermIn}
use Rattle.nq_types.proofs.+guessing.Goals as goal

pub guessing::told_line-without_all-requires-clause-room : goal.guessing::told_line-without_all-requires-clause-room
guessing::told_line-without_all-requires-clause-room t c = (guess_grown c.args.history.now c.args.work.now c.any_line.new.work c.args.assumed.now c.any_line.ensures.grows c.requires.can).room

pub guessing::told_line-without_all-requires-clause-assumed : goal.guessing::told_line-without_all-requires-clause-assumed
guessing::told_line-without_all-requires-clause-assumed t c = (guess_grown c.args.history.now c.args.work.now c.any_line.new.work c.args.assumed.now c.any_line.ensures.grows c.requires.can).assumed

pub guessing::told_line-without_all-requires-clause-term : goal.guessing::told_line-without_all-requires-clause-term
guessing::told_line-without_all-requires-clause-term t c = (term_grown c.args.history.now c.args.work.now c.any_line.new.work c.args.t c.requires.can.stands c.any_line.ensures.grows c.requires.term)

pub guessing::told_line-returns-in_err-told-in-Some-clause-grows : goal.guessing::told_line-returns-in_err-told-in-Some-clause-grows
guessing::told_line-returns-in_err-told-in-Some-clause-grows t c = (WorkGrows-trans c.args.history.now c.args.work.now c.any_line.new.work c.without_all.new.work c.any_line.ensures.grows c.without_all.ensures.grows)

pub guessing::told_line-returns-in_ok-told-in-Some-clause-grows : goal.guessing::told_line-returns-in_ok-told-in-Some-clause-grows
guessing::told_line-returns-in_ok-told-in-Some-clause-grows t c = (WorkGrows-trans c.args.history.now c.args.work.now c.any_line.new.work c.without_all.new.work c.any_line.ensures.grows c.without_all.ensures.grows)

pub guessing::any_line-deeper_line-requires : goal.guessing::any_line-deeper_line-requires
guessing::any_line-deeper_line-requires t c = (omega arith, ((guess_grown c.args.history.now c.args.work.now c.outer_line.new.work c.args.assumed.now c.outer_line.ensures.grows c.requires.can), (term_grown c.args.history.now c.args.work.now c.outer_line.new.work c.args.t c.requires.can.stands c.outer_line.ensures.grows c.requires.term)))

pub guessing::any_line-returns-in-None-clause-grows : goal.guessing::any_line-returns-in-None-clause-grows
guessing::any_line-returns-in-None-clause-grows t c = (WorkGrows-trans c.args.history.now c.args.work.now c.outer_line.new.work c.deeper_line.new.work c.outer_line.ensures.grows c.deeper_line.ensures.grows)

pub guessing::deeper_line-returns-then-levels-eq0-clause-grows : goal.guessing::deeper_line-returns-then-levels-eq0-clause-grows
guessing::deeper_line-returns-then-levels-eq0-clause-grows t c = WorkGrows-refl c.args.history.now c.args.work.now c.requires.can.stands

pub guessing::other_line-equal_line-requires : goal.guessing::other_line-equal_line-requires
guessing::other_line-equal_line-requires t c = (omega arith, ((guess_grown c.args.history.now c.args.work.now c.opened_line.new.work c.args.assumed.now c.opened_line.ensures.grows c.requires.can), (term_grown c.args.history.now c.args.work.now c.opened_line.new.work c.args.t c.requires.can.stands c.opened_line.ensures.grows c.requires.term)))

pub guessing::other_line-returns-in-None-clause-grows : goal.guessing::other_line-returns-in-None-clause-grows
guessing::other_line-returns-in-None-clause-grows t c = (WorkGrows-trans c.args.history.now c.args.work.now c.opened_line.new.work c.equal_line.new.work c.opened_line.ensures.grows c.equal_line.ensures.grows)

pub guessing::equal_line-returns-in-None-clause-grows : goal.guessing::equal_line-returns-in-None-clause-grows
guessing::equal_line-returns-in-None-clause-grows t c = WorkGrows-refl c.args.history.now c.args.work.now c.requires.can.stands

pub guessing::line_of_equal-told_line-requires : goal.guessing::line_of_equal-told_line-requires
guessing::line_of_equal-told_line-requires t c = (omega arith, (c.requires.can, c.requires.equal.other))

pub guessing::line_of_equal-told_by_line-requires-clause-room : goal.guessing::line_of_equal-told_by_line-requires-clause-room
guessing::line_of_equal-told_by_line-requires-clause-room t c = (guess_grown c.args.history.now c.args.work.now c.told_line.new.work c.args.assumed.now c.told_line.ensures.grows c.requires.can).room

pub guessing::line_of_equal-told_by_line-requires-clause-assumption : goal.guessing::line_of_equal-told_by_line-requires-clause-assumption
guessing::line_of_equal-told_by_line-requires-clause-assumption t c = (term_grown c.args.history.now c.args.work.now c.told_line.new.work c.args.equal.assumption c.requires.can.stands c.told_line.ensures.grows c.requires.equal.assumption)

pub guessing::line_of_equal-told_by_line-requires-clause-left : goal.guessing::line_of_equal-told_by_line-requires-clause-left
guessing::line_of_equal-told_by_line-requires-clause-left t c = (term_grown c.args.history.now c.args.work.now c.told_line.new.work c.args.t c.requires.can.stands c.told_line.ensures.grows c.requires.term)

pub guessing::line_of_equal-told_by_line-requires-clause-right : goal.guessing::line_of_equal-told_by_line-requires-clause-right
guessing::line_of_equal-told_by_line-requires-clause-right t c = (term_grown c.args.history.now c.args.work.now c.told_line.new.work c.args.equal.other c.requires.can.stands c.told_line.ensures.grows c.requires.equal.other)

pub guessing::line_of_equal-returns-in-Some-clause-grows : goal.guessing::line_of_equal-returns-in-Some-clause-grows
guessing::line_of_equal-returns-in-Some-clause-grows t c = (WorkGrows-trans c.args.history.now c.args.work.now c.told_line.new.work c.told_by_line.new.work c.told_line.ensures.grows c.told_by_line.ensures.grows)

pub guessing::opened_line-opening-requires-clause-ready : goal.guessing::opened_line-opening-requires-clause-ready
guessing::opened_line-opening-requires-clause-ready t c = c.own_terms.ensures c.args.work.now.bank c.args.history.now c.requires.can.ready

pub guessing::opened_line-body_line-requires : goal.guessing::opened_line-body_line-requires
guessing::opened_line-body_line-requires t c =
    let new = c.opening.new.work in
    let found : IsOpening c.args.history.now new (term_at c.args.work.now.bank c.args.t) c.in-Some.body = subst (λ (o : Option Fact). IfSome o (IsOpening c.args.history.now new (term_at c.args.work.now.bank c.args.t))) c.in-Some.is c.in_ok-body.ensures.opening in
    let opened : IsGuessed c.args.history.now new c.in-Some.body = record { term = found.term; line = only_stands new c.in-Some.body.line _ found.line } in
    (omega arith, ((guess_grown c.args.history.now c.args.work.now c.opening.new.work c.args.assumed.now c.opening.ensures.grows c.requires.can), ((term_grown c.args.history.now c.args.work.now c.opening.new.work c.args.t c.requires.can.stands c.opening.ensures.grows c.requires.term), opened)))

pub guessing::opened_line-returns-in-Some-clause-grows : goal.guessing::opened_line-returns-in-Some-clause-grows
guessing::opened_line-returns-in-Some-clause-grows t c = (WorkGrows-trans c.args.history.now c.args.work.now c.opening.new.work c.body_line.new.work c.opening.ensures.grows c.body_line.ensures.grows)

pub guessing::body_line-told_line-requires : goal.guessing::body_line-told_line-requires
guessing::body_line-told_line-requires t c = (omega arith, (c.requires.can, c.requires.body.term))

pub guessing::body_line-carried-requires-clause-room : goal.guessing::body_line-carried-requires-clause-room
guessing::body_line-carried-requires-clause-room t c = (guess_grown c.args.history.now c.args.work.now c.told_line.new.work c.args.assumed.now c.told_line.ensures.grows c.requires.can).room

pub guessing::body_line-carried-requires-clause-left : goal.guessing::body_line-carried-requires-clause-left
guessing::body_line-carried-requires-clause-left t c = (term_grown c.args.history.now c.args.work.now c.told_line.new.work c.args.t c.requires.can.stands c.told_line.ensures.grows c.requires.term)

pub guessing::body_line-carried-requires-clause-right : goal.guessing::body_line-carried-requires-clause-right
guessing::body_line-carried-requires-clause-right t c = (term_grown c.args.history.now c.args.work.now c.told_line.new.work c.args.body.term c.requires.can.stands c.told_line.ensures.grows c.requires.body.term)

pub guessing::body_line-carried-requires-clause-equation : goal.guessing::body_line-carried-requires-clause-equation
guessing::body_line-carried-requires-clause-equation t c = (line_grown c.args.history.now c.args.work.now c.told_line.new.work c.args.body.line c.requires.can.stands c.told_line.ensures.grows c.requires.body.line)

pub guessing::body_line-returns-in_err-told-in-Some-clause-grows : goal.guessing::body_line-returns-in_err-told-in-Some-clause-grows
guessing::body_line-returns-in_err-told-in-Some-clause-grows t c = (WorkGrows-trans c.args.history.now c.args.work.now c.told_line.new.work c.carried.new.work c.told_line.ensures.grows c.carried.ensures.grows)

pub guessing::body_line-returns-in_ok-told-in-Some-clause-grows : goal.guessing::body_line-returns-in_ok-told-in-Some-clause-grows
guessing::body_line-returns-in_ok-told-in-Some-clause-grows t c = (WorkGrows-trans c.args.history.now c.args.work.now c.told_line.new.work c.carried.new.work c.told_line.ensures.grows c.carried.ensures.grows)

pub testing::first_line-returns-in_err-more-clause-grows : goal.testing::first_line-returns-in_err-more-clause-grows
testing::first_line-returns-in_err-more-clause-grows t c = WorkGrows-refl c.args.history.now c.args.work.now c.requires.can.stands

pub testing::first_line-told_line-requires : goal.testing::first_line-told_line-requires
testing::first_line-told_line-requires t c = (omega arith, (guess_under c.args.history.now c.args.work.now c.args.assumed.now c.as_slice.result.now (subst (All (IsTermIn c.args.history.now c.args.work.now)) (sym c.as_slice.ensures.value) c.in_ok-more.ensures.all) c.requires.can, c.requires.parts.first))

pub testing::first_line-first_told-requires-clause-room : goal.testing::first_line-first_told-requires-clause-room
testing::first_line-first_told-requires-clause-room t c = (guess_grown c.args.history.now c.args.work.now c.told_line.new.work c.args.assumed.now c.told_line.ensures.grows c.requires.can).room

pub testing::first_line-first_told-requires-clause-term : goal.testing::first_line-first_told-requires-clause-term
testing::first_line-first_told-requires-clause-term t c = (term_grown c.args.history.now c.args.work.now c.told_line.new.work c.args.t c.requires.can.stands c.told_line.ensures.grows c.requires.term)

pub testing::first_line-first_told-requires-clause-parts : goal.testing::first_line-first_told-requires-clause-parts
testing::first_line-first_told-requires-clause-parts t c = (parts_grown c.args.history.now c.args.work.now c.told_line.new.work c.requires.can.stands c.told_line.ensures.grows c.args.parts c.requires.parts)

pub testing::first_line-returns-in_err-told-in-Some-clause-grows : goal.testing::first_line-returns-in_err-told-in-Some-clause-grows
testing::first_line-returns-in_err-told-in-Some-clause-grows t c = (WorkGrows-trans c.args.history.now c.args.work.now c.told_line.new.work c.first_told.new.work c.told_line.ensures.grows c.first_told.ensures.grows)

pub testing::first_line-returns-in-Some-clause-grows : goal.testing::first_line-returns-in-Some-clause-grows
testing::first_line-returns-in-Some-clause-grows t c = (WorkGrows-trans c.args.history.now c.args.work.now c.told_line.new.work c.first_told.new.work c.told_line.ensures.grows c.first_told.ensures.grows)

pub testing::second_line-with_more-requires-clause-assumed : goal.testing::second_line-with_more-requires-clause-assumed
testing::second_line-with_more-requires-clause-assumed t c = (guess_grown c.args.history.now c.args.work.now c.denial_of.new.work c.args.assumed.now c.denial_of.ensures.grows c.requires.can).assumed

pub testing::second_line-told_line-requires : goal.testing::second_line-told_line-requires
testing::second_line-told_line-requires t c = (omega arith, (guess_under c.args.history.now c.denial_of.new.work c.args.assumed.now c.as_slice.result.now (subst (All (IsTermIn c.args.history.now c.denial_of.new.work)) (sym c.as_slice.ensures.value) c.in_ok-more.ensures.all) (guess_grown c.args.history.now c.args.work.now c.denial_of.new.work c.args.assumed.now c.denial_of.ensures.grows c.requires.can), (term_grown c.args.history.now c.args.work.now c.denial_of.new.work c.args.parts.second c.requires.can.stands c.denial_of.ensures.grows c.requires.parts.second)))

pub testing::second_line-returns-in_err-line-clause-grows : goal.testing::second_line-returns-in_err-line-clause-grows
testing::second_line-returns-in_err-line-clause-grows t c = (WorkGrows-trans c.args.history.now c.args.work.now c.denial_of.new.work c.told_line.new.work c.denial_of.ensures.grows c.told_line.ensures.grows)

pub testing::second_line-second_told-requires-clause-room : goal.testing::second_line-second_told-requires-clause-room
testing::second_line-second_told-requires-clause-room t c = (guess_grown c.args.history.now c.args.work.now c.told_line.new.work c.args.assumed.now (WorkGrows-trans c.args.history.now c.args.work.now c.denial_of.new.work c.told_line.new.work c.denial_of.ensures.grows c.told_line.ensures.grows) c.requires.can).room

pub testing::second_line-second_told-requires-clause-term : goal.testing::second_line-second_told-requires-clause-term
testing::second_line-second_told-requires-clause-term t c = (term_grown c.args.history.now c.args.work.now c.told_line.new.work c.args.t c.requires.can.stands (WorkGrows-trans c.args.history.now c.args.work.now c.denial_of.new.work c.told_line.new.work c.denial_of.ensures.grows c.told_line.ensures.grows) c.requires.term)

pub testing::second_line-second_told-requires-clause-parts : goal.testing::second_line-second_told-requires-clause-parts
testing::second_line-second_told-requires-clause-parts t c = (parts_grown c.args.history.now c.args.work.now c.told_line.new.work c.requires.can.stands (WorkGrows-trans c.args.history.now c.args.work.now c.denial_of.new.work c.told_line.new.work c.denial_of.ensures.grows c.told_line.ensures.grows) c.args.parts c.requires.parts)

pub testing::second_line-returns-in_err-told-in-Some-clause-grows : goal.testing::second_line-returns-in_err-told-in-Some-clause-grows
testing::second_line-returns-in_err-told-in-Some-clause-grows t c = (WorkGrows-trans c.args.history.now c.args.work.now c.denial_of.new.work c.second_told.new.work c.denial_of.ensures.grows (WorkGrows-trans c.args.history.now c.denial_of.new.work c.told_line.new.work c.second_told.new.work c.told_line.ensures.grows c.second_told.ensures.grows))

pub testing::second_line-returns-in-Some-clause-grows : goal.testing::second_line-returns-in-Some-clause-grows
testing::second_line-returns-in-Some-clause-grows t c = (WorkGrows-trans c.args.history.now c.args.work.now c.denial_of.new.work c.second_told.new.work c.denial_of.ensures.grows (WorkGrows-trans c.args.history.now c.denial_of.new.work c.told_line.new.work c.second_told.new.work c.told_line.ensures.grows c.second_told.ensures.grows))

pub testing::second_line-returns-clause-grows : goal.testing::second_line-returns-clause-grows
testing::second_line-returns-clause-grows t c = (WorkGrows-trans c.args.history.now c.args.work.now c.denial_of.new.work c.told_line.new.work c.denial_of.ensures.grows c.told_line.ensures.grows)

pub testing::second_alone-under_denial-requires-clause-test : goal.testing::second_alone-under_denial-requires-clause-test
testing::second_alone-under_denial-requires-clause-test t c = (term_grown c.args.history.now c.args.work.now c.second_line.new.work c.args.parts.test c.requires.can.stands c.second_line.ensures.grows c.requires.parts.test)

pub testing::second_alone-returns-in_err-told-in-Some-clause-grows : goal.testing::second_alone-returns-in_err-told-in-Some-clause-grows
testing::second_alone-returns-in_err-told-in-Some-clause-grows t c = (WorkGrows-trans c.args.history.now c.args.work.now c.second_line.new.work c.under_denial.new.work c.second_line.ensures.grows c.under_denial.ensures.grows)

pub testing::second_alone-returns-in_ok-told-in-Some-clause-grows : goal.testing::second_alone-returns-in_ok-told-in-Some-clause-grows
testing::second_alone-returns-in_ok-told-in-Some-clause-grows t c = (WorkGrows-trans c.args.history.now c.args.work.now c.second_line.new.work c.under_denial.new.work c.second_line.ensures.grows c.under_denial.ensures.grows)

pub testing::with_second-returns-then-has_id-clause-grows : goal.testing::with_second-returns-then-has_id-clause-grows
testing::with_second-returns-then-has_id-clause-grows t c = WorkGrows-refl c.args.history.now c.args.work.now c.requires.can.stands

pub testing::with_second-cut-requires-clause-second : goal.testing::with_second-cut-requires-clause-second
testing::with_second-cut-requires-clause-second t c = (line_grown c.args.history.now c.args.work.now c.second_line.new.work c.args.first c.requires.can.stands c.second_line.ensures.grows c.requires.first)

pub testing::with_second-cut-requires-clause-term : goal.testing::with_second-cut-requires-clause-term
testing::with_second-cut-requires-clause-term t c = (term_grown c.args.history.now c.args.work.now c.second_line.new.work c.args.parts.test c.requires.can.stands c.second_line.ensures.grows c.requires.parts.test)

pub testing::with_second-returns-in_err-line-in-Some-clause-grows : goal.testing::with_second-returns-in_err-line-in-Some-clause-grows
testing::with_second-returns-in_err-line-in-Some-clause-grows t c = (WorkGrows-trans c.args.history.now c.args.work.now c.second_line.new.work c.cut.new.work c.second_line.ensures.grows c.cut.ensures.grows)

pub testing::with_second-returns-in_ok-line-in-Some-clause-grows : goal.testing::with_second-returns-in_ok-line-in-Some-clause-grows
testing::with_second-returns-in_ok-line-in-Some-clause-grows t c = (WorkGrows-trans c.args.history.now c.args.work.now c.second_line.new.work c.cut.new.work c.second_line.ensures.grows c.cut.ensures.grows)

pub testing::first_then_second-with_second-requires : goal.testing::first_then_second-with_second-requires
testing::first_then_second-with_second-requires t c =
    let new = c.first_line.new.work in
    let line : LineStands new c.in-Some.first = subst (λ (o : Option ℕ). IfSome o (LineStands new)) c.in-Some.is c.in_ok-first.ensures.line in
    (omega arith, ((guess_grown c.args.history.now c.args.work.now c.first_line.new.work c.args.assumed.now c.first_line.ensures.grows c.requires.can), ((term_grown c.args.history.now c.args.work.now c.first_line.new.work c.args.t c.requires.can.stands c.first_line.ensures.grows c.requires.term), ((parts_grown c.args.history.now c.args.work.now c.first_line.new.work c.requires.can.stands c.first_line.ensures.grows c.args.parts c.requires.parts), line))))

pub testing::first_then_second-returns-in-Some-clause-grows : goal.testing::first_then_second-returns-in-Some-clause-grows
testing::first_then_second-returns-in-Some-clause-grows t c = (WorkGrows-trans c.args.history.now c.args.work.now c.first_line.new.work c.with_second.new.work c.first_line.ensures.grows c.with_second.ensures.grows)

pub testing::if_line-second_alone-requires : goal.testing::if_line-second_alone-requires
testing::if_line-second_alone-requires t c = (omega arith, ((guess_grown c.args.history.now c.args.work.now c.denial_of.new.work c.args.assumed.now c.denial_of.ensures.grows c.requires.can), ((term_grown c.args.history.now c.args.work.now c.denial_of.new.work c.args.t c.requires.can.stands c.denial_of.ensures.grows c.requires.term), (parts_grown c.args.history.now c.args.work.now c.denial_of.new.work c.requires.can.stands c.denial_of.ensures.grows c.args.parts c.requires.parts))))

pub testing::if_line-returns-then-has_id-clause-grows : goal.testing::if_line-returns-then-has_id-clause-grows
testing::if_line-returns-then-has_id-clause-grows t c = (WorkGrows-trans c.args.history.now c.args.work.now c.denial_of.new.work c.second_alone.new.work c.denial_of.ensures.grows c.second_alone.ensures.grows)

pub testing::if_line-first_then_second-requires : goal.testing::if_line-first_then_second-requires
testing::if_line-first_then_second-requires t c = (omega arith, ((guess_grown c.args.history.now c.args.work.now c.denial_of.new.work c.args.assumed.now c.denial_of.ensures.grows c.requires.can), ((term_grown c.args.history.now c.args.work.now c.denial_of.new.work c.args.t c.requires.can.stands c.denial_of.ensures.grows c.requires.term), (parts_grown c.args.history.now c.args.work.now c.denial_of.new.work c.requires.can.stands c.denial_of.ensures.grows c.args.parts c.requires.parts))))

pub testing::if_line-returns-else-has_id-clause-grows : goal.testing::if_line-returns-else-has_id-clause-grows
testing::if_line-returns-else-has_id-clause-grows t c = (WorkGrows-trans c.args.history.now c.args.work.now c.denial_of.new.work c.first_then_second.new.work c.denial_of.ensures.grows c.first_then_second.ensures.grows)
