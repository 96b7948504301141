use Rattle.nq_logic.specs.Ground.{symbols_of}
use Rattle.nq_bank.specs.Content.{term_at}
use Rattle.nq_history.specs.Events.{events_at}
use Rattle.nq_kernel.proofs.GrowingLemmas.{WorkGrows-trans}
use Rattle.nq_lines.specs.Lines.{IsTermIn}
use Rattle.nq_lines.proofs.ArgumentLemmas.{argument_over}
use Rattle.nq_lines.proofs.LineLemmas.{line_grown, only_stands}
use Rattle.nq_lines.proofs.TermLemmas.{term_grown}
use Rattle.nq_rule.proofs.Made.{for_ok}
use Rattle.nq_moves.specs.Back.{BackTo}
use Rattle.nq_moves.specs.Swapped.{CrossesBack}
use Rattle.nq_moves.proofs.CrossedLemmas.{crossed_back}
use Rattle.nq_moves.proofs.SwappedLemmas.{call_place_grown}
use Rattle.nq_moves.proofs.crossing.cross_back.Goals as goal

pub equal_within-requires-clause-term : goal.equal_within-requires-clause-term
equal_within-requires-clause-term c =
    let w = c.args.work.now in
    record { stands = c.argument_at-part.ensures.stands; over = argument_over (symbols_of (events_at w.bank c.args.history.now)) (term_at w.bank c.args.x.whole) c.args.x.place (term_at w.bank c.argument_at-part.result) c.requires.whole.over c.argument_at-part.ensures.argument }

pub congruent-requires-clause-call : goal.congruent-requires-clause-call
congruent-requires-clause-call c = term_grown c.args.history.now c.args.work.now c.equal_within.new.work c.args.x.whole c.requires.stands c.equal_within.ensures.grows c.requires.whole

pub congruent-requires-clause-place : goal.congruent-requires-clause-place
congruent-requires-clause-place c = call_place_grown c.args.history.now c.args.work.now c.equal_within.new.work c.equal_within.ensures.grows c.args.x.whole c.args.x.place c.requires.whole c.requires.place

pub congruent-requires-clause-equation : goal.congruent-requires-clause-equation
congruent-requires-clause-equation c = only_stands c.equal_within.new.work c.in_ok-e.e.line _ c.in_ok-e.ensures.equal.says

pub returns-in_err-call-clause-grows : goal.returns-in_err-call-clause-grows
returns-in_err-call-clause-grows c = WorkGrows-trans c.args.history.now c.args.work.now c.equal_within.new.work c.congruent.new.work c.equal_within.ensures.grows c.congruent.ensures.grows

pub back_to-requires-clause-literal : goal.back_to-requires-clause-literal
back_to-requires-clause-literal c =
    term_grown c.args.history.now c.args.work.now c.congruent.new.work c.args.x.whole c.requires.stands (WorkGrows-trans c.args.history.now c.args.work.now c.equal_within.new.work c.congruent.new.work c.equal_within.ensures.grows c.congruent.ensures.grows) c.requires.whole

pub back_to-requires-clause-line : goal.back_to-requires-clause-line
back_to-requires-clause-line c =
    line_grown c.args.history.now c.args.work.now c.congruent.new.work c.args.line c.requires.stands (WorkGrows-trans c.args.history.now c.args.work.now c.equal_within.new.work c.congruent.new.work c.equal_within.ensures.grows c.congruent.ensures.grows) c.requires.line

pub returns-clause-line : goal.returns-clause-line
returns-clause-line c =
    let h = c.args.history.now in
    let w0 = c.args.work.now in
    let w1 = c.equal_within.new.work in
    let w2 = c.congruent.new.work in
    let w3 = c.back_to.new.work in
    let part_in : IsTermIn h w0 c.argument_at-part.result = record { stands = c.argument_at-part.ensures.stands; over = argument_over (symbols_of (events_at w0.bank h)) (term_at w0.bank c.args.x.whole) c.args.x.place (term_at w0.bank c.argument_at-part.result) c.requires.whole.over c.argument_at-part.ensures.argument } in
    for_ok c.back_to.result (λ n. BackTo w2 w3 c.args.x.whole c.in_ok-call.call c.args.line n) (λ n. CrossesBack w0 w3 c.args.swap c.args.x.place c.args.x.whole c.args.line n)
    (λ n back. crossed_back h w0 w1 w2 w3 c.requires.stands c.equal_within.ensures.grows c.congruent.ensures.grows c.args.swap c.args.x.whole c.argument_at-part.result c.args.x.place c.in_ok-e.e c.in_ok-call.call c.args.line n c.requires.swap c.requires.whole part_in c.argument_at-part.ensures.argument c.in_ok-e.ensures.equal c.in_ok-call.ensures.call c.in_ok-call.ensures.line back) c.back_to.ensures.line

pub returns-clause-grows : goal.returns-clause-grows
returns-clause-grows c =
    WorkGrows-trans c.args.history.now c.args.work.now c.congruent.new.work c.back_to.new.work (WorkGrows-trans c.args.history.now c.args.work.now c.equal_within.new.work c.congruent.new.work c.equal_within.ensures.grows c.congruent.ensures.grows) c.back_to.ensures.grows
