use Rattle.std.proofs.Common.{◌≤◌, sym, subst}
use Rattle.nq_logic.specs.Terms.{Term, Variable}
use Rattle.nq_logic.specs.Sizes.{depth_of}
use Rattle.nq_bank.specs.Content.{text_at, term_at, terms_at}
use Rattle.nq_bank.proofs.Growth.{Stands-grown, term_at-grown, terms_at-grown}
use Rattle.nq_bank.proofs.Standing.{stand_grown}
use Rattle.nq_rule.proofs.Made.{for_ok}
use Rattle.nq_history.specs.Events.{events_at}
use Rattle.nq_replay.proofs.UncountedLemmas.{grown_trans}
use Rattle.nq_part_lines.specs.LawLines.{term_room}
use Rattle.nq_decrease.proofs.NestLines.{variable_room}
use Rattle.nq_decrease.proofs.OwnGrownLemmas.{ready_grown, same_events}
use Rattle.nq_decrease.proofs.OwnShellLemmas.{IsFound, found_moved}
use Rattle.nq_decrease.proofs.descents.decrease.Goals as goal

pub decrease_of-requires-clause-ready : goal.decrease_of-requires-clause-ready
decrease_of-requires-clause-ready c = ready_grown c.args.history.now c.args.work.now c.variable.new.work c.variable.ensures.grows.grows c.requires.stands c.requires.ready

pub decrease_of-requires-clause-nest : goal.decrease_of-requires-clause-nest
decrease_of-requires-clause-nest c = Stands-grown c.args.work.now.bank c.variable.new.work.bank c.args.nest c.variable.ensures.grows.grows.bank c.requires.nest

pub decrease_of-requires-clause-tests : goal.decrease_of-requires-clause-tests
decrease_of-requires-clause-tests c = stand_grown c.args.work.now.bank c.variable.new.work.bank c.args.tests.now c.variable.ensures.grows.grows.bank c.requires.tests

pub decrease_of-requires-clause-room : goal.decrease_of-requires-clause-room
decrease_of-requires-clause-room c = subst (λ t. depth_of t ≤ term_room) (sym c.in_ok-whole.ensures.variable.denotes) (variable_room (text_at c.args.work.now.bank c.args.x))

pub decrease_of-requires-clause-shallow : goal.decrease_of-requires-clause-shallow
decrease_of-requires-clause-shallow c =
    subst (λ t. depth_of t ≤ term_room) (sym (term_at-grown c.args.work.now.bank c.variable.new.work.bank c.args.nest c.variable.ensures.grows.grows.bank c.requires.nest)) c.requires.shallow

pub returns-clause-answer : goal.returns-clause-answer
returns-clause-answer c =
    let h = c.args.history.now in
    let old = c.args.work.now in
    let one = c.variable.new.work in
    let new = c.decrease_of.new.work in
    let grows = c.variable.ensures.grows.grows in
    let events = events_at old.bank h in
    let tests = terms_at old.bank c.args.tests.now in
    let x : Term = Variable (text_at old.bank c.args.x) in
    let z = term_at old.bank c.args.nest in
    let whole = c.in_ok-whole.whole in
    for_ok c.decrease_of.result (IsFound (events_at one.bank h) new (terms_at one.bank c.args.tests.now) (term_at one.bank whole) (term_at one.bank c.args.nest)) (IsFound events new tests x z) (λ r f.
    found_moved new events (events_at one.bank h) tests (terms_at one.bank c.args.tests.now) x (term_at one.bank whole) z (term_at one.bank c.args.nest) r (same_events h old one grows c.requires.stands)
    (terms_at-grown old.bank one.bank c.args.tests.now grows.bank c.requires.tests) c.in_ok-whole.ensures.variable.denotes (term_at-grown old.bank one.bank c.args.nest grows.bank c.requires.nest) f) c.decrease_of.ensures.answer

pub returns-clause-grows : goal.returns-clause-grows
returns-clause-grows c = grown_trans c.args.history.now c.args.work.now c.variable.new.work c.decrease_of.new.work c.variable.ensures.grows c.decrease_of.ensures.grows
