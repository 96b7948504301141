use Rattle.std.proofs.Common.{◌≡◌, ◌≤◌, [], sym, subst}
use Rattle.nq_logic.specs.Terms.{IsAmong, Each}
use Rattle.nq_logic.specs.Sizes.{depth_of}
use Rattle.nq_logic.specs.Histories.{events_shells}
use Rattle.nq_logic.proofs.Lists.{each_among}
use Rattle.nq_bank.specs.Content.{term_at, terms_at}
use Rattle.nq_bank.specs.Shells.{shells_at}
use Rattle.nq_bank.proofs.Growth.{Stands-grown, term_at-grown, terms_at-grown}
use Rattle.nq_bank.proofs.Standing.{stand_grown}
use Rattle.nq_rule.proofs.Made.{for_ok}
use Rattle.nq_history.specs.Events.{events_at}
use Rattle.nq_arith.specs.Structural.{IsStructuralNest}
use Rattle.nq_lines.proofs.TermLemmas.{same_term_grown, term_grown}
use Rattle.nq_replay.proofs.UncountedLemmas.{grown_trans}
use Rattle.nq_part_lines.specs.LawLines.{term_room}
use Rattle.nq_part_lines.proofs.GrownLemmas.{room_grown}
use Rattle.nq_decrease.specs.Nests.{IsShellNestLine}
use Rattle.nq_decrease.proofs.NestLines.{found_none, found_some}
use Rattle.nq_decrease.proofs.OwnGrownLemmas.{ready_grown, same_events}
use Rattle.nq_decrease.proofs.OwnShellLemmas.{NestFound, OwnFound, nest_found, own_moved}
use Rattle.nq_decrease.proofs.descents.nest_line.Goals as goal

pub returns-in-Some-clause-answer : goal.returns-in-Some-clause-answer
returns-in-Some-clause-answer c =
    let old = c.args.work.now in
    let h = events_at old.bank c.args.history.now in
    let tests = terms_at old.bank c.args.tests.now in
    let x = term_at old.bank c.args.whole in
    let t = term_at old.bank c.args.nest in
    found_some (IsStructuralNest [] x tests t → ⊥) (IsShellNestLine h c.ground_nest.new.work tests x t) c.in_ok-ground_nest.field-0 c.in-Some.line c.in-Some.is c.in_ok-ground_nest.ensures.answer

pub users_shells-own-requires : goal.users_shells-own-requires
users_shells-own-requires c = c.ground_nest.ensures.grows.grows.stands.history

pub nest_of_own-requires-clause-ready : goal.nest_of_own-requires-clause-ready
nest_of_own-requires-clause-ready c = ready_grown c.args.history.now c.args.work.now c.ground_nest.new.work c.ground_nest.ensures.grows.grows c.requires.stands c.requires.ready

pub nest_of_own-requires-clause-own : goal.nest_of_own-requires-clause-own
nest_of_own-requires-clause-own c =
    let shells = events_shells (events_at c.ground_nest.new.work.bank c.args.history.now) in
    subst (λ ss. Each (λ s. IsAmong s shells) ss) (sym c.users_shells-own.ensures.shells) (each_among (λ s. IsAmong s shells) shells (λ s m. m))

pub nest_of_own-requires-clause-whole : goal.nest_of_own-requires-clause-whole
nest_of_own-requires-clause-whole c = term_grown c.args.history.now c.args.work.now c.ground_nest.new.work c.args.whole c.requires.stands c.ground_nest.ensures.grows.grows c.requires.whole

pub nest_of_own-requires-clause-term : goal.nest_of_own-requires-clause-term
nest_of_own-requires-clause-term c = Stands-grown c.args.work.now.bank c.ground_nest.new.work.bank c.args.nest c.ground_nest.ensures.grows.grows.bank c.requires.nest

pub nest_of_own-requires-clause-tests : goal.nest_of_own-requires-clause-tests
nest_of_own-requires-clause-tests c = stand_grown c.args.work.now.bank c.ground_nest.new.work.bank c.args.tests.now c.ground_nest.ensures.grows.grows.bank c.requires.tests

pub nest_of_own-requires-clause-room : goal.nest_of_own-requires-clause-room
nest_of_own-requires-clause-room c = room_grown c.args.history.now c.args.work.now c.ground_nest.new.work c.ground_nest.ensures.grows.grows c.args.whole c.requires.whole c.requires.room

pub nest_of_own-requires-clause-shallow : goal.nest_of_own-requires-clause-shallow
nest_of_own-requires-clause-shallow c =
    subst (λ t. depth_of t ≤ term_room) (sym (term_at-grown c.args.work.now.bank c.ground_nest.new.work.bank c.args.nest c.ground_nest.ensures.grows.grows.bank c.requires.nest)) c.requires.shallow

pub returns-in-None-clause-answer : goal.returns-in-None-clause-answer
returns-in-None-clause-answer c =
    let h = c.args.history.now in
    let old = c.args.work.now in
    let one = c.ground_nest.new.work in
    let new = c.nest_of_own.new.work in
    let grows = c.ground_nest.ensures.grows.grows in
    let events = events_at old.bank h in
    let tests = terms_at old.bank c.args.tests.now in
    let x = term_at old.bank c.args.whole in
    let t = term_at old.bank c.args.nest in
    let own = shells_at one.bank c.users_shells-own.result.now in
    let none = found_none (IsStructuralNest [] x tests t → ⊥) (IsShellNestLine events one tests x t) c.in_ok-ground_nest.field-0 c.in-None.is c.in_ok-ground_nest.ensures.answer in
    let same = same_events h old one grows c.requires.stands in
    for_ok c.nest_of_own.result (OwnFound (events_at one.bank h) new (terms_at one.bank c.args.tests.now) (term_at one.bank c.args.whole) (term_at one.bank c.args.nest) own) (NestFound events new tests x t) (λ r f.
    nest_found events new tests x t r none
    (own_moved new events (events_at one.bank h) (events_shells events) own tests (terms_at one.bank c.args.tests.now) x (term_at one.bank c.args.whole) t (term_at one.bank c.args.nest) r same (subst (λ es. own ≡ events_shells es) same c.users_shells-own.ensures.shells)
    (terms_at-grown old.bank one.bank c.args.tests.now grows.bank c.requires.tests) (same_term_grown h old one c.args.whole grows c.requires.whole) (term_at-grown old.bank one.bank c.args.nest grows.bank c.requires.nest) f)) c.nest_of_own.ensures.answer

pub returns-in-None-clause-grows : goal.returns-in-None-clause-grows
returns-in-None-clause-grows c = grown_trans c.args.history.now c.args.work.now c.ground_nest.new.work c.nest_of_own.new.work c.ground_nest.ensures.grows c.nest_of_own.ensures.grows
