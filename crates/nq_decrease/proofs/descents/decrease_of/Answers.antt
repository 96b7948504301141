use Rattle.nq_bank.specs.Content.{term_at, terms_at}
use Rattle.nq_history.specs.Events.{events_at}
use Rattle.nq_lines.proofs.LineLemmas.{only_stands}
use Rattle.nq_lines.proofs.TermLemmas.{term_grown}
use Rattle.nq_replay.proofs.UncountedLemmas.{grown_trans}
use Rattle.nq_arith.specs.Structural.{IsStructuralNest}
use Rattle.nq_part_lines.proofs.GrownLemmas.{room_grown}
use Rattle.nq_decrease.specs.Nests.{IsShellNestLine}
use Rattle.nq_decrease.proofs.NestLines.{found_some, found_none, lowers_grown}
use Rattle.nq_decrease.proofs.OwnNestLines.{own_nest_in}
use Rattle.nq_decrease.proofs.OwnShellLemmas.{shell_accessors, shell_decrease}
use Rattle.nq_decrease.proofs.descents.decrease_of.Goals as goal

pub returns-in-None-clause-answer : goal.returns-in-None-clause-answer
returns-in-None-clause-answer c =
    let old = c.args.work.now in
    let events = events_at old.bank c.args.history.now in
    let tests = terms_at old.bank c.args.tests.now in
    let x = term_at old.bank c.args.whole in
    let z = term_at old.bank c.args.nest in
    found_none (IsStructuralNest events x tests z → ⊥) (IsShellNestLine events c.nest_line.new.work tests x z) c.in_ok-nest_line.field-0 c.in-None.is c.in_ok-nest_line.ensures.answer

pub below_line-requires-clause-first : goal.below_line-requires-clause-first
below_line-requires-clause-first c =
    let h = c.args.history.now in
    let old = c.args.work.now in
    let events = events_at old.bank h in
    let tests = terms_at old.bank c.args.tests.now in
    let x = term_at old.bank c.args.whole in
    let z = term_at old.bank c.args.nest in
    let one = c.nest_line.new.work in
    let below = found_some (IsStructuralNest events x tests z → ⊥) (IsShellNestLine events one tests x z) c.in_ok-nest_line.field-0 c.in-Some.line c.in-Some.is c.in_ok-nest_line.ensures.answer in
    let inside = own_nest_in h old below.shell (shell_accessors events below.shell c.requires.ready below.here) tests c.args.whole c.args.nest c.requires.nest c.requires.whole below.line.is in
    term_grown h old one c.args.nest c.requires.stands c.nest_line.ensures.grows.grows inside

pub below_line-requires-clause-second : goal.below_line-requires-clause-second
below_line-requires-clause-second c = term_grown c.args.history.now c.args.work.now c.nest_line.new.work c.args.whole c.requires.stands c.nest_line.ensures.grows.grows c.requires.whole

pub below_line-requires-clause-first_room : goal.below_line-requires-clause-first_room
below_line-requires-clause-first_room c =
    let h = c.args.history.now in
    let old = c.args.work.now in
    let events = events_at old.bank h in
    let tests = terms_at old.bank c.args.tests.now in
    let x = term_at old.bank c.args.whole in
    let z = term_at old.bank c.args.nest in
    let one = c.nest_line.new.work in
    let below = found_some (IsStructuralNest events x tests z → ⊥) (IsShellNestLine events one tests x z) c.in_ok-nest_line.field-0 c.in-Some.line c.in-Some.is c.in_ok-nest_line.ensures.answer in
    let inside = own_nest_in h old below.shell (shell_accessors events below.shell c.requires.ready below.here) tests c.args.whole c.args.nest c.requires.nest c.requires.whole below.line.is in
    room_grown h old one c.nest_line.ensures.grows.grows c.args.nest inside c.requires.shallow

pub below_line-requires-clause-second_room : goal.below_line-requires-clause-second_room
below_line-requires-clause-second_room c = room_grown c.args.history.now c.args.work.now c.nest_line.new.work c.nest_line.ensures.grows.grows c.args.whole c.requires.whole c.requires.room

pub below_line-requires-clause-line : goal.below_line-requires-clause-line
below_line-requires-clause-line c =
    let old = c.args.work.now in
    let events = events_at old.bank c.args.history.now in
    let tests = terms_at old.bank c.args.tests.now in
    let x = term_at old.bank c.args.whole in
    let z = term_at old.bank c.args.nest in
    let one = c.nest_line.new.work in
    let below = found_some (IsStructuralNest events x tests z → ⊥) (IsShellNestLine events one tests x z) c.in_ok-nest_line.field-0 c.in-Some.line c.in-Some.is c.in_ok-nest_line.ensures.answer in
    only_stands one c.in-Some.line _ below.line.line

pub returns-in_ok-below-in-Some-clause-answer : goal.returns-in_ok-below-in-Some-clause-answer
returns-in_ok-below-in-Some-clause-answer c =
    let h = c.args.history.now in
    let old = c.args.work.now in
    let events = events_at old.bank h in
    let tests = terms_at old.bank c.args.tests.now in
    let x = term_at old.bank c.args.whole in
    let z = term_at old.bank c.args.nest in
    let one = c.nest_line.new.work in
    let new = c.below_line.new.work in
    let below = found_some (IsStructuralNest events x tests z → ⊥) (IsShellNestLine events one tests x z) c.in_ok-nest_line.field-0 c.in-Some.line c.in-Some.is c.in_ok-nest_line.ensures.answer in
    let inside = own_nest_in h old below.shell (shell_accessors events below.shell c.requires.ready below.here) tests c.args.whole c.args.nest c.requires.nest c.requires.whole below.line.is in
    shell_decrease events one tests x z new c.in-Some.line c.in_ok-below-in-Some.below below
    (lowers_grown h old one new c.nest_line.ensures.grows.grows c.args.nest c.args.whole c.in-Some.line c.in_ok-below-in-Some.below inside c.requires.whole c.in_ok-below-in-Some.ensures.line)

pub returns-in_ok-below-in-Some-clause-grows : goal.returns-in_ok-below-in-Some-clause-grows
returns-in_ok-below-in-Some-clause-grows c = grown_trans c.args.history.now c.args.work.now c.nest_line.new.work c.below_line.new.work c.nest_line.ensures.grows c.below_line.ensures.grows

pub returns-in_err-below-in-Some-clause-grows : goal.returns-in_err-below-in-Some-clause-grows
returns-in_err-below-in-Some-clause-grows c = grown_trans c.args.history.now c.args.work.now c.nest_line.new.work c.below_line.new.work c.nest_line.ensures.grows c.below_line.ensures.grows
