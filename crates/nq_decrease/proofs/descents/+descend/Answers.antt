use Rattle.std.proofs.Common.{◌≤◌, ◌∙◌, sym, arith}
use Rattle.nq_logic.specs.Sizes.{depth_of}
use Rattle.nq_bank.specs.Content.{text_at, term_at, terms_at}
use Rattle.nq_proof.proofs.Tests.{same_true}
use Rattle.nq_lines.proofs.TermLemmas.{term_grown}
use Rattle.nq_replay.proofs.UncountedLemmas.{grown_refl, grown_trans}
use Rattle.nq_part_lines.specs.LawLines.{term_room}
use Rattle.nq_decrease.specs.Levels.{shell_of}
use Rattle.nq_decrease.specs.Nests.{IsNestOf, IsNestLine}
use Rattle.nq_part_lines.proofs.GrownLemmas.{room_grown}
use Rattle.nq_decrease.proofs.NestLemmas.{level_right, no_call_nest, no_level_nest, no_rest_nest}
use Rattle.nq_decrease.proofs.NestLines.{room_within, last_line, found_some, found_none, same_in, inner_in, outer_in, outer_part, outer_made}
use Rattle.nq_decrease.proofs.descents.+descend.Goals as goal

pub level_line-requires-clause-term : goal.level_line-requires-clause-term
level_line-requires-clause-term t c =
    let h = c.args.history.now in
    let old = c.args.work.now in
    let kind = c.args.kind in
    let tests = terms_at old.bank c.args.tests.now in
    let x = term_at old.bank c.args.whole in
    let z = term_at old.bank c.args.t in
    let y = term_at old.bank c.in-Some.c.argument in
    let f = text_at old.bank c.in-Some.c.function in
    same_in h old c.args.whole c.in-Some.c.argument c.in-Some.ensures.argument (same_true y x (sym c.is_same.ensures ∙ c.if-is_same.true)) c.requires.whole

pub level_line-requires-clause-room : goal.level_line-requires-clause-room
level_line-requires-clause-room t c =
    let h = c.args.history.now in
    let old = c.args.work.now in
    let kind = c.args.kind in
    let tests = terms_at old.bank c.args.tests.now in
    let x = term_at old.bank c.args.whole in
    let z = term_at old.bank c.args.t in
    let y = term_at old.bank c.in-Some.c.argument in
    let f = text_at old.bank c.in-Some.c.function in
    room_within z y f term_room c.in-Some.ensures.whole c.requires.shallow

pub returns-then-is_same-clause-answer : goal.returns-then-is_same-clause-answer
returns-then-is_same-clause-answer t c =
    let h = c.args.history.now in
    let old = c.args.work.now in
    let kind = c.args.kind in
    let tests = terms_at old.bank c.args.tests.now in
    let x = term_at old.bank c.args.whole in
    let z = term_at old.bank c.args.t in
    let y = term_at old.bank c.in-Some.c.argument in
    let f = text_at old.bank c.in-Some.c.function in
    let l = level_right kind f y tests c.in-Some-level_of.level (sym c.in-Some-level_of.ensures) in
    last_line c.level_line.new.work kind tests x z f y c.in-Some.ensures.whole c.in-Some-level_of.level l c.in_ok-line-in-Some-level_of.line (same_true y x (sym c.is_same.ensures ∙ c.if-is_same.true)) c.in_ok-line-in-Some-level_of.ensures.line

pub descend-requires : goal.descend-requires
descend-requires t c =
    let h = c.args.history.now in
    let old = c.args.work.now in
    let kind = c.args.kind in
    let tests = terms_at old.bank c.args.tests.now in
    let x = term_at old.bank c.args.whole in
    let z = term_at old.bank c.args.t in
    let y = term_at old.bank c.in-Some.c.argument in
    let f = text_at old.bank c.in-Some.c.function in
    let room : depth_of y ≤ term_room = room_within z y f term_room c.in-Some.ensures.whole c.requires.shallow in
    let before = c.in-Some.ensures.before in
    (omega (arith, before), (c.requires.stands, (c.requires.whole, (c.in-Some.ensures.argument, (c.requires.tests, (c.requires.room, room))))))

pub outer_line-requires-clause-first_term : goal.outer_line-requires-clause-first_term
outer_line-requires-clause-first_term t c =
    let h = c.args.history.now in
    let old = c.args.work.now in
    let kind = c.args.kind in
    let tests = terms_at old.bank c.args.tests.now in
    let x = term_at old.bank c.args.whole in
    let z = term_at old.bank c.args.t in
    let y = term_at old.bank c.in-Some.c.argument in
    let f = text_at old.bank c.in-Some.c.function in
    let l = level_right kind f y tests c.in-Some-level_of.level (sym c.in-Some-level_of.ensures) in
    let one = c.descend.new.work in
    let grows = c.descend.ensures.grows.grows in
    let below = found_some (IsNestOf (shell_of kind) tests x y → ⊥) (IsNestLine one (shell_of kind) tests x y) c.in_ok-descend-in-Some-level_of.field-0 c.in-Some-2.inner c.in-Some-2.is c.in_ok-descend-in-Some-level_of.ensures.answer in
    term_grown h old one c.args.t c.requires.stands grows (outer_in h old one grows kind tests c.args.whole c.in-Some.c.argument c.args.t f c.in-Some.ensures.argument c.requires.term c.requires.whole c.in-Some.ensures.whole c.in-Some-level_of.level l c.in-Some-2.inner below)

pub outer_line-requires-clause-second_term : goal.outer_line-requires-clause-second_term
outer_line-requires-clause-second_term t c =
    let h = c.args.history.now in
    let old = c.args.work.now in
    let kind = c.args.kind in
    let tests = terms_at old.bank c.args.tests.now in
    let x = term_at old.bank c.args.whole in
    let z = term_at old.bank c.args.t in
    let y = term_at old.bank c.in-Some.c.argument in
    let f = text_at old.bank c.in-Some.c.function in
    let l = level_right kind f y tests c.in-Some-level_of.level (sym c.in-Some-level_of.ensures) in
    let one = c.descend.new.work in
    let grows = c.descend.ensures.grows.grows in
    let below = found_some (IsNestOf (shell_of kind) tests x y → ⊥) (IsNestLine one (shell_of kind) tests x y) c.in_ok-descend-in-Some-level_of.field-0 c.in-Some-2.inner c.in-Some-2.is c.in_ok-descend-in-Some-level_of.ensures.answer in
    term_grown h old one c.in-Some.c.argument c.requires.stands grows (inner_in h old one grows kind tests c.args.whole c.in-Some.c.argument c.args.t f c.in-Some.ensures.argument c.requires.term c.requires.whole c.in-Some.ensures.whole c.in-Some-level_of.level l c.in-Some-2.inner below)

pub outer_line-requires-clause-third_term : goal.outer_line-requires-clause-third_term
outer_line-requires-clause-third_term t c =
    term_grown c.args.history.now c.args.work.now c.descend.new.work c.args.whole c.requires.stands c.descend.ensures.grows.grows c.requires.whole

pub outer_line-requires-clause-second_room : goal.outer_line-requires-clause-second_room
outer_line-requires-clause-second_room t c =
    let h = c.args.history.now in
    let old = c.args.work.now in
    let kind = c.args.kind in
    let tests = terms_at old.bank c.args.tests.now in
    let x = term_at old.bank c.args.whole in
    let z = term_at old.bank c.args.t in
    let y = term_at old.bank c.in-Some.c.argument in
    let f = text_at old.bank c.in-Some.c.function in
    let l = level_right kind f y tests c.in-Some-level_of.level (sym c.in-Some-level_of.ensures) in
    let one = c.descend.new.work in
    let grows = c.descend.ensures.grows.grows in
    let below = found_some (IsNestOf (shell_of kind) tests x y → ⊥) (IsNestLine one (shell_of kind) tests x y) c.in_ok-descend-in-Some-level_of.field-0 c.in-Some-2.inner c.in-Some-2.is c.in_ok-descend-in-Some-level_of.ensures.answer in
    room_grown h old one grows c.in-Some.c.argument (inner_in h old one grows kind tests c.args.whole c.in-Some.c.argument c.args.t f c.in-Some.ensures.argument c.requires.term c.requires.whole c.in-Some.ensures.whole c.in-Some-level_of.level l c.in-Some-2.inner below) (room_within z y f term_room c.in-Some.ensures.whole c.requires.shallow)

pub outer_line-requires-clause-part : goal.outer_line-requires-clause-part
outer_line-requires-clause-part t c =
    let h = c.args.history.now in
    let old = c.args.work.now in
    let kind = c.args.kind in
    let tests = terms_at old.bank c.args.tests.now in
    let x = term_at old.bank c.args.whole in
    let z = term_at old.bank c.args.t in
    let y = term_at old.bank c.in-Some.c.argument in
    let f = text_at old.bank c.in-Some.c.function in
    let l = level_right kind f y tests c.in-Some-level_of.level (sym c.in-Some-level_of.ensures) in
    let one = c.descend.new.work in
    let grows = c.descend.ensures.grows.grows in
    let below = found_some (IsNestOf (shell_of kind) tests x y → ⊥) (IsNestLine one (shell_of kind) tests x y) c.in_ok-descend-in-Some-level_of.field-0 c.in-Some-2.inner c.in-Some-2.is c.in_ok-descend-in-Some-level_of.ensures.answer in
    outer_part h old one grows kind tests c.args.whole c.in-Some.c.argument c.args.t f c.in-Some.ensures.argument c.requires.term c.requires.whole c.in-Some.ensures.whole c.in-Some-level_of.level l c.in-Some-2.inner below

pub returns-in_err-line-in-Some-2-clause-grows : goal.returns-in_err-line-in-Some-2-clause-grows
returns-in_err-line-in-Some-2-clause-grows t c =
    grown_trans c.args.history.now c.args.work.now c.descend.new.work c.outer_line.new.work c.descend.ensures.grows c.outer_line.ensures.grows

pub returns-in-None-clause-answer : goal.returns-in-None-clause-answer
returns-in-None-clause-answer t c =
    let old = c.args.work.now in
    no_call_nest c.args.kind (terms_at old.bank c.args.tests.now) (term_at old.bank c.args.whole) (term_at old.bank c.args.t) c.in-None.ensures

pub returns-in-None-clause-grows : goal.returns-in-None-clause-grows
returns-in-None-clause-grows t c =
    grown_refl c.args.history.now c.args.work.now c.requires.stands

pub returns-in-None-level_of-clause-answer : goal.returns-in-None-level_of-clause-answer
returns-in-None-level_of-clause-answer t c =
    let h = c.args.history.now in
    let old = c.args.work.now in
    let kind = c.args.kind in
    let tests = terms_at old.bank c.args.tests.now in
    let x = term_at old.bank c.args.whole in
    let z = term_at old.bank c.args.t in
    let y = term_at old.bank c.in-Some.c.argument in
    let f = text_at old.bank c.in-Some.c.function in
    no_level_nest kind tests x z f y c.in-Some.ensures.whole (sym c.in-None-level_of.ensures)

pub returns-in-None-level_of-clause-grows : goal.returns-in-None-level_of-clause-grows
returns-in-None-level_of-clause-grows t c =
    grown_refl c.args.history.now c.args.work.now c.requires.stands

pub returns-in-None-2-clause-answer : goal.returns-in-None-2-clause-answer
returns-in-None-2-clause-answer t c =
    let h = c.args.history.now in
    let old = c.args.work.now in
    let kind = c.args.kind in
    let tests = terms_at old.bank c.args.tests.now in
    let x = term_at old.bank c.args.whole in
    let z = term_at old.bank c.args.t in
    let y = term_at old.bank c.in-Some.c.argument in
    let f = text_at old.bank c.in-Some.c.function in
    let one = c.descend.new.work in
    no_rest_nest kind tests x z f y c.in-Some.ensures.whole (sym c.is_same.ensures ∙ c.if-is_same.false)
    (found_none (IsNestOf (shell_of kind) tests x y → ⊥) (IsNestLine one (shell_of kind) tests x y) c.in_ok-descend-in-Some-level_of.field-0 c.in-None-2.is c.in_ok-descend-in-Some-level_of.ensures.answer)

pub returns-in_ok-line-in-Some-2-clause-answer : goal.returns-in_ok-line-in-Some-2-clause-answer
returns-in_ok-line-in-Some-2-clause-answer t c =
    let h = c.args.history.now in
    let old = c.args.work.now in
    let kind = c.args.kind in
    let tests = terms_at old.bank c.args.tests.now in
    let x = term_at old.bank c.args.whole in
    let z = term_at old.bank c.args.t in
    let y = term_at old.bank c.in-Some.c.argument in
    let f = text_at old.bank c.in-Some.c.function in
    let l = level_right kind f y tests c.in-Some-level_of.level (sym c.in-Some-level_of.ensures) in
    let one = c.descend.new.work in
    let grows = c.descend.ensures.grows.grows in
    let below = found_some (IsNestOf (shell_of kind) tests x y → ⊥) (IsNestLine one (shell_of kind) tests x y) c.in_ok-descend-in-Some-level_of.field-0 c.in-Some-2.inner c.in-Some-2.is c.in_ok-descend-in-Some-level_of.ensures.answer in
    outer_made h old one grows kind tests c.args.whole c.in-Some.c.argument c.args.t f c.in-Some.ensures.argument c.requires.term c.requires.whole c.in-Some.ensures.whole c.in-Some-level_of.level l c.in-Some-2.inner below c.outer_line.new.work c.in_ok-line-in-Some-2.line c.in_ok-line-in-Some-2.ensures.line

pub returns-in_ok-line-in-Some-2-clause-grows : goal.returns-in_ok-line-in-Some-2-clause-grows
returns-in_ok-line-in-Some-2-clause-grows t c =
    grown_trans c.args.history.now c.args.work.now c.descend.new.work c.outer_line.new.work c.descend.ensures.grows c.outer_line.ensures.grows
