use Rattle.std.proofs.Common.{◌≤◌, ◌∙◌, sym, arith}
use Rattle.nq_logic.specs.Sizes.{depth_of}
use Rattle.nq_bank.specs.Content.{text_at, term_at, terms_at}
use Rattle.nq_bank.specs.Shells.{shell_at}
use Rattle.nq_proof.proofs.Tests.{same_true}
use Rattle.nq_history.specs.Events.{events_at}
use Rattle.nq_history.proofs.ShellLemmas.{ShellStands-grown}
use Rattle.nq_lines.proofs.TermLemmas.{term_grown}
use Rattle.nq_replay.proofs.UncountedLemmas.{grown_refl, grown_trans}
use Rattle.nq_part_lines.specs.LawLines.{term_room}
use Rattle.nq_part_lines.proofs.GrownLemmas.{room_grown}
use Rattle.nq_decrease.specs.Nests.{IsNestOf, IsNestLine}
use Rattle.nq_decrease.proofs.NestLines.{room_within, found_some, found_none, same_in}
use Rattle.nq_decrease.proofs.OwnGrownLemmas.{known_grown, no_successors, place_under, rows_grown}
use Rattle.nq_decrease.proofs.OwnNestLemmas.{no_call_own, no_level_own, no_rest_own}
use Rattle.nq_decrease.proofs.OwnNestLines.{own_last_line, own_inner_in, own_outer_in, own_outer_part, own_outer_made}
use Rattle.nq_decrease.proofs.own_nests.+own_descend.Goals as goal

pub own_level_line-requires-clause-term : goal.own_level_line-requires-clause-term
own_level_line-requires-clause-term t c =
    let h = c.args.history.now in
    let old = c.args.work.now in
    let x = term_at old.bank c.args.whole in
    let y = term_at old.bank c.in-Some.c.argument in
    same_in h old c.args.whole c.in-Some.c.argument c.in-Some.ensures.argument (same_true y x (sym c.is_same.ensures ∙ c.if-is_same.true)) c.requires.whole

pub own_level_line-requires-clause-room : goal.own_level_line-requires-clause-room
own_level_line-requires-clause-room t c =
    let old = c.args.work.now in
    let z = term_at old.bank c.args.t in
    let y = term_at old.bank c.in-Some.c.argument in
    let f = text_at old.bank c.in-Some.c.function in
    room_within z y f term_room c.in-Some.ensures.whole c.requires.shallow

pub own_level_line-requires-clause-place : goal.own_level_line-requires-clause-place
own_level_line-requires-clause-place t c = place_under c.args.work.now.bank c.args.shell.now c.in-Some-own_level_of.level.place c.in-Some-own_level_of.ensures.has.part c.in-Some-own_level_of.ensures.has.at

pub returns-then-is_same-clause-answer : goal.returns-then-is_same-clause-answer
returns-then-is_same-clause-answer t c =
    let old = c.args.work.now in
    let shell = c.args.shell.now in
    let s = shell_at old.bank shell in
    let tests = terms_at old.bank c.args.tests.now in
    let x = term_at old.bank c.args.whole in
    let z = term_at old.bank c.args.t in
    let y = term_at old.bank c.in-Some.c.argument in
    let f = text_at old.bank c.in-Some.c.function in
    let l = c.in-Some-own_level_of.ensures in
    own_last_line c.own_level_line.new.work s tests x z f y c.in-Some.ensures.whole c.in-Some-own_level_of.level l c.in_ok-line-in-Some-own_level_of.line (same_true y x (sym c.is_same.ensures ∙ c.if-is_same.true)) c.in_ok-line-in-Some-own_level_of.ensures.line

pub own_descend-requires : goal.own_descend-requires
own_descend-requires t c =
    let old = c.args.work.now in
    let z = term_at old.bank c.args.t in
    let y = term_at old.bank c.in-Some.c.argument in
    let f = text_at old.bank c.in-Some.c.function in
    let room : depth_of y ≤ term_room = room_within z y f term_room c.in-Some.ensures.whole c.requires.shallow in
    let before = c.in-Some.ensures.before in
    (omega (arith, before), (c.requires.stands, (c.requires.shell, (c.requires.known, (c.requires.rows, (c.requires.user, (c.requires.whole, (c.in-Some.ensures.argument, (c.requires.tests, (c.requires.room, room))))))))))

pub own_outer_line-requires-clause-shell : goal.own_outer_line-requires-clause-shell
own_outer_line-requires-clause-shell t c = ShellStands-grown c.args.work.now.bank c.own_descend.new.work.bank c.own_descend.ensures.grows.grows.bank c.args.shell.now c.requires.shell

pub own_outer_line-requires-clause-known : goal.own_outer_line-requires-clause-known
own_outer_line-requires-clause-known t c = known_grown c.args.history.now c.args.work.now c.own_descend.new.work c.own_descend.ensures.grows.grows c.requires.stands c.args.shell.now c.requires.shell c.requires.known

pub own_outer_line-requires-clause-rows : goal.own_outer_line-requires-clause-rows
own_outer_line-requires-clause-rows t c = rows_grown c.args.history.now c.args.work.now c.own_descend.new.work c.own_descend.ensures.grows.grows c.requires.stands c.requires.rows

pub own_outer_line-requires-clause-place : goal.own_outer_line-requires-clause-place
own_outer_line-requires-clause-place t c = place_under c.args.work.now.bank c.args.shell.now c.in-Some-own_level_of.level.place c.in-Some-own_level_of.ensures.has.part c.in-Some-own_level_of.ensures.has.at

pub own_outer_line-requires-clause-first_term : goal.own_outer_line-requires-clause-first_term
own_outer_line-requires-clause-first_term t c =
    let h = c.args.history.now in
    let old = c.args.work.now in
    let shell = c.args.shell.now in
    let s = shell_at old.bank shell in
    let tests = terms_at old.bank c.args.tests.now in
    let x = term_at old.bank c.args.whole in
    let y = term_at old.bank c.in-Some.c.argument in
    let f = text_at old.bank c.in-Some.c.function in
    let l = c.in-Some-own_level_of.ensures in
    let one = c.own_descend.new.work in
    let grows = c.own_descend.ensures.grows.grows in
    let below = found_some (IsNestOf s tests x y → ⊥) (IsNestLine one s tests x y) c.in_ok-own_descend-in-Some-own_level_of.field-0 c.in-Some-2.inner c.in-Some-2.is c.in_ok-own_descend-in-Some-own_level_of.ensures.answer in
    term_grown h old one c.args.t c.requires.stands grows (own_outer_in h old one grows shell c.requires.shell tests c.args.whole c.in-Some.c.argument c.args.t f c.in-Some.ensures.argument c.requires.term c.requires.whole c.requires.known c.in-Some.ensures.whole c.in-Some-own_level_of.level l c.in-Some-2.inner below)

pub own_outer_line-requires-clause-second_term : goal.own_outer_line-requires-clause-second_term
own_outer_line-requires-clause-second_term t c =
    let h = c.args.history.now in
    let old = c.args.work.now in
    let shell = c.args.shell.now in
    let s = shell_at old.bank shell in
    let tests = terms_at old.bank c.args.tests.now in
    let x = term_at old.bank c.args.whole in
    let y = term_at old.bank c.in-Some.c.argument in
    let f = text_at old.bank c.in-Some.c.function in
    let l = c.in-Some-own_level_of.ensures in
    let one = c.own_descend.new.work in
    let grows = c.own_descend.ensures.grows.grows in
    let below = found_some (IsNestOf s tests x y → ⊥) (IsNestLine one s tests x y) c.in_ok-own_descend-in-Some-own_level_of.field-0 c.in-Some-2.inner c.in-Some-2.is c.in_ok-own_descend-in-Some-own_level_of.ensures.answer in
    term_grown h old one c.in-Some.c.argument c.requires.stands grows (own_inner_in h old one grows shell c.requires.shell tests c.args.whole c.in-Some.c.argument c.args.t f c.in-Some.ensures.argument c.requires.term c.requires.whole c.requires.known c.in-Some.ensures.whole c.in-Some-own_level_of.level l c.in-Some-2.inner below)

pub own_outer_line-requires-clause-third_term : goal.own_outer_line-requires-clause-third_term
own_outer_line-requires-clause-third_term t c =
    term_grown c.args.history.now c.args.work.now c.own_descend.new.work c.args.whole c.requires.stands c.own_descend.ensures.grows.grows c.requires.whole

pub own_outer_line-requires-clause-second_room : goal.own_outer_line-requires-clause-second_room
own_outer_line-requires-clause-second_room t c =
    let h = c.args.history.now in
    let old = c.args.work.now in
    let shell = c.args.shell.now in
    let s = shell_at old.bank shell in
    let tests = terms_at old.bank c.args.tests.now in
    let x = term_at old.bank c.args.whole in
    let z = term_at old.bank c.args.t in
    let y = term_at old.bank c.in-Some.c.argument in
    let f = text_at old.bank c.in-Some.c.function in
    let l = c.in-Some-own_level_of.ensures in
    let one = c.own_descend.new.work in
    let grows = c.own_descend.ensures.grows.grows in
    let below = found_some (IsNestOf s tests x y → ⊥) (IsNestLine one s tests x y) c.in_ok-own_descend-in-Some-own_level_of.field-0 c.in-Some-2.inner c.in-Some-2.is c.in_ok-own_descend-in-Some-own_level_of.ensures.answer in
    room_grown h old one grows c.in-Some.c.argument (own_inner_in h old one grows shell c.requires.shell tests c.args.whole c.in-Some.c.argument c.args.t f c.in-Some.ensures.argument c.requires.term c.requires.whole c.requires.known c.in-Some.ensures.whole c.in-Some-own_level_of.level l c.in-Some-2.inner below) (room_within z y f term_room c.in-Some.ensures.whole c.requires.shallow)

pub own_outer_line-requires-clause-part : goal.own_outer_line-requires-clause-part
own_outer_line-requires-clause-part t c =
    let h = c.args.history.now in
    let old = c.args.work.now in
    let shell = c.args.shell.now in
    let s = shell_at old.bank shell in
    let tests = terms_at old.bank c.args.tests.now in
    let x = term_at old.bank c.args.whole in
    let y = term_at old.bank c.in-Some.c.argument in
    let f = text_at old.bank c.in-Some.c.function in
    let l = c.in-Some-own_level_of.ensures in
    let one = c.own_descend.new.work in
    let grows = c.own_descend.ensures.grows.grows in
    let below = found_some (IsNestOf s tests x y → ⊥) (IsNestLine one s tests x y) c.in_ok-own_descend-in-Some-own_level_of.field-0 c.in-Some-2.inner c.in-Some-2.is c.in_ok-own_descend-in-Some-own_level_of.ensures.answer in
    own_outer_part h old one grows shell c.requires.shell tests c.args.whole c.in-Some.c.argument c.args.t f c.in-Some.ensures.argument c.requires.term c.requires.whole c.requires.known c.in-Some.ensures.whole c.in-Some-own_level_of.level l c.in-Some-2.inner below

pub returns-in_err-line-in-Some-2-clause-grows : goal.returns-in_err-line-in-Some-2-clause-grows
returns-in_err-line-in-Some-2-clause-grows t c =
    grown_trans c.args.history.now c.args.work.now c.own_descend.new.work c.own_outer_line.new.work c.own_descend.ensures.grows c.own_outer_line.ensures.grows

pub returns-in-None-clause-answer : goal.returns-in-None-clause-answer
returns-in-None-clause-answer t c =
    let old = c.args.work.now in
    no_call_own (shell_at old.bank c.args.shell.now) (terms_at old.bank c.args.tests.now) (term_at old.bank c.args.whole) (term_at old.bank c.args.t) (no_successors (events_at old.bank c.args.history.now) (shell_at old.bank c.args.shell.now) c.requires.known) c.in-None.ensures

pub returns-in-None-clause-grows : goal.returns-in-None-clause-grows
returns-in-None-clause-grows t c =
    grown_refl c.args.history.now c.args.work.now c.requires.stands

pub returns-in-None-own_level_of-clause-answer : goal.returns-in-None-own_level_of-clause-answer
returns-in-None-own_level_of-clause-answer t c =
    let old = c.args.work.now in
    let shell = c.args.shell.now in
    let s = shell_at old.bank shell in
    let tests = terms_at old.bank c.args.tests.now in
    let x = term_at old.bank c.args.whole in
    let z = term_at old.bank c.args.t in
    let y = term_at old.bank c.in-Some.c.argument in
    let f = text_at old.bank c.in-Some.c.function in
    no_level_own s tests x z f y c.in-Some.ensures.whole c.in-None-own_level_of.ensures

pub returns-in-None-own_level_of-clause-grows : goal.returns-in-None-own_level_of-clause-grows
returns-in-None-own_level_of-clause-grows t c =
    grown_refl c.args.history.now c.args.work.now c.requires.stands

pub returns-in-None-2-clause-answer : goal.returns-in-None-2-clause-answer
returns-in-None-2-clause-answer t c =
    let old = c.args.work.now in
    let shell = c.args.shell.now in
    let s = shell_at old.bank shell in
    let tests = terms_at old.bank c.args.tests.now in
    let x = term_at old.bank c.args.whole in
    let z = term_at old.bank c.args.t in
    let y = term_at old.bank c.in-Some.c.argument in
    let f = text_at old.bank c.in-Some.c.function in
    let one = c.own_descend.new.work in
    no_rest_own s tests x z f y c.in-Some.ensures.whole (sym c.is_same.ensures ∙ c.if-is_same.false)
    (found_none (IsNestOf s tests x y → ⊥) (IsNestLine one s tests x y) c.in_ok-own_descend-in-Some-own_level_of.field-0 c.in-None-2.is c.in_ok-own_descend-in-Some-own_level_of.ensures.answer)

pub returns-in_ok-line-in-Some-2-clause-answer : goal.returns-in_ok-line-in-Some-2-clause-answer
returns-in_ok-line-in-Some-2-clause-answer t c =
    let h = c.args.history.now in
    let old = c.args.work.now in
    let shell = c.args.shell.now in
    let s = shell_at old.bank shell in
    let tests = terms_at old.bank c.args.tests.now in
    let x = term_at old.bank c.args.whole in
    let y = term_at old.bank c.in-Some.c.argument in
    let f = text_at old.bank c.in-Some.c.function in
    let l = c.in-Some-own_level_of.ensures in
    let one = c.own_descend.new.work in
    let grows = c.own_descend.ensures.grows.grows in
    let below = found_some (IsNestOf s tests x y → ⊥) (IsNestLine one s tests x y) c.in_ok-own_descend-in-Some-own_level_of.field-0 c.in-Some-2.inner c.in-Some-2.is c.in_ok-own_descend-in-Some-own_level_of.ensures.answer in
    own_outer_made h old one grows shell c.requires.shell tests c.args.whole c.in-Some.c.argument c.args.t f c.in-Some.ensures.argument c.requires.term c.requires.whole c.requires.known c.in-Some.ensures.whole c.in-Some-own_level_of.level l c.in-Some-2.inner below c.own_outer_line.new.work c.in_ok-line-in-Some-2.line c.in_ok-line-in-Some-2.ensures.line

pub returns-in_ok-line-in-Some-2-clause-grows : goal.returns-in_ok-line-in-Some-2-clause-grows
returns-in_ok-line-in-Some-2-clause-grows t c =
    grown_trans c.args.history.now c.args.work.now c.own_descend.new.work c.own_outer_line.new.work c.own_descend.ensures.grows c.own_outer_line.ensures.grows
