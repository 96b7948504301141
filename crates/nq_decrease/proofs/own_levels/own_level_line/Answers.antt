use Rattle.std.proofs.Common.{◌≡◌, sym, ap, subst}
use Rattle.nq_logic.specs.Terms.{Function, IsAmong}
use Rattle.nq_logic.specs.Ground.{symbols_of}
use Rattle.nq_bank.specs.Content.{IsNamed, term_at, text_at}
use Rattle.nq_bank.specs.Shells.{BaseStands, shell_at, text_if}
use Rattle.nq_bank.proofs.Growth.{IsNamed-grown, text_at-grown}
use Rattle.nq_rule.proofs.Made.{for_ok}
use Rattle.nq_history.specs.Events.{events_at}
use Rattle.nq_lines.proofs.LineLemmas.{only_stands}
use Rattle.nq_lines.proofs.TermLemmas.{same_term_grown}
use Rattle.nq_replay.proofs.UncountedLemmas.{grown_trans}
use Rattle.nq_decrease.specs.OwnLevels.{DeniesEquation, OwnLevelLine}
use Rattle.nq_decrease.proofs.OwnGrownLemmas.{known_since, place_within, rows_grown, small_grown}
use Rattle.nq_decrease.proofs.OwnLevelLemmas.{base_symbol, level_with, level_without, part_there}
use Rattle.nq_decrease.proofs.own_levels.own_level_line.Goals as goal

pub part_at_term-requires-clause-term : goal.part_at_term-requires-clause-term
part_at_term-requires-clause-term c = record { inside = c.requires.term; room = c.requires.room }

pub returns-in-None-clause-line : goal.returns-in-None-clause-line
returns-in-None-clause-line c =
    let old = c.args.work.now in
    let s = shell_at old.bank c.args.shell.now in
    level_without c.part_at_term.new.work s c.args.level (term_at old.bank c.args.y) c.in_ok-line.line (ap (text_if old.bank) c.in-None.is) c.in_ok-line.ensures.line

pub without_base-requires-clause-named : goal.without_base-requires-clause-named
without_base-requires-clause-named c =
    let old = c.args.work.now in
    let one = c.part_at_term.new.work in
    let named : IsNamed old.bank c.in-Some.b = subst (BaseStands old.bank) c.in-Some.is c.requires.shell.base in
    IsNamed-grown old.bank one.bank c.in-Some.b c.part_at_term.ensures.grows.grows.bank named

pub without_base-requires-clause-symbol : goal.without_base-requires-clause-symbol
without_base-requires-clause-symbol c =
    let h = c.args.history.now in
    let old = c.args.work.now in
    let one = c.part_at_term.new.work in
    let s = shell_at old.bank c.args.shell.now in
    let grows = c.part_at_term.ensures.grows.grows in
    let named : IsNamed old.bank c.in-Some.b = subst (BaseStands old.bank) c.in-Some.is c.requires.shell.base in
    let rows = rows_grown h old one grows c.requires.stands c.requires.rows in
    subst (λ n. IsAmong (n, 0) (symbols_of (events_at one.bank h))) (sym (text_at-grown old.bank one.bank c.in-Some.b grows.bank named))
    (base_symbol (events_at one.bank h) s (known_since h old one grows c.requires.stands s c.requires.known) rows.own (text_at old.bank c.in-Some.b) (ap (text_if old.bank) c.in-Some.is))

pub without_base-requires-clause-term : goal.without_base-requires-clause-term
without_base-requires-clause-term c =
    small_grown c.args.history.now c.args.work.now c.part_at_term.new.work c.part_at_term.ensures.grows.grows c.requires.stands c.args.y (record { inside = c.requires.term; room = c.requires.room })

pub without_base-requires-clause-line : goal.without_base-requires-clause-line
without_base-requires-clause-line c =
    let old = c.args.work.now in
    let s = shell_at old.bank c.args.shell.now in
    let there = part_there s.parts c.args.level.place (place_within old.bank c.args.shell.now c.args.level.place c.requires.place) in
    only_stands c.part_at_term.new.work c.in_ok-line.line _ (c.in_ok-line.ensures.line there.0 there.1)

pub returns-in-Some-clause-line : goal.returns-in-Some-clause-line
returns-in-Some-clause-line c =
    let h = c.args.history.now in
    let old = c.args.work.now in
    let one = c.part_at_term.new.work in
    let new = c.without_base.new.work in
    let s = shell_at old.bank c.args.shell.now in
    let y = term_at old.bank c.args.y in
    let b = text_at old.bank c.in-Some.b in
    let line = c.in_ok-line.line in
    let grows = c.part_at_term.ensures.grows.grows in
    let named : IsNamed old.bank c.in-Some.b = subst (BaseStands old.bank) c.in-Some.is c.requires.shell.base in
    let same_y : term_at one.bank c.args.y ≡ y = same_term_grown h old one c.args.y grows c.requires.term in
    let same_b : text_at one.bank c.in-Some.b ≡ b = text_at-grown old.bank one.bank c.in-Some.b grows.bank named in
    for_ok c.without_base.result (DeniesEquation one new c.args.level.guard (term_at one.bank c.args.y) (Function (text_at one.bank c.in-Some.b)) line) (OwnLevelLine new s c.args.level y) (λ n k.
    level_with one new s c.args.level y b line n (ap (text_if old.bank) c.in-Some.is) c.in_ok-line.ensures.line
    (subst (λ n'. DeniesEquation one new c.args.level.guard y (Function n') line n) same_b (subst (λ u. DeniesEquation one new c.args.level.guard u (Function (text_at one.bank c.in-Some.b)) line n) same_y k))) c.without_base.ensures.line

pub returns-in-Some-clause-grows : goal.returns-in-Some-clause-grows
returns-in-Some-clause-grows c = grown_trans c.args.history.now c.args.work.now c.part_at_term.new.work c.without_base.new.work c.part_at_term.ensures.grows c.without_base.ensures.grows
