use Rattle.nq_bank.specs.Content.{term_at}
use Rattle.nq_replay.proofs.UncountedLemmas.{grown_trans}
use Rattle.nq_part_lines.proofs.ChoiceLemmas.{by_first, by_second, decided_later, either_told}
use Rattle.nq_part_lines.proofs.choices.either.Goals as goal

pub either_line-requires-clause-first : goal.either_line-requires-clause-first
either_line-requires-clause-first c =
    let old = c.args.work.now in
    decided_later c.args.history.now old c.ground_call.new.work c.requires.stands c.ground_call.ensures.grows.grows (term_at old.bank c.args.first.term) c.args.first.holds c.args.first c.requires.first

pub either_line-requires-clause-second : goal.either_line-requires-clause-second
either_line-requires-clause-second c =
    let old = c.args.work.now in
    decided_later c.args.history.now old c.ground_call.new.work c.requires.stands c.ground_call.ensures.grows.grows (term_at old.bank c.args.second.term) c.args.second.holds c.args.second c.requires.second

pub returns-in_err-line-clause-grows : goal.returns-in_err-line-clause-grows
returns-in_err-line-clause-grows c = grown_trans c.args.history.now c.args.work.now c.ground_call.new.work c.either_line.new.work c.ground_call.ensures.grows c.either_line.ensures.grows

pub returns-then-first-clause-grows : goal.returns-then-first-clause-grows
returns-then-first-clause-grows c = grown_trans c.args.history.now c.args.work.now c.ground_call.new.work c.either_line.new.work c.ground_call.ensures.grows c.either_line.ensures.grows

pub returns-else-first-clause-grows : goal.returns-else-first-clause-grows
returns-else-first-clause-grows c = grown_trans c.args.history.now c.args.work.now c.ground_call.new.work c.either_line.new.work c.ground_call.ensures.grows c.either_line.ensures.grows

pub returns-then-first-clause-decided : goal.returns-then-first-clause-decided
returns-then-first-clause-decided c =
    let a = c.args.first in
    let b = c.args.second in
    either_told c.args.history.now c.args.work.now c.ground_call.new.work c.either_line.new.work a b c.in_ok-term.term a.holds c.in_ok-line.line c.requires.stands c.ground_call.ensures.grows.grows c.ground_call.ensures.grows.grows.stands c.either_line.ensures.grows.grows
    c.requires.first.small c.requires.second.small c.requires.room c.in_ok-term.ensures.call (by_first a.holds b.holds c.if-first.true) c.in_ok-line.ensures.line

pub returns-else-first-clause-decided : goal.returns-else-first-clause-decided
returns-else-first-clause-decided c =
    let a = c.args.first in
    let b = c.args.second in
    either_told c.args.history.now c.args.work.now c.ground_call.new.work c.either_line.new.work a b c.in_ok-term.term b.holds c.in_ok-line.line c.requires.stands c.ground_call.ensures.grows.grows c.ground_call.ensures.grows.grows.stands c.either_line.ensures.grows.grows
    c.requires.first.small c.requires.second.small c.requires.room c.in_ok-term.ensures.call (by_second a.holds b.holds c.if-first.false) c.in_ok-line.ensures.line
