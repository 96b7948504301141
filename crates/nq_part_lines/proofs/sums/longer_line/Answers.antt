use Rattle.std.proofs.Common.{[], ◌∷◌, ◌∙◌, subst}
use Rattle.nq_logic.specs.Words.{add1_term, call2}
use Rattle.nq_bank.specs.Content.{term_at}
use Rattle.nq_rule.proofs.Made.{for_ok}
use Rattle.nq_lines.specs.Lines.{CutsTo, LineHasOnly}
use Rattle.nq_lines.proofs.LineLemmas.{line_grown, only_stands}
use Rattle.nq_lines.proofs.TermLemmas.{term_grown}
use Rattle.nq_replay.proofs.UncountedLemmas.{grown_trans}
use Rattle.nq_part_lines.proofs.GrownLemmas.{room_grown}
use Rattle.nq_part_lines.proofs.SumLemmas.{cut_alone, less_grown}
use Rattle.nq_part_lines.proofs.sums.longer_line.Goals as goal

pub less_than_more-requires-clause-left : goal.less_than_more-requires-clause-left
less_than_more-requires-clause-left c = term_grown c.args.history.now c.args.work.now c.longer_at.new.work c.args.t c.requires.stands c.longer_at.ensures.grows.grows c.requires.term

pub less_than_more-requires-clause-right : goal.less_than_more-requires-clause-right
less_than_more-requires-clause-right c = term_grown c.args.history.now c.args.work.now c.longer_at.new.work c.args.rest c.requires.stands c.longer_at.ensures.grows.grows c.requires.rest

pub less_than_more-requires-clause-left_room : goal.less_than_more-requires-clause-left_room
less_than_more-requires-clause-left_room c = room_grown c.args.history.now c.args.work.now c.longer_at.new.work c.longer_at.ensures.grows.grows c.args.t c.requires.term c.requires.room

pub less_than_more-requires-clause-right_room : goal.less_than_more-requires-clause-right_room
less_than_more-requires-clause-right_room c = room_grown c.args.history.now c.args.work.now c.longer_at.new.work c.longer_at.ensures.grows.grows c.args.rest c.requires.rest c.requires.rest_room

pub returns-in_err-less-clause-grows : goal.returns-in_err-less-clause-grows
returns-in_err-less-clause-grows c = grown_trans c.args.history.now c.args.work.now c.longer_at.new.work c.less_than_more.new.work c.longer_at.ensures.grows c.less_than_more.ensures.grows

pub cut-requires-clause-first : goal.cut-requires-clause-first
cut-requires-clause-first c =
    let both = grown_trans c.args.history.now c.args.work.now c.longer_at.new.work c.less_than_more.new.work c.longer_at.ensures.grows c.less_than_more.ensures.grows in
    line_grown c.args.history.now c.args.work.now c.less_than_more.new.work c.args.inner c.requires.stands both.grows (only_stands c.args.work.now c.args.inner _ c.requires.inner)

pub cut-requires-clause-second : goal.cut-requires-clause-second
cut-requires-clause-second c = line_grown c.args.history.now c.longer_at.new.work c.less_than_more.new.work c.in_ok-here.here c.longer_at.ensures.grows.grows.stands c.less_than_more.ensures.grows.grows (only_stands c.longer_at.new.work c.in_ok-here.here _ c.in_ok-here.ensures.line)

pub returns-clause-grows : goal.returns-clause-grows
returns-clause-grows c =
    grown_trans c.args.history.now c.args.work.now c.longer_at.new.work c.cut.new.work c.longer_at.ensures.grows (grown_trans c.args.history.now c.longer_at.new.work c.less_than_more.new.work c.cut.new.work c.less_than_more.ensures.grows c.cut.ensures.grows)

pub returns-clause-line : goal.returns-clause-line
returns-clause-line c =
    let h = c.args.history.now in
    let old = c.args.work.now in
    let one = c.longer_at.new.work in
    let two = c.less_than_more.new.work in
    let three = c.cut.new.work in
    let both = grown_trans h old one two c.longer_at.ensures.grows c.less_than_more.ensures.grows in
    let l = call2 "LESSP" (term_at old.bank c.args.t) (add1_term (term_at old.bank c.args.rest)) in
    let w = call2 "LESSP" (term_at old.bank c.args.t) (add1_term (call2 "PLUS" (term_at old.bank c.args.first) (term_at old.bank c.args.rest))) in
    let is = c.in_ok-less.ensures.less.denotes ∙ less_grown h old one c.args.t c.args.rest c.longer_at.ensures.grows.grows c.requires.term c.requires.rest in
    for_ok c.cut.result (CutsTo two three (term_at two.bank c.in_ok-less.less) c.args.inner c.in_ok-here.here) (λ n. LineHasOnly three n (w ∷ [])) (λ n k.
    cut_alone h old one two three l w c.args.inner c.in_ok-here.here n c.requires.stands both.grows c.longer_at.ensures.grows.grows.stands c.less_than_more.ensures.grows.grows c.requires.inner c.in_ok-here.ensures.line (subst (λ v. CutsTo two three v c.args.inner c.in_ok-here.here n) is k)) c.cut.ensures.line
