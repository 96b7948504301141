use Rattle.nq_bank.specs.Content.{term_at}
use Rattle.nq_bank.specs.Shells.{shell_at}
use Rattle.nq_rule.proofs.Made.{for_ok}
use Rattle.nq_lines.proofs.LineLemmas.{line_grown, only_stands}
use Rattle.nq_lines.proofs.TermLemmas.{term_grown}
use Rattle.nq_replay.proofs.UncountedLemmas.{grown_trans}
use Rattle.nq_decrease.specs.Nests.{JoinsSizes}
use Rattle.nq_decrease.specs.OwnLevels.{AddsOwnLevel}
use Rattle.nq_decrease.proofs.DescentLemmas.{joins_grown}
use Rattle.nq_decrease.proofs.OwnGrownLemmas.{place_within}
use Rattle.nq_decrease.proofs.OwnLevelLemmas.{part_there}
use Rattle.nq_decrease.proofs.OwnNestLines.{own_leveled}
use Rattle.nq_decrease.proofs.own_nests.own_outer_line.Goals as goal

pub joined_sizes-requires-clause-first_term : goal.joined_sizes-requires-clause-first_term
joined_sizes-requires-clause-first_term c = term_grown c.args.history.now c.args.work.now c.own_level_line.new.work c.args.t c.requires.stands c.own_level_line.ensures.grows.grows c.requires.first_term

pub joined_sizes-requires-clause-second_term : goal.joined_sizes-requires-clause-second_term
joined_sizes-requires-clause-second_term c = term_grown c.args.history.now c.args.work.now c.own_level_line.new.work c.args.y c.requires.stands c.own_level_line.ensures.grows.grows c.requires.second_term

pub joined_sizes-requires-clause-third_term : goal.joined_sizes-requires-clause-third_term
joined_sizes-requires-clause-third_term c = term_grown c.args.history.now c.args.work.now c.own_level_line.new.work c.args.z c.requires.stands c.own_level_line.ensures.grows.grows c.requires.third_term

pub joined_sizes-requires-clause-first : goal.joined_sizes-requires-clause-first
joined_sizes-requires-clause-first c =
    let old = c.args.work.now in
    let s = shell_at old.bank c.args.shell.now in
    let there = part_there s.parts c.args.level.place (place_within old.bank c.args.shell.now c.args.level.place c.requires.place) in
    only_stands c.own_level_line.new.work c.in_ok-first.first _ (c.in_ok-first.ensures.line there.0 there.1)

pub joined_sizes-requires-clause-second : goal.joined_sizes-requires-clause-second
joined_sizes-requires-clause-second c = line_grown c.args.history.now c.args.work.now c.own_level_line.new.work c.args.inner c.requires.stands c.own_level_line.ensures.grows.grows c.requires.inner

pub returns-clause-line : goal.returns-clause-line
returns-clause-line c =
    let h = c.args.history.now in
    let old = c.args.work.now in
    let one = c.own_level_line.new.work in
    let two = c.joined_sizes.new.work in
    let s = shell_at old.bank c.args.shell.now in
    let t = term_at old.bank c.args.t in
    let y = term_at old.bank c.args.y in
    let z = term_at old.bank c.args.z in
    let grows = c.own_level_line.ensures.grows.grows in
    for_ok c.joined_sizes.result (JoinsSizes one two (term_at one.bank c.args.t) (term_at one.bank c.args.y) (term_at one.bank c.args.z) c.in_ok-first.first c.args.inner) (AddsOwnLevel old two s c.args.level y z c.args.inner) (λ n k.
    own_leveled h old one two s c.args.level t y z c.args.inner c.in_ok-first.first n c.requires.stands grows c.requires.part c.in_ok-first.ensures.line (joins_grown h old one two grows c.args.t c.args.y c.args.z c.in_ok-first.first c.args.inner n c.requires.first_term c.requires.second_term c.requires.third_term k)) c.joined_sizes.ensures.line

pub returns-clause-grows : goal.returns-clause-grows
returns-clause-grows c = grown_trans c.args.history.now c.args.work.now c.own_level_line.new.work c.joined_sizes.new.work c.own_level_line.ensures.grows c.joined_sizes.ensures.grows
