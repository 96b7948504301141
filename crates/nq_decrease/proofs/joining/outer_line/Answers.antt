use Rattle.nq_bank.specs.Content.{term_at}
use Rattle.nq_rule.proofs.Made.{for_ok}
use Rattle.nq_lines.proofs.LineLemmas.{line_grown}
use Rattle.nq_lines.proofs.TermLemmas.{term_grown}
use Rattle.nq_replay.proofs.UncountedLemmas.{grown_trans}
use Rattle.nq_decrease.specs.Nests.{JoinsSizes, AddsLevel}
use Rattle.nq_decrease.proofs.DescentLemmas.{leveled, joins_grown}
use Rattle.nq_decrease.proofs.joining.outer_line.Goals as goal

pub joined_sizes-requires-clause-first_term : goal.joined_sizes-requires-clause-first_term
joined_sizes-requires-clause-first_term c = term_grown c.args.history.now c.args.work.now c.level_line.new.work c.args.t c.requires.stands c.level_line.ensures.grows.grows c.requires.first_term

pub joined_sizes-requires-clause-second_term : goal.joined_sizes-requires-clause-second_term
joined_sizes-requires-clause-second_term c = term_grown c.args.history.now c.args.work.now c.level_line.new.work c.args.y c.requires.stands c.level_line.ensures.grows.grows c.requires.second_term

pub joined_sizes-requires-clause-third_term : goal.joined_sizes-requires-clause-third_term
joined_sizes-requires-clause-third_term c = term_grown c.args.history.now c.args.work.now c.level_line.new.work c.args.z c.requires.stands c.level_line.ensures.grows.grows c.requires.third_term

pub joined_sizes-requires-clause-second : goal.joined_sizes-requires-clause-second
joined_sizes-requires-clause-second c = line_grown c.args.history.now c.args.work.now c.level_line.new.work c.args.inner c.requires.stands c.level_line.ensures.grows.grows c.requires.inner

pub returns-clause-line : goal.returns-clause-line
returns-clause-line c =
    let h = c.args.history.now in
    let old = c.args.work.now in
    let one = c.level_line.new.work in
    let two = c.joined_sizes.new.work in
    let t = term_at old.bank c.args.t in
    let y = term_at old.bank c.args.y in
    let z = term_at old.bank c.args.z in
    let grows = c.level_line.ensures.grows.grows in
    for_ok c.joined_sizes.result (JoinsSizes one two (term_at one.bank c.args.t) (term_at one.bank c.args.y) (term_at one.bank c.args.z) c.in_ok-first.first c.args.inner) (AddsLevel old two c.args.level y z c.args.inner) (λ n k.
    leveled h old one two c.args.level t y z c.args.inner c.in_ok-first.first n c.requires.stands grows c.requires.part c.in_ok-first.ensures.line (joins_grown h old one two grows c.args.t c.args.y c.args.z c.in_ok-first.first c.args.inner n c.requires.first_term c.requires.second_term c.requires.third_term k)) c.joined_sizes.ensures.line

pub returns-clause-grows : goal.returns-clause-grows
returns-clause-grows c = grown_trans c.args.history.now c.args.work.now c.level_line.new.work c.joined_sizes.new.work c.level_line.ensures.grows c.joined_sizes.ensures.grows
