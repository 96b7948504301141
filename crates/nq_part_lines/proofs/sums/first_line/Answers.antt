use Rattle.std.proofs.Common.{sym, subst}
use Rattle.nq_bank.specs.Content.{term_at}
use Rattle.nq_rule.proofs.Made.{for_ok}
use Rattle.nq_kernel.proofs.HeldLines.{holds_stands, holds_held}
use Rattle.nq_lines.specs.Lines.{LineHasOnly}
use Rattle.nq_lines.specs.Instances.{InstancesTo}
use Rattle.nq_lines.proofs.TermLemmas.{term_grown}
use Rattle.nq_shell_parts.specs.LawClauses.{less_than_sum_clause}
use Rattle.nq_replay.proofs.UncountedLemmas.{grown_trans}
use Rattle.nq_part_lines.specs.LawLines.{IsLaw}
use Rattle.nq_part_lines.specs.Pairs.{three_pairs}
use Rattle.nq_part_lines.proofs.GrownLemmas.{room_grown, three_grown}
use Rattle.nq_part_lines.proofs.SumLemmas.{sum_is_law, sum_made}
use Rattle.nq_part_lines.proofs.sums.first_line.Goals as goal

pub at_three-requires-clause-line : goal.at_three-requires-clause-line
at_three-requires-clause-line c = holds_stands c.less_than_sum.new.work c.in_ok-law.law less_than_sum_clause c.in_ok-law.ensures.line

pub at_three-requires-clause-law : goal.at_three-requires-clause-law
at_three-requires-clause-law c = subst IsLaw (sym (holds_held c.less_than_sum.new.work c.in_ok-law.law less_than_sum_clause c.in_ok-law.ensures.line)) sum_is_law

pub at_three-requires-clause-first : goal.at_three-requires-clause-first
at_three-requires-clause-first c = term_grown c.args.history.now c.args.work.now c.less_than_sum.new.work c.args.t c.requires.stands c.less_than_sum.ensures.grows.grows c.requires.first

pub at_three-requires-clause-first_room : goal.at_three-requires-clause-first_room
at_three-requires-clause-first_room c = room_grown c.args.history.now c.args.work.now c.less_than_sum.new.work c.less_than_sum.ensures.grows.grows c.args.t c.requires.first c.requires.first_room

pub at_three-requires-clause-second : goal.at_three-requires-clause-second
at_three-requires-clause-second c = term_grown c.args.history.now c.args.work.now c.less_than_sum.new.work c.args.rest c.requires.stands c.less_than_sum.ensures.grows.grows c.requires.second

pub at_three-requires-clause-second_room : goal.at_three-requires-clause-second_room
at_three-requires-clause-second_room c = room_grown c.args.history.now c.args.work.now c.less_than_sum.new.work c.less_than_sum.ensures.grows.grows c.args.rest c.requires.second c.requires.second_room

pub at_three-requires-clause-third : goal.at_three-requires-clause-third
at_three-requires-clause-third c = term_grown c.args.history.now c.args.work.now c.less_than_sum.new.work c.args.rest c.requires.stands c.less_than_sum.ensures.grows.grows c.requires.second

pub at_three-requires-clause-third_room : goal.at_three-requires-clause-third_room
at_three-requires-clause-third_room c = room_grown c.args.history.now c.args.work.now c.less_than_sum.new.work c.less_than_sum.ensures.grows.grows c.args.rest c.requires.second c.requires.second_room

pub returns-clause-grows : goal.returns-clause-grows
returns-clause-grows c = grown_trans c.args.history.now c.args.work.now c.less_than_sum.new.work c.at_three.new.work c.less_than_sum.ensures.grows c.at_three.ensures.grows

pub returns-clause-line : goal.returns-clause-line
returns-clause-line c =
    let old = c.args.work.now in
    let mid = c.less_than_sum.new.work in
    let new = c.at_three.new.work in
    let same = three_grown c.args.history.now old mid c.less_than_sum.ensures.grows.grows c.args.t c.args.rest c.args.rest c.requires.first c.requires.second c.requires.second in
    for_ok c.at_three.result (InstancesTo mid new (three_pairs (term_at mid.bank c.args.t) (term_at mid.bank c.args.rest) (term_at mid.bank c.args.rest)) c.in_ok-law.law) (λ n. LineHasOnly new n _) (λ n h.
    sum_made mid new (term_at old.bank c.args.t) (term_at old.bank c.args.rest) c.in_ok-law.law n c.in_ok-law.ensures.line (subst (λ s. InstancesTo mid new s c.in_ok-law.law n) same h)) c.at_three.ensures.line
