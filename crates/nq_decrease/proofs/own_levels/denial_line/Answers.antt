use Rattle.std.proofs.Common.{sym, subst}
use Rattle.nq_bank.specs.Content.{term_at}
use Rattle.nq_rule.proofs.Made.{for_ok}
use Rattle.nq_kernel.proofs.HeldLines.{holds_stands, holds_held}
use Rattle.nq_lines.specs.Lines.{LineHasOnly}
use Rattle.nq_lines.specs.Instances.{InstancesTo}
use Rattle.nq_lines.proofs.TermLemmas.{term_grown}
use Rattle.nq_replay.proofs.UncountedLemmas.{grown_trans}
use Rattle.nq_part_lines.specs.LawLines.{IsLaw}
use Rattle.nq_part_lines.specs.Pairs.{three_pairs}
use Rattle.nq_part_lines.proofs.GrownLemmas.{room_grown, three_grown}
use Rattle.nq_decrease.specs.OwnLevels.{denial_clause}
use Rattle.nq_decrease.proofs.OwnLevelLemmas.{denial_is_law, denial_made}
use Rattle.nq_decrease.proofs.own_levels.denial_line.Goals as goal

pub at_three-requires-clause-line : goal.at_three-requires-clause-line
at_three-requires-clause-line c = holds_stands c.denial_law.new.work c.in_ok-law.law (denial_clause c.args.guard) c.in_ok-law.ensures.line

pub at_three-requires-clause-law : goal.at_three-requires-clause-law
at_three-requires-clause-law c = subst IsLaw (sym (holds_held c.denial_law.new.work c.in_ok-law.law (denial_clause c.args.guard) c.in_ok-law.ensures.line)) (denial_is_law c.args.guard)

pub at_three-requires-clause-first : goal.at_three-requires-clause-first
at_three-requires-clause-first c = term_grown c.args.history.now c.args.work.now c.denial_law.new.work c.args.y c.requires.stands c.denial_law.ensures.grows.grows c.requires.term.inside

pub at_three-requires-clause-second : goal.at_three-requires-clause-second
at_three-requires-clause-second c = term_grown c.args.history.now c.args.work.now c.denial_law.new.work c.args.base c.requires.stands c.denial_law.ensures.grows.grows c.requires.base.inside

pub at_three-requires-clause-third : goal.at_three-requires-clause-third
at_three-requires-clause-third c = term_grown c.args.history.now c.args.work.now c.denial_law.new.work c.args.base c.requires.stands c.denial_law.ensures.grows.grows c.requires.base.inside

pub at_three-requires-clause-first_room : goal.at_three-requires-clause-first_room
at_three-requires-clause-first_room c = room_grown c.args.history.now c.args.work.now c.denial_law.new.work c.denial_law.ensures.grows.grows c.args.y c.requires.term.inside c.requires.term.room

pub at_three-requires-clause-second_room : goal.at_three-requires-clause-second_room
at_three-requires-clause-second_room c = room_grown c.args.history.now c.args.work.now c.denial_law.new.work c.denial_law.ensures.grows.grows c.args.base c.requires.base.inside c.requires.base.room

pub at_three-requires-clause-third_room : goal.at_three-requires-clause-third_room
at_three-requires-clause-third_room c = room_grown c.args.history.now c.args.work.now c.denial_law.new.work c.denial_law.ensures.grows.grows c.args.base c.requires.base.inside c.requires.base.room

pub returns-clause-grows : goal.returns-clause-grows
returns-clause-grows c = grown_trans c.args.history.now c.args.work.now c.denial_law.new.work c.at_three.new.work c.denial_law.ensures.grows c.at_three.ensures.grows

pub returns-clause-line : goal.returns-clause-line
returns-clause-line c =
    let old = c.args.work.now in
    let mid = c.denial_law.new.work in
    let new = c.at_three.new.work in
    let y = term_at old.bank c.args.y in
    let u = term_at old.bank c.args.base in
    let same = three_grown c.args.history.now old mid c.denial_law.ensures.grows.grows c.args.y c.args.base c.args.base c.requires.term.inside c.requires.base.inside c.requires.base.inside in
    for_ok c.at_three.result (InstancesTo mid new (three_pairs (term_at mid.bank c.args.y) (term_at mid.bank c.args.base) (term_at mid.bank c.args.base)) c.in_ok-law.law) (λ n. LineHasOnly new n _) (λ n h.
    denial_made mid new c.args.guard y u c.in_ok-law.law n c.in_ok-law.ensures.line (subst (λ s. InstancesTo mid new s c.in_ok-law.law n) same h)) c.at_three.ensures.line
