use Rattle.std.proofs.Common.{◌∷◌, [], subst}
use Rattle.std.specs.Prelude.{codes}
use Rattle.nq_bank.specs.Content.{term_at}
use Rattle.nq_bank.specs.Shells.{shell_at}
use Rattle.nq_rule.proofs.Made.{for_ok}
use Rattle.nq_lines.specs.Instances.{InstancesTo}
use Rattle.nq_lines.proofs.TermLemmas.{same_term_grown}
use Rattle.nq_replay.proofs.UncountedLemmas.{grown_trans}
use Rattle.nq_decrease.specs.OwnLevels.{PartOrBaseLine}
use Rattle.nq_decrease.proofs.OwnGrownLemmas.{known_since, place_within, rows_grown, small_grown}
use Rattle.nq_decrease.proofs.OwnLevelLemmas.{own_line, part_made}
use Rattle.nq_decrease.proofs.own_levels.part_at_term.Goals as goal

pub at_own-requires-clause-line : goal.at_own-requires-clause-line
at_own-requires-clause-line c =
    let h = c.args.history.now in
    let old = c.args.work.now in
    let one = c.part_line.new.work in
    let s = shell_at old.bank c.args.shell.now in
    let grows = c.part_line.ensures.grows.grows in
    own_line h one s c.args.place c.in_ok-line.line (known_since h old one grows c.requires.stands s c.requires.known) (rows_grown h old one grows c.requires.stands c.requires.rows) (place_within old.bank c.args.shell.now c.args.place c.requires.place) c.in_ok-line.ensures.line

pub at_own-requires-clause-term : goal.at_own-requires-clause-term
at_own-requires-clause-term c = small_grown c.args.history.now c.args.work.now c.part_line.new.work c.part_line.ensures.grows.grows c.requires.stands c.args.y c.requires.term

pub returns-clause-line : goal.returns-clause-line
returns-clause-line c =
    let h = c.args.history.now in
    let old = c.args.work.now in
    let one = c.part_line.new.work in
    let new = c.at_own.new.work in
    let s = shell_at old.bank c.args.shell.now in
    let y = term_at old.bank c.args.y in
    let same = same_term_grown h old one c.args.y c.part_line.ensures.grows.grows c.requires.term.inside in
    for_ok c.at_own.result (InstancesTo one new ((codes "X", term_at one.bank c.args.y) ∷ []) c.in_ok-line.line) (PartOrBaseLine new s c.args.place y) (λ n k.
    part_made one new s c.args.place y c.in_ok-line.line n c.in_ok-line.ensures.line (subst (λ t. InstancesTo one new ((codes "X", t) ∷ []) c.in_ok-line.line n) same k)) c.at_own.ensures.line

pub returns-clause-grows : goal.returns-clause-grows
returns-clause-grows c = grown_trans c.args.history.now c.args.work.now c.part_line.new.work c.at_own.new.work c.part_line.ensures.grows c.at_own.ensures.grows
