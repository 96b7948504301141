use Rattle.std.proofs.Common.{sym, subst}
use Rattle.nq_bank.specs.Content.{term_at}
use Rattle.nq_rule.proofs.Made.{for_ok}
use Rattle.nq_kernel.proofs.HeldLines.{holds_stands, holds_held}
use Rattle.nq_lines.specs.Lines.{LineHasOnly}
use Rattle.nq_lines.specs.Instances.{InstancesTo}
use Rattle.nq_lines.proofs.TermLemmas.{term_grown}
use Rattle.nq_replay.proofs.UncountedLemmas.{grown_trans}
use Rattle.nq_part_lines.specs.Decisions.{choice_clause, choice_literals}
use Rattle.nq_part_lines.specs.LawLines.{IsLaw}
use Rattle.nq_part_lines.specs.Pairs.{three_pairs}
use Rattle.nq_part_lines.proofs.ChoiceLemmas.{choice_is_law, choice_made}
use Rattle.nq_part_lines.proofs.GrownLemmas.{room_grown, three_grown}
use Rattle.nq_part_lines.proofs.choices.choice_at.Goals as goal

pub at_three-requires-clause-line : goal.at_three-requires-clause-line
at_three-requires-clause-line c = holds_stands c.choice_law.new.work c.in_ok-law.law (choice_clause c.args.first.holds c.args.second.holds) c.in_ok-law.ensures.line

pub at_three-requires-clause-law : goal.at_three-requires-clause-law
at_three-requires-clause-law c =
    let first = c.args.first.holds in
    let second = c.args.second.holds in
    subst IsLaw (sym (holds_held c.choice_law.new.work c.in_ok-law.law (choice_clause first second) c.in_ok-law.ensures.line)) (choice_is_law first second)

pub at_three-requires-clause-first : goal.at_three-requires-clause-first
at_three-requires-clause-first c = term_grown c.args.history.now c.args.work.now c.choice_law.new.work c.args.first.term c.requires.stands c.choice_law.ensures.grows.grows c.requires.first.inside

pub at_three-requires-clause-second : goal.at_three-requires-clause-second
at_three-requires-clause-second c = term_grown c.args.history.now c.args.work.now c.choice_law.new.work c.args.second.term c.requires.stands c.choice_law.ensures.grows.grows c.requires.second.inside

pub at_three-requires-clause-third : goal.at_three-requires-clause-third
at_three-requires-clause-third c = term_grown c.args.history.now c.args.work.now c.choice_law.new.work c.args.second.term c.requires.stands c.choice_law.ensures.grows.grows c.requires.second.inside

pub at_three-requires-clause-first_room : goal.at_three-requires-clause-first_room
at_three-requires-clause-first_room c = room_grown c.args.history.now c.args.work.now c.choice_law.new.work c.choice_law.ensures.grows.grows c.args.first.term c.requires.first.inside c.requires.first.room

pub at_three-requires-clause-second_room : goal.at_three-requires-clause-second_room
at_three-requires-clause-second_room c = room_grown c.args.history.now c.args.work.now c.choice_law.new.work c.choice_law.ensures.grows.grows c.args.second.term c.requires.second.inside c.requires.second.room

pub at_three-requires-clause-third_room : goal.at_three-requires-clause-third_room
at_three-requires-clause-third_room c = room_grown c.args.history.now c.args.work.now c.choice_law.new.work c.choice_law.ensures.grows.grows c.args.second.term c.requires.second.inside c.requires.second.room

pub returns-clause-grows : goal.returns-clause-grows
returns-clause-grows c = grown_trans c.args.history.now c.args.work.now c.choice_law.new.work c.at_three.new.work c.choice_law.ensures.grows c.at_three.ensures.grows

pub returns-clause-line : goal.returns-clause-line
returns-clause-line c =
    let h = c.args.history.now in
    let old = c.args.work.now in
    let mid = c.choice_law.new.work in
    let new = c.at_three.new.work in
    let a = c.args.first in
    let b = c.args.second in
    let same = three_grown h old mid c.choice_law.ensures.grows.grows a.term b.term b.term c.requires.first.inside c.requires.second.inside c.requires.second.inside in
    for_ok c.at_three.result (InstancesTo mid new (three_pairs (term_at mid.bank a.term) (term_at mid.bank b.term) (term_at mid.bank b.term)) c.in_ok-law.law) (λ n. LineHasOnly new n (choice_literals a.holds b.holds (term_at old.bank a.term) (term_at old.bank b.term))) (λ n k.
    choice_made mid new a.holds b.holds (term_at old.bank a.term) (term_at old.bank b.term) c.in_ok-law.law n c.in_ok-law.ensures.line (subst (λ s. InstancesTo mid new s c.in_ok-law.law n) same k)) c.at_three.ensures.line
