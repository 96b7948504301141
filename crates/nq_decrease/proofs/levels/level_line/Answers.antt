use Rattle.std.proofs.Common.{◌≤◌, ◌∷◌, [], sym, subst}
use Rattle.std.specs.Prelude.{codes}
use Rattle.nq_logic.specs.Sizes.{depth_of}
use Rattle.nq_bank.specs.Content.{term_at}
use Rattle.nq_rule.proofs.Made.{for_ok}
use Rattle.nq_kernel.proofs.HeldLines.{holds_stands, holds_held}
use Rattle.nq_lines.specs.Lines.{LineHasOnly}
use Rattle.nq_lines.specs.Instances.{InstancesTo}
use Rattle.nq_lines.proofs.TermLemmas.{term_grown, same_term_grown}
use Rattle.nq_replay.proofs.UncountedLemmas.{grown_trans}
use Rattle.nq_part_lines.specs.LawLines.{IsLaw, term_room}
use Rattle.nq_decrease.specs.Levels.{clause_of}
use Rattle.nq_decrease.proofs.InstanceLemmas.{level_law, level_literals, level_made}
use Rattle.nq_decrease.proofs.levels.level_line.Goals as goal

pub at_term-requires-clause-line : goal.at_term-requires-clause-line
at_term-requires-clause-line c = holds_stands c.law_of.new.work c.in_ok-law.law (clause_of c.args.level) c.in_ok-law.ensures.line

pub at_term-requires-clause-law : goal.at_term-requires-clause-law
at_term-requires-clause-law c = subst IsLaw (sym (holds_held c.law_of.new.work c.in_ok-law.law (clause_of c.args.level) c.in_ok-law.ensures.line)) (level_law c.args.level)

pub at_term-requires-clause-term : goal.at_term-requires-clause-term
at_term-requires-clause-term c = term_grown c.args.history.now c.args.work.now c.law_of.new.work c.args.y c.requires.stands c.law_of.ensures.grows.grows c.requires.term

pub at_term-requires-clause-room : goal.at_term-requires-clause-room
at_term-requires-clause-room c = subst (λ t. depth_of t ≤ term_room) (sym (same_term_grown c.args.history.now c.args.work.now c.law_of.new.work c.args.y c.law_of.ensures.grows.grows c.requires.term)) c.requires.room

pub returns-clause-line : goal.returns-clause-line
returns-clause-line c =
    let mid = c.law_of.new.work in
    let new = c.at_term.new.work in
    let y = term_at c.args.work.now.bank c.args.y in
    let same = same_term_grown c.args.history.now c.args.work.now mid c.args.y c.law_of.ensures.grows.grows c.requires.term in
    for_ok c.at_term.result (InstancesTo mid new ((codes "X", term_at mid.bank c.args.y) ∷ []) c.in_ok-law.law) (λ n. LineHasOnly new n (level_literals c.args.level y)) (λ n h.
    level_made mid new c.args.level y c.in_ok-law.law n c.in_ok-law.ensures.line (subst (λ t. InstancesTo mid new ((codes "X", t) ∷ []) c.in_ok-law.law n) same h)) c.at_term.ensures.line

pub returns-clause-grows : goal.returns-clause-grows
returns-clause-grows c = grown_trans c.args.history.now c.args.work.now c.law_of.new.work c.at_term.new.work c.law_of.ensures.grows c.at_term.ensures.grows
