use Rattle.std.proofs.Common.{sym, subst}
use Rattle.nq_bank.specs.Content.{term_at}
use Rattle.nq_rule.proofs.Made.{for_ok}
use Rattle.nq_kernel.proofs.HeldLines.{holds_held, holds_stands}
use Rattle.nq_lines.specs.Instances.{InstancesTo}
use Rattle.nq_lines.specs.Lines.{LineHasOnly}
use Rattle.nq_replay.proofs.UncountedLemmas.{grown_trans}
use Rattle.nq_shell_parts.specs.LawClauses.{smaller_as_others_are_clause}
use Rattle.nq_part_lines.specs.Five.{five_at}
use Rattle.nq_part_lines.specs.LawLines.{IsLaw}
use Rattle.nq_part_lines.specs.Pairs.{five_pairs}
use Rattle.nq_part_lines.proofs.DefaultedLemmas.{others_is_law, others_made}
use Rattle.nq_part_lines.proofs.TakenLemmas.{five_moved, five_small}
use Rattle.nq_part_lines.proofs.others.others_law.Goals as goal

pub at_five-requires-clause-line : goal.at_five-requires-clause-line
at_five-requires-clause-line c = holds_stands c.smaller_as_others_are.new.work c.in_ok-law.law smaller_as_others_are_clause c.in_ok-law.ensures.line

pub at_five-requires-clause-law : goal.at_five-requires-clause-law
at_five-requires-clause-law c = subst IsLaw (sym (holds_held c.smaller_as_others_are.new.work c.in_ok-law.law smaller_as_others_are_clause c.in_ok-law.ensures.line)) others_is_law

pub at_five-requires-clause-terms : goal.at_five-requires-clause-terms
at_five-requires-clause-terms c = five_small c.args.history.now c.args.work.now c.smaller_as_others_are.new.work c.requires.stands c.smaller_as_others_are.ensures.grows.grows c.args.terms c.requires.terms

pub returns-clause-line : goal.returns-clause-line
returns-clause-line c =
    let old = c.args.work.now in
    let mid = c.smaller_as_others_are.new.work in
    let new = c.at_five.new.work in
    for_ok c.at_five.result (InstancesTo mid new (five_at mid.bank c.args.terms) c.in_ok-law.law) (λ n. LineHasOnly new n _) (λ n h.
    others_made mid new (term_at old.bank c.args.terms.a) (term_at old.bank c.args.terms.b) (term_at old.bank c.args.terms.x) (term_at old.bank c.args.terms.y) (term_at old.bank c.args.terms.z) c.in_ok-law.law n c.in_ok-law.ensures.line (subst (λ s. InstancesTo mid new s c.in_ok-law.law n) (five_moved c.args.history.now old mid c.requires.stands c.smaller_as_others_are.ensures.grows.grows five_pairs c.args.terms c.requires.terms) h)) c.at_five.ensures.line

pub returns-clause-grows : goal.returns-clause-grows
returns-clause-grows c = grown_trans c.args.history.now c.args.work.now c.smaller_as_others_are.new.work c.at_five.new.work c.smaller_as_others_are.ensures.grows c.at_five.ensures.grows
