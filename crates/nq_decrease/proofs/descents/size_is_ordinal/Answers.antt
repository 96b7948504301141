use Rattle.std.proofs.Common.{◌∷◌, [], sym, subst}
use Rattle.std.specs.Prelude.{codes}
use Rattle.nq_bank.specs.Content.{term_at}
use Rattle.nq_rule.proofs.Made.{for_ok}
use Rattle.nq_kernel.proofs.HeldLines.{holds_stands, holds_held}
use Rattle.nq_lines.specs.Lines.{LineHasOnly}
use Rattle.nq_lines.specs.Instances.{InstancesTo}
use Rattle.nq_lines.proofs.TermLemmas.{term_grown, same_term_grown}
use Rattle.nq_replay.specs.LawClauses.{size_is_ordinal_clause}
use Rattle.nq_replay.proofs.UncountedLemmas.{grown_trans}
use Rattle.nq_part_lines.specs.LawLines.{IsLaw}
use Rattle.nq_decrease.proofs.DescentLemmas.{ordinal_is_law, ordinal_made}
use Rattle.nq_decrease.proofs.descents.size_is_ordinal.Goals as goal

pub at_term-requires-clause-line : goal.at_term-requires-clause-line
at_term-requires-clause-line c = holds_stands c.size_is_ordinal.new.work c.in_ok-law.law size_is_ordinal_clause c.in_ok-law.ensures.line

pub at_term-requires-clause-law : goal.at_term-requires-clause-law
at_term-requires-clause-law c = subst IsLaw (sym (holds_held c.size_is_ordinal.new.work c.in_ok-law.law size_is_ordinal_clause c.in_ok-law.ensures.line)) ordinal_is_law

pub at_term-requires-clause-term : goal.at_term-requires-clause-term
at_term-requires-clause-term c = term_grown c.args.history.now c.args.work.now c.size_is_ordinal.new.work c.args.t c.requires.stands c.size_is_ordinal.ensures.grows.grows c.requires.term

pub returns-clause-line : goal.returns-clause-line
returns-clause-line c =
    let mid = c.size_is_ordinal.new.work in
    let new = c.at_term.new.work in
    let same = same_term_grown c.args.history.now c.args.work.now mid c.args.t c.size_is_ordinal.ensures.grows.grows c.requires.term in
    for_ok c.at_term.result (InstancesTo mid new ((codes "X", term_at mid.bank c.args.t) ∷ []) c.in_ok-law.law) (λ n. LineHasOnly new n _) (λ n h.
    ordinal_made mid new (term_at c.args.work.now.bank c.args.t) c.in_ok-law.law n c.in_ok-law.ensures.line (subst (λ t. InstancesTo mid new ((codes "X", t) ∷ []) c.in_ok-law.law n) same h)) c.at_term.ensures.line

pub returns-clause-grows : goal.returns-clause-grows
returns-clause-grows c = grown_trans c.args.history.now c.args.work.now c.size_is_ordinal.new.work c.at_term.new.work c.size_is_ordinal.ensures.grows c.at_term.ensures.grows
