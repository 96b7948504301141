use Rattle.std.proofs.Common.{◌∷◌, map, subst}
use Rattle.nq_bank.specs.Content.{term_at}
use Rattle.nq_clause.specs.Substitution.{substitution_at}
use Rattle.nq_clause.proofs.SubstitutionLemmas.{substitution_at-grown}
use Rattle.nq_logic.specs.RuleShapes.{rule_parts}
use Rattle.nq_logic.specs.Terms.{Substitution, substituted}
use Rattle.nq_logic.specs.Words.{not_term}
use Rattle.nq_kernel.proofs.GrowingLemmas.{WorkGrows-trans}
use Rattle.nq_lines.specs.Instances.{InstancesTo}
use Rattle.nq_lines.specs.Lines.{LineHasOnly}
use Rattle.nq_lines.proofs.LineLemmas.{only_stands}
use Rattle.nq_rule.proofs.Made.{for_ok}
use Rattle.nq_eliminate.proofs.FilledLemmas.{pairs_still}
use Rattle.nq_eliminate.proofs.rule_instances.fill_line.Goals as goal

pub instance-requires-clause-line : goal.instance-requires-clause-line
instance-requires-clause-line c = only_stands c.rule_line.new.work c.in_ok-line.line _ c.in_ok-line.ensures.line

pub instance-requires-clause-pairs : goal.instance-requires-clause-pairs
instance-requires-clause-pairs c = pairs_still c.args.history.now c.args.work.now c.rule_line.new.work c.requires.stands c.rule_line.ensures.grows c.args.pairs.items c.requires.pairs

pub returns-clause-line : goal.returns-clause-line
returns-clause-line c =
    let w = c.args.work.now in
    let w1 = c.rule_line.new.work in
    let w2 = c.instance.new.work in
    let t = term_at w.bank c.args.t in
    let these = (rule_parts t).conclusion ∷ map not_term (rule_parts t).hypotheses in
    for_ok c.instance.result (InstancesTo w1 w2 (substitution_at w1.bank c.args.pairs.items) c.in_ok-line.line) (λ n. LineHasOnly w2 n (map (substituted (substitution_at w.bank c.args.pairs.items)) these))
    (λ n made. subst (λ (s : Substitution). LineHasOnly w2 n (map (substituted s) these)) (substitution_at-grown w.bank w1.bank c.args.pairs.items c.rule_line.ensures.grows.bank c.requires.pairs.stand) (made these c.in_ok-line.ensures.line)) c.instance.ensures.line

pub returns-clause-grows : goal.returns-clause-grows
returns-clause-grows c = WorkGrows-trans c.args.history.now c.args.work.now c.rule_line.new.work c.instance.new.work c.rule_line.ensures.grows c.instance.ensures.grows
