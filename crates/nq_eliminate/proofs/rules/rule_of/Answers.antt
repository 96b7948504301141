use Rattle.std.proofs.Common.{◌∙◌, sym}
use Rattle.nq_logic.specs.RuleShapes.{rule_parts}
use Rattle.nq_bank.specs.Content.{term_at}
use Rattle.nq_eliminate.proofs.FindingLemmas.{not_equation}
use Rattle.nq_eliminate.proofs.rules.rule_of.Goals as goal

pub returns-in-Some : goal.returns-in-Some
returns-in-Some c = c.rule_of_sides.ensures (term_at c.args.bank.now c.args.t) (sym c.conclusion_of-conclusion.ensures.is ∙ c.in-Some.ensures.whole)

pub returns-in-None : goal.returns-in-None
returns-in-None c =
    let t = term_at c.args.bank.now c.args.t in
    λ rule m. not_equation (rule_parts t).hypotheses rule (rule_parts t).conclusion (λ p q e. c.in-None.ensures.none p q (c.conclusion_of-conclusion.ensures.is ∙ e)) m
