use Rattle.std.proofs.Common.{sym, ap, ◌∙◌, subst}
use Rattle.nq_bank.specs.Content.{term_at, terms_at}
use Rattle.nq_clause.specs.Substitution.{substitution_at}
use Rattle.nq_proof.specs.Rules as tree
use Rattle.nq_rule.specs.Inductions.{cases_at}
use Rattle.nq_rule.specs.Sides.{side_of}
use Rattle.nq_linear_rule.specs.Sums.{summands_at}
use Rattle.nq_kernel.specs.Meaning.{rule_at}
use Rattle.nq_block.specs.Writing.{WritesRule}
use Rattle.nq_block.proofs.writer.Writer.rule.Goals as goal

pub returns-in-Taut-clause-rule : goal.returns-in-Taut-clause-rule
returns-in-Taut-clause-rule c =
    subst (WritesRule c.args.bank.now c.args.self.now c.tautology.result c.tautology.new.self) (ap (λ ids. tree.Taut (terms_at c.args.bank.now ids)) c.as_slice.ensures.value ∙ sym (ap (rule_at c.args.bank.now) c.in-Taut.is)) c.tautology.ensures.rule

pub returns-in-Weaken-clause-rule : goal.returns-in-Weaken-clause-rule
returns-in-Weaken-clause-rule c =
    subst (WritesRule c.args.bank.now c.args.self.now c.weakened.result c.weakened.new.self)
    (ap (λ ids. tree.Weaken c.in-Weaken.line (terms_at c.args.bank.now ids)) c.as_slice-in-Weaken.ensures.value ∙ sym (ap (rule_at c.args.bank.now) c.in-Weaken.is)) c.weakened.ensures.rule

pub returns-in-Instance-clause-rule : goal.returns-in-Instance-clause-rule
returns-in-Instance-clause-rule c =
    subst (WritesRule c.args.bank.now c.args.self.now c.instance.result c.instance.new.self)
    (ap (λ pairs. tree.Instance c.in-Instance.line (substitution_at c.args.bank.now pairs)) c.as_slice-in-Instance.ensures.value ∙ sym (ap (rule_at c.args.bank.now) c.in-Instance.is)) c.instance.ensures.rule

pub returns-in-Replace-clause-rule : goal.returns-in-Replace-clause-rule
returns-in-Replace-clause-rule c =
    subst (WritesRule c.args.bank.now c.args.self.now c.replaced.result c.replaced.new.self)
    (ap (λ path. tree.Replace c.in-Replace.line c.in-Replace.literal path (term_at c.args.bank.now c.in-Replace.t) (side_of c.in-Replace.side)) c.as_slice-in-Replace.ensures.value ∙ sym (ap (rule_at c.args.bank.now) c.in-Replace.is)) c.replaced.ensures.rule

pub returns-in-Linear-clause-rule : goal.returns-in-Linear-clause-rule
returns-in-Linear-clause-rule c =
    subst (WritesRule c.args.bank.now c.args.self.now c.summed.result c.summed.new.self)
    (ap (λ summands. tree.Linear (summands_at c.args.bank.now summands)) c.as_slice-in-Linear.ensures.value ∙ sym (ap (rule_at c.args.bank.now) c.in-Linear.is)) c.summed.ensures.rule

pub returns-in-Induct-clause-rule : goal.returns-in-Induct-clause-rule
returns-in-Induct-clause-rule c =
    subst (WritesRule c.args.bank.now c.args.self.now c.induction.result c.induction.new.self)
    (ap (λ cases. tree.Induct (term_at c.args.bank.now c.in-Induct.claim) (term_at c.args.bank.now c.in-Induct.measure) c.in-Induct.ordinal c.in-Induct.base (cases_at c.args.bank.now cases)) c.as_slice-in-Induct.ensures.value
    ∙ sym (ap (rule_at c.args.bank.now) c.in-Induct.is)) c.induction.ensures.rule

pub returns-in-SplitFirst-clause-rule : goal.returns-in-SplitFirst-clause-rule
returns-in-SplitFirst-clause-rule c = subst (WritesRule c.args.bank.now c.args.self.now c.first_split.result c.first_split.new.self) (sym (ap (rule_at c.args.bank.now) c.in-SplitFirst.is)) (c.first_split.ensures.rule c.args.bank.now)

pub returns-in-SplitSecond-clause-rule : goal.returns-in-SplitSecond-clause-rule
returns-in-SplitSecond-clause-rule c = subst (WritesRule c.args.bank.now c.args.self.now c.second_split.result c.second_split.new.self) (sym (ap (rule_at c.args.bank.now) c.in-SplitSecond.is)) (c.second_split.ensures.rule c.args.bank.now)

pub returns-in-NotNot-clause-rule : goal.returns-in-NotNot-clause-rule
returns-in-NotNot-clause-rule c = subst (WritesRule c.args.bank.now c.args.self.now c.without_nots.result c.without_nots.new.self) (sym (ap (rule_at c.args.bank.now) c.in-NotNot.is)) (c.without_nots.ensures.rule c.args.bank.now)

pub returns-in-Value-clause-rule : goal.returns-in-Value-clause-rule
returns-in-Value-clause-rule c = subst (WritesRule c.args.bank.now c.args.self.now c.valued.result c.valued.new.self) (sym (ap (rule_at c.args.bank.now) c.in-Value.is)) c.valued.ensures.rule

pub returns-in-AxiomRow-clause-rule : goal.returns-in-AxiomRow-clause-rule
returns-in-AxiomRow-clause-rule c = subst (WritesRule c.args.bank.now c.args.self.now c.axiom.result c.axiom.new.self) (sym (ap (rule_at c.args.bank.now) c.in-AxiomRow.is)) c.axiom.ensures.rule

pub returns-in-EventTerm-clause-rule : goal.returns-in-EventTerm-clause-rule
returns-in-EventTerm-clause-rule c = subst (WritesRule c.args.bank.now c.args.self.now c.event.result c.event.new.self) (sym (ap (rule_at c.args.bank.now) c.in-EventTerm.is)) c.event.ensures.rule

pub returns-in-Cut-clause-rule : goal.returns-in-Cut-clause-rule
returns-in-Cut-clause-rule c = subst (WritesRule c.args.bank.now c.args.self.now c.cut.result c.cut.new.self) (sym (ap (rule_at c.args.bank.now) c.in-Cut.is)) c.cut.ensures.rule

pub returns-in-Reflexive-clause-rule : goal.returns-in-Reflexive-clause-rule
returns-in-Reflexive-clause-rule c = subst (WritesRule c.args.bank.now c.args.self.now c.reflexive.result c.reflexive.new.self) (sym (ap (rule_at c.args.bank.now) c.in-Reflexive.is)) c.reflexive.ensures.rule

pub returns-in-Join-clause-rule : goal.returns-in-Join-clause-rule
returns-in-Join-clause-rule c = subst (WritesRule c.args.bank.now c.args.self.now c.joined.result c.joined.new.self) (sym (ap (rule_at c.args.bank.now) c.in-Join.is)) c.joined.ensures.rule
