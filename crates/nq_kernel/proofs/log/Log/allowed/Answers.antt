use Rattle.std.proofs.Common.{◌∙◌, ◌&&◌, ap}
use Rattle.std.specs.Prelude.{is_some}
use Rattle.nq_bank.specs.Content.{term_at, terms_at, text_at}
use Rattle.nq_clause.specs.Substitution.{substitution_at}
use Rattle.nq_proof.specs.Clauses.{has_opposite, literal_at}
use Rattle.nq_proof.specs.Linear.{and_then}
use Rattle.nq_proof.specs.Rules.{is_substitution}
use Rattle.nq_rule.specs.Branches.{branches_at}
use Rattle.nq_rule.specs.Places.{part_at}
use Rattle.nq_rule.specs.Inductions.{cases_at}
use Rattle.nq_rule.specs.Sides.{side_of}
use Rattle.nq_proof.specs.Rules.{is_refuted}
use Rattle.nq_linear_rule.specs.Sums.{summands_at}
use Rattle.nq_kernel.specs.Lines.{ids_at}
use Rattle.nq_kernel.specs.Meaning.{rule_at, clause_at}
use Rattle.nq_kernel.proofs.Concluding.{is_some-mapped, taut_test, axiom_test, event_test, weaken_test, cut_test, instance_test, reflexive_test, replace_test, join_test, split_first_test, split_second_test, not_not_test, value_test, linear_test, induct_test, induction_shown}
use Rattle.nq_kernel.proofs.log.Log.allowed.Goals as goal

pub returns-in-Taut : goal.returns-in-Taut
returns-in-Taut c =
    c.contains_opposite-allowed.ensures ∙ ap (λ xs. has_opposite (terms_at c.args.bank.now xs) (terms_at c.args.bank.now c.as_slice-in-Taut.result.now)) c.as_slice.ensures.value ∙
    ap (λ xs. has_opposite (terms_at c.args.bank.now c.in-Taut.terms.items) (terms_at c.args.bank.now xs)) c.as_slice-in-Taut.ensures.value ∙
    taut_test c.args.bank.now c.args.history.now c.args.self.now c.args.rule.now (terms_at c.args.bank.now c.in-Taut.terms.items) (ap (rule_at c.args.bank.now) c.in-Taut.is)

pub returns-in_ok-allowed-in-AxiomRow : goal.returns-in_ok-allowed-in-AxiomRow
returns-in_ok-allowed-in-AxiomRow c =
    c.in_ok-allowed-in-AxiomRow.ensures ∙
    axiom_test c.args.bank.now c.args.history.now c.args.self.now c.args.rule.now (text_at c.args.bank.now c.in-AxiomRow.name) c.in-AxiomRow.row c.in-AxiomRow.part (ap (rule_at c.args.bank.now) c.in-AxiomRow.is)

pub term_of-requires-clause-entries : goal.term_of-requires-clause-entries
term_of-requires-clause-entries c = c.requires.history.entries

pub returns-in-EventTerm : goal.returns-in-EventTerm
returns-in-EventTerm c =
    c.is_some-allowed.ensures ∙ is_some-mapped (term_at c.args.bank.now) c.term_of.result ∙ ap is_some c.term_of.ensures.term ∙ event_test c.args.bank.now c.args.history.now c.args.self.now c.args.rule.now (text_at c.args.bank.now c.in-EventTerm.name) (ap (rule_at c.args.bank.now) c.in-EventTerm.is)

pub returns-in-Weaken : goal.returns-in-Weaken
returns-in-Weaken c = c.stands-allowed.ensures ∙ weaken_test c.args.bank.now c.args.history.now c.args.self.now c.args.rule.now c.in-Weaken.line _ (ap (rule_at c.args.bank.now) c.in-Weaken.is)

pub returns-in-Cut : goal.returns-in-Cut
returns-in-Cut c = c.both_stand-allowed.ensures ∙ cut_test c.args.bank.now c.args.history.now c.args.self.now c.args.rule.now c.in-Cut.first c.in-Cut.second (term_at c.args.bank.now c.in-Cut.field-2) (ap (rule_at c.args.bank.now) c.in-Cut.is)

pub returns-in-Instance : goal.returns-in-Instance
returns-in-Instance c =
    c.is_instance-allowed.ensures ∙ ap (λ ps. is_some (ids_at c.args.self.now c.in-Instance.line) && is_substitution (substitution_at c.args.bank.now ps)) c.as_slice-in-Instance.ensures.value ∙
    instance_test c.args.bank.now c.args.history.now c.args.self.now c.args.rule.now c.in-Instance.line (substitution_at c.args.bank.now c.in-Instance.pairs.items) (ap (rule_at c.args.bank.now) c.in-Instance.is)

pub returns-in-Reflexive : goal.returns-in-Reflexive
returns-in-Reflexive c = reflexive_test c.args.bank.now c.args.history.now c.args.self.now c.args.rule.now (term_at c.args.bank.now c.in-Reflexive.field-0) (ap (rule_at c.args.bank.now) c.in-Reflexive.is)

pub returns-in-Replace : goal.returns-in-Replace
returns-in-Replace c =
    c.can_replace-allowed.ensures ∙ ap (λ p. is_some (and_then (clause_at c.args.bank.now c.args.self.now c.in-Replace.line) (λ d. and_then (literal_at c.in-Replace.place d) (λ a. part_at p a)))) c.as_slice-in-Replace.ensures.value ∙
    replace_test c.args.bank.now c.args.history.now c.args.self.now c.args.rule.now c.in-Replace.line c.in-Replace.place c.in-Replace.path.items (term_at c.args.bank.now c.in-Replace.field-3) (side_of c.in-Replace.field-4) (ap (rule_at c.args.bank.now) c.in-Replace.is)

pub returns-in-Join : goal.returns-in-Join
returns-in-Join c =
    c.both_stand-allowed-in-Join.ensures ∙
    join_test c.args.bank.now c.args.history.now c.args.self.now c.args.rule.now c.in-Join.first c.in-Join.second (term_at c.args.bank.now c.in-Join.field-2.test) (term_at c.args.bank.now c.in-Join.field-2.first) (term_at c.args.bank.now c.in-Join.field-2.second) (ap (rule_at c.args.bank.now) c.in-Join.is)

pub returns-in-SplitFirst : goal.returns-in-SplitFirst
returns-in-SplitFirst c =
    c.is_some-allowed-in-SplitFirst.ensures ∙ is_some-mapped (branches_at c.args.bank.now) c.branches_of.result ∙ ap is_some c.branches_of.ensures.parts ∙
    split_first_test c.args.bank.now c.args.history.now c.args.self.now c.args.rule.now c.in-SplitFirst.line c.in-SplitFirst.place (ap (rule_at c.args.bank.now) c.in-SplitFirst.is)

pub returns-in-SplitSecond : goal.returns-in-SplitSecond
returns-in-SplitSecond c =
    c.is_some-allowed-in-SplitSecond.ensures ∙ is_some-mapped (branches_at c.args.bank.now) c.branches_of-in-SplitSecond.result ∙ ap is_some c.branches_of-in-SplitSecond.ensures.parts ∙
    split_second_test c.args.bank.now c.args.history.now c.args.self.now c.args.rule.now c.in-SplitSecond.line c.in-SplitSecond.place (ap (rule_at c.args.bank.now) c.in-SplitSecond.is)

pub returns-in-NotNot : goal.returns-in-NotNot
returns-in-NotNot c =
    c.is_some-allowed-in-NotNot.ensures ∙ is_some-mapped (term_at c.args.bank.now) c.under_literal.result ∙ ap is_some c.under_literal.ensures.term ∙
    not_not_test c.args.bank.now c.args.history.now c.args.self.now c.args.rule.now c.in-NotNot.line c.in-NotNot.place (ap (rule_at c.args.bank.now) c.in-NotNot.is)

pub returns-in-Value : goal.returns-in-Value
returns-in-Value c = c.has_value-allowed.ensures ∙ value_test c.args.bank.now c.args.history.now c.args.self.now c.args.rule.now (term_at c.args.bank.now c.in-Value.t) (ap (rule_at c.args.bank.now) c.in-Value.is)

pub returns-in_ok-allowed-in-Linear : goal.returns-in_ok-allowed-in-Linear
returns-in_ok-allowed-in-Linear c =
    c.in_ok-allowed-in-Linear.ensures ∙ ap (λ ss. is_refuted (summands_at c.args.bank.now ss)) c.as_slice-in-Linear.ensures.value ∙
    linear_test c.args.bank.now c.args.history.now c.args.self.now c.args.rule.now (summands_at c.args.bank.now c.in-Linear.summands.items) (ap (rule_at c.args.bank.now) c.in-Linear.is)

pub returns-in_ok-allowed-in-Induct : goal.returns-in_ok-allowed-in-Induct
returns-in_ok-allowed-in-Induct c =
    c.in_ok-allowed-in-Induct.ensures ∙
    ap (λ cs. induction_shown c.args.bank.now c.args.history.now c.args.self.now c.args.rule.now (term_at c.args.bank.now c.in-Induct.claim) (term_at c.args.bank.now c.in-Induct.measure) c.in-Induct.ordinal c.in-Induct.base (cases_at c.args.bank.now cs)) c.as_slice-in-Induct.ensures.value ∙
    induct_test c.args.bank.now c.args.history.now c.args.self.now c.args.rule.now (term_at c.args.bank.now c.in-Induct.claim) (term_at c.args.bank.now c.in-Induct.measure) c.in-Induct.ordinal c.in-Induct.base (cases_at c.args.bank.now c.in-Induct.cases.items) (ap (rule_at c.args.bank.now) c.in-Induct.is)
