use Rattle.std.proofs.Common.{◌∙◌, ◌≡◌, true, sym, ap, subst, Option, Some}
use Rattle.std.specs.Prelude.{IfOk, is_some}
use Rattle.nq_bank.specs.Content.{term_at, terms_at, text_at}
use Rattle.nq_clause.specs.Substitution.{substitution_at}
use Rattle.nq_proof.specs.Clauses.{Clause, distinct, literal_at}
use Rattle.nq_proof.specs.Linear.{and_then}
use Rattle.nq_proof.proofs.Tests.{and_left, and_right}
use Rattle.nq_rule.specs.Conclusions.{Concludes, IsDeep}
use Rattle.nq_rule.specs.Places.{part_at}
use Rattle.nq_rule.specs.Results.{weaker_of, instance_of, replacement_of}
use Rattle.nq_rule.specs.Inductions.{cases_at}
use Rattle.nq_rule.specs.Sides.{side_of}
use Rattle.nq_proof.specs.Rules.{is_refuted}
use Rattle.nq_linear_rule.specs.Sums.{summands_at, linear_clause}
use Rattle.nq_steps.proofs.NameLemmas.{no_names, AddsSymbols-refl}
use Rattle.nq_kernel.specs.Lines.{ids_at}
use Rattle.nq_kernel.specs.Meaning.{rule_at, is_axiom_row}
use Rattle.nq_kernel.proofs.Concluding.{told, is_some-mapped, taut_is, axiom_test, axiom_is, event_test, event_is, weaken_test, weaken_is, cut_test, cut_is, instance_test, instance_is, reflexive_is, replace_stands, replace_leads, replace_is, join_test, join_is, split_first_test, split_first_is, split_second_test, split_second_is, not_not_test, not_not_is, value_test, value_is, linear_test, linear_is, induct_is}
use Rattle.nq_kernel.proofs.log.Log.conclude.Goals as goal

pub term_of-requires-clause-entries : goal.term_of-requires-clause-entries
term_of-requires-clause-entries c = c.requires.history.entries

pub clause_of_axiom-requires-clause-axiom : goal.clause_of_axiom-requires-clause-axiom
clause_of_axiom-requires-clause-axiom c =
    axiom_test c.args.bank.now c.args.history.now c.args.self.now c.args.rule.now (text_at c.args.bank.now c.in-AxiomRow.name) c.in-AxiomRow.row c.in-AxiomRow.part (ap (rule_at c.args.bank.now) c.in-AxiomRow.is) ∙
    c.requires.allowed

pub returns-in-AxiomRow-clause-ok : goal.returns-in-AxiomRow-clause-ok
returns-in-AxiomRow-clause-ok c =
    let P : Option Clause → Type 0 = λ o. IfOk c.clause_of_axiom.result (λ v. Concludes c.clause_of_axiom.new.bank v.items o) in
    subst P (sym (axiom_is c.args.bank.now c.args.history.now c.args.self.now c.args.rule.now (text_at c.args.bank.now c.in-AxiomRow.name) c.in-AxiomRow.row c.in-AxiomRow.part (ap (rule_at c.args.bank.now) c.in-AxiomRow.is))) c.clause_of_axiom.ensures.ok

pub returns-in-AxiomRow-clause-deep : goal.returns-in-AxiomRow-clause-deep
returns-in-AxiomRow-clause-deep c =
    λ e. subst IsDeep (sym (axiom_is c.args.bank.now c.args.history.now c.args.self.now c.args.rule.now (text_at c.args.bank.now c.in-AxiomRow.name) c.in-AxiomRow.row c.in-AxiomRow.part (ap (rule_at c.args.bank.now) c.in-AxiomRow.is))) (c.clause_of_axiom.ensures.deep e)

pub unwrap-t-requires : goal.unwrap-t-requires
unwrap-t-requires c = is_some-mapped (term_at c.args.bank.now) c.term_of.result ∙ ap is_some c.term_of.ensures.term ∙ event_test c.args.bank.now c.args.history.now c.args.self.now c.args.rule.now (text_at c.args.bank.now c.in-EventTerm.name) (ap (rule_at c.args.bank.now) c.in-EventTerm.is) ∙ c.requires.allowed

pub clause_over-requires-clause-line : goal.clause_over-requires-clause-line
clause_over-requires-clause-line c = weaken_test c.args.bank.now c.args.history.now c.args.self.now c.args.rule.now c.in-Weaken.line (terms_at c.args.bank.now c.in-Weaken.terms.items) (ap (rule_at c.args.bank.now) c.in-Weaken.is) ∙ c.requires.allowed

pub clause_over-left-requires-clause-line : goal.clause_over-left-requires-clause-line
clause_over-left-requires-clause-line c =
    and_left (is_some (ids_at c.args.self.now c.in-Cut.first)) (is_some (ids_at c.args.self.now c.in-Cut.second)) (cut_test c.args.bank.now c.args.history.now c.args.self.now c.args.rule.now c.in-Cut.first c.in-Cut.second (term_at c.args.bank.now c.in-Cut.t) (ap (rule_at c.args.bank.now) c.in-Cut.is) ∙ c.requires.allowed)

pub clause_over-right-requires-clause-line : goal.clause_over-right-requires-clause-line
clause_over-right-requires-clause-line c =
    and_right (is_some (ids_at c.args.self.now c.in-Cut.first)) (is_some (ids_at c.args.self.now c.in-Cut.second)) (cut_test c.args.bank.now c.args.history.now c.args.self.now c.args.rule.now c.in-Cut.first c.in-Cut.second (term_at c.args.bank.now c.in-Cut.t) (ap (rule_at c.args.bank.now) c.in-Cut.is) ∙ c.requires.allowed)

pub clause_over-clause-requires-clause-line : goal.clause_over-clause-requires-clause-line
clause_over-clause-requires-clause-line c =
    and_left (is_some (ids_at c.args.self.now c.in-Instance.line)) _ (instance_test c.args.bank.now c.args.history.now c.args.self.now c.args.rule.now c.in-Instance.line (substitution_at c.args.bank.now c.in-Instance.pairs.items) (ap (rule_at c.args.bank.now) c.in-Instance.is) ∙ c.requires.allowed)

pub clause_over-clause-requires-in-Replace-clause-line : goal.clause_over-clause-requires-in-Replace-clause-line
clause_over-clause-requires-in-Replace-clause-line c = replace_stands c.args.bank.now c.args.history.now c.args.self.now c.args.rule.now c.in-Replace.line c.in-Replace.place c.in-Replace.path.items (term_at c.args.bank.now c.in-Replace.t) (side_of c.in-Replace.side) (ap (rule_at c.args.bank.now) c.in-Replace.is) c.requires.allowed

pub replace_clause-requires-clause-place : goal.replace_clause-requires-clause-place
replace_clause-requires-clause-place c =
    subst (λ p. is_some (and_then (literal_at c.in-Replace.place (terms_at c.args.bank.now c.clause_over-clause-in-Replace.result.now)) (λ a. part_at p a)) ≡ true) (sym c.as_slice-in-Replace.ensures.value)
    (replace_leads c.args.bank.now c.args.history.now c.args.self.now c.args.rule.now c.in-Replace.line c.in-Replace.place c.in-Replace.path.items (term_at c.args.bank.now c.in-Replace.t) (side_of c.in-Replace.side) c.clause_over-clause-in-Replace.result.now (ap (rule_at c.args.bank.now) c.in-Replace.is) c.requires.allowed c.clause_over-clause-in-Replace.ensures.clause)

pub clause_over-left-requires-in-Join-clause-line : goal.clause_over-left-requires-in-Join-clause-line
clause_over-left-requires-in-Join-clause-line c =
    and_left (is_some (ids_at c.args.self.now c.in-Join.first)) (is_some (ids_at c.args.self.now c.in-Join.second)) (join_test c.args.bank.now c.args.history.now c.args.self.now c.args.rule.now c.in-Join.first c.in-Join.second (term_at c.args.bank.now c.in-Join.parts.test) (term_at c.args.bank.now c.in-Join.parts.first) (term_at c.args.bank.now c.in-Join.parts.second) (ap (rule_at c.args.bank.now) c.in-Join.is) ∙ c.requires.allowed)

pub clause_over-right-requires-in-Join-clause-line : goal.clause_over-right-requires-in-Join-clause-line
clause_over-right-requires-in-Join-clause-line c =
    and_right (is_some (ids_at c.args.self.now c.in-Join.first)) (is_some (ids_at c.args.self.now c.in-Join.second)) (join_test c.args.bank.now c.args.history.now c.args.self.now c.args.rule.now c.in-Join.first c.in-Join.second (term_at c.args.bank.now c.in-Join.parts.test) (term_at c.args.bank.now c.in-Join.parts.first) (term_at c.args.bank.now c.in-Join.parts.second) (ap (rule_at c.args.bank.now) c.in-Join.is) ∙ c.requires.allowed)

pub split_first-requires-clause-branches : goal.split_first-requires-clause-branches
split_first-requires-clause-branches c = split_first_test c.args.bank.now c.args.history.now c.args.self.now c.args.rule.now c.in-SplitFirst.line c.in-SplitFirst.place (ap (rule_at c.args.bank.now) c.in-SplitFirst.is) ∙ c.requires.allowed

pub split_second-requires-clause-branches : goal.split_second-requires-clause-branches
split_second-requires-clause-branches c = split_second_test c.args.bank.now c.args.history.now c.args.self.now c.args.rule.now c.in-SplitSecond.line c.in-SplitSecond.place (ap (rule_at c.args.bank.now) c.in-SplitSecond.is) ∙ c.requires.allowed

pub without_nots-requires-clause-nots : goal.without_nots-requires-clause-nots
without_nots-requires-clause-nots c = not_not_test c.args.bank.now c.args.history.now c.args.self.now c.args.rule.now c.in-NotNot.line c.in-NotNot.place (ap (rule_at c.args.bank.now) c.in-NotNot.is) ∙ c.requires.allowed

pub value_clause-requires-clause-value : goal.value_clause-requires-clause-value
value_clause-requires-clause-value c = value_test c.args.bank.now c.args.history.now c.args.self.now c.args.rule.now (term_at c.args.bank.now c.in-Value.t) (ap (rule_at c.args.bank.now) c.in-Value.is) ∙ c.requires.allowed

pub linear_clause-requires-clause-refuted : goal.linear_clause-requires-clause-refuted
linear_clause-requires-clause-refuted c =
    ap (λ ss. is_refuted (summands_at c.args.bank.now ss)) c.as_slice-in-Linear.ensures.value ∙
    linear_test c.args.bank.now c.args.history.now c.args.self.now c.args.rule.now (summands_at c.args.bank.now c.in-Linear.summands.items) (ap (rule_at c.args.bank.now) c.in-Linear.is) ∙ c.requires.allowed

pub returns-in-Taut-clause-ok : goal.returns-in-Taut-clause-ok
returns-in-Taut-clause-ok c =
    let P : Option Clause → Type 0 = λ o. IfOk c.clause_of.result (λ v. Concludes c.args.bank.now v.items o) in
    subst P (ap (λ xs. Some (distinct (terms_at c.args.bank.now xs))) c.as_slice.ensures.value ∙ sym (taut_is c.args.bank.now c.args.history.now c.args.self.now c.args.rule.now (terms_at c.args.bank.now c.in-Taut.terms.items) (ap (rule_at c.args.bank.now) c.in-Taut.is) c.requires.allowed)) c.clause_of.ensures.ok

pub returns-in-EventTerm-clause-ok : goal.returns-in-EventTerm-clause-ok
returns-in-EventTerm-clause-ok c =
    let P : Option Clause → Type 0 = λ o. IfOk c.clause_of_one.result (λ v. Concludes c.args.bank.now v.items o) in
    subst P (sym (event_is c.args.bank.now c.args.history.now c.args.self.now c.args.rule.now (text_at c.args.bank.now c.in-EventTerm.name) (term_at c.args.bank.now c.unwrap-t.result) (ap (rule_at c.args.bank.now) c.in-EventTerm.is) (told (term_at c.args.bank.now) c.term_of.result c.unwrap-t.result _ c.term_of.ensures.term c.unwrap-t.ensures))) c.clause_of_one.ensures.ok

pub returns-in-Weaken-clause-ok : goal.returns-in-Weaken-clause-ok
returns-in-Weaken-clause-ok c =
    let P : Option Clause → Type 0 = λ o. IfOk c.weaker_clause.result (λ v. Concludes c.args.bank.now v.items o) in
    subst P (ap (λ xs. Some (weaker_of (terms_at c.args.bank.now xs) (terms_at c.args.bank.now c.clause_over.result.now))) c.as_slice-in-Weaken.ensures.value ∙ sym (weaken_is c.args.bank.now c.args.history.now c.args.self.now c.args.rule.now c.in-Weaken.line (terms_at c.args.bank.now c.in-Weaken.terms.items) c.clause_over.result.now (ap (rule_at c.args.bank.now) c.in-Weaken.is) c.clause_over.ensures.clause)) c.weaker_clause.ensures.ok

pub returns-in-Cut-clause-ok : goal.returns-in-Cut-clause-ok
returns-in-Cut-clause-ok c =
    let P : Option Clause → Type 0 = λ o. IfOk c.cut_clause.result (λ v. Concludes c.args.bank.now v.items o) in
    subst P (sym (cut_is c.args.bank.now c.args.history.now c.args.self.now c.args.rule.now c.in-Cut.first c.in-Cut.second (term_at c.args.bank.now c.in-Cut.t) c.clause_over-left.result.now c.clause_over-right.result.now (ap (rule_at c.args.bank.now) c.in-Cut.is) c.clause_over-left.ensures.clause c.clause_over-right.ensures.clause)) c.cut_clause.ensures.ok

pub returns-in-Instance-clause-ok : goal.returns-in-Instance-clause-ok
returns-in-Instance-clause-ok c =
    let P : Option Clause → Type 0 = λ o. IfOk c.instance_clause.result (λ v. Concludes c.instance_clause.new.bank v.items o) in
    subst P (ap (λ ps. Some (instance_of (substitution_at c.args.bank.now ps) (terms_at c.args.bank.now c.clause_over-clause.result.now))) c.as_slice-in-Instance.ensures.value ∙ sym (instance_is c.args.bank.now c.args.history.now c.args.self.now c.args.rule.now c.in-Instance.line (substitution_at c.args.bank.now c.in-Instance.pairs.items) c.clause_over-clause.result.now (ap (rule_at c.args.bank.now) c.in-Instance.is) c.requires.allowed c.clause_over-clause.ensures.clause)) c.instance_clause.ensures.ok

pub returns-in-Instance-clause-deep : goal.returns-in-Instance-clause-deep
returns-in-Instance-clause-deep c = λ e. subst IsDeep (ap (λ ps. Some (instance_of (substitution_at c.args.bank.now ps) (terms_at c.args.bank.now c.clause_over-clause.result.now))) c.as_slice-in-Instance.ensures.value ∙ sym (instance_is c.args.bank.now c.args.history.now c.args.self.now c.args.rule.now c.in-Instance.line (substitution_at c.args.bank.now c.in-Instance.pairs.items) c.clause_over-clause.result.now (ap (rule_at c.args.bank.now) c.in-Instance.is) c.requires.allowed c.clause_over-clause.ensures.clause)) (c.instance_clause.ensures.deep e)

pub returns-in-Reflexive-clause-ok : goal.returns-in-Reflexive-clause-ok
returns-in-Reflexive-clause-ok c =
    let P : Option Clause → Type 0 = λ o. IfOk c.reflexive_clause.result (λ v. Concludes c.reflexive_clause.new.bank v.items o) in
    subst P (sym (reflexive_is c.args.bank.now c.args.history.now c.args.self.now c.args.rule.now (term_at c.args.bank.now c.in-Reflexive.t) (ap (rule_at c.args.bank.now) c.in-Reflexive.is))) c.reflexive_clause.ensures.ok

pub returns-in-Reflexive-clause-deep : goal.returns-in-Reflexive-clause-deep
returns-in-Reflexive-clause-deep c = λ e. subst IsDeep (sym (reflexive_is c.args.bank.now c.args.history.now c.args.self.now c.args.rule.now (term_at c.args.bank.now c.in-Reflexive.t) (ap (rule_at c.args.bank.now) c.in-Reflexive.is))) (c.reflexive_clause.ensures.deep e)

pub returns-in-Replace-clause-ok : goal.returns-in-Replace-clause-ok
returns-in-Replace-clause-ok c =
    let P : Option Clause → Type 0 = λ o. IfOk c.replace_clause.result (λ v. Concludes c.replace_clause.new.bank v.items o) in
    subst P (ap (λ p. replacement_of c.in-Replace.place p (term_at c.args.bank.now c.in-Replace.t) (side_of c.in-Replace.side) (terms_at c.args.bank.now c.clause_over-clause-in-Replace.result.now)) c.as_slice-in-Replace.ensures.value ∙ sym (replace_is c.args.bank.now c.args.history.now c.args.self.now c.args.rule.now c.in-Replace.line c.in-Replace.place c.in-Replace.path.items (term_at c.args.bank.now c.in-Replace.t) (side_of c.in-Replace.side) c.clause_over-clause-in-Replace.result.now (ap (rule_at c.args.bank.now) c.in-Replace.is) c.clause_over-clause-in-Replace.ensures.clause)) c.replace_clause.ensures.ok

pub returns-in-Replace-clause-deep : goal.returns-in-Replace-clause-deep
returns-in-Replace-clause-deep c = λ e. subst IsDeep (ap (λ p. replacement_of c.in-Replace.place p (term_at c.args.bank.now c.in-Replace.t) (side_of c.in-Replace.side) (terms_at c.args.bank.now c.clause_over-clause-in-Replace.result.now)) c.as_slice-in-Replace.ensures.value ∙ sym (replace_is c.args.bank.now c.args.history.now c.args.self.now c.args.rule.now c.in-Replace.line c.in-Replace.place c.in-Replace.path.items (term_at c.args.bank.now c.in-Replace.t) (side_of c.in-Replace.side) c.clause_over-clause-in-Replace.result.now (ap (rule_at c.args.bank.now) c.in-Replace.is) c.clause_over-clause-in-Replace.ensures.clause)) (c.replace_clause.ensures.deep e)

pub returns-in-Join-clause-ok : goal.returns-in-Join-clause-ok
returns-in-Join-clause-ok c =
    let P : Option Clause → Type 0 = λ o. IfOk c.join_clause.result (λ v. Concludes c.join_clause.new.bank v.items o) in
    subst P (sym (join_is c.args.bank.now c.args.history.now c.args.self.now c.args.rule.now c.in-Join.first c.in-Join.second (term_at c.args.bank.now c.in-Join.parts.test) (term_at c.args.bank.now c.in-Join.parts.first) (term_at c.args.bank.now c.in-Join.parts.second) c.clause_over-left-in-Join.result.now c.clause_over-right-in-Join.result.now (ap (rule_at c.args.bank.now) c.in-Join.is) c.clause_over-left-in-Join.ensures.clause c.clause_over-right-in-Join.ensures.clause)) c.join_clause.ensures.ok

pub returns-in-Join-clause-deep : goal.returns-in-Join-clause-deep
returns-in-Join-clause-deep c = λ e. subst IsDeep (sym (join_is c.args.bank.now c.args.history.now c.args.self.now c.args.rule.now c.in-Join.first c.in-Join.second (term_at c.args.bank.now c.in-Join.parts.test) (term_at c.args.bank.now c.in-Join.parts.first) (term_at c.args.bank.now c.in-Join.parts.second) c.clause_over-left-in-Join.result.now c.clause_over-right-in-Join.result.now (ap (rule_at c.args.bank.now) c.in-Join.is) c.clause_over-left-in-Join.ensures.clause c.clause_over-right-in-Join.ensures.clause)) (c.join_clause.ensures.deep e)

pub returns-in-SplitFirst-clause-ok : goal.returns-in-SplitFirst-clause-ok
returns-in-SplitFirst-clause-ok c =
    let P : Option Clause → Type 0 = λ o. IfOk c.split_first.result (λ v. Concludes c.split_first.new.bank v.items o) in
    subst P (sym (split_first_is c.args.bank.now c.args.history.now c.args.self.now c.args.rule.now c.in-SplitFirst.line c.in-SplitFirst.place (ap (rule_at c.args.bank.now) c.in-SplitFirst.is))) c.split_first.ensures.ok

pub returns-in-SplitFirst-clause-deep : goal.returns-in-SplitFirst-clause-deep
returns-in-SplitFirst-clause-deep c =
    λ e. subst IsDeep (sym (split_first_is c.args.bank.now c.args.history.now c.args.self.now c.args.rule.now c.in-SplitFirst.line c.in-SplitFirst.place (ap (rule_at c.args.bank.now) c.in-SplitFirst.is))) (c.split_first.ensures.deep e)

pub returns-in-SplitSecond-clause-ok : goal.returns-in-SplitSecond-clause-ok
returns-in-SplitSecond-clause-ok c =
    let P : Option Clause → Type 0 = λ o. IfOk c.split_second.result (λ v. Concludes c.args.bank.now v.items o) in
    subst P (sym (split_second_is c.args.bank.now c.args.history.now c.args.self.now c.args.rule.now c.in-SplitSecond.line c.in-SplitSecond.place (ap (rule_at c.args.bank.now) c.in-SplitSecond.is))) c.split_second.ensures.ok

pub returns-in-NotNot-clause-ok : goal.returns-in-NotNot-clause-ok
returns-in-NotNot-clause-ok c =
    let P : Option Clause → Type 0 = λ o. IfOk c.without_nots.result (λ v. Concludes c.args.bank.now v.items o) in
    subst P (sym (not_not_is c.args.bank.now c.args.history.now c.args.self.now c.args.rule.now c.in-NotNot.line c.in-NotNot.place (ap (rule_at c.args.bank.now) c.in-NotNot.is))) c.without_nots.ensures.ok

pub returns-in-Value-clause-ok : goal.returns-in-Value-clause-ok
returns-in-Value-clause-ok c =
    let P : Option Clause → Type 0 = λ o. IfOk c.value_clause.result (λ v. Concludes c.value_clause.new.bank v.items o) in
    subst P (sym (value_is c.args.bank.now c.args.history.now c.args.self.now c.args.rule.now (term_at c.args.bank.now c.in-Value.t) (ap (rule_at c.args.bank.now) c.in-Value.is))) c.value_clause.ensures.ok

pub returns-in-Value-clause-deep : goal.returns-in-Value-clause-deep
returns-in-Value-clause-deep c = λ e. subst IsDeep (sym (value_is c.args.bank.now c.args.history.now c.args.self.now c.args.rule.now (term_at c.args.bank.now c.in-Value.t) (ap (rule_at c.args.bank.now) c.in-Value.is))) (c.value_clause.ensures.deep e)

pub returns-in-Linear-clause-ok : goal.returns-in-Linear-clause-ok
returns-in-Linear-clause-ok c =
    let P : Option Clause → Type 0 = λ o. IfOk c.linear_clause.result (λ v. Concludes c.args.bank.now v.items o) in
    subst P (ap (λ ss. linear_clause (summands_at c.args.bank.now ss)) c.as_slice-in-Linear.ensures.value ∙ sym (linear_is c.args.bank.now c.args.history.now c.args.self.now c.args.rule.now (summands_at c.args.bank.now c.in-Linear.summands.items) (ap (rule_at c.args.bank.now) c.in-Linear.is))) c.linear_clause.ensures.ok

pub returns-in-Induct-clause-ok : goal.returns-in-Induct-clause-ok
returns-in-Induct-clause-ok c =
    let P : Option Clause → Type 0 = λ o. IfOk c.clause_of_one-in-Induct.result (λ v. Concludes c.args.bank.now v.items o) in
    subst P (sym (induct_is c.args.bank.now c.args.history.now c.args.self.now c.args.rule.now (term_at c.args.bank.now c.in-Induct.claim) (term_at c.args.bank.now c.in-Induct.field-1) c.in-Induct.field-2 c.in-Induct.field-3 (cases_at c.args.bank.now c.in-Induct.field-4.items) (ap (rule_at c.args.bank.now) c.in-Induct.is) c.requires.allowed)) c.clause_of_one-in-Induct.ensures.ok

pub returns-in-AxiomRow-clause-names : goal.returns-in-AxiomRow-clause-names
returns-in-AxiomRow-clause-names c =
    λ e.
    let row : is_axiom_row c.args.rule.now ≡ true = ap is_axiom_row c.in-AxiomRow.is in
    absurd cc

pub returns-in-Taut-clause-symbols : goal.returns-in-Taut-clause-symbols
returns-in-Taut-clause-symbols c = AddsSymbols-refl c.args.bank.now

pub returns-in-EventTerm-clause-symbols : goal.returns-in-EventTerm-clause-symbols
returns-in-EventTerm-clause-symbols c = AddsSymbols-refl c.args.bank.now

pub returns-in-Weaken-clause-symbols : goal.returns-in-Weaken-clause-symbols
returns-in-Weaken-clause-symbols c = AddsSymbols-refl c.args.bank.now

pub returns-in-Cut-clause-symbols : goal.returns-in-Cut-clause-symbols
returns-in-Cut-clause-symbols c = AddsSymbols-refl c.args.bank.now

pub returns-in-Instance-clause-symbols : goal.returns-in-Instance-clause-symbols
returns-in-Instance-clause-symbols c = no_names c.args.bank.now c.instance_clause.new.bank c.instance_clause.ensures.names

pub returns-in-Reflexive-clause-symbols : goal.returns-in-Reflexive-clause-symbols
returns-in-Reflexive-clause-symbols c = no_names c.args.bank.now c.reflexive_clause.new.bank c.reflexive_clause.ensures.names

pub returns-in-Replace-clause-symbols : goal.returns-in-Replace-clause-symbols
returns-in-Replace-clause-symbols c = no_names c.args.bank.now c.replace_clause.new.bank c.replace_clause.ensures.names

pub returns-in-Join-clause-symbols : goal.returns-in-Join-clause-symbols
returns-in-Join-clause-symbols c = no_names c.args.bank.now c.join_clause.new.bank c.join_clause.ensures.names

pub returns-in-SplitFirst-clause-symbols : goal.returns-in-SplitFirst-clause-symbols
returns-in-SplitFirst-clause-symbols c = no_names c.args.bank.now c.split_first.new.bank c.split_first.ensures.names

pub returns-in-SplitSecond-clause-symbols : goal.returns-in-SplitSecond-clause-symbols
returns-in-SplitSecond-clause-symbols c = AddsSymbols-refl c.args.bank.now

pub returns-in-NotNot-clause-symbols : goal.returns-in-NotNot-clause-symbols
returns-in-NotNot-clause-symbols c = AddsSymbols-refl c.args.bank.now

pub returns-in-Value-clause-symbols : goal.returns-in-Value-clause-symbols
returns-in-Value-clause-symbols c = no_names c.args.bank.now c.value_clause.new.bank c.value_clause.ensures.names

pub returns-in-Linear-clause-symbols : goal.returns-in-Linear-clause-symbols
returns-in-Linear-clause-symbols c = AddsSymbols-refl c.args.bank.now

pub returns-in-Induct-clause-symbols : goal.returns-in-Induct-clause-symbols
returns-in-Induct-clause-symbols c = AddsSymbols-refl c.args.bank.now
