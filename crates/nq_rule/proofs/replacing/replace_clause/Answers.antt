use Rattle.std.proofs.Common.{◌<◌, ◌++◌, [], ◌∷◌, ap, sym, ◌∙◌, subst, inl, refl, List, Option}
use Rattle.std.specs.Prelude.{Err, IfOk, IsSome, is_some}
use Rattle.nq_logic.specs.Terms.{Term}
use Rattle.nq_logic.proofs.Lists.{among_left, among_right}
use Rattle.nq_bank.specs.declared.node.BankFault.TheVariants.{Deep}
use Rattle.nq_bank.specs.Content.{Content, Stands, term_at, terms_at}
use Rattle.nq_logic.specs.Sizes.{depth_of, depth_limit}
use Rattle.nq_bank.proofs.Growth.{Grows-trans, term_at-grown, terms_at-grown}
use Rattle.nq_bank.proofs.Standing.{passed_on}
use Rattle.nq_proof.specs.Clauses.{Clause, distinct, literal_at, in_place}
use Rattle.nq_proof.specs.Rules.{used_equation}
use Rattle.nq_rule.specs.Conclusions.{Concludes}
use Rattle.nq_rule.specs.Places.{part_at}
use Rattle.nq_rule.specs.Results.{with_part}
use Rattle.nq_rule.specs.Sides.{side_of}
use Rattle.nq_rule.proofs.Made.{made}
use Rattle.nq_rule.proofs.PlacingLemmas.{among_placed}
use Rattle.nq_rule.proofs.ReplacingLemmas.{literal_told, deep_replacement, replacement_is, replaced_same, some_of}
use Rattle.nq_rule.proofs.replacing.replace_clause.Goals as goal

pub returns-in_err-changed-clause-deep : goal.returns-in_err-changed-clause-deep
returns-in_err-changed-clause-deep c =
    λ e.
    let old : Content = c.args.bank.now in
    let terms : List Term = terms_at old c.args.terms.now in
    let t : Term = term_at old c.args.t in
    let a : Term = term_at old c.unwrap-a.result in
    let u : Term = term_at old c.unwrap-was.result in
    let at = literal_told old c.literal.result c.unwrap-a.result (literal_at c.args.place terms) c.literal.ensures.literal c.unwrap-a.ensures in
    let leads = literal_told old c.at_path.result c.unwrap-was.result (part_at c.args.path.now a) c.at_path.ensures.part c.unwrap-was.ensures in
    let changed : Term = with_part c.args.path.now t a in
    let came = passed_on c.from_residual.result c.in_err-changed.field-0.0 Deep c.from_residual.ensures.1 e in
    deep_replacement c.args.place c.args.path.now t (side_of c.args.side) terms a u changed at leads
    (among_left changed (in_place c.args.place (changed ∷ []) terms) (used_equation (side_of c.args.side) u t ∷ []) (among_placed c.args.place (changed ∷ []) terms changed (ap is_some at) (inl refl)))
    (c.with_part_at.ensures.deep (c.in_err-changed.was ∙ ap Err came))

pub returns-in_err-equation-clause-deep : goal.returns-in_err-equation-clause-deep
returns-in_err-equation-clause-deep c =
    λ e.
    let old : Content = c.args.bank.now in
    let mid : Content = c.with_part_at.new.bank in
    let terms : List Term = terms_at old c.args.terms.now in
    let t : Term = term_at old c.args.t in
    let a : Term = term_at old c.unwrap-a.result in
    let u : Term = term_at old c.unwrap-was.result in
    let at = literal_told old c.literal.result c.unwrap-a.result (literal_at c.args.place terms) c.literal.ensures.literal c.unwrap-a.ensures in
    let leads = literal_told old c.at_path.result c.unwrap-was.result (part_at c.args.path.now a) c.at_path.ensures.part c.unwrap-was.ensures in
    let changed : Term = with_part c.args.path.now t a in
    let equation : Term = used_equation (side_of c.args.side) u t in
    let was = term_at-grown old mid c.unwrap-was.result c.with_part_at.ensures.grows (some_of c.at_path.result c.unwrap-was.result (Stands old) c.at_path.ensures.stands c.unwrap-was.ensures) in
    let now = term_at-grown old mid c.args.t c.with_part_at.ensures.grows c.requires.term in
    let came = passed_on c.from_residual-in_err-equation.result c.in_err-equation.field-0.0 Deep c.from_residual-in_err-equation.ensures.1 e in
    deep_replacement c.args.place c.args.path.now t (side_of c.args.side) terms a u equation at leads
    (among_right equation (in_place c.args.place (changed ∷ []) terms) (equation ∷ []) (inl refl))
    (subst (λ w. depth_limit < depth_of w) (ap (λ w. used_equation (side_of c.args.side) w (term_at mid c.args.t)) was ∙ ap (used_equation (side_of c.args.side) u) now) (c.used_equation_of.ensures.deep (c.in_err-equation.was ∙ ap Err came)))

pub replaced_terms-requires-clause-place : goal.replaced_terms-requires-clause-place
replaced_terms-requires-clause-place c =
    let old : Content = c.args.bank.now in
    let new : Content = c.used_equation_of.new.bank in
    let grows = Grows-trans old c.with_part_at.new.bank new c.with_part_at.ensures.grows c.used_equation_of.ensures.grows in
    let at = literal_told old c.literal.result c.unwrap-a.result (literal_at c.args.place (terms_at old c.args.terms.now)) c.literal.ensures.literal c.unwrap-a.ensures in
    subst (λ d. IsSome (literal_at c.args.place d)) (sym (terms_at-grown old new c.args.terms.now grows c.requires.terms)) (ap is_some at)

pub returns-clause-ok : goal.returns-clause-ok
returns-clause-ok c =
    let old : Content = c.args.bank.now in
    let mid : Content = c.with_part_at.new.bank in
    let new : Content = c.used_equation_of.new.bank in
    let terms : List Term = terms_at old c.args.terms.now in
    let t : Term = term_at old c.args.t in
    let a : Term = term_at old c.unwrap-a.result in
    let u : Term = term_at old c.unwrap-was.result in
    let at = literal_told old c.literal.result c.unwrap-a.result (literal_at c.args.place terms) c.literal.ensures.literal c.unwrap-a.ensures in
    let leads = literal_told old c.at_path.result c.unwrap-was.result (part_at c.args.path.now a) c.at_path.ensures.part c.unwrap-was.ensures in
    let was = term_at-grown old mid c.unwrap-was.result c.with_part_at.ensures.grows (some_of c.at_path.result c.unwrap-was.result (Stands old) c.at_path.ensures.stands c.unwrap-was.ensures) in
    let now = term_at-grown old mid c.args.t c.with_part_at.ensures.grows c.requires.term in
    let changed : Term = with_part c.args.path.now t a in
    let equation : Term = used_equation (side_of c.args.side) u t in
    let grows = Grows-trans old mid new c.with_part_at.ensures.grows c.used_equation_of.ensures.grows in
    let literal = term_at-grown mid new c.in_ok-changed.changed c.used_equation_of.ensures.grows c.in_ok-changed.ensures.ok.stands ∙ c.in_ok-changed.ensures.ok.denotes in
    let hypothesis = c.in_ok-equation.ensures.ok.denotes ∙ ap (λ w. used_equation (side_of c.args.side) w (term_at mid c.args.t)) was ∙ ap (used_equation (side_of c.args.side) u) now in
    let P : Option Clause → Type 0 = λ o. IfOk c.or_memory.result (λ v. Concludes new v.items o) in
    subst P (sym (replacement_is c.args.place c.args.path.now t (side_of c.args.side) terms a u at leads))
    (made new c.replaced_terms.result c.or_memory.result
    (distinct (in_place c.args.place (term_at new c.in_ok-changed.changed ∷ []) (terms_at new c.args.terms.now) ++ (term_at new c.in_ok-equation.equation ∷ [])))
    (distinct (in_place c.args.place (changed ∷ []) terms ++ (equation ∷ []))) c.or_memory.ensures.ok c.replaced_terms.ensures.clause c.replaced_terms.ensures.stand
    (replaced_same old new c.args.place (side_of c.args.side) c.args.terms.now c.in_ok-changed.changed c.in_ok-equation.equation changed equation grows c.requires.terms literal hypothesis))
