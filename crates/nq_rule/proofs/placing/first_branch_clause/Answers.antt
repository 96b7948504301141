use Rattle.std.proofs.Common.{◌∷◌, [], ◌∙◌, ap, sym, subst, inl, refl, List}
use Rattle.std.specs.Prelude.{Err, Some, IfOk, IsSome}
use Rattle.nq_logic.specs.Terms.{Term}
use Rattle.nq_logic.specs.Words.{not_term}
use Rattle.nq_bank.specs.declared.node.BankFault.TheVariants.{Deep}
use Rattle.nq_bank.specs.Content.{Content, term_at, terms_at}
use Rattle.nq_bank.proofs.Growth.{term_at-grown, terms_at-grown}
use Rattle.nq_bank.proofs.Standing.{passed_on}
use Rattle.nq_proof.specs.Clauses.{literal_at, in_place}
use Rattle.nq_rule.proofs.Made.{deep_among}
use Rattle.nq_rule.proofs.PlacingLemmas.{among_placed}
use Rattle.nq_rule.specs.Conclusions.{Concludes}
use Rattle.nq_rule.specs.Results.{placed_of}
use Rattle.nq_rule.proofs.placing.first_branch_clause.Goals as goal

pub returns-in_err-denial-clause-deep : goal.returns-in_err-denial-clause-deep
returns-in_err-denial-clause-deep c =
    λ e.
    let old : Content = c.args.bank.now in
    let denial : Term = not_term (term_at old c.args.parts.test) in
    let these : List Term = denial ∷ term_at old c.args.parts.first ∷ [] in
    let came = passed_on c.from_residual.result c.in_err-denial.field-0.0 Deep c.from_residual.ensures.1 e in
    deep_among denial (in_place c.args.place these (terms_at old c.args.terms.now)) (among_placed c.args.place these (terms_at old c.args.terms.now) denial c.requires.place (inl refl))
    (c.ground_call.ensures.deep (c.in_err-denial.was ∙ ap Err came))

pub clause_in_place-requires-clause-place : goal.clause_in_place-requires-clause-place
clause_in_place-requires-clause-place c =
    subst (λ d. IsSome (literal_at c.args.place d)) (sym (terms_at-grown c.args.bank.now c.ground_call.new.bank c.args.terms.now c.ground_call.ensures.grows c.requires.terms)) c.requires.place

pub returns-clause-ok : goal.returns-clause-ok
returns-clause-ok c =
    let old : Content = c.args.bank.now in
    let new : Content = c.ground_call.new.bank in
    let P : List Term → List Term → Type 0 = λ these d. IfOk c.clause_in_place.result (λ v. Concludes new v.items (Some (placed_of c.args.place these d))) in
    let terms = terms_at-grown old new c.args.terms.now c.ground_call.ensures.grows c.requires.terms in
    let first = term_at-grown old new c.args.parts.first c.ground_call.ensures.grows c.requires.parts.first in
    subst (λ d. P (not_term (term_at old c.args.parts.test) ∷ term_at old c.args.parts.first ∷ []) d) terms
    (subst (λ these. P these (terms_at new c.args.terms.now)) (ap (λ t. t ∷ term_at new c.args.parts.first ∷ []) c.in_ok-denial.ensures.ok.denotes ∙ ap (λ t. not_term (term_at old c.args.parts.test) ∷ t ∷ []) first) c.clause_in_place.ensures.ok)
