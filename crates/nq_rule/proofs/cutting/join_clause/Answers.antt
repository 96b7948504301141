use Rattle.std.proofs.Common.{◌++◌, ◌∷◌, [], ap, ◌∙◌, inl, refl, List}
use Rattle.std.specs.Prelude.{Err}
use Rattle.nq_logic.specs.Terms.{Term}
use Rattle.nq_logic.specs.Words.{not_term, if_term}
use Rattle.nq_logic.proofs.Lists.{among_right}
use Rattle.nq_bank.specs.declared.node.BankFault.TheVariants.{Deep}
use Rattle.nq_bank.specs.Content.{Content, term_at, terms_at}
use Rattle.nq_bank.proofs.Standing.{passed_on}
use Rattle.nq_proof.specs.Clauses.{without, distinct}
use Rattle.nq_rule.proofs.CuttingLemmas.{join_same}
use Rattle.nq_rule.proofs.Made.{made, deep_among}
use Rattle.nq_rule.specs.Results.{join_of}
use Rattle.nq_rule.proofs.cutting.join_clause.Goals as goal

pub returns-in_err-whole-clause-deep : goal.returns-in_err-whole-clause-deep
returns-in_err-whole-clause-deep c =
    λ e.
    let old : Content = c.args.bank.now in
    let p : Term = term_at old c.args.parts.test in
    let x : Term = term_at old c.args.parts.first in
    let y : Term = term_at old c.args.parts.second in
    let left : List Term = without (not_term p) (without x (terms_at old c.args.first.now)) in
    let right : List Term = without p (without y (terms_at old c.args.second.now)) in
    let came = passed_on c.from_residual.result c.in_err-whole.field-0.0 Deep c.from_residual.ensures.1 e in
    deep_among (if_term p x y) (left ++ (right ++ (if_term p x y ∷ []))) (among_right (if_term p x y) left (right ++ (if_term p x y ∷ [])) (among_right (if_term p x y) right (if_term p x y ∷ []) (inl refl)))
    (c.ground_call.ensures.deep (c.in_err-whole.was ∙ ap Err came))

pub returns-clause-ok : goal.returns-clause-ok
returns-clause-ok c =
    let old : Content = c.args.bank.now in
    let new : Content = c.ground_call.new.bank in
    let p : Term = term_at old c.args.parts.test in
    let x : Term = term_at old c.args.parts.first in
    let y : Term = term_at old c.args.parts.second in
    made new c.joined_branches.result c.or_memory.result
    (distinct (without (not_term (term_at new c.args.parts.test)) (without (term_at new c.args.parts.first) (terms_at new c.args.first.now)) ++ (without (term_at new c.args.parts.test) (without (term_at new c.args.parts.second) (terms_at new c.args.second.now)) ++ (term_at new c.in_ok-whole.whole ∷ []))))
    (join_of p x y (terms_at old c.args.first.now) (terms_at old c.args.second.now)) c.or_memory.ensures.ok c.joined_branches.ensures.clause c.joined_branches.ensures.stand
    (join_same old new c.args.first.now c.args.second.now c.args.parts c.in_ok-whole.whole c.ground_call.ensures.grows c.requires.first c.requires.second c.requires.parts c.in_ok-whole.ensures.ok.denotes)
