use Rattle.std.proofs.Common.{◌<◌, ◌∷◌, [], ◌∙◌, Err, ap, subst, get_or}
use Rattle.nq_logic.specs.Terms.{Name, Term, call}
use Rattle.nq_logic.specs.Sizes.{depth_of, depth_limit}
use Rattle.nq_bank.specs.declared.node.TermId.{TermId}
use Rattle.nq_bank.specs.Content.{terms_at}
use Rattle.nq_bank.proofs.Standing.{passed_on}
use Rattle.nq_rule.proofs.Made.{given_id}
use Rattle.nq_measures.proofs.OpeningLemmas.{nest_made, nest_deeper}
use Rattle.nq_measures.proofs.openings.+nest_of.Goals as goal

pub returns-in_err-rest-clause-deep : goal.returns-in_err-rest-clause-deep
returns-in_err-rest-clause-deep t c = λ e. nest_deeper c.args.bank.now c.args.literals.now c.requires.some c.if-literals-eq1.false (c.in_err-rest.ensures.deep (ap Err (passed_on c.from_residual.result c.in_err-rest.field-0.0 _ c.from_residual.ensures.1 e)))

pub returns-clause-ok : goal.returns-clause-ok
returns-clause-ok t c =
    let d : TermId = record { 0 = 0 } in
    given_id c.nest_of.new.bank c.app.new.self c.app.result _ _
    (ap (λ (f : Name). call f (terms_at c.nest_of.new.bank (get_or c.args.literals.now 0 d ∷ c.in_ok-rest.rest ∷ []))) c.ground_name-name.ensures.reads ∙ nest_made c.args.bank.now c.nest_of.new.bank c.args.literals.now c.in_ok-rest.rest d c.nest_of.ensures.grows c.requires.stand c.requires.some c.if-literals-eq1.false c.in_ok-rest.ensures.ok)
    c.app.ensures.ok

pub returns-clause-deep : goal.returns-clause-deep
returns-clause-deep t c =
    let d : TermId = record { 0 = 0 } in
    λ e. subst (λ (w : Term). depth_limit < depth_of w)
    (ap (λ (f : Name). call f (terms_at c.nest_of.new.bank (get_or c.args.literals.now 0 d ∷ c.in_ok-rest.rest ∷ []))) c.ground_name-name.ensures.reads ∙ nest_made c.args.bank.now c.nest_of.new.bank c.args.literals.now c.in_ok-rest.rest d c.nest_of.ensures.grows c.requires.stand c.requires.some c.if-literals-eq1.false c.in_ok-rest.ensures.ok)
    (c.app.ensures.deep.0 e)
