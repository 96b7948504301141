use Rattle.std.proofs.Common.{◌≡◌, ◌∙◌, [], ◌∷◌, ◌++◌, map, sym, ap, subst}
use Rattle.std.specs.Prelude.{All, Vec}
use Rattle.std.specs.declared.alloc.Global.{Global}
use Rattle.nq_logic.specs.RuleShapes.{variables_of}
use Rattle.nq_logic.specs.Terms.{Variable}
use Rattle.nq_bank.specs.declared.node.TermId.{TermId}
use Rattle.nq_bank.specs.Content.{Stands, term_at, terms_at, text_at}
use Rattle.nq_bank.proofs.Standing.{All-push}
use Rattle.nq_goals.specs.NewVariables.{clause_variables}
use Rattle.nq_proof.specs.Clauses.{distinct}
use Rattle.nq_rule.proofs.Made.{for_ok}
use Rattle.nq_eliminate.proofs.NamingLemmas.{all_variables, no_ids}
use Rattle.nq_eliminate.proofs.naming.rule_variables.Goals as goal

pub put_variables-requires-clause-found : goal.put_variables-requires-clause-found
put_variables-requires-clause-found c =
    let bank = c.args.bank.now in
    subst (All (Stands bank)) (sym c.in_ok-push_id.ensures.ok) (All-push (Stands bank) c.new-found.result.items c.args.rule.variable (subst (All (Stands bank)) (sym c.new-found.ensures.items) (no_ids (Stands bank))) c.requires.rule.variable)

pub distinct_clause-requires : goal.distinct_clause-requires
distinct_clause-requires c = subst (All (Stands c.args.bank.now)) (sym c.as_slice.ensures.value) c.in_ok-put_all_variables.ensures.stand

pub returns-clause-are : goal.returns-clause-are
returns-clause-are c =
    let bank = c.args.bank.now in
    let x = text_at bank c.args.rule.name in
    let hs = terms_at bank c.args.hypotheses.now in
    let made = term_at bank c.args.rule.made_of in
    let found = terms_at bank c.put_all_variables.new.found.items in
    let first : terms_at bank c.push_id.new.ids.items ≡ term_at bank c.args.rule.variable ∷ [] = ap (terms_at bank) (c.in_ok-push_id.ensures.ok ∙ ap (λ ids. ids ++ c.args.rule.variable ∷ []) c.new-found.ensures.items) in
    let all : found ≡ map Variable (x ∷ clause_variables (made ∷ hs)) =
    all_variables found (term_at bank c.args.rule.variable) x made hs c.requires.rule.variable_is
    (c.in_ok-put_all_variables.ensures.more ∙ ap (λ ts. ts ++ map Variable (clause_variables hs)) (c.in_ok-put_variables.ensures.more ∙ ap (λ ts. ts ++ map Variable (variables_of made)) first)) in
    for_ok c.distinct_clause.result (λ (v : Vec TermId Global). terms_at bank v.items ≡ distinct (terms_at bank c.as_slice.result.now)) (λ (v : Vec TermId Global). terms_at bank v.items ≡ distinct (map Variable (x ∷ clause_variables (made ∷ hs))))
    (λ v is. is ∙ ap distinct (ap (terms_at bank) c.as_slice.ensures.value ∙ all)) c.distinct_clause.ensures.clause
