use Rattle.std.proofs.Common.{◌||◌, sym, ap, ◌∙◌, List}
use Rattle.nq_logic.specs.Terms.{Term}
use Rattle.nq_logic.specs.Words.{not_term}
use Rattle.nq_logic.specs.Laws.{denied}
use Rattle.nq_bank.specs.Content.{term_at}
use Rattle.nq_proof.specs.Clauses.{same_term, has_term}
use Rattle.nq_rule.specs.Inductions.{substitutions_at}
use Rattle.nq_rule.proofs.ClauseLemmas.{same_term-sym, has_term-push}
use Rattle.nq_rule.proofs.induction.is_case_literal.Goals as goal

pub returns : goal.returns
returns c =
    let l : Term = term_at c.args.bank.now c.args.literal in
    let p : Term = term_at c.args.bank.now c.args.claim in
    let q : Term = not_term (term_at c.args.bank.now c.args.case.now.test) in
    let ds : List Term = denied p (substitutions_at c.args.bank.now c.args.case.now.steps.items) in
    let known = c.in_ok-denied.ensures ∙ ap (λ xs. has_term l (denied p (substitutions_at c.args.bank.now xs))) c.as_slice.ensures.value in
    c.is_either-2.ensures ∙ ap (λ b. b || c.is_either.result) (c.is_not_of-test.ensures ∙ same_term-sym q l) ∙
    ap (λ b. same_term l q || b) (c.is_either.ensures ∙ ap (λ b. b || c.is_same-last.result) known ∙ ap (λ b. has_term l ds || b) c.is_same-last.ensures ∙ sym (has_term-push l p ds))
